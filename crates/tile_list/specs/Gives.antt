-- What a call on a list that gives a list leaves: its items at the front of the lent memory, or the refusal.
use Rattle.std.specs.Prelude.{ℕ, zero, suc, ◌-◌, List, ◌++◌, length, drop, replicate}
use Rattle.errors.specs.Gives.{Gives}
use Rattle.errors.proofs.GivesLemmas.{front_gives, none_given}
use Rattle.tile_list.specs.List.{list_answer}

pub listed_gives : (n : ℕ) (list items memory : List ℕ) → Gives (list_answer n 0 (length items) list items memory) n items
listed_gives zero list items memory = front_gives items (replicate (length list - length items) 0 ++ drop (length list) memory)
listed_gives (suc n) list items memory = none_given n items memory
