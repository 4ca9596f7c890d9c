-- The laws of the number that stands for a tile in a list: an entry leads to its tile and back, and just the entries are accepted.
use Rattle.std.specs.Prelude.{◌≡◌, ℕ}
use Rattle.tile.specs.OnMap.{OnMap, tile_at}
use Rattle.ids.specs.Levels.{rmid_again, rmid_tile_again, rmid_accepted, accepted_rmid}
use Rattle.ids.specs.Entry.{entry_of, entry_refusal, entry_tile}

pub entry_accepted : (n : ℕ) → OnMap (entry_tile n).x (entry_tile n).y (entry_tile n).z → entry_refusal n ≡ 0
unfolding entry_tile entry_refusal
entry_accepted = rmid_accepted

pub accepted_entry : (n : ℕ) → entry_refusal n ≡ 0 → OnMap (entry_tile n).x (entry_tile n).y (entry_tile n).z
unfolding entry_tile entry_refusal
accepted_entry = accepted_rmid

-- an entry is that of the tile that it takes apart to, and a tile the one of its entry
pub entry_again : (n : ℕ) → entry_of (entry_tile n).x (entry_tile n).y (entry_tile n).z ≡ n
unfolding entry_of entry_tile
entry_again = rmid_again

pub entry_tile_again : (x y z : ℕ) → OnMap x y z → entry_tile (entry_of x y z) ≡ tile_at x y z
unfolding entry_of entry_tile
entry_tile_again = rmid_tile_again
