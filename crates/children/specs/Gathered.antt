-- Lists that are gathered: in two parts, how long they are, and their entries.
use Rattle.std.specs.Prelude.{◌≡◌, refl, List, [], ◌∷◌, ◌++◌, ℕ, ◌*◌, length}
use Rattle.std.proofs.Common.{ap, ◌∙◌, append_assoc, append-nil, arith, length-append}
use Rattle.std.proofs.lemmas.List.{map-append}
use Rattle.tile.specs.declared.Tile.{Tile}
use Rattle.children.specs.Children.{gather}
use Rattle.ids.specs.Entry.{entries_of}

pub gather_append : {A : Type 0} (f : ℕ → List A) (a b : List ℕ) → gather f (a ++ b) ≡ gather f a ++ gather f b
unfolding gather
gather_append f [] b = refl
gather_append f (q ∷ a) b = rw (gather_append f a b, append_assoc)

pub gather_one : (g : ℕ → List ℕ) (q : ℕ) → gather g (q ∷ []) ≡ g q
unfolding gather
gather_one g q = append-nil (g q)

pub gather_length : {A : Type 0} (f : ℕ → List A) (n : ℕ) (qs : List ℕ) → ((q : ℕ) → length (f q) ≡ n)
    → length (gather f qs) ≡ length qs * n
unfolding gather
gather_length f n [] h = omega arith
gather_length f n (q ∷ qs) h = rw (length-append, h q, gather_length f n qs h) (omega arith)

pub entries_gather : (f : ℕ → List Tile) (qs : List ℕ) → entries_of (gather f qs) ≡ gather (λ q. entries_of (f q)) qs
unfolding gather
entries_gather f [] = refl
entries_gather f (q ∷ qs) = map-append _ (f q) (gather f qs) ∙ ap (λ (l : List ℕ). entries_of (f q) ++ l) (entries_gather f qs)
