-- Laws of the lists that boxes are put around: which are refused, and the box entry by entry.
use Rattle.std.specs.Prelude.{◌≡◌, refl, Bool, true, false, not, List, [], ◌∷◌, ◌++◌, map, ℕ, zero, suc, ◌+◌, ◌-◌, ◌≤◌, ◌<◌, min, max, ltb, eqb, length, take, drop, get_or}
use Rattle.std.specs.List.{list_all}
use Rattle.std.proofs.lemmas.List.{map-append}
use Rattle.std.proofs.Math.Nat.{max-zero}
use Rattle.std.proofs.Common.{le_refl, add-one, arith, take-suc, take_all, ltb-false, lt-ltb, le-ltb, eqb-true, eq-eqb, ne_eqb}
use Rattle.std.proofs.lemmas.Bool.{eqb-false}
use Rattle.bits.specs.Tests.{all_of, all_at}
use Rattle.constants.specs.Limits.{max_entries}
use Rattle.errors.specs.Answer.{◌when◌, ◌else◌}
use Rattle.ids.specs.Entry.{entry_tile, entry_refusal, is_entry}
use Rattle.tile_zbox.specs.Box.{box_at}
use Rattle.tile_zbox_around.specs.Around.{of_zoom, zoom_of_first, tiles_refusal, least, greatest, entry_column, entry_row, box_around, grown}

-- the library's test of all entries is that of this repository
pub all_listed : (p : ℕ → Bool) (l : List ℕ) → list_all p l ≡ all_of p l
unfolding all_of
all_listed p [] = refl
all_listed p (n ∷ ns) = rw (all_listed p ns)

pub entry_at : (l : List ℕ) (i : ℕ) → all_of is_entry l ≡ true → i < length l → entry_refusal (get_or l i 0) ≡ 0
entry_at l i e h = eqb-true _ _ (all_at is_entry l i e h)

-- the entries behind the first one
pub others_length : (l : List ℕ) → length (take (length l - 1) (drop 1 l)) + 1 ≡ max (length l) 1
others_length [] = refl
others_length (n ∷ ns) = let e : length (n ∷ ns) - 1 ≡ length ns = omega arith in
    rw (e, take_all (length ns) ns (le_refl (length ns))) (omega arith)

pub other_at : (l : List ℕ) (i : ℕ) → get_or (take (length l - 1) (drop 1 l)) i 0 ≡ get_or l (i + 1) 0
other_at [] i = refl
other_at (n ∷ ns) i =
    let e : length (n ∷ ns) - 1 ≡ length ns = omega arith in
    rw (e, take_all (length ns) ns (le_refl (length ns)), add-one i)

-- the refusals of a list, each where the tests before it find nothing
pub list_long : (l : List ℕ) → max_entries < length l → tiles_refusal l ≡ 6
unfolding tiles_refusal
list_long l h = rw (lt-ltb _ _ h)

pub list_stranger : (l : List ℕ) → length l ≤ max_entries → all_of is_entry l ≡ false → tiles_refusal l ≡ 7
unfolding tiles_refusal
list_stranger l h e = rw (le-ltb _ _ h, e)

pub list_empty : (l : List ℕ) → length l ≤ max_entries → all_of is_entry l ≡ true → length l ≡ 0 → tiles_refusal l ≡ 8
unfolding tiles_refusal
list_empty l h e f = rw (le-ltb _ _ h, e, eq-eqb _ _ f)

pub list_mixed : (l : List ℕ) → length l ≤ max_entries → all_of is_entry l ≡ true → (length l ≡ 0 → ⊥)
    → all_of (of_zoom (zoom_of_first l)) l ≡ false → tiles_refusal l ≡ 9
unfolding tiles_refusal
list_mixed l h e f g = rw (le-ltb _ _ h, e, ne_eqb _ _ f, g)

-- what is known of a list that is not refused
pub record OneZoom (l : List ℕ) : Type 0 where
  pub few : length l ≤ max_entries
  pub entries : all_of is_entry l ≡ true
  pub some : 0 < length l
  pub zooms : all_of (of_zoom (zoom_of_first l)) l ≡ true

pub one_zoom_accepted : {l : List ℕ} → OneZoom l → tiles_refusal l ≡ 0
unfolding tiles_refusal
one_zoom_accepted {l} k = let f : length l ≡ 0 → ⊥ = λ z. omega (arith, k.some) in
    rw (le-ltb _ _ k.few, k.entries, ne_eqb _ _ f, k.zooms)

pub accepted_one_zoom : (l : List ℕ) → tiles_refusal l ≡ 0 → OneZoom l
unfolding tiles_refusal
accepted_one_zoom l e =
    pick (ltb max_entries (length l)) refl (all_of is_entry l) refl (eqb (length l) 0) refl (all_of (of_zoom (zoom_of_first l)) l) refl e
  where
    pick : (a : Bool) → ltb max_entries (length l) ≡ a → (b : Bool) → all_of is_entry l ≡ b → (c : Bool) → eqb (length l) 0 ≡ c → (d : Bool)
        → all_of (of_zoom (zoom_of_first l)) l ≡ d
        → (6 when a else 7 when not b else 8 when c else 9 when not d) ≡ 0 → OneZoom l
    pick true p b q c r d s e = absurd (omega arith)
    pick false p false q c r d s e = absurd (omega arith)
    pick false p true q true r d s e = absurd (omega arith)
    pick false p true q false r false s e = absurd (omega arith)
    pick false p true q false r true s e = let f = eqb-false _ _ r in
        record { few = ltb-false _ _ p; entries = q; some = nonzero (length l) f; zooms = s }
      where
        nonzero : (n : ℕ) → (n ≡ 0 → ⊥) → 0 < n
        nonzero zero f = absurd (f refl)
        nonzero (suc n) f = omega arith

-- the smallest and the greatest with one number more
pub least_more : (n : ℕ) (ns : List ℕ) (m : ℕ) → least (n ∷ (ns ++ (m ∷ []))) ≡ min (least (n ∷ ns)) m
unfolding least
least_more n [] m = refl
least_more n (k ∷ ks) m = rw (least_more k ks m) (omega arith)

pub greatest_more : (ns : List ℕ) (m : ℕ) → greatest (ns ++ (m ∷ [])) ≡ max (greatest ns) m
unfolding greatest
greatest_more [] m = omega arith
greatest_more (n ∷ ns) m = rw (greatest_more ns m) (omega arith)

pub around_first : (l : List ℕ) → 0 < length l
    → box_at (entry_tile (get_or l 0 0)).z (entry_tile (get_or l 0 0)).x (entry_tile (get_or l 0 0)).x (entry_tile (get_or l 0 0)).y
    (entry_tile (get_or l 0 0)).y ≡ box_around (take 1 l)
unfolding box_around least greatest
around_first [] h = absurd (omega arith)
around_first (n ∷ ns) h = rw (max-zero (entry_tile n).x, max-zero (entry_tile n).y)

pub around_more : (l : List ℕ) (i : ℕ) → 0 < i → i < length l
    → grown (box_around (take i l)) (entry_tile (get_or l i 0)) ≡ box_around (take (i + 1) l)
unfolding box_around
around_more [] i h k = absurd (omega arith)
around_more (n ∷ ns) zero h k = absurd (omega arith)
around_more (n ∷ ns) (suc i) h k =
    let l : i < length ns = omega arith in
    let m = get_or ns i 0 in
    rw (
      add-one (suc i),
      take-suc ns i 0 l,
      map-append entry_column (take i ns) (m ∷ []),
      map-append entry_row (take i ns) (m ∷ []),
      least_more (entry_column n) (map entry_column (take i ns)) (entry_column m),
      least_more (entry_row n) (map entry_row (take i ns)) (entry_row m),
      greatest_more (entry_column n ∷ map entry_column (take i ns)) (entry_column m),
      greatest_more (entry_row n ∷ map entry_row (take i ns)) (entry_row m),
    )
