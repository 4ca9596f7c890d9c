-- Which boxes are refused: tests of several boxes one after the other, and what is known of boxes that are not refused.
use Rattle.std.specs.Prelude.{◌≡◌, refl, Bool, true, false, not, List, [], ◌∷◌, ℕ, zero, suc, ◌/◌, ◌%◌, ◌≤◌, ◌<◌, ltb, eqb, length}
use Rattle.std.proofs.Common.{◌∙◌, arith, ltb-false, lt-ltb, le-ltb, eqb-true, eq-eqb, ne_eqb}
use Rattle.bits.specs.Tests.{any_of}
use Rattle.constants.specs.Limits.{max_boxes}
use Rattle.errors.specs.Answer.{◌when◌, ◌else◌}
use Rattle.errors.specs.Laws.{else_none}
use Rattle.tile_zbox.specs.Box.{IsBox, wrong_edges}
use Rattle.tile_zbox.specs.Laws.{neither_of_two, edges_fine, fine_edges}
use Rattle.tile_zbox.specs.declared.TileZBox.{TileZBox}
use Rattle.tile_zbox_numbers.specs.Boxes.{deep, refusal_over, boxes_refusal, boxes_of, numbers_refusal}
use Rattle.tile_zbox_numbers.specs.Fives.{boxes_count}

pub any_here : (p : TileZBox → Bool) (b : TileZBox) (bs : List TileZBox) → p b ≡ true → any_of p (b ∷ bs) ≡ true
unfolding any_of
any_here p b bs e = rw e

pub any_later : (p : TileZBox → Bool) (b : TileZBox) (bs : List TileZBox) → p b ≡ false → any_of p (b ∷ bs) ≡ any_of p bs
unfolding any_of
any_later p b bs e = rw e

pub any_of_empty : (p : TileZBox → Bool) → any_of p [] ≡ false
unfolding any_of
any_of_empty p = refl

pub none_of : (p : TileZBox → Bool) (b : TileZBox) (bs : List TileZBox) → any_of p (b ∷ bs) ≡ false → (p b ≡ false) × (any_of p bs ≡ false)
unfolding any_of
none_of p b bs e = neither_of_two (p b) (any_of p bs) e

-- boxes of the map, all of them
pub record Fine (bs : List TileZBox) : Type 0 where
  pub shallow : any_of deep bs ≡ false
  pub edges : any_of wrong_edges bs ≡ false

pub fine_first : (b : TileZBox) (bs : List TileZBox) → Fine (b ∷ bs) → IsBox b × Fine bs
fine_first b bs f =
    let p = none_of deep b bs f.shallow in
    let q = none_of wrong_edges b bs f.edges in
    (edges_fine b (ltb-false _ _ p.0) q.0, record { shallow = p.1; edges = q.1 })

pub fine_more : {b : TileZBox} {bs : List TileZBox} → IsBox b → Fine bs → Fine (b ∷ bs)
fine_more {b} {bs} h f =
    record {
      shallow = any_later deep b bs (le-ltb _ _ h.zoom) ∙ f.shallow;
      edges =
          any_later wrong_edges b bs (fine_edges h) ∙ f.edges;
    }

-- boxes that are not refused are those of the map, in a number that is taken
pub over_accepted : {bs : List TileZBox} {n : ℕ} → Fine bs → n ≤ max_boxes → refusal_over bs n ≡ 0
unfolding refusal_over
over_accepted f h = rw (f.shallow, le-ltb _ _ h, f.edges)

pub accepted_over : (bs : List TileZBox) (n : ℕ) → refusal_over bs n ≡ 0 → Fine bs × (n ≤ max_boxes)
unfolding refusal_over
accepted_over bs n e = pick (any_of deep bs) refl (ltb max_boxes n) refl (any_of wrong_edges bs) refl e
  where
    pick : (a : Bool) → any_of deep bs ≡ a → (b : Bool) → ltb max_boxes n ≡ b → (c : Bool) → any_of wrong_edges bs ≡ c
        → (1 when a else 6 when b else 10 when c) ≡ 0 → Fine bs × (n ≤ max_boxes)
    pick true p b q c r e = absurd (omega arith)
    pick false p true q c r e = absurd (omega arith)
    pick false p false q true r e = absurd (omega arith)
    pick false p false q false r e = (record { shallow = p; edges = r }, ltb-false _ _ q)

-- the refusals of numbers that are boxes, each where the tests before it find nothing
pub boxes_deep : (l : List ℕ) → any_of deep (boxes_of l) ≡ true → numbers_refusal l ≡ 1
unfolding numbers_refusal refusal_over
boxes_deep l e = rw e

pub boxes_many : (l : List ℕ) → any_of deep (boxes_of l) ≡ false → max_boxes < length l / 5 → numbers_refusal l ≡ 6
unfolding numbers_refusal refusal_over
boxes_many l e h = rw (e, boxes_count (length l / 5) l, lt-ltb _ _ h)

pub boxes_over : (l : List ℕ) → any_of deep (boxes_of l) ≡ false → length l / 5 ≤ max_boxes → (length l % 5 ≡ 0 → ⊥) → numbers_refusal l ≡ 10
unfolding numbers_refusal refusal_over
boxes_over l e h f = rw (e, boxes_count (length l / 5) l, le-ltb _ _ h, ne_eqb _ _ f) (either (any_of wrong_edges (boxes_of l)))
  where
    either : (b : Bool) → (10 when b) else 10 ≡ 10
    either true = refl
    either false = refl

pub boxes_wrong : (l : List ℕ) → any_of deep (boxes_of l) ≡ false → length l / 5 ≤ max_boxes → any_of wrong_edges (boxes_of l) ≡ true
    → numbers_refusal l ≡ 10
unfolding numbers_refusal refusal_over
boxes_wrong l e h g = rw (e, boxes_count (length l / 5) l, le-ltb _ _ h, g)

pub record AllBoxes (l : List ℕ) : Type 0 where
  pub fine : Fine (boxes_of l)
  pub few : length l / 5 ≤ max_boxes
  pub whole : length l % 5 ≡ 0

-- numbers for whole boxes are refused as the boxes are
pub whole_refusal_lem : (l : List ℕ) → length l % 5 ≡ 0 → numbers_refusal l ≡ boxes_refusal (boxes_of l)
unfolding numbers_refusal
whole_refusal_lem l e = rw (eq-eqb _ _ e) (else_none _)

pub all_boxes_accepted : {l : List ℕ} → AllBoxes l → numbers_refusal l ≡ 0
all_boxes_accepted {l} k = whole_refusal_lem l k.whole ∙ over_accepted k.fine (rw (boxes_count (length l / 5) l) k.few)

pub accepted_all_boxes : (l : List ℕ) → numbers_refusal l ≡ 0 → AllBoxes l
unfolding numbers_refusal
accepted_all_boxes l e = pick (boxes_refusal (boxes_of l)) refl (eqb (length l % 5) 0) refl e
  where
    pick : (a : ℕ) → boxes_refusal (boxes_of l) ≡ a → (b : Bool) → eqb (length l % 5) 0 ≡ b → a else 10 when not b ≡ 0 → AllBoxes l
    pick (suc a) p b q e = absurd (omega arith)
    pick zero p false q e = absurd (omega arith)
    pick zero p true q e =
        let k = accepted_over (boxes_of l) (length (boxes_of l)) p in
        record { fine = k.0; few = rw (boxes_count (length l / 5) l) at k.1; whole = eqb-true _ _ q }
