-- The four children of a tile, as the code computes them, and how many descendants it has below them.
use Rattle.std.specs.Prelude.{◌≡◌, refl, Bool, true, false, List, ℕ, zero, suc, ◌+◌, ◌*◌, ◌/◌, ◌%◌, ◌^◌, ◌<◌, ltb, length, get_or}
use Rattle.std.proofs.Common.{◌∙◌, pow-suc, mul_comm, add-one, arith}
use Rattle.std.proofs.lemmas.List.{length-map}
use Rattle.constants.specs.Limits.{max_zoom}
use Rattle.errors.specs.Answer.{◌when◌, ◌else◌}
use Rattle.tile.specs.OnMap.{OnMap, tile_refusal, too_deep_lem}
use Rattle.children.specs.Children.{family_of, gather, descendants}
use Rattle.children.specs.Gathered.{gather_length, entries_gather}
use Rattle.ids.specs.Entry.{entries_of}

pub descend_length : (family : List ℕ) → length family ≡ 4 → (d x y z : ℕ) → length (descendants family d x y z) ≡ 4 ^ d
unfolding descendants
descend_length family e zero x y z = refl
descend_length family e (suc d) x y z =
    gather_length _ (4 ^ d) family (λ q. descend_length family e d (2 * x + q % 2) (2 * y + q / 2) (suc z))
    ∙ rw (e, pow-suc 4 d) (mul_comm 4 (4 ^ d))

pub family_four : (order : Bool) → length (family_of order) ≡ 4
family_four false = refl
family_four true = refl

pub children_length : (order : Bool) (d x y z : ℕ) → length (entries_of (descendants (family_of order) d x y z)) ≡ 4 ^ d
children_length order d x y z =
    length-map (descendants (family_of order) d x y z) _ ∙ descend_length (family_of order) (family_four order) d x y z

-- the digit of a family's child
pub digit_small : (order : Bool) (k : ℕ) → get_or (family_of order) k 0 < 4
digit_small false zero = omega arith
digit_small false (suc zero) = omega arith
digit_small false (suc (suc zero)) = omega arith
digit_small false (suc (suc (suc zero))) = omega arith
digit_small false (suc (suc (suc (suc k)))) = omega arith
digit_small true zero = omega arith
digit_small true (suc zero) = omega arith
digit_small true (suc (suc zero)) = omega arith
digit_small true (suc (suc (suc zero))) = omega arith
digit_small true (suc (suc (suc (suc k)))) = omega arith

-- the entries of one child's descendants
abbrev pub child_entries : Bool → ℕ → ℕ → ℕ → ℕ → ℕ → List ℕ
child_entries order d x y z q = entries_of (descendants (family_of order) d (2 * x + q % 2) (2 * y + q / 2) (suc z))

pub child_length : (order : Bool) (d x y z q : ℕ) → length (child_entries order d x y z q) ≡ 4 ^ d
child_length order d x y z q = children_length order d (2 * x + q % 2) (2 * y + q / 2) (suc z)

pub children_gathered : (order : Bool) (d x y z : ℕ)
    → entries_of (descendants (family_of order) (suc d) x y z) ≡ gather (child_entries order d x y z) (family_of order)
unfolding descendants
children_gathered order d x y z = entries_gather _ (family_of order)

pub child_on_map : {x y z : ℕ} (a b : ℕ) → OnMap x y z → a < 2 → b < 2 → z < max_zoom → OnMap (2 * x + a) (2 * y + b) (z + 1)
child_on_map {x} {y} {z} a b m h k l =
    let e : 2 ^ (z + 1) ≡ 2 * 2 ^ z = rw (add-one z, pow-suc 2 z) (omega arith) in
    record { zoom = omega arith; column = omega (arith, m.column); row = omega (arith, m.row) }

pub child_too_deep : {z : ℕ} (x y target : ℕ) → max_zoom < z → (1 when ltb max_zoom target else tile_refusal x y z) ≡ 1
child_too_deep {z} x y target h = rw (too_deep_lem {z = z} x y h) (pick (ltb max_zoom target))
  where
    pick : (b : Bool) → (1 when b else 1) ≡ 1
    pick true = refl
    pick false = refl
