-- Laws of the siblings of a tile: that they are on the map, how they stand in the memory, and that the Rust's steps to them fit its widths.
use Rattle.std.specs.Prelude.{◌≡◌, refl, List, [], ◌∷◌, ℕ, zero, suc, ◌+◌, ◌^◌, ◌≤◌, ◌<◌, length, drop, set}
use Rattle.std.proofs.Common.{pow-suc, arith, pow_mono}
use Rattle.bits.specs.Checked.{returns, fits}
use Rattle.tile.specs.Rust.{rust_along}
use Rattle.tile.specs.declared.Step.TheVariants.{On}
use Rattle.siblings.specs.Siblings.{other}

-- the other tiles of a family are on the map
pub other_small : (n z : ℕ) → 0 < z → n < 2 ^ z → other n < 2 ^ z
other_small n zero h l = absurd (omega arith)
other_small n (suc z) h l = omega (arith, pow-suc 2 z)

pub three_places : (a b c : ℕ) (memory : List ℕ) → 3 ≤ length memory → set (set (set memory 0 a) 1 b) 2 c ≡ a ∷ b ∷ c ∷ drop 3 memory
three_places a b c [] h = absurd (omega arith)
three_places a b c (p ∷ []) h = absurd (omega arith)
three_places a b c (p ∷ (q ∷ [])) h = absurd (omega arith)
three_places a b c (p ∷ (q ∷ (r ∷ memory))) h = refl

-- on tiles of zoom 0 to 29 the step n + 1 fits
pub side_most : {z : ℕ} → z ≤ 29 → 2 ^ z ≤ 2 ^ 29
side_most h = pow_mono {j = 29} h

pub next : (n : ℕ) → n < 2 ^ 29 → rust_along On n ≡ returns (n + 1)
next n h = fits 32 (n + 1) (omega arith)
