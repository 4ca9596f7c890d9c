-- The test by which runs are listed says what a maximal run is.
use Rattle.std.specs.Prelude.{◌≡◌, refl, true, false, ◌&&◌, leb}
use Rattle.std.proofs.Math.Bool.{Bool, not}
use Prim.Native.Nat.{ℕ, zero, suc, ◌≤◌}
use Rattle.std.proofs.Common.{arith}
use borrow.Author.Tests.{le-leb, leb-true}
use Rattle.bits.specs.Tests.{and_parts, not_true, all_of, all_in, in_all}
use Rattle.zoom_bits.specs.Bits.{between, from_to}
use Rattle.zoom_bits.specs.Passing.{in_those, those_in}
use Rattle.zoom_ranges.specs.Maximal.{MaximalRun}
use Rattle.zoom_ranges.specs.Ranges.{just_below, maximal_run, holds_zoom}

all_held : (has : ℕ → Bool) (low high z : ℕ) → all_of has (from_to low high) ≡ true → low ≤ z → z ≤ high → has z ≡ true
unfolding from_to
all_held has low high z e a b =
    all_in has (from_to low high) e (in_those (between low high) (suc high) z (omega arith) (rw (le-leb low z a, le-leb z high b)))

held_all : (has : ℕ → Bool) (low high : ℕ) → ((z : ℕ) → low ≤ z → z ≤ high → has z ≡ true) → all_of has (from_to low high) ≡ true
unfolding from_to
held_all has low high each = in_all has (from_to low high) (λ z m. held z (those_in (between low high) (suc high) z m).1)
  where
    held : (z : ℕ) → between low high z ≡ true → has z ≡ true
    held z e = let s = and_parts (leb low z) (leb z high) e in each z (leb-true low z s.0) (leb-true z high s.1)

below_said : (has : ℕ → Bool) (low z : ℕ) → not (just_below has low) ≡ true → suc z ≡ low → has z ≡ false
unfolding just_below
below_said has zero z e s = absurd (omega arith)
below_said has (suc n) z e s = let d : z ≡ n = omega arith in rw d (not_true (has n) e)

said_below : (has : ℕ → Bool) (low : ℕ) → ((z : ℕ) → suc z ≡ low → has z ≡ false) → not (just_below has low) ≡ true
unfolding just_below
said_below has zero none = refl
said_below has (suc n) none = rw (none n refl) refl

module _ (zset low high : ℕ) where
  pub test_says : maximal_run (holds_zoom zset) low high ≡ true → MaximalRun zset low high
  unfolding maximal_run
  test_says e =
      let has : ℕ → Bool = holds_zoom zset in
      let a = and_parts (leb low high && all_of has (from_to low high) && not (just_below has low)) (not (has (suc high))) e in
      let b = and_parts (leb low high && all_of has (from_to low high)) (not (just_below has low)) a.0 in
      let c = and_parts (leb low high) (all_of has (from_to low high)) b.0 in
      record {
        ordered = leb-true low high c.0;
        held = λ z. all_held has low high z c.1;
        not_below = λ z. below_said has low z b.1;
        not_above = not_true (has (suc high)) a.1;
      }

  pub says_test : MaximalRun zset low high → maximal_run (holds_zoom zset) low high ≡ true
  unfolding maximal_run
  says_test r = rw (
    le-leb low high r.ordered,
    held_all (holds_zoom zset) low high r.held,
    said_below (holds_zoom zset) low r.not_below,
    r.not_above,
  )
