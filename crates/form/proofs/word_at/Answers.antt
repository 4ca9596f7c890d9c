-- `word_at` meets its contract: the four fronts, one after the other.
use mathlib.Core.Path.{◌≡◌, sym, ◌∙◌}
use mathlib.Core.Bool.{Bool}
use mathlib.Core.List.{List}
use Prim.Native.Nat.{ℕ}
use lib.ListN.{length, take}
use lib.Dec.{eqb}
use Rattle.std.specs.Cmp.Lexicographic.{pointwise}
use Rattle.form.specs.Steps.{starts_gives}
use Rattle.form.specs.Words.{starts_with, tiles_front, pair_front, word_at}
use Rattle.form.specs.declared.Verb.TheVariants.{Plus, Both, Minus}
use Rattle.form.proofs.word_at.Goals as goal

-- what a test of a front says
told : {r b : Bool} (w l : List ℕ) → r ≡ pointwise eqb w (take (length w) l) → r ≡ b → starts_with w l ≡ b
told w l e f = sym (starts_gives w l) ∙ (sym e ∙ f)

pub returns-then-starts_with : goal.returns-then-starts_with
unfolding word_at
returns-then-starts_with c = rw (told tiles_front c.args.bytes.now c.starts_with.ensures.value c.if-starts_with.true)

pub returns-then-starts_with-2 : goal.returns-then-starts_with-2
unfolding word_at
returns-then-starts_with-2 c = rw (told tiles_front c.args.bytes.now c.starts_with.ensures.value c.if-starts_with.false, told (pair_front Plus) c.args.bytes.now c.starts_with-2.ensures.value c.if-starts_with-2.true)

pub returns-then-starts_with-3 : goal.returns-then-starts_with-3
unfolding word_at
returns-then-starts_with-3 c = rw (told tiles_front c.args.bytes.now c.starts_with.ensures.value c.if-starts_with.false, told (pair_front Plus) c.args.bytes.now c.starts_with-2.ensures.value c.if-starts_with-2.false, told (pair_front Both) c.args.bytes.now c.starts_with-3.ensures.value c.if-starts_with-3.true)

pub returns-then-starts_with-4 : goal.returns-then-starts_with-4
unfolding word_at
returns-then-starts_with-4 c = rw (told tiles_front c.args.bytes.now c.starts_with.ensures.value c.if-starts_with.false, told (pair_front Plus) c.args.bytes.now c.starts_with-2.ensures.value c.if-starts_with-2.false, told (pair_front Both) c.args.bytes.now c.starts_with-3.ensures.value c.if-starts_with-3.false, told (pair_front Minus) c.args.bytes.now c.starts_with-4.ensures.value c.if-starts_with-4.true)

pub returns : goal.returns
unfolding word_at
returns c = rw (told tiles_front c.args.bytes.now c.starts_with.ensures.value c.if-starts_with.false, told (pair_front Plus) c.args.bytes.now c.starts_with-2.ensures.value c.if-starts_with-2.false, told (pair_front Both) c.args.bytes.now c.starts_with-3.ensures.value c.if-starts_with-3.false, told (pair_front Minus) c.args.bytes.now c.starts_with-4.ensures.value c.if-starts_with-4.false)
