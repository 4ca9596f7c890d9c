-- `bytes` meets its contract: the text goes to the part that is as long.
use mathlib.Core.Path.{◌≡◌, refl, sym}
use mathlib.Core.List.{append_assoc}
use native.Mathlib.Omega.{arith}
use Prim.Native.Nat.{◌+◌, ◌-◌}
use lib.ListN.{length}
use Rattle.std.proofs.Common.{drop-drop}
use Rattle.std.proofs.lemmas.List.Edits.{sets-eq}
use Rattle.form_line.proofs.Writer.bytes.Goals as goal

pub returns-clause-stored : goal.returns-clause-stored
returns-clause-stored c = let w = c.args.self.now in
    let n = length c.args.text.now in
    let k : w.at + n - w.at ≡ n = omega arith in
    record {
      behind = refl;
      memory = rw (k, c.copy_from_slice.ensures.after, drop-drop n w.at w.out.now, ← append_assoc)
          (sym (sets-eq c.args.text.now w.out.now w.at c.requires));
    }
