-- `simplified` decides every refusal, and then works in the part of the memory that it asks for.
use mathlib.Core.Path.{sym, ap, ◌∙◌}
use Prim.Native.Nat.{◌≤◌}
use native.Mathlib.Omega.{arith}
use lib.ListN.{length, length-map}
use lib.Seq.{length-take-le}
use Rattle.quadtree.specs.Lists.{keys_refused, keys_fine}
use Rattle.work.specs.One.{keys_left, keys_numbers, no_tile, no_room, done}
use Rattle.std.proofs.Common.{not}
use Rattle.work.proofs.simplified.Goals as goal

pub returns-then-not-keys : goal.returns-then-not-keys
returns-then-not-keys c = no_tile c.args.which c.args.m c.args.a.now c.args.out.now
    (keys_refused _ _ _ _ c.keys.ensures (ap not c.if-not-keys.true))

pub returns-then-out-n : goal.returns-then-out-n
returns-then-out-n c = no_room c.args.which c.args.m c.args.a.now c.args.out.now
    (keys_fine _ _ _ _ c.keys.ensures (ap not c.if-not-keys.false)) c.if-out-n.true

pub slice_bounds-write_simplified-end-2 : goal.slice_bounds-write_simplified-end-2
slice_bounds-write_simplified-end-2 c = let a = c.args in
    sym (length-take-le (length a.a.now) a.out.now (omega (arith, c.if-out-n.false)))

pub write_simplified-requires : goal.write_simplified-requires
write_simplified-requires c = let l = c.args.a.now in
    let f = (ap not c.if-not-keys.false) in
    let e = keys_left c.keys.ensures f c.args.which c.sorted_by.ensures in
    let size = ap length e ∙ length-map l _ in record {
      tile_numbers = (
        keys_numbers c.keys.ensures f c.args.which c.sorted_by.ensures,
        size ∙ sym (length-take-le (length l) c.args.out.now (omega (arith, c.if-out-n.false))),
      );
      keys_len_bound = omega (arith, size, c.requires.1);
    }

pub returns : goal.returns
returns c = let a = c.args in
    let f = (ap not c.if-not-keys.false) in
    let fits : length a.a.now ≤ length a.out.now = omega (arith, c.if-out-n.false) in
    done a.which a.m a.a.now _ a.out.now _ c.write_simplified.result (keys_fine _ _ _ _ c.keys.ensures f) fits
    (c.write_simplified.auto.out ∙ length-take-le (length a.a.now) a.out.now fits)
    (keys_left c.keys.ensures f a.which c.sorted_by.ensures) c.write_simplified.ensures
