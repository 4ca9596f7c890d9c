-- `pass` leaves what the pure pass over the Morton codes, each once, leaves.
use mathlib.Core.Path.{sym, ap, ◌∙◌}
use mathlib.Core.List.{◌++◌}
use Prim.Native.Nat.{ℕ}
use native.Mathlib.Omega.{arith}
use lib.ListN.{length, take, drop, length-append}
use lib.Seq.{take-append-le, length-take-le}
use Rattle.quadtree.specs.Numbers.{morton_of}
use Rattle.tile_list.specs.Laws.{once_numbers}
use Rattle.families.specs.Join.{first_morton, join_of}
use Rattle.families.specs.Laws.{first_not_root}
use Rattle.families.specs.Once.{passed}
use Rattle.families.proofs.pass.Goals as goal

pub slice_bounds-join-end-2 : goal.slice_bounds-join-end-2
slice_bounds-join-end-2 c = let o = c.once-once.ensures in sym (length-take-le _ c.once-once.new.keys o.within)

pub join-count-requires : goal.join-count-requires
join-count-requires c = let O = c.once-once in
    (rw O.ensures.front (once_numbers morton_of c.args.codes.now c.requires.0), rw c.first_morton.ensures (first_not_root c.args.m))

pub returns : goal.returns
returns c = let O = c.once-once in
    let J = c.join-count in
    let F = c.first_morton in
    let e = O.ensures in
    let part = J.new.codes in
    let rest = drop O.result O.new.keys in
    passed c.args.m c.args.codes.now c.requires.0 c.requires.1 (part ++ rest) O.result J.result
    (sym (length-take-le O.result O.new.keys e.within) ∙ ap length e.front)
    (rw (length-append part rest) (omega (arith, J.ensures.0)))
    (take-append-le J.result part rest J.ensures.0
    ∙ (J.ensures.1 ∙ (ap (λ (n : ℕ). join_of n (take O.result O.new.keys)) F.ensures ∙ ap (join_of (first_morton c.args.m)) e.front)))
