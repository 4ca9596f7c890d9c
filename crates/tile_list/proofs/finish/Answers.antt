-- `finish`: the entries at the front, and zeros behind them.
use mathlib.Core.Path.{◌≡◌, sym}
use native.Mathlib.Omega.{arith}
use mathlib.Core.List.{List, ◌++◌, append-nil}
use Prim.Native.Nat.{ℕ, ◌-◌, ◌≤◌}
use lib.ListN.{length, take, drop, replicate, length-append, length-drop, drop_of_length-le}
use lib.Seq.{take_all, length-take-le}
use Rattle.tile_list.specs.Finish.{finish_listed}
use Rattle.tile_list.proofs.finish.Goals as goal

pub slice_bounds-entries-end-2 : goal.slice_bounds-entries-end-2
slice_bounds-entries-end-2 c = let a = c.args in sym (length-take-le a.count a.keys.now c.requires.count_in_bounds)

-- zeros in each place from r on
cleared : (l ys : List ℕ) (r : ℕ) → r ≤ length l → ys ≡ replicate (length (take (length l - r) (drop r l))) 0
    → take r l ++ (ys ++ drop (length l - r) (drop r l)) ≡ take r l ++ replicate (length l - r) 0
cleared l ys r h e =
    let n : length (drop r l) ≤ length l - r = omega (arith, length-drop r l) in
    rw (e, take_all (length l - r) (drop r l) n, drop_of_length-le (drop r l) n, append-nil, length-drop r l)

pub returns : goal.returns
returns c = let a = c.args in
    let e = c.entries-listed in
    finish_listed a.by _ e.new.keys _ e.result (drop a.count a.keys.now)
    c.requires.tile_numbers e.ensures.0 e.ensures.1
    (cleared (e.new.keys ++ drop a.count a.keys.now) _ e.result (rw length-append (omega (arith, e.ensures.0))) (c.fill.ensures.after (λ y q. q)))
