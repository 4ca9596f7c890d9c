-- `neighbors::around` meets its contract: the tiles are counted before the first is written.
use mathlib.Core.Path.{◌≡◌, sym, ◌∙◌}
use mathlib.Core.List.{List}
use Prim.Native.Nat.{ℕ, ◌^◌, ◌≤◌}
use lib.ListN.{length, length-map}
use Rattle.children.specs.Children.{gather}
use Rattle.ids.specs.Entry.{entries_of}
use Rattle.errors.specs.Memory.{written_short, written_done}
use Rattle.tile.specs.OnMap.{OnMap, on_map_accepted, side_found}
use Rattle.tile.specs.declared.Tile.{Tile}
use Rattle.neighbors.specs.Neighbors.{near_of, order_of}
use Rattle.neighbors.specs.declared.Seam.{Seam}
use Rattle.neighbors.proofs.around.Goals as goal
use Rattle.neighbors.proofs.around.Goals.{In_ok-end}

-- the entries that are to be written
abbrev all : Seam → ℕ → ℕ → ℕ → List ℕ
all seam x y z = entries_of (gather (near_of seam x y z) (order_of seam))

as_many : (tiles : List Tile) → length (entries_of tiles) ≡ length tiles
as_many tiles = length-map tiles _

known : (c : In_ok-end)
    → let a = c.args in OnMap a.x a.y a.z × (c.in_ok-end.end ≡ 2 ^ a.z)
known c = side_found _ _ _ c.side.ensures c.in_ok-end.was

pub count-n-requires : goal.count-n-requires
count-n-requires c = record { on_map = (known (goal.at.count-n-requires c).In_ok-end).0; end_value = (known (goal.at.count-n-requires c).In_ok-end).1 }

pub returns-then-out-n : goal.returns-then-out-n
returns-then-out-n c = let a = c.args in
    let m = on_map_accepted (known (goal.at.returns-then-out-n c).In_ok-end).0 in
    written_short (all a.seam a.x a.y a.z) _ m (rw (length-map, ← c.count-n.ensures) c.if-out-n.true)

pub fill-requires : goal.fill-requires
fill-requires c = record { on_map = (known (goal.at.fill-requires c).In_ok-end).0; end_value = (known (goal.at.fill-requires c).In_ok-end).1; seam_in_bounds = rw (← c.count-n.ensures) c.if-out-n.false }

pub returns : goal.returns
returns c = let a = c.args in
    let items = all a.seam a.x a.y a.z in
    let e = c.count-n.ensures in
    let l = as_many (gather (near_of a.seam a.x a.y a.z) (order_of a.seam)) in
    let room : length items ≤ length a.out.now = rw (l, ← e) c.if-out-n.false in
    let m = on_map_accepted (known (goal.at.returns c).In_ok-end).0 in
    written_done items a.out.now c.fill.new.out m room (e ∙ sym l) (rw l c.fill.ensures)
