-- `siblings::siblings` meets its contract: the tile is checked, then its zoom, then the memory, and then three entries are written.
use mathlib.Core.Path.{◌≡◌, refl, ap, ap₂, ◌∙◌}
use Prim.Native.Nat.{ℕ, ◌<◌}
use native.Mathlib.Omega.{arith}
use lib.Dec.{eqb}
use lib.ListN.{length-set}
use borrow.Author.Tests.{eq-eqb, ne_eqb}
use Rattle.ids.specs.Entry.{entry_of, entries_of}
use Rattle.errors.specs.Answer.{◌when◌, ◌else◌}
use Rattle.errors.specs.Laws.{check_fine}
use Rattle.errors.specs.Memory.{written_refused, written_short, written_done}
use Rattle.tile.specs.OnMap.{OnMap, tile_refusal, accepted_on_map}
use Rattle.errors.specs.declared.Refusal.TheVariants.{NoRelative}
use Rattle.siblings.specs.Siblings.{siblings_of, other}
use Rattle.siblings.specs.Laws.{other_small, three_places}
use Rattle.siblings.proofs.siblings.Goals as goal
use Rattle.siblings.proofs.siblings.Goals.{Else-out-lt3}

pub returns-then-z-eq0 : goal.returns-then-z-eq0
returns-then-z-eq0 c = let a = c.args in
    let fine = check_fine c.in_ok-check.was c.check.ensures in
    rw (fine, eq-eqb _ _ c.if-z-eq0.true) (written_refused NoRelative (entries_of (siblings_of a.x a.y a.z)) _ refl)

pub returns-then-out-lt3 : goal.returns-then-out-lt3
returns-then-out-lt3 c = let a = c.args in
    let fine = check_fine c.in_ok-check.was c.check.ensures in
    let e : (tile_refusal a.x a.y a.z else 3 when eqb a.z 0) ≡ 0 = rw (fine, ne_eqb _ _ c.if-z-eq0.false) in
    written_short (entries_of (siblings_of a.x a.y a.z)) _ e c.if-out-lt3.true

-- behind the tests: the tile is one of the map and not the root, and so its siblings are tiles of the map
fine : (c : Else-out-lt3)
    → tile_refusal c.args.x c.args.y
    c.args.z ≡ 0
fine c = check_fine c.in_ok-check.was c.check.ensures

column : {x y z n : ℕ} → OnMap x y z → 0 < z → n ≡ other x → OnMap n y z
column {x = x} {z = z} m p e = record { zoom = m.zoom; column = rw e (other_small x z p m.column); row = m.row }

row : {x y z n : ℕ} → OnMap x y z → 0 < z → n ≡ other y → OnMap x n z
row {y = y} {z = z} m p e = record { zoom = m.zoom; column = m.column; row = rw e (other_small y z p m.row) }

on_map : (c : Else-out-lt3)
    → OnMap c.args.x c.args.y
    c.args.z
on_map c = accepted_on_map _ _ _ (fine c)

deep : (c : Else-out-lt3) → 0 < c.args.z
deep c = omega (arith, c.if-z-eq0.false)

pub entry-requires : goal.entry-requires
entry-requires c = column (on_map (goal.at.entry-requires c).Else-out-lt3) (deep (goal.at.entry-requires c).Else-out-lt3) c.beside.ensures

pub entry-requires-2 : goal.entry-requires-2
entry-requires-2 c = row (on_map (goal.at.entry-requires-2 c).Else-out-lt3) (deep (goal.at.entry-requires-2 c).Else-out-lt3) c.beside-2.ensures

pub bounds-out-1 : goal.bounds-out-1
bounds-out-1 c = simp length-set (omega arith)

pub entry-requires-3 : goal.entry-requires-3
entry-requires-3 c = row (column (on_map (goal.at.entry-requires-3 c).Else-out-lt3) (deep (goal.at.entry-requires-3 c).Else-out-lt3) c.beside-3.ensures) (deep (goal.at.entry-requires-3 c).Else-out-lt3) c.beside-4.ensures

pub returns : goal.returns
returns c = let a = c.args in
    let e : (tile_refusal a.x a.y a.z else 3 when eqb a.z 0) ≡ 0 = rw (fine (goal.at.returns c).Else-out-lt3, ne_eqb _ _ c.if-z-eq0.false) in
    let u = ap (λ (n : ℕ). entry_of n a.y a.z) c.beside.ensures in
    let v = ap (λ (n : ℕ). entry_of a.x n a.z) c.beside-2.ensures in
    let w = ap₂ (λ (n k : ℕ). entry_of n k a.z) c.beside-3.ensures c.beside-4.ensures in
    let one = c.entry.ensures ∙ u in
    let two = c.entry-2.ensures ∙ v in
    let three = c.entry-3.ensures ∙ w in
    let put = three_places _ _ _ a.out.now c.if-out-lt3.false in
    written_done (entries_of (siblings_of a.x a.y a.z)) a.out.now _ e c.if-out-lt3.false refl (rw (one, two, three) put)
