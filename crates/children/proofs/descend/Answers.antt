-- `children::descend` meets its contract: the zooms are tested, then the tile, then the memory, and then the descendants are written.
use Rattle.std.specs.Prelude.{Bool, Option, unwrap_or}
use Rattle.std.proofs.lemmas.Grind.{common_steps}
use mathlib.Core.Path.{◌≡◌, refl, sym, ap, ap₂, ◌∙◌}
use mathlib.Core.List.{List, ◌++◌}
use Prim.Native.Nat.{ℕ, ◌+◌, ◌-◌, ◌^◌, ◌≤◌}
use native.Mathlib.Omega.{arith}
use lib.Dec.{ltb}
use lib.ListN.{length, drop}
use lib.Seq.{length-take-le}
use borrow.Author.Tests.{lt-ltb, le-ltb}
use Rattle.constants.specs.Limits.{max_zoom, max_zoom_small}
use Rattle.errors.specs.Answer.{◌when◌, ◌else◌}
use Rattle.errors.specs.Laws.{check_fine}
use Rattle.errors.specs.Memory.{written_refused, written_short, written_done}
use Rattle.errors.specs.declared.Refusal.TheVariants.{Zoom}
use Rattle.tile.specs.OnMap.{tile_refusal, accepted_on_map}
use Rattle.children.specs.Children.{family_of, descendants}
use Rattle.ids.specs.Entry.{entries_of}
use Rattle.children.specs.Family.{child_too_deep, children_length}
use Rattle.children.proofs.descend.Given.{Over}
use Rattle.children.proofs.descend.Goals as goal
use Rattle.children.proofs.descend.Goals.{After-places-n}

-- the zoom that is asked for, and what is written
abbrev target : Option ℕ → ℕ → ℕ
target zoom z = unwrap_or zoom (z + 1)

abbrev items_at : Bool → ℕ → ℕ → ℕ → ℕ → List ℕ
items_at order x y z depth = entries_of (descendants (family_of order) depth x y z)

abbrev items : Bool → ℕ → ℕ → ℕ → Option ℕ → List ℕ
items order x y z zoom = items_at order x y z (target zoom z - z)

pub returns-then-z-gt-MAX_ZOOM : goal.returns-then-z-gt-MAX_ZOOM
unfolding max_zoom
returns-then-z-gt-MAX_ZOOM g c = let a = c.args in
    written_refused Zoom (items g.F.Family.order a.x a.y a.z a.zoom) _ (sym (child_too_deep a.x a.y (target a.zoom a.z) c.if-z-gt-MAX_ZOOM.true))

pub returns-then-target-gt-MAX_ZOOM : goal.returns-then-target-gt-MAX_ZOOM
unfolding max_zoom
returns-then-target-gt-MAX_ZOOM g c = let a = c.args in
    rw (lt-ltb max_zoom (target a.zoom a.z) (rw c.unwrap_or-target.ensures at c.if-target-gt-MAX_ZOOM.true))
    (written_refused Zoom (items g.F.Family.order a.x a.y a.z a.zoom) _ refl)

pub returns-in_err-check : goal.returns-in_err-check
unfolding max_zoom
returns-in_err-check g c = let a = c.args in
    let h : target a.zoom a.z ≤ max_zoom = rw c.unwrap_or-target.ensures at c.if-target-gt-MAX_ZOOM.false in
    rw (le-ltb _ _ h) (grind (arith, common_steps, written_refused))

pub places-n-requires : goal.places-n-requires
unfolding max_zoom
places-n-requires g c = omega (arith, c.saturating_sub-depth.ensures, max_zoom_small)

-- past the tests nothing is refused, and the count is that of the items
module _ (g : Over) (c : After-places-n g) where
  reached : target c.args.zoom c.args.z ≤ max_zoom
  unfolding max_zoom
  reached = rw c.unwrap_or-target.ensures at c.if-target-gt-MAX_ZOOM.false

  accepted : tile_refusal c.args.x c.args.y c.args.z ≡ 0
  accepted = check_fine c.in_ok-check.was c.check.ensures

  nothing_refused : (1 when ltb max_zoom (target c.args.zoom c.args.z) else tile_refusal c.args.x c.args.y c.args.z) ≡ 0
  nothing_refused = rw (le-ltb _ _ reached) accepted

  depth_is : c.saturating_sub-depth.result ≡ target c.args.zoom c.args.z - c.args.z
  depth_is = c.saturating_sub-depth.ensures ∙ ap (λ (n : ℕ). n - c.args.z) c.unwrap_or-target.ensures

  count_is : c.places-n.result ≡ length (items g.F.Family.order c.args.x c.args.y c.args.z c.args.zoom)
  count_is =
      let a = c.args in
      c.places-n.ensures ∙ (ap (λ (n : ℕ). 4 ^ n) depth_is ∙ sym (children_length g.F.Family.order (target a.zoom a.z - a.z) a.x a.y a.z))

pub returns-then-out-n : goal.returns-then-out-n
returns-then-out-n g c = let a = c.args in
    let here = (goal.at.returns-then-out-n g c).After-places-n in
    written_short (items g.F.Family.order a.x a.y a.z a.zoom) _ (nothing_refused g here) (rw (← count_is g here) c.if-out-n.true)

pub slice_bounds-fill-end-2 : goal.slice_bounds-fill-end-2
slice_bounds-fill-end-2 g c = sym (length-take-le _ _ c.if-out-n.false)

pub fill-requires : goal.fill-requires
fill-requires g c = let here = (goal.at.fill-requires g c).After-places-n in
    let m = accepted_on_map _ _ _ (accepted g here) in
    record {
      on_map = m;
      depth_bound = omega (arith, depth_is g here, reached g here, m.zoom);
      out_len = length-take-le _ _ c.if-out-n.false ∙ c.places-n.ensures;
    }

pub returns : goal.returns
returns g c = let a = c.args in
    let here = (goal.at.returns g c).After-places-n in
    let e = count_is g here in
    written_done (items g.F.Family.order a.x a.y a.z a.zoom) _ _ (nothing_refused g here) (rw (← e) c.if-out-n.false) e
    (ap₂ ◌++◌ (c.fill.ensures ∙ ap (items_at g.F.Family.order a.x a.y a.z) (depth_is g here)) (ap (λ (n : ℕ). drop n c.args.out.now) e))
