-- `write_overlay`: what `overlay` leaves in the places that were asked for.
use mathlib.Core.Path.{◌≡◌}
use mathlib.Core.Logic.{◌⊎◌, inl, inr}
use Prim.Native.Nat.{◌≤◌}
use lib.ListN.{length, take}
use Rattle.work.proofs.PlacesLemmas.{places_fit, union_overlays, common_overlays, difference_overlays}
use Rattle.work.specs.declared.Overlay.TheVariants.{Union, Common}
use Rattle.work.proofs.write_overlay.Goals as goal
use Rattle.work.proofs.write_overlay.Goals.{Start}

fits : (c : Start) → (c.args.which ≡ Union) ⊎ (c.args.which ≡ Common)
    → (c.args.both ≤ length c.args.out.now) × (c.args.both ≡ length (take c.args.both c.args.out.now))
fits c = places_fit c.args.which c.args.n c.args.both c.args.keys.now c.args.out.now c.requires.both_in_bounds.0 c.requires.keys_in_bounds

pub slice_bounds-union-end : goal.slice_bounds-union-end
slice_bounds-union-end c = (fits (goal.at.slice_bounds-union-end c).Start (inl c.in-Union.is)).0

pub slice_bounds-union-end-in-Union : goal.slice_bounds-union-end-in-Union
slice_bounds-union-end-in-Union c = (fits (goal.at.slice_bounds-union-end-in-Union c).Start (inl c.in-Union.is)).1

pub union-requires : goal.union-requires
union-requires c = (c.requires.both_in_bounds.0, c.requires.both_in_bounds.1, (fits (goal.at.union-requires c).Start (inl c.in-Union.is)).1)

pub slice_bounds-common_part-end : goal.slice_bounds-common_part-end
slice_bounds-common_part-end c = (fits (goal.at.slice_bounds-common_part-end c).Start (inr c.in-Common.is)).0

pub slice_bounds-common_part-end-in-Common : goal.slice_bounds-common_part-end-in-Common
slice_bounds-common_part-end-in-Common c = (fits (goal.at.slice_bounds-common_part-end-in-Common c).Start (inr c.in-Common.is)).1

pub common_part-requires : goal.common_part-requires
common_part-requires c = (c.requires.both_in_bounds.0, c.requires.both_in_bounds.1, (fits (goal.at.common_part-requires c).Start (inr c.in-Common.is)).1)

pub difference-requires : goal.difference-requires
difference-requires c = (c.requires.both_in_bounds.0, c.requires.both_in_bounds.1, rw c.in-Difference.is at c.requires.keys_in_bounds)

pub returns-in-Union : goal.returns-in-Union
returns-in-Union c = union_overlays c.args.which c.args.n c.args.both c.args.keys.now c.args.out.now c.requires.both_in_bounds.0 c.requires.keys_in_bounds
    c.in-Union.is c.union.auto.out c.union.ensures

pub returns-in-Common : goal.returns-in-Common
returns-in-Common c = common_overlays c.args.which c.args.n c.args.both c.args.keys.now c.args.out.now c.requires.both_in_bounds.0 c.requires.keys_in_bounds
    c.in-Common.is c.common_part.auto.out c.common_part.ensures

pub returns-in-Difference : goal.returns-in-Difference
returns-in-Difference c = difference_overlays c.in-Difference.is c.difference.ensures
