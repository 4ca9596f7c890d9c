-- `overlaid`: the tests, the places, and the list.
use mathlib.Core.Path.{sym}
use Prim.Native.Nat.{◌+◌}
use lib.ListN.{length}
use lib.Seq.{length-take-le}
use Rattle.work.specs.Overlaid.{not_located, lent_again, places_ready, short_told, write_ready, list_told}
use mathlib.Core.Path.{subst}
use Rattle.std.proofs.lemmas.Result.{err_from_is_err_and}
use Rattle.errors.specs.Cases.{check_number}
use Rattle.work.specs.Steps.{Located}
use Rattle.work.proofs.overlaid.Goals as goal
use Rattle.work.proofs.overlaid.Goals.{In_ok-located}

pub slice_bounds-located-end-2 : goal.slice_bounds-located-end-2
slice_bounds-located-end-2 c = sym (length-take-le (length c.args.a.now + length c.args.b.now) c.args.keys.now c.requires.room)

pub located-requires : goal.located-requires
located-requires c = sym (length-take-le (length c.args.a.now + length c.args.b.now) c.args.keys.now c.requires.room)

pub returns-in_err-located : goal.returns-in_err-located
returns-in_err-located c = let p = err_from_is_err_and c.from_residual.result c.from_residual.ensures.1 in
    rw (p.1, p.2) (not_located c.args.which _ c.args.out.now (subst (λ r. Located c.args.a.now c.args.b.now c.located.new.keys (check_number r)) c.in_err-located.was c.located.ensures))

found : (c : In_ok-located) → Located c.args.a.now c.args.b.now c.located.new.keys 0
found c = subst (λ r. Located c.args.a.now c.args.b.now c.located.new.keys (check_number r)) c.in_ok-located.was c.located.ensures

pub slice_bounds-places-end-2 : goal.slice_bounds-places-end-2
slice_bounds-places-end-2 c = lent_again c.args.keys.now c.requires (found (goal.at.slice_bounds-places-end-2 c).In_ok-located) c.located.auto.keys

pub places-requires : goal.places-requires
places-requires c = places_ready c.args.keys.now c.requires (found (goal.at.places-requires c).In_ok-located) c.located.auto.keys

pub returns-then-out-places : goal.returns-then-out-places
returns-then-out-places c = short_told c.args.keys.now c.requires (found (goal.at.returns-then-out-places c).In_ok-located) c.located.auto.keys c.args.which c.args.out.now c.places.result
    c.places.ensures c.if-out-places.true

pub write_overlay-requires : goal.write_overlay-requires
write_overlay-requires c = let r = write_ready c.args.keys.now c.requires (found (goal.at.write_overlay-requires c).In_ok-located) c.located.auto.keys c.args.which c.args.out.now c.places.result
    c.places.ensures c.if-out-places.false in
    record { both_in_bounds = r.0; keys_in_bounds = r.1 }

pub returns : goal.returns
returns c = list_told c.args.keys.now c.requires (found (goal.at.returns c).In_ok-located) c.located.auto.keys c.args.which c.args.out.now c.places.result
    c.places.ensures c.if-out-places.false c.write_overlay.ensures
