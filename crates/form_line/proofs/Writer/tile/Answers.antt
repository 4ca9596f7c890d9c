-- `tile` meets its contract: `-` at zoom 0, else the digits in the memory from the place on.
use Rattle.std.specs.Prelude.{Result, Ok, Err}
use mathlib.Core.Path.{◌≡◌, sym, ap, ◌∙◌}
use mathlib.Core.List.{List, ◌++◌}
use Prim.Native.Nat.{ℕ, ◌+◌, ◌≤◌}
use native.Mathlib.Omega.{arith}
use lib.ListN.{length, drop}
use Rattle.errors.specs.Cases.{left}
use Rattle.errors.specs.declared.Refusal.{Refusal}
use Rattle.form_line.specs.Line.{key_shown}
use Rattle.form_line.specs.Stores.{part_from, part_length, stored_same, part_stored, written_counted, written_not}
use Rattle.form_line.specs.Text.{root_shown, key_shown_lem}
use Rattle.quadkey.specs.Key.{key_of, key_written}
use Rattle.tile.specs.OnMap.{on_map_accepted}
use Rattle.form_line.proofs.Writer.tile.Goals as goal
use Rattle.form_line.proofs.Writer.tile.Goals.{After-xyz2quadkey}

pub returns-then-z-eq0-clause-stored : goal.returns-then-z-eq0-clause-stored
returns-then-z-eq0-clause-stored c = stored_same (sym (root_shown _ _ _ c.if-z-eq0.true)) c.byte.ensures.stored

-- the memory has room for the key, so that the call is not refused
module _ (c : After-xyz2quadkey) where
  abbrev key : List ℕ
  key = key_of c.args.x c.args.y c.args.z

  its_key : key_shown key ≡ key
  its_key = key_shown_lem c.args.x c.args.y c.args.z (omega (arith, c.if-z-eq0.false))

  fits : c.args.self.now.at + length key ≤ length c.args.self.now.out.now
  fits = omega (arith, c.requires.z_in_bounds, ap length its_key)

  room : length key ≤ length (part_from c.args.self.now.at c.args.self.now.out.now)
  room = omega (arith, part_length c.args.self.now.at c.args.self.now.out.now, fits)

  abbrev part : List ℕ
  part = part_from c.args.self.now.at c.args.self.now.out.now

  wrote : left c.xyz2quadkey.result c.xyz2quadkey.new.out ≡ key_written 48 c.args.x c.args.y c.args.z part
  wrote = c.xyz2quadkey.ensures

  counted : {n : ℕ} → c.xyz2quadkey.result ≡ Ok n → (n ≡ length key) × (c.xyz2quadkey.new.out ≡ key ++ drop (length key) part)
  counted p = written_counted key part _ (on_map_accepted c.requires.on_map) (sym (ap (λ (r : Result ℕ Refusal). left r c.xyz2quadkey.new.out) p) ∙ wrote)

  fine : {why : Refusal} → c.xyz2quadkey.result ≡ Err why → ⊥
  fine {why} p = omega (
    arith,
    written_not key part c.xyz2quadkey.new.out (on_map_accepted c.requires.on_map) why
        (sym (ap (λ (r : Result ℕ Refusal). left r c.xyz2quadkey.new.out) p) ∙ wrote),
    room,
  )

pub returns-in-Ok-clause-stored : goal.returns-in-Ok-clause-stored
returns-in-Ok-clause-stored c = let w = counted (goal.at.returns-in-Ok-clause-stored c).After-xyz2quadkey c.in-Ok.is in
    stored_same (sym (its_key (goal.at.returns-in-Ok-clause-stored c).After-xyz2quadkey)) (part_stored (key (goal.at.returns-in-Ok-clause-stored c).After-xyz2quadkey) c.args.self.now.out.now _ (fits (goal.at.returns-in-Ok-clause-stored c).After-xyz2quadkey) w.1 (omega (arith, w.0)))

pub returns-in_default-clause-stored : goal.returns-in_default-clause-stored
returns-in_default-clause-stored c = absurd (fine (goal.at.returns-in_default-clause-stored c).After-xyz2quadkey c.in_default.is)
