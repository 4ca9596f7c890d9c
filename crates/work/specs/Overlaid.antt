-- The answer to two lists: the refusal of the two, that the memory is too short, or the list.
use Rattle.std.specs.Prelude.{◌≡◌, refl, Bool, true, false, List, ◌++◌, ℕ, ◌+◌, ◌*◌, ◌≤◌, ◌<◌, ltb, length, take, drop, Ok, Err}
use Rattle.std.proofs.Common.{sym, ap₂, ◌∙◌, arith, lt-ltb, le-ltb, ltb-false, length-append, take_at, length-take-le}
use Rattle.constants.specs.Limits.{max_entries}
use Rattle.errors.specs.Answer.{number_of, ◌when◌, ◌else◌}
use Rattle.overlay.specs.Overlay.{TwoSets}
use Rattle.work.specs.Pairs.{first_locations, second_locations, runs_parted}
use Rattle.work.specs.Steps.{InScratch, InRuns, Located, Overlays}
use Rattle.errors.specs.Laws.{stands}
use Rattle.errors.specs.declared.Refusal.{Refusal}
use Rattle.errors.specs.declared.Refusal.TheVariants.{Memory}
use Rattle.work.specs.Told.{refused_told}
use Rattle.work.specs.Work.{few_of, told_left, told_as, locations_of, overlay_places, pair_tests}
use Rattle.work.specs.declared.Outcome.{Outcome}
use Rattle.work.specs.declared.Overlay.{Overlay}
use Rattle.work.specs.declared.Work.TheVariants.{Overlaid}

-- an answer by where the chain of refusals stops: at its first part, at 12, or nowhere
module _ (n : ℕ) (v : Outcome) (after memory : List ℕ) where
  first_stands : (why : Refusal) (m : ℕ) → number_of why ≡ n → told_left (Err why) memory ≡ told_as (n else m) v after memory
  first_stands why m e = refused_told why v after memory (sym (stands why m e))

  short_stands : (short : Bool) → n ≡ 0 → short ≡ true → told_left (Err Memory) memory ≡ told_as (n else 12 when short) v after memory
  short_stands short z e = rw (z, e)

  value_stands : (short : Bool) → n ≡ 0 → short ≡ false → told_left (Ok v) after ≡ told_as (n else 12 when short) v after memory
  value_stands short z e = rw (z, e)

pub not_located : (which : Overlay) {a b keys : List ℕ} (why : Refusal) (memory : List ℕ) → Located a b keys (number_of why)
    → told_left (Err why) memory ≡ few_of (Overlaid which) 0 a b memory
not_located which why memory p = first_stands _ _ _ memory why _ p.refusal

-- the front of the keys was lent and has come back as the locations of both, and is lent again
module _ {a b part : List ℕ} (keys : List ℕ) (f : InScratch a b (length keys)) (p : Located a b part 0)
    (kept : length part ≡ length (take (length a + length b) keys)) where
  abbrev both : ℕ
  both = length a + length b

  abbrev all : List ℕ
  all = part ++ drop both keys

  runs : InRuns a b part
  runs = p.in_runs refl

  passed : pair_tests a b ≡ 0
  passed = sym p.refusal

  size : length part ≡ both
  size = kept ∙ length-take-le both keys f.room

  again : take both all ≡ part
  again = take_at part (drop both keys) both size

  pub lent_again : both ≡ length (take both all)
  lent_again = rw again (sym size)

  pub places_ready : TwoSets (take both all) (length a) × (length (take both all) ≤ 2 * max_entries)
  places_ready = (rw again (runs_parted runs), omega (arith, lent_again, f.first_few, f.second_few))

  abbrev first : List ℕ
  first = take (length a) (take both all)

  abbrev second : List ℕ
  second = drop (length a) (take both all)

  first_again : first ≡ locations_of a
  first_again = rw again (first_locations runs)

  second_again : second ≡ locations_of b
  second_again = rw again (second_locations runs)

  module _ (which : Overlay) (memory : List ℕ) (asked : ℕ)
      (e : ltb (length memory) asked ≡ ltb (length memory) (overlay_places which first second)) where
    as_asked : ltb (length memory) asked ≡ ltb (length memory) (overlay_places which (locations_of a) (locations_of b))
    as_asked = e ∙ ap₂ (λ (k l : List ℕ). ltb (length memory) (overlay_places which k l)) first_again second_again

    pub short_told : length memory < asked → told_left (Err Memory) memory ≡ few_of (Overlaid which) 0 a b memory
    short_told h = short_stands _ _ _ memory _ passed (sym as_asked ∙ lt-ltb _ _ h)

    pub write_ready : asked ≤ length memory → ((both ≤ length all) × TwoSets (take both all) (length a))
        × (overlay_places which first second ≤ length memory)
    write_ready h = (
      (omega (arith, length-append part (drop both keys), size), places_ready.0),
      ltb-false _ _ (sym e ∙ le-ltb _ _ h),
    )

    pub list_told : {after : List ℕ} {count : ℕ} → asked ≤ length memory → Overlays which first second memory after count
        → told_left (Ok (record { count = count; yes = false })) after ≡ few_of (Overlaid which) 0 a b memory
    list_told h o =
        rw (o.counted, o.written, first_again, second_again) (value_stands _ _ _ memory _ passed (sym as_asked ∙ le-ltb _ _ h))
