-- The keys of `tiles`, one after the other: where they end, and how many bytes the next one takes.
use Rattle.std.specs.Prelude.{◌≡◌, refl, Bool, true, false, cond, ℕ, zero, suc, ◌+◌, ◌≤◌, ◌<◌, eqb, length, take, drop, get_or, Some, None}
use Rattle.std.proofs.Math.Path.{sym, ap}
use Rattle.std.proofs.Common.{◌∙◌, true≢false, arith, length-drop, take-append-drop, drop_of_length-le, drop-drop, length-take-le, eqb-true}
use mathlib.Core.List.{List, [], ◌∷◌, ◌++◌, append_assoc, head-eq_of_cons-eq, tail-eq_of_cons-eq, cons≢nil}
use Rattle.bits.specs.Tests.{and_parts, all_of}
use Rattle.form.specs.Ends.{KeysEnds, byte_there, byte_split, split_byte}
use Rattle.form.specs.Form.{space, closing, is_key_byte, is_run, all_runs, spaced}
use Rattle.form.specs.Front.{KeysFirst, Ended}
use Rattle.form.specs.Once.{one_run, run_bytes}
use Rattle.form.proofs.OnceLemmas.{keys_ended}
use Rattle.form.specs.Words.{run_length_of, behind_space, key_length}

-- the run at the front: its bytes, its length, and what stands behind it
pub run_at_front : (l : List ℕ) → all_of is_key_byte (take (run_length_of l) l) ≡ true
unfolding run_length_of all_of
run_at_front [] = refl
run_at_front (b ∷ l) = pick (is_key_byte b) refl (run_at_front l)
  where
    pick : (t : Bool) → is_key_byte b ≡ t → all_of is_key_byte (take (run_length_of l) l) ≡ true
        → all_of is_key_byte (take (cond t (suc (run_length_of l)) 0) (b ∷ l)) ≡ true
    pick true e below = rw e below
    pick false e below = refl

pub run_ended : (l : List ℕ) → Ended (drop (run_length_of l) l)
unfolding run_length_of
run_ended [] = tt
run_ended (b ∷ l) = pick (is_key_byte b) refl (run_ended l)
  where
    pick : (t : Bool) → is_key_byte b ≡ t → Ended (drop (run_length_of l) l) → Ended (drop (cond t (suc (run_length_of l)) 0) (b ∷ l))
    pick true e below = below
    pick false e below = e

pub run_within : (l : List ℕ) → run_length_of l ≤ length l
unfolding run_length_of
run_within [] = omega arith
run_within (b ∷ l) = pick (is_key_byte b) (run_within l)
  where
    pick : (t : Bool) → run_length_of l ≤ length l → cond t (suc (run_length_of l)) 0 ≤ suc (length l)
    pick true below = omega (arith, below)
    pick false below = omega arith

-- a run that another byte ends is the run at the front
pub run_length : (key rest : List ℕ) → is_run key ≡ true → Ended rest → run_length_of (key ++ rest) ≡ length key
run_length key rest k e =
    let l = key ++ rest in
    let n = run_length_of l in
    let h = one_run key (take n l) rest (drop n l) (run_bytes key k) (run_at_front l) e (run_ended l) (sym (take-append-drop n l)) in
    sym (ap length h.0 ∙ length-take-le n l (run_within l))

-- a space and a key at the front, the rest of the bytes behind them
pub record KeyFirst (key rest bytes : List ℕ) : Type 0 where
  pub run : is_run key ≡ true
  pub ended : Ended rest
  pub spelled : space ∷ (key ++ rest) ≡ bytes

long_run : (l : List ℕ) → 0 < length l → all_of is_key_byte l ≡ true → is_run l ≡ true
unfolding is_run all_of
long_run [] h e = absurd (omega arith)
long_run (b ∷ l) h e = e

some_same : (m n : ℕ) → Some m ≡ Some n → m ≡ n
some_same m n e = cc

behind_space_lem : (m n : ℕ) → behind_space m ≡ Some (suc n) → (m ≡ n) × (0 < m)
behind_space_lem zero n e = cc
behind_space_lem (suc m) n e = let k = some_same _ _ e in (omega (arith, k), omega arith)

pub key_first : (bytes : List ℕ) (n : ℕ) → key_length bytes ≡ Some (suc n) → KeyFirst (take n (drop 1 bytes)) (drop (suc n) bytes) bytes
unfolding key_length
key_first [] n e = cc
key_first (b ∷ bs) n e = pick (eqb b space) refl e
  where
    pick : (t : Bool) → eqb b space ≡ t → cond t (behind_space (run_length_of bs)) None ≡ Some (suc n) → KeyFirst (take n bs) (drop n bs) (b ∷ bs)
    pick true f g =
        let h = behind_space_lem (run_length_of bs) n g in
        let k = run_within bs in
        record {
          run = rw (← h.0) (long_run (take (run_length_of bs) bs) (omega (arith, h.1, length-take-le (run_length_of bs) bs k)) (run_at_front bs));
          ended = rw (← h.0) (run_ended bs);
          spelled = rw (eqb-true b space f, take-append-drop n bs);
        }
    pick false f g = cc

pub first_key : (key rest bytes : List ℕ) → KeyFirst key rest bytes → key_length bytes ≡ Some (suc (length key))
unfolding key_length is_run
first_key [] rest bytes k = absurd (true≢false (sym k.run))
first_key (b ∷ key) rest bytes k = rw (← k.spelled, run_length (b ∷ key) rest k.run k.ended)

-- the first of several keys
pub keys_first_key : (key : List ℕ) (keys : List (List ℕ)) (rest bytes : List ℕ) → KeysFirst (key ∷ keys) rest bytes
    → KeyFirst key (spaced keys ++ closing ∷ rest) bytes
unfolding all_runs spaced
keys_first_key key keys rest bytes a = record {
  run = (and_parts (is_run key) (all_runs keys) a.runs).0;
  ended = keys_ended keys rest;
  spelled = ap (λ (l : List ℕ). space ∷ l) (sym (append_assoc key (spaced keys) (closing ∷ rest))) ∙ a.spelled;
}

pub one_key : (key other r s bytes : List ℕ) → KeyFirst key r bytes → KeyFirst other s bytes → (key ≡ other) × (r ≡ s)
one_key key other r s bytes a b =
    one_run key other r s (run_bytes key a.run) (run_bytes other b.run) a.ended b.ended
    (tail-eq_of_cons-eq (a.spelled ∙ sym b.spelled))

module _ (key rest bytes : List ℕ) (k : KeyFirst key rest bytes) where
  pub one_more_key : (keys : List (List ℕ)) (end : List ℕ) → KeysFirst keys end rest → KeysFirst (key ∷ keys) end bytes
  unfolding all_runs spaced
  one_more_key keys end a = record {
    runs = rw k.run a.runs;
    spelled = ap (λ (l : List ℕ). space ∷ l) (append_assoc key (spaced keys) (closing ∷ end) ∙ ap (λ (l : List ℕ). key ++ l) a.spelled)
        ∙ k.spelled;
  }

  pub one_key_less : (keys : List (List ℕ)) (end : List ℕ) → KeysFirst keys end bytes
      → (others : List (List ℕ)) × (keys ≡ key ∷ others) × KeysFirst others end rest
  unfolding all_runs spaced
  one_key_less [] end a = absurd (32-not-41 (head-eq_of_cons-eq (k.spelled ∙ sym a.spelled)))
    where
      32-not-41 : space ≡ closing → ⊥
      32-not-41 e = omega (arith, e)
  one_key_less (j ∷ keys) end a =
      let h = one_key j key (spaced keys ++ closing ∷ end) rest bytes (keys_first_key j keys end bytes a) k in (
        keys,
        ap (λ (l : List ℕ). l ∷ keys) h.0,
        record {
          runs = (and_parts (is_run j) (all_runs keys) a.runs).1;
          spelled = h.1;
        },
      )

pub no_more_keys : (rest bytes : List ℕ) → closing ∷ rest ≡ bytes → KeysFirst [] rest bytes
unfolding all_runs spaced
no_more_keys rest bytes e = record { runs = refl; spelled = e }

pub only_closing : (rest bytes : List ℕ) → KeysFirst [] rest bytes → closing ∷ rest ≡ bytes
unfolding spaced
only_closing rest bytes a = a.spelled

keys_not_empty : (keys : List (List ℕ)) (rest : List ℕ) → KeysFirst keys rest [] → ⊥
unfolding spaced
keys_not_empty [] rest a = cons≢nil a.spelled
keys_not_empty (key ∷ keys) rest a = cons≢nil a.spelled

-- how far the keys have been read: the bytes hold keys just where what is left of them does
pub record KeysRead (at : ℕ) (bytes : List ℕ) : Type 0 where
  pub within : at ≤ length bytes
  pub forth : (keys : List (List ℕ)) (rest : List ℕ) → KeysFirst keys rest (drop at bytes)
      → (all : List (List ℕ)) × KeysFirst all rest bytes
  pub back : (all : List (List ℕ)) (rest : List ℕ) → KeysFirst all rest bytes → (keys : List (List ℕ)) × KeysFirst keys rest (drop at bytes)

pub passed_none : (bytes : List ℕ) → KeysRead 0 bytes
passed_none bytes = record { within = omega arith; forth = λ keys rest a. (keys, a); back = λ keys rest a. (keys, a) }

pub no_empty_key : (bytes : List ℕ) → key_length bytes ≡ Some 0 → ⊥
unfolding key_length
no_empty_key [] e = cc
no_empty_key (b ∷ bs) e = pick (eqb b space) (run_length_of bs) e
  where
    pick : (t : Bool) (n : ℕ) → cond t (behind_space n) None ≡ Some 0 → ⊥
    pick true zero e = cc
    pick true (suc n) e = let k = some_same _ _ e in omega (arith, k)
    pick false n e = cc

pub some_key_taken : (bytes : List ℕ) (n : ℕ) → key_length bytes ≡ Some n → 0 < n
some_key_taken bytes zero e = absurd (no_empty_key bytes e)
some_key_taken bytes (suc n) e = omega arith

pub key_within : (bytes : List ℕ) (k : ℕ) → key_length bytes ≡ Some k → k ≤ length bytes
unfolding key_length
key_within [] k e = cc
key_within (b ∷ bs) k e = pick (eqb b space) (run_length_of bs) (run_within bs) e
  where
    pick : (t : Bool) (n : ℕ) → n ≤ length bs → cond t (behind_space n) None ≡ Some k → k ≤ suc (length bs)
    pick true zero h e = cc
    pick true (suc n) h e = let f = some_same _ _ e in omega (arith, h, f)
    pick false n h e = cc

module _ (at : ℕ) (bytes : List ℕ) (p : KeysRead at bytes) where
  pub passed_key : (n : ℕ) → key_length (drop at bytes) ≡ Some (suc n) → KeysRead (at + suc n) bytes
  passed_key n e =
      let k = key_first (drop at bytes) n e in
      let f : drop (suc n) (drop at bytes) ≡ drop (at + suc n) bytes = drop-drop (suc n) at bytes in
      record {
        within = omega (arith, key_within (drop at bytes) (suc n) e, length-drop at bytes, p.within);
        forth = λ keys rest a. p.forth (take n (drop 1 (drop at bytes)) ∷ keys) rest (one_more_key _ _ _ k keys rest (rw f a));
        back = λ all rest a. let b = p.back all rest a in let c = one_key_less _ _ _ k b.0 rest b.1 in (c.0, rw (← f) c.2);
      }

  pub passed_some : (n : ℕ) → key_length (drop at bytes) ≡ Some n → KeysRead (at + n) bytes
  passed_some zero e = absurd (no_empty_key (drop at bytes) e)
  passed_some (suc n) e = passed_key n e

  pub keys_closed : get_or bytes at 0 ≡ closing → KeysEnds (Some (at + 1)) bytes
  keys_closed e = (
    omega (arith, byte_there bytes at closing e (λ z. omega (arith, z))),
    p.forth [] (drop (at + 1) bytes)
        (no_more_keys (drop (at + 1) bytes) (drop at bytes) (sym (byte_split bytes at closing e (λ z. omega (arith, z))))),
  )

  pub keys_broken : (get_or bytes at 0 ≡ closing → ⊥) → key_length (drop at bytes) ≡ None → KeysEnds None bytes
  keys_broken d e all rest a = let b = p.back all rest a in go b.0 b.1
    where
      go : (keys : List (List ℕ)) → KeysFirst keys rest (drop at bytes) → ⊥
      go [] c = d (split_byte bytes at closing rest (sym (only_closing rest (drop at bytes) c)))
      go (key ∷ keys) c =
          let f = first_key key (spaced keys ++ closing ∷ rest) (drop at bytes) (keys_first_key key keys rest (drop at bytes) c) in cc

  pub keys_past : length bytes ≤ at → KeysEnds None bytes
  keys_past h all rest a = let b = p.back all rest a in keys_not_empty b.0 rest (rw (drop_of_length-le bytes h) at b.1)
