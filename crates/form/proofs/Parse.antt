-- Where the form at the front of some bytes ends, or that none stands there, can be told in one pass: behind a word only one end is
-- possible.
use Rattle.std.specs.Prelude.{◌≡◌, refl, List, ℕ, zero, suc, ◌+◌, ◌≤◌, ◌<◌, length, drop, get_or, Option, Some, None}
use Rattle.std.proofs.Common.{sym, ap, ◌∙◌, arith, length-append, length-drop}
use Rattle.std.proofs.Math.Decide.{dec_lt, ℕ_discrete}
use Rattle.form.specs.Ends.{FormEnds, PairEnds, KeysEnds, Opened, opened, shifted, ends_behind, keys_form, form_keys, pair_form}
use Rattle.form.specs.Ends.{form_pair}
use Rattle.form.specs.Form.{space, closing, Form, tiles, pair}
use Rattle.form.specs.Front.{KeysFirst, PairFirst}
use Rattle.form.proofs.Keys.{KeysRead, passed_none, passed_key, keys_closed, keys_broken, keys_past, no_empty_key}
use Rattle.form.proofs.Pairs.{no_left, no_space, no_right, no_closing, a_pair}
use Rattle.form.specs.Words.{tiles_front, pair_front, word_at, key_length}
use Rattle.form.specs.declared.Verb.{Verb}
use Rattle.form.specs.declared.Word.{Word}
use Rattle.form.specs.declared.Word.TheVariants as word

module _ (bytes : List ℕ) where
  next : (n at : ℕ) → KeysRead at bytes → ((k : ℕ) → key_length (drop at bytes) ≡ Some (suc k) → (e : Option ℕ) × KeysEnds e bytes)
      → Dec (at < length bytes) → Dec (get_or bytes at 0 ≡ closing) → (l : Option ℕ) → key_length (drop at bytes) ≡ l → (e : Option ℕ) × KeysEnds e bytes
  next n at p on (no h) c l e = (None, keys_past at bytes p (omega arith))
  next n at p on (yes h) (yes c) l e = (Some (at + 1), keys_closed at bytes p c)
  next n at p on (yes h) (no d) None e = (None, keys_broken at bytes p d e)
  next n at p on (yes h) (no d) (Some zero) e = absurd (no_empty_key (drop at bytes) e)
  next n at p on (yes h) (no d) (Some (suc k)) e = on k e

  from : (n at : ℕ) → KeysRead at bytes → length bytes < at + n → (e : Option ℕ) × KeysEnds e bytes
  from zero at p h = absurd (omega (arith, h, p.within))
  from (suc n) at p h =
      next n at p (λ k e. from n (at + suc k) (passed_key at bytes p k e) (omega (arith, h))) (dec_lt at (length bytes))
      (ℕ_discrete (get_or bytes at 0) closing)
      (key_length (drop at bytes)) refl

  keys_end : (e : Option ℕ) × KeysEnds e bytes
  keys_end = from (suc (length bytes)) 0 (passed_none bytes) (omega arith)

  pair_end_of : ((l : List ℕ) → length l ≤ length bytes → (e : Option ℕ) × FormEnds e l) → (e : Option ℕ) × PairEnds e bytes
  pair_end_of forms = left (forms bytes (omega arith))
    where
      last : (n : ℕ) (f : FormEnds (Some n) bytes) (s : get_or bytes n 0 ≡ space) (m : ℕ) (g : FormEnds (Some m) (drop (n + 1) bytes))
          → Dec (get_or bytes (n + 1 + m) 0 ≡ closing) → (e : Option ℕ) × PairEnds e bytes
      last n f s m g (yes c) = (Some (n + 1 + m + 1), a_pair bytes n f s m g c)
      last n f s m g (no d) = (None, no_closing bytes n f s m g d)

      right : (n : ℕ) (f : FormEnds (Some n) bytes) (s : get_or bytes n 0 ≡ space) → (e : Option ℕ) × FormEnds e (drop (n + 1) bytes)
          → (e : Option ℕ) × PairEnds e bytes
      right n f s (Some m, g) = last n f s m g (ℕ_discrete (get_or bytes (n + 1 + m) 0) closing)
      right n f s (None, never) = (None, no_right bytes n f s never)

      middle : (n : ℕ) (f : FormEnds (Some n) bytes) → Dec (get_or bytes n 0 ≡ space) → (e : Option ℕ) × PairEnds e bytes
      middle n f (yes s) = right n f s (forms (drop (n + 1) bytes) (omega (arith, length-drop (n + 1) bytes)))
      middle n f (no d) = (None, no_space bytes n f d)

      left : (e : Option ℕ) × FormEnds e bytes → (e : Option ℕ) × PairEnds e bytes
      left (Some n, f) = middle n f (ℕ_discrete (get_or bytes n 0) space)
      left (None, never) = (None, no_left bytes never)

-- of a word at the front, where the form ends
module _ (bytes : List ℕ) where
  pub tiles_end : Opened (Some word.Tiles) bytes → (e : Option ℕ) → KeysEnds e (drop (length tiles_front) bytes)
      → FormEnds (shifted (length tiles_front) e) bytes
  tiles_end o e k =
      ends_behind (List (List ℕ)) KeysFirst tiles_front bytes o tiles (keys_form (drop (length tiles_front) bytes) bytes o)
      (λ f rest a. let b = form_keys (drop (length tiles_front) bytes) bytes o f rest a in (b.0, b.2)) e k

  pub pair_end : (verb : Verb) → Opened (Some (word.Pair verb)) bytes → (e : Option ℕ) → PairEnds e (drop (length (pair_front verb)) bytes)
      → FormEnds (shifted (length (pair_front verb)) e) bytes
  pair_end verb o e k =
      ends_behind (Form × Form) (λ p. PairFirst p.0 p.1) (pair_front verb) bytes o (λ p. pair verb p.0 p.1)
      (λ p. pair_form verb (drop (length (pair_front verb)) bytes) bytes o p.0 p.1)
      (λ f rest a. let b = form_pair verb (drop (length (pair_front verb)) bytes) bytes o f rest a in (b.0, b.2)) e k

pub form_end : (n : ℕ) (bytes : List ℕ) → length bytes < n → (e : Option ℕ) × FormEnds e bytes
form_end zero bytes h = absurd (omega arith)
form_end (suc n) bytes h = pick (word_at bytes) (opened bytes) (λ l k. form_end n l (omega (arith, k, h)))
  where
    pick : (w : Option Word) → Opened w bytes → ((l : List ℕ) → length l < length bytes → (e : Option ℕ) × FormEnds e l) → (e : Option ℕ) × FormEnds e bytes
    pick (Some word.Tiles) o forms = let k = keys_end (drop (length tiles_front) bytes) in
        (shifted (length tiles_front) k.0, tiles_end bytes o k.0 k.1)
    pick (Some (word.Pair verb)) o forms =
        let body = drop (length (pair_front verb)) bytes in
        let n = length-append (pair_front verb) body in
        let k = pair_end_of body (λ l m. forms l (omega (arith, m, ap length (sym o) ∙ n))) in
        (shifted (length (pair_front verb)) k.0, pair_end bytes verb o k.0 k.1)
    pick None o forms = (None, o)
