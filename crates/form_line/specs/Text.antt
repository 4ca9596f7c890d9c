-- The printed parts of an answer: what they are for each entry, and how long.
use Rattle.std.specs.Prelude.{◌≡◌, refl, true, List, [], ◌∷◌, ◌++◌, map, ℕ, zero, suc, ◌+◌, ◌*◌, ◌/◌, ◌%◌, ◌≤◌, ◌<◌, length, take, drop, get_or, set, Result, Ok, Err}
use Rattle.std.proofs.Common.{sym, ap, ◌∙◌, append_assoc, append-nil, add-one, arith, length-append, take-append-drop, take-suc, eqb-true}
use Rattle.std.proofs.lemmas.List.{map-append}
use Rattle.bits.specs.Tests.{all_of, all_at, and_parts}
use Rattle.constants.specs.Limits.{max_zoom_small, form_places}
use Rattle.errors.specs.Laws.{answer_found, answer_refused, never_zero}
use Rattle.errors.specs.declared.Refusal.{Refusal}
use Rattle.form.specs.Form.{space, opening, closing, spaced}
use Rattle.form_line.specs.Decimal.{decimal, decimal_digit, decimal_more}
use Rattle.form_line.specs.Few.{Fits, IsEntry}
use Rattle.form_line.specs.Line.{key_shown, entry_shown, keys_text, list_text, refusal_text}
use Rattle.form_line.specs.Stores.{Stored, stored_behind, stored_same}
use Rattle.ids.specs.Entry.{entry_tile, entry_refusal, entry_tile_of, is_entry}
use Rattle.ids.proofs.EntryLemmas.{accepted_entry}
use Rattle.quadkey.specs.Key.{key_from, key_of}
use Rattle.quadkey.specs.Spelling.{key_length_lem}
use Rattle.tile.specs.OnMap.{no_tile_of, tile_case}
use Rattle.tile.specs.declared.Tile.{Tile}

-- what the tile of an entry is found to be; and it is found
pub entry_found : {r : Result Tile Refusal} {t : Tile} (n : ℕ) → tile_case r ≡ entry_tile_of n → r ≡ Ok t → t ≡ entry_tile n
entry_found {r} {t} n e p = (answer_found (entry_refusal n) no_tile_of (entry_tile n) t (sym (ap tile_case p) ∙ e)).1

pub entry_not_refused : {r : Result Tile Refusal} {why : Refusal} (n : ℕ) → IsEntry n → tile_case r ≡ entry_tile_of n → r ≡ Err why → ⊥
entry_not_refused {r} {why} n i e p =
    never_zero why (sym (answer_refused why (entry_refusal n) no_tile_of (entry_tile n) (sym (ap tile_case p) ∙ e)) ∙ i)

shown_long : (key : List ℕ) → 0 < length key → key_shown key ≡ key
shown_long [] h = absurd (omega arith)
shown_long (b ∷ bs) h = refl

-- the key of a tile: `-` at zoom 0
pub root_shown : (x y z : ℕ) → z ≡ 0 → key_shown (key_of x y z) ≡ 45 ∷ []
unfolding key_from
root_shown x y z e = rw e

pub key_shown_lem : (x y z : ℕ) → 0 < z → key_shown (key_of x y z) ≡ key_of x y z
key_shown_lem x y z h = shown_long (key_of x y z) (rw key_length_lem h)

pub shown_length : (x y z : ℕ) → 0 < z → length (key_shown (key_of x y z)) ≡ z
shown_length x y z h = ap length (key_shown_lem x y z h) ∙ key_length_lem 48 x y z

-- the key of an entry is that of the tile that was found
pub entry_shown_lem : (n : ℕ) (t : Tile) → t ≡ entry_tile n → entry_shown n ≡ key_shown (key_of t.x t.y t.z)
unfolding entry_shown
entry_shown_lem n t e = rw e

pub shown_short : (n : ℕ) → IsEntry n → length (entry_shown n) ≤ 30
unfolding entry_shown
shown_short n i = short (entry_tile n).x (entry_tile n).y (entry_tile n).z (omega (arith, (accepted_entry n i).zoom, max_zoom_small))
  where
    short : (x y z : ℕ) → z ≤ 30 → length (key_shown (key_of x y z)) ≤ 30
    short x y zero h = omega (arith, ap length (root_shown x y 0 refl))
    short x y (suc z) h = omega (arith, shown_length x y (suc z) (omega arith))

pub fits_entry : (list : List ℕ) (i : ℕ) → Fits list → i < length list → IsEntry (get_or list i 0)
fits_entry list i f h = eqb-true _ _ (all_at is_entry list i f.entries h)

spaced_append : (a b : List (List ℕ)) → spaced (a ++ b) ≡ spaced a ++ spaced b
unfolding spaced
spaced_append [] b = refl
spaced_append (key ∷ a) b = ap (λ (l : List ℕ). space ∷ l) (rw (spaced_append a b) (sym (append_assoc key (spaced a) (spaced b))))

keys_append : (a b : List ℕ) → keys_text (a ++ b) ≡ keys_text a ++ keys_text b
keys_append a b = ap spaced (map-append entry_shown a b) ∙ spaced_append (map entry_shown a) (map entry_shown b)

-- one key more
pub keys_more : (list : List ℕ) (i : ℕ) → i < length list
    → keys_text (take (i + 1) list) ≡ (keys_text (take i list) ++ (space ∷ [])) ++ entry_shown (get_or list i 0)
unfolding spaced
keys_more list i h =
    rw (add-one i, take-suc list i 0 h, keys_append (take i list) (get_or list i 0 ∷ []), append-nil (entry_shown (get_or list i 0)))
    (sym (append_assoc (keys_text (take i list)) (space ∷ []) (entry_shown (get_or list i 0))))

pub keys_length_more : (list : List ℕ) (i : ℕ) → i < length list
    → length (keys_text (take (i + 1) list)) ≡ length (keys_text (take i list)) + (1 + length (entry_shown (get_or list i 0)))
keys_length_more list i h =
    let g = ap length (keys_more list i h) in
    omega (
      arith,
      g,
      length-append (keys_text (take i list) ++ (space ∷ [])) (entry_shown (get_or list i 0)),
      length-append (keys_text (take i list)) (space ∷ []),
    )

-- the first keys, and one more, are no longer than all
pub keys_within : (list : List ℕ) (i : ℕ) → i < length list
    → length (keys_text (take i list)) + (1 + length (entry_shown (get_or list i 0))) ≤ length (keys_text list)
keys_within list i h =
    let e = ap (λ (l : List ℕ). length (keys_text l)) (take-append-drop (i + 1) list) in
    let f = ap length (keys_append (take (i + 1) list) (drop (i + 1) list)) in
    omega (arith, e, f, keys_length_more list i h, length-append (keys_text (take (i + 1) list)) (keys_text (drop (i + 1) list)))

keys_bound : (list : List ℕ) → all_of is_entry list ≡ true → length (keys_text list) ≤ length list * 31
unfolding spaced all_of
keys_bound [] e = omega arith
keys_bound (n ∷ list) e =
    let k = and_parts (is_entry n) (all_of is_entry list) e in
    omega (arith, keys_bound list k.1, shown_short n (eqb-true _ _ k.0), length-append (entry_shown n) (keys_text list))

pub keys_short : (list : List ℕ) → Fits list → length (keys_text list) ≤ form_places * 31
unfolding form_places
keys_short list f = omega (arith, keys_bound list f.entries, f.few)

-- a digit behind those of a tenth
pub digit_stored : {n at mid end d : ℕ} {before between after : List ℕ} → 10 ≤ n → d ≡ 48 + n % 10
    → Stored (decimal (n / 10)) at mid before between
    → Stored (d ∷ []) mid end between after
    → Stored (decimal n) at end before after
digit_stored {n} h e s t = stored_same (ap (λ (d : ℕ). decimal (n / 10) ++ (d ∷ [])) e ∙ sym (decimal_more n h)) (stored_behind s t)

pub first_stored : {n at end d : ℕ} {before after : List ℕ} → n < 10 → d ≡ 48 + n → Stored (d ∷ []) at end before after
    → Stored (decimal n) at end before after
first_stored {n} h e s = stored_same (ap (λ (d : ℕ). d ∷ []) e ∙ sym (decimal_digit n h)) s

-- a space and a key behind the keys before it
pub key_stored : (list : List ℕ) (i : ℕ) {at mid from end : ℕ} {before between behind after : List ℕ} → i < length list
    → Stored (keys_text (take i list)) at mid before between
    → Stored (space ∷ []) mid from between behind
    → Stored (entry_shown (get_or list i 0)) from end behind after
    → Stored (keys_text (take (i + 1) list)) at end before after
key_stored list i h s t u = stored_same (sym (keys_more list i h)) (stored_behind (stored_behind s t) u)

-- the whole answers, and how long they are
pub refusal_length : (n : ℕ) → length (refusal_text n) ≡ 9 + length (decimal n) + 1
refusal_length n = omega (arith, length-append (decimal n) (closing ∷ []))

pub list_text_lem : (list : List ℕ) → (((opening ∷ []) ++ decimal (length list)) ++ keys_text list) ++ (closing ∷ []) ≡ list_text list
list_text_lem list = ap (λ (l : List ℕ). opening ∷ l) (append_assoc (decimal (length list)) (keys_text list) (closing ∷ []))

pub list_length : (list : List ℕ) → length (list_text list) ≡ 2 + length (decimal (length list)) + length (keys_text list)
list_length list =
    let counted = (opening ∷ []) ++ decimal (length list) in
    omega (
      arith,
      ap length (list_text_lem list),
      length-append (counted ++ keys_text list) (closing ∷ []),
      length-append counted (keys_text list),
    )

pub few_digits : (list : List ℕ) → Fits list → length list < 1000
unfolding form_places
few_digits list f = omega (arith, f.few)
