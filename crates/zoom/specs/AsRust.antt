-- The Rust's own way through bits and lists leads to document 01's sets and lists.
use Rattle.std.specs.Prelude.{◌≡◌, refl, Bool, true, false, cond, ◌&&◌, ◌||◌, ℕ, zero, suc, ◌-◌, ◌/◌, ◌≤◌, ◌<◌, eqb, ltb, leb}
use Rattle.std.proofs.Common.{sym, ap, ◌∙◌, arith, lt-ltb, le-ltb, ltb-false, eq-eqb, ne_eqb}
use Rattle.std.proofs.Math.Bool.{and-false, or_assoc, or-false}
use mathlib.Core.List.{List, [], ◌∷◌, ◌++◌, Memᴰ}
use Rattle.std.proofs.Math.Decide.{dec_lt, ℕ_discrete}
use Rattle.std.proofs.lemmas.Bool.{lt-leb}
use Rattle.bits.specs.Powers.{pow_within}
use Rattle.zoom_bits.specs.Bits.{has_bit, those, set_of, between, from_to, last_zoom, turn_bit, down_from, zooms_in, any_deeper, set_of_zooms}
use Rattle.zoom_bits.specs.Bitwise.{bit_past, bit_half}
use Rattle.zoom_bits.specs.Listed.{or_none}
use Rattle.zoom_bits.specs.Masks.{masked, masked_is}
use Rattle.zoom_bits.specs.Passing.{those_same}
use Rattle.zoom_bits.specs.Sets.{set_below, set_with, set_same, set_none, bit_of_set}
use Rattle.zoom.specs.Listing.{listed_those}
use Rattle.zoom.specs.Lists.{zooms_turned, zooms_straight}
use Rattle.zoom.specs.Rust.{range, filter, reverse_bits, zset2zvec, zset2zvec_rev, fold, zvec2zset, zvec2zset_rev}
use Rattle.zoom.specs.Zooms.{zooms_of, zooms_of_rev, set_of_zooms_rev}

-- ---- filters

filter_append : (test : ℕ → Bool) (l m : List ℕ) → filter test (l ++ m) ≡ filter test l ++ filter test m
unfolding filter
filter_append test [] m = refl
filter_append test (a ∷ l) m = rw (filter_append test l m) (pick (test a))
  where
    pick : (b : Bool) → cond b (a ∷ (filter test l ++ filter test m)) (filter test l ++ filter test m)
        ≡ cond b (a ∷ filter test l) (filter test l) ++ filter test m
    pick true = refl
    pick false = refl

pub filter_range : (test : ℕ → Bool) (n : ℕ) → filter test (range n) ≡ those test n
unfolding filter range those
filter_range test zero = refl
filter_range test (suc n) =
    filter_append test (range n) (n ∷ []) ∙ ap (λ (l : List ℕ). l ++ cond (test n) (n ∷ []) []) (filter_range test n)

-- ---- the zooms of a set

-- the 32 bits turned round and shifted down are the 31 below the turn bit, turned round
turned_bit : (zset i : ℕ) → i ≤ last_zoom → has_bit (reverse_bits zset / 2) i ≡ down_from last_zoom zset i
turned_bit zset i h =
    let e : 31 - suc i ≡ 30 - i = omega arith in
    bit_half (reverse_bits zset) i ∙ (bit_of_set (λ k. has_bit zset (31 - k)) 32 (suc i) (omega arith) ∙ ap (has_bit zset) e)

turned_unmarked : (zset : ℕ) → has_bit (reverse_bits zset / 2) turn_bit ≡ false
turned_unmarked zset =
    bit_past (reverse_bits zset / 2) turn_bit turn_bit (omega (arith, set_below (λ k. has_bit zset (31 - k)) 32)) (omega arith)

straight : (calls zset : ℕ) → has_bit zset turn_bit ≡ false → zset2zvec (suc calls) zset ≡ those (has_bit zset) (suc last_zoom)
unfolding zset2zvec
straight calls zset e =
    rw (masked_is zset 31 (omega arith), e)
    (filter_range (masked zset) 31 ∙ those_same (masked zset) (has_bit zset) 31 (λ i l. masked_is zset i (omega arith)))

pub turned_zooms : (calls zset : ℕ) → zset2zvec_rev (suc calls) zset ≡ zooms_of_rev zset
turned_zooms calls zset =
    straight calls (reverse_bits zset / 2) (turned_unmarked zset)
    ∙ those_same (has_bit (reverse_bits zset / 2)) (down_from last_zoom zset) (suc last_zoom) (λ i l. turned_bit zset i (omega arith))

pub zooms_as_rust : (calls zset : ℕ) → zset2zvec (suc (suc calls)) zset ≡ zooms_of zset
unfolding zset2zvec
zooms_as_rust calls zset = pick (has_bit zset turn_bit) refl
  where
    pick : (b : Bool) → has_bit zset turn_bit ≡ b → zset2zvec (suc (suc calls)) zset ≡ zooms_of zset
    pick true e = rw (masked_is zset 31 (omega arith), e) (turned_zooms calls zset ∙ sym (zooms_turned zset e))
    pick false e = straight (suc calls) zset e ∙ sym (zooms_straight zset e)

-- ---- the set of a list

pub none_too_deep : (l : List ℕ) → ((z : ℕ) → Memᴰ z l → z ≤ 30) → any_deeper l ≡ false
unfolding any_deeper
none_too_deep [] h = refl
none_too_deep (z ∷ l) h = rw (le-ltb last_zoom z (h z (Memᴰ.head refl)), none_too_deep l (λ a m. h a (Memᴰ.tail m)))

-- whether a zoom of the list has bit i
hit : (ℕ → ℕ) → List ℕ → ℕ → Bool
hit place [] i = false
hit place (z ∷ l) i = eqb i (place z) || hit place l i

fold_hits : (place : ℕ → ℕ) (n : ℕ) → n ≤ 32 → ((z : ℕ) → z ≤ last_zoom → place z < n) → (l : List ℕ) → any_deeper l ≡ false
    → (has : ℕ → Bool)
    → fold place (set_of has n) l ≡ set_of (λ i. has i || hit place l i) n
unfolding fold hit any_deeper
fold_hits place n w room [] e has = set_same has (λ i. has i || false) n (λ i l. sym (or-false (has i)))
fold_hits place n w room (z ∷ l) e has =
    let d = or_none (ltb last_zoom z) (any_deeper l) e in
    let h = room z (ltb-false last_zoom z d.0) in
    rw (pow_within (place z) 32 (omega arith), set_with has (place z) n h)
    (fold_hits place n w room l d.1 (λ i. has i || eqb i (place z))
    ∙ set_same (λ i. (has i || eqb i (place z)) || hit place l i) (λ i. has i || (eqb i (place z) || hit place l i)) n
    (λ i k. or_assoc (has i) (eqb i (place z)) (hit place l i)))

fold_from_none : (place : ℕ → ℕ) (n : ℕ) → n ≤ 32 → ((z : ℕ) → z ≤ last_zoom → place z < n) → (l : List ℕ) → any_deeper l ≡ false
    → fold place 0 l ≡ set_of (hit place l) n
fold_from_none place n w room l e =
    ap (λ (acc : ℕ). fold place acc l) (sym (set_none (λ i. false) n (λ i k. refl))) ∙ fold_hits place n w room l e (λ i. false)

hit_listed : (l : List ℕ) (i : ℕ) → hit (λ z. z) l i ≡ zooms_in l i
unfolding hit zooms_in
hit_listed [] i = refl
hit_listed (z ∷ l) i = rw (hit_listed l i)

pub set_as_rust : (zvec : List ℕ) → any_deeper zvec ≡ false → zvec2zset zvec ≡ set_of_zooms zvec
set_as_rust zvec e =
    fold_from_none (λ z. z) (suc last_zoom) (omega arith) (λ z h. omega arith) zvec e
    ∙ set_same (hit (λ z. z) zvec) (zooms_in zvec) (suc last_zoom) (λ i k. hit_listed zvec i)

-- i is 31 - z just if 31 - i is z
pub mirror : (i z : ℕ) → i ≤ turn_bit → z ≤ turn_bit → eqb i (31 - z) ≡ eqb (31 - i) z
mirror i z h k = pick (ℕ_discrete i (31 - z))
  where
    pick : Dec (i ≡ 31 - z) → eqb i (31 - z) ≡ eqb (31 - i) z
    pick (yes e) = eq-eqb i (31 - z) e ∙ sym (eq-eqb (31 - i) z (omega arith))
    pick (no e) = ne_eqb i (31 - z) e ∙ sym (ne_eqb (31 - i) z (λ d. e (omega arith)))

hit_mirrored : (l : List ℕ) (i : ℕ) → any_deeper l ≡ false → i ≤ turn_bit → hit (λ z. 31 - z) l i ≡ zooms_in l (turn_bit - i)
unfolding hit zooms_in any_deeper
hit_mirrored [] i e h = refl
hit_mirrored (z ∷ l) i e h =
    let d = or_none (ltb last_zoom z) (any_deeper l) e in
    rw (hit_mirrored l i d.1 h, mirror i z h (omega (arith, ltb-false last_zoom z d.0)))

pub set_rev_as_rust : (zvec : List ℕ) → any_deeper zvec ≡ false → zvec2zset_rev zvec ≡ set_of_zooms_rev zvec
set_rev_as_rust zvec e =
    fold_from_none (λ z. 31 - z) (suc turn_bit) (omega arith) (λ z h. omega arith) zvec e
    ∙ set_same (hit (λ z. 31 - z) zvec) (λ i. zooms_in zvec (turn_bit - i)) (suc turn_bit) (λ i k. hit_mirrored zvec i e (omega arith))

-- ---- the set of a range

deeper_append : (l m : List ℕ) → any_deeper (l ++ m) ≡ any_deeper l || any_deeper m
unfolding any_deeper
deeper_append [] m = refl
deeper_append (a ∷ l) m = rw (deeper_append l m) (sym (or_assoc (ltb last_zoom a) (any_deeper l) (any_deeper m)))

those_shallow : (has : ℕ → Bool) (n : ℕ) → n ≤ suc last_zoom → any_deeper (those has n) ≡ false
unfolding those any_deeper
those_shallow has zero h = refl
those_shallow has (suc n) h =
    deeper_append (those has n) (cond (has n) (n ∷ []) []) ∙ (rw (those_shallow has n (omega arith)) (pick (has n)))
  where
    pick : (b : Bool) → any_deeper (cond b (n ∷ []) []) ≡ false
    pick true = rw (le-ltb last_zoom n (omega arith))
    pick false = refl

pub range_as_rust : (low high : ℕ) → high ≤ last_zoom → zvec2zset (from_to low high) ≡ set_of (between low high) (suc last_zoom)
unfolding from_to
range_as_rust low high h =
    set_as_rust (from_to low high) (those_shallow (between low high) (suc high) (omega arith))
    ∙ set_same (zooms_in (from_to low high)) (between low high) (suc last_zoom)
    (λ i l. listed_those (between low high) (suc high) i ∙ pick i (dec_lt high i))
  where
    pick : (i : ℕ) → Dec (high < i) → (ltb i (suc high) && between low high i) ≡ between low high i
    pick i (yes g) = rw (le-ltb i (suc high) (omega arith), lt-leb i high g) (sym (and-false (leb low i)))
    pick i (no g) = rw (lt-ltb i (suc high) (omega arith))
