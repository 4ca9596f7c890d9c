-- Laws of joined tests, over the tests. `T t` says that the test t is true.
use Rattle.std.specs.Prelude.{◌≡◌, refl, Bool, true, false, not, ◌&&◌, ◌||◌, cond, T}
use Rattle.std.proofs.Math.Bool.{and_assoc, and_comm}
use Rattle.std.specs.Float.Ieee.Fits.{and_i}

-- ---- the same tests in another order

pub backward : (n s e w : Bool) → n && s && e && w ≡ (w && e) && (s && n)
backward n s e w = rw (and_comm (n && s && e) w, and_comm (n && s) e, and_comm n s, and_assoc w e (s && n))

pub point_tests : (c w e s n : Bool) → cond c ((w || e) && s && n) (w && e && s && n) ≡ cond c (w || e) (w && e) && (s && n)
point_tests true w e s n = and_assoc (w || e) s n
point_tests false w e s n = and_assoc (w && e) s n

pub box_tests : (p q w e s n : Bool)
    → cond p (cond q (cond (w && e) (s && n) false) (cond (w || e) (s && n) false)) (n && s && e && w)
    ≡ cond (p && not q) (w || e) (w && e) && (s && n)
box_tests true true true true s n = refl
box_tests true true true false s n = refl
box_tests true true false e s n = refl
box_tests true false true e s n = refl
box_tests true false false true s n = refl
box_tests true false false false s n = refl
box_tests false q w e s n = backward n s e w

pub pairs_swap : (a b c d : Bool) → (a && b) && (c && d) ≡ (b && a) && (d && c)
pairs_swap a b c d = rw (and_comm a b, and_comm c d)

-- w and e, asked one of each part, with what is asked of both
pub in_halves : (w e l : Bool) → (w && true) && l || ((e && l) || false) ≡ (w || e) && l
in_halves true true true = refl
in_halves true true false = refl
in_halves true false true = refl
in_halves true false false = refl
in_halves false true true = refl
in_halves false true false = refl
in_halves false false l = refl

-- ---- what follows from joined tests

pub or_left : (p q : Bool) → T p → T (p || q)
or_left true q h = tt
or_left false q h = elim h [ ]

pub or_right : (p q : Bool) → T q → T (p || q)
or_right true q h = tt
or_right false q h = h

pub neither : (p q : Bool) → T (not p) → T (not q) → T (not (p || q))
neither false false h k = tt
neither false true h k = elim k [ ]
neither true q h k = elim h [ ]

pub none_of_four : (a b c d : Bool) → T (not a) → T (not b) → T (not c) → T (not d) → T (not (a || b || c || d))
none_of_four false false false false f g h k = tt
none_of_four false false false true f g h k = elim k [ ]
none_of_four false false true d f g h k = elim h [ ]
none_of_four false true c d f g h k = elim g [ ]
none_of_four true b c d f g h k = elim f [ ]

-- where q rules p out, p rules q out
pub rules_out : (p q : Bool) → (T q → T (not p)) → T p → T (not q)
rules_out true true f h = f tt
rules_out p false f h = tt
rules_out false true f h = elim h [ ]

pub all_four : {A : Type 0} (w e s n : Bool) → (T w → T e → T s → T n → A) → T ((w && e) && (s && n)) → A
all_four true true true true f h = f tt tt tt tt
all_four {A = A} false e s n f h = elim h [ ]
all_four {A = A} true false s n f h = elim h [ ]
all_four {A = A} true true false n f h = elim h [ ]
all_four {A = A} true true true false f h = elim h [ ]

-- a point is in a box, or a box in another: what is known of the longitudes' tests, and of the latitudes'
pub in_box_lem : {A : Type 0} (c w e s n : Bool) → (T c → T w → T s → T n → A) → (T c → T e → T s → T n → A) → (T w → T e → T s → T n → A)
    → T (cond c (w || e) (w && e) && (s && n)) → A
in_box_lem true true e true true f g k h = f tt tt tt tt
in_box_lem true false true true true f g k h = g tt tt tt tt
in_box_lem false true true true true f g k h = k tt tt tt tt
in_box_lem {A = A} false false e s n f g k h = elim h [ ]
in_box_lem {A = A} false true false s n f g k h = elim h [ ]
in_box_lem {A = A} false true true false n f g k h = elim h [ ]
in_box_lem {A = A} false true true true false f g k h = elim h [ ]
in_box_lem {A = A} true false false s n f g k h = elim h [ ]
in_box_lem {A = A} true false true false n f g k h = elim h [ ]
in_box_lem {A = A} true false true true false f g k h = elim h [ ]
in_box_lem {A = A} true true e false n f g k h = elim h [ ]
in_box_lem {A = A} true true e true false f g k h = elim h [ ]

-- the same where the box does not cross
pub in_upright : (c w e s n : Bool) → T (not c) → T w → T e → T s → T n → T (cond c (w || e) (w && e) && (s && n))
in_upright false true true true true c w e s n = tt
in_upright false false _ _ _ c w e s n = elim w [ ]
in_upright false true false _ _ c w e s n = elim e [ ]
in_upright false true true false _ c w e s n = elim s [ ]
in_upright false true true true false c w e s n = elim n [ ]
in_upright true _ _ _ _ c w e s n = elim c [ ]

pub out_of_upright : {A : Type 0} (c w e s n : Bool) → T (not c) → (T w → T e → T s → T n → A) → T (cond c (w || e) (w && e) && (s && n))
    → A
out_of_upright false w e s n c = all_four w e s n
out_of_upright {A = A} true w e s n c = elim c [ ]

-- longitudes of a point in a box b in a box a, where a crosses or b does not
pub lng_through : (a b w e wb be wa ae : Bool) → (T w → T wb → T wa) → (T be → T e → T ae) → T (a || not b)
    → T (cond (a && not b) (w || e) (w && e)) → T (cond b (wb || be) (wb && be)) → T (cond a (wa || ae) (wa && ae))
lng_through true true true true true be wa ae f g o h k = or_left wa ae (f tt tt)
lng_through true true true true false true wa ae f g o h k = or_right wa ae (g tt tt)
lng_through true false true e true true wa ae f g o h k = or_left wa ae (f tt tt)
lng_through true false false true true true wa ae f g o h k = or_right wa ae (g tt tt)
lng_through false false true true true true wa ae f g o h k = and_i wa ae (f tt tt) (g tt tt)
lng_through false false false e wb be wa ae f g o h k = elim h [ ]
lng_through false false true false wb be wa ae f g o h k = elim h [ ]
lng_through false false true true false be wa ae f g o h k = elim k [ ]
lng_through false false true true true false wa ae f g o h k = elim k [ ]
lng_through false true w e wb be wa ae f g o h k = elim o [ ]
lng_through true false false false wb be wa ae f g o h k = elim h [ ]
lng_through true false false true false be wa ae f g o h k = elim k [ ]
lng_through true false false true true false wa ae f g o h k = elim k [ ]
lng_through true false true e false be wa ae f g o h k = elim k [ ]
lng_through true false true e true false wa ae f g o h k = elim k [ ]
lng_through true true false e wb be wa ae f g o h k = elim h [ ]
lng_through true true true false wb be wa ae f g o h k = elim h [ ]
lng_through true true true true false false wa ae f g o h k = elim k [ ]
