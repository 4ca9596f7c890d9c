-- Of a line that is too long, one byte more than the limit says as much as all of it.
use Rattle.std.specs.Prelude.{◌≡◌, refl, Bool, true, false, cond, List, [], ◌∷◌, ◌++◌, ℕ, suc, ◌≤◌, ◌<◌, eqb, length, take}
use Rattle.std.proofs.Common.{sym, ap, ap₂, ◌∙◌, arith, length-append, length-take-le, take_all, lt-ltb}
use Rattle.std.proofs.Math.Decide.{dec_le}
use Rattle.std.proofs.lemmas.List.{take-append-le}
use Rattle.constants.specs.Limits.{max_line}
use Rattle.form.specs.Form.{newline}
use Rattle.form_area.specs.Area.{line_area}
use Rattle.form_stream.specs.Stream.{reply, last_reply, said, ended, so_far}

-- "13 over 4,096 bytes", whatever they are
pub line_over_limit : (line : List ℕ) → max_line < length line → line_area line ≡ record { number = 13; value = [] }
unfolding line_area
line_over_limit line h = rw (lt-ltb _ _ h)

long_reply : (a b : List ℕ) → max_line < length a → max_line < length b → reply a ≡ reply b
unfolding reply
long_reply a b h k = rw (line_over_limit a h, line_over_limit b k)

long_last : (a b : List ℕ) → max_line < length a → max_line < length b → last_reply a ≡ last_reply b
long_last [] b h k = absurd (omega arith)
long_last (x ∷ a) [] h k = absurd (omega arith)
long_last (x ∷ a) (y ∷ b) h k = long_reply (x ∷ a) (y ∷ b) h k

longer : (a : List ℕ) (x : ℕ) → max_line < length a → max_line < length (a ++ (x ∷ []))
longer a x h = omega (arith, length-append a (x ∷ []))

long_said : (a b rest : List ℕ) → max_line < length a → max_line < length b → said a rest ≡ said b rest
unfolding said
long_said a b [] h k = long_last a b h k
long_said a b (x ∷ rest) h k =
    ap₂ (λ (l m : List ℕ). cond (eqb x newline) (l ++ said [] rest) m) (long_reply a b h k)
    (long_said (a ++ (x ∷ [])) (b ++ (x ∷ [])) rest (longer a x h) (longer b x k))

pub long_ended : (a b rest : List ℕ) → max_line < length a → max_line < length b → ended a rest ≡ ended b rest
unfolding ended
long_ended a b [] h k = refl
long_ended a b (x ∷ rest) h k =
    ap₂ (λ (l m : List ℕ). cond (eqb x newline) (l ++ ended [] rest) m) (long_reply a b h k)
    (long_ended (a ++ (x ∷ [])) (b ++ (x ∷ [])) rest (longer a x h) (longer b x k))

-- the first bytes of a line so far that has as many already
pub long_so_far : (n : ℕ) (a b rest : List ℕ) → n ≤ length a → n ≤ length b → take n a ≡ take n b
    → take n (so_far a rest) ≡ take n (so_far b rest)
unfolding so_far
long_so_far n a b [] h k e = e
long_so_far n a b (x ∷ rest) h k e =
    let a' : n ≤ length (a ++ (x ∷ [])) = omega (arith, length-append a (x ∷ [])) in
    let b' : n ≤ length (b ++ (x ∷ [])) = omega (arith, length-append b (x ∷ [])) in
    let same = long_so_far n (a ++ (x ∷ [])) (b ++ (x ∷ [])) rest a' b'
    (take-append-le n a (x ∷ []) h ∙ (e ∙ sym (take-append-le n b (x ∷ []) k))) in
    go (eqb x newline) same
  where
    go : (c : Bool) → take n (so_far (a ++ (x ∷ [])) rest) ≡ take n (so_far (b ++ (x ∷ [])) rest)
        → take n (cond c (so_far [] rest) (so_far (a ++ (x ∷ [])) rest)) ≡ take n (cond c (so_far [] rest) (so_far (b ++ (x ∷ [])) rest))
    go true s = refl
    go false s = s

-- what is said behind a line needs its first bytes only
pub said_cut : (line rest : List ℕ) → said (take (suc max_line) line) rest ≡ said line rest
said_cut line rest = pick (dec_le (length line) (suc max_line))
  where
    pick : Dec (length line ≤ suc max_line) → said (take (suc max_line) line) rest ≡ said line rest
    pick (yes h) = ap (λ (l : List ℕ). said l rest) (take_all (suc max_line) line h)
    pick (no h) =
        let m : suc max_line ≤ length line = omega (arith, h) in
        long_said (take (suc max_line) line) line rest (omega (arith, length-take-le (suc max_line) line m)) (omega arith)
