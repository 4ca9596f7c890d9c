-- `form_end` and `pair_end` call each other: a pair is read from fewer bytes than its form, and the left form of a pair from as many as the pair.
use Rattle.std.specs.Prelude.{Some}
use mathlib.Core.List.{List}
use lib.ListN.{drop, get_or, length-drop}
use Rattle.form.specs.Ends.{FormEnds, PairEnds, KeysEnds, rest_part, byte_there}
use Rattle.form.specs.Form.{space, closing}
use Rattle.form.proofs.Pairs.{no_space, no_right, no_closing, a_pair}
use Rattle.form.proofs.Parse.{tiles_end, pair_end as Parse·pair-end}
use mathlib.Core.Path.{◌≡◌, sym, ap, subst, ◌∙◌}
use native.Mathlib.Omega.{arith}
use Rattle.form.specs.Ends.{Opened, opened, front_within}
use Rattle.form.specs.Words.{tiles_front, pair_front}
use Rattle.form.specs.declared.Word.TheVariants as word
use Prim.Native.Nat.{ℕ, ◌+◌, ◌≤◌}
use lib.ListN.{length}
use Rattle.form.proofs.+form_end_pair_end.Goals as goal
use Rattle.form.specs.Ends.{shifted}
use Rattle.form.proofs.+form_end_pair_end.Goals.{form_end-In-Tiles, form_end-After-keys_end, form_end-In-Pair, form_end-After-pair_front-n, form_end-After-pair_end}
use Rattle.form.proofs.+form_end_pair_end.Goals.{pair_end-In_ok-left, pair_end-Else-branch-ne32, pair_end-After-form_end-2, pair_end-In_ok-last, pair_end-Else-branch-ne41}

pub form_end-returns-in_err-word_at : goal.form_end-returns-in_err-word_at
form_end-returns-in_err-word_at t c = let b = c.args.bytes.now in
    subst (λ e. FormEnds e b) (sym c.from_residual.ensures) (subst (λ w. Opened w b) (sym c.word_at.ensures ∙ c.in_err-word_at.was) (opened b))

-- of tiles: the keys follow the word
tiles_opened : (t : ℕ) (c : form_end-In-Tiles t) → Opened (Some word.Tiles) c.args.bytes.now
tiles_opened t c =
    subst (λ w. Opened w c.args.bytes.now) (sym c.word_at.ensures ∙ (c.in_ok-word_at.was ∙ ap (λ w. Some w) c.in-Tiles.is)) (opened _)

tiles_told : (t : ℕ) (c : form_end-After-keys_end t) → Opened (Some word.Tiles) c.args.bytes.now
    → FormEnds (shifted (length tiles_front) c.keys_end.result) c.args.bytes.now
tiles_told t c o = let b = c.args.bytes.now in
    tiles_end b o c.keys_end.result (subst (λ (l : List ℕ). KeysEnds c.keys_end.result l) (rest_part b (length tiles_front)) c.keys_end.ensures)

pub form_end-slice_bounds-keys_end-count : goal.form_end-slice_bounds-keys_end-count
form_end-slice_bounds-keys_end-count t c = front_within tiles_front _ (tiles_opened t (goal.at.form_end-slice_bounds-keys_end-count t c).In-Tiles)

pub form_end-slice_bounds-keys_end-start : goal.form_end-slice_bounds-keys_end-start
form_end-slice_bounds-keys_end-start t c = front_within tiles_front _ (tiles_opened t (goal.at.form_end-slice_bounds-keys_end-start t c).In-Tiles)

pub form_end-returns-in_err-keys_end-in-Tiles : goal.form_end-returns-in_err-keys_end-in-Tiles
form_end-returns-in_err-keys_end-in-Tiles t c = let b = c.args.bytes.now in
    let at = goal.at.form_end-returns-in_err-keys_end-in-Tiles t c in
    subst (λ e. FormEnds e b) (sym c.from_residual-in_err-keys_end-in-Tiles.ensures)
    (subst (λ e. FormEnds (shifted (length tiles_front) e) b) c.in_err-keys_end-in-Tiles.was (tiles_told t at.After-keys_end (tiles_opened t at.In-Tiles)))

pub form_end-returns-in_ok-keys_end-in-Tiles : goal.form_end-returns-in_ok-keys_end-in-Tiles
form_end-returns-in_ok-keys_end-in-Tiles t c =
    let at = goal.at.form_end-returns-in_ok-keys_end-in-Tiles t c in
    subst (λ e. FormEnds (shifted (length tiles_front) e) c.args.bytes.now) c.in_ok-keys_end-in-Tiles.was
    (tiles_told t at.After-keys_end (tiles_opened t at.In-Tiles))

-- of a pair: its two forms follow the word
pair_opened : (t : ℕ) (c : form_end-In-Pair t) → Opened (Some (word.Pair c.in-Pair.verb)) c.args.bytes.now
pair_opened t c =
    subst (λ w. Opened w c.args.bytes.now) (sym c.word_at.ensures ∙ (c.in_ok-word_at.was ∙ ap (λ w. Some w) c.in-Pair.is)) (opened _)

pair_within : (t : ℕ) (c : form_end-After-pair_front-n t) → Opened (Some (word.Pair c.in-Pair.verb)) c.args.bytes.now
    → c.pair_front-n.result ≤ length c.args.bytes.now
pair_within t c o = omega (arith, c.pair_front-n.ensures, front_within (pair_front c.in-Pair.verb) _ o)

pair_told : (t : ℕ) (c : form_end-After-pair_end t) → Opened (Some (word.Pair c.in-Pair.verb)) c.args.bytes.now
    → FormEnds (shifted c.pair_front-n.result c.pair_end.result) c.args.bytes.now
pair_told t c o = let b = c.args.bytes.now in
    let n = c.pair_front-n.result in
    let f = c.pair_front-n.ensures in
    let e = subst (λ (l : List ℕ). PairEnds c.pair_end.result l) (rest_part b n) c.pair_end.ensures in
    subst (λ (k : ℕ). FormEnds (shifted k c.pair_end.result) b) (sym f)
    (Parse·pair-end b c.in-Pair.verb o c.pair_end.result (subst (λ (k : ℕ). PairEnds c.pair_end.result (drop k b)) f e))

pub form_end-slice_bounds-pair_end-count : goal.form_end-slice_bounds-pair_end-count
form_end-slice_bounds-pair_end-count t c = let at = goal.at.form_end-slice_bounds-pair_end-count t c in
    pair_within t at.After-pair_front-n (pair_opened t at.In-Pair)

pub form_end-slice_bounds-pair_end-start : goal.form_end-slice_bounds-pair_end-start
form_end-slice_bounds-pair_end-start t c = let at = goal.at.form_end-slice_bounds-pair_end-start t c in
    pair_within t at.After-pair_front-n (pair_opened t at.In-Pair)

pub form_end-pair_end-requires : goal.form_end-pair_end-requires
form_end-pair_end-requires t c = let b = c.args.bytes.now in
    let at = goal.at.form_end-pair_end-requires t c in (
      omega (
        arith,
        ap length (rest_part b c.pair_front-n.result),
        length-drop c.pair_front-n.result b,
        pair_within t at.After-pair_front-n (pair_opened t at.In-Pair),
        c.pair_front-n.ensures,
        c.decreases,
      ),
      tt,
    )

pub form_end-returns-in_err-pair_end-in-Pair : goal.form_end-returns-in_err-pair_end-in-Pair
form_end-returns-in_err-pair_end-in-Pair t c = let b = c.args.bytes.now in
    let at = goal.at.form_end-returns-in_err-pair_end-in-Pair t c in
    subst (λ e. FormEnds e b) (sym c.from_residual-in_err-pair_end-in-Pair.ensures)
    (subst (λ e. FormEnds (shifted c.pair_front-n.result e) b) c.in_err-pair_end-in-Pair.was (pair_told t at.After-pair_end (pair_opened t at.In-Pair)))

pub form_end-returns-in_ok-pair_end-in-Pair : goal.form_end-returns-in_ok-pair_end-in-Pair
form_end-returns-in_ok-pair_end-in-Pair t c =
    let at = goal.at.form_end-returns-in_ok-pair_end-in-Pair t c in
    subst (λ e. FormEnds (shifted c.pair_front-n.result e) c.args.bytes.now) c.in_ok-pair_end-in-Pair.was
    (pair_told t at.After-pair_end (pair_opened t at.In-Pair))

-- of two forms: the left one, a space, the right one, the closing bracket
left_there : (t : ℕ) (c : pair_end-In_ok-left t) → FormEnds (Some c.in_ok-left.left) c.args.bytes.now
left_there t c = subst (λ e. FormEnds e c.args.bytes.now) c.in_ok-left.was c.form_end.ensures

space_there : (t : ℕ) (c : pair_end-Else-branch-ne32 t) → get_or c.args.bytes.now c.in_ok-left.left 0 ≡ space
space_there t c = sym (c.in_ok-get.ensures.lookup.3.1 0) ∙ c.if-branch-ne32.false

right_read : (t : ℕ) (c : pair_end-After-form_end-2 t) → FormEnds c.form_end-2.result (drop (c.in_ok-left.left + 1) c.args.bytes.now)
right_read t c = subst (λ (l : List ℕ). FormEnds c.form_end-2.result l) (rest_part c.args.bytes.now (c.in_ok-left.left + 1)) c.form_end-2.ensures

right_there : (t : ℕ) (c : pair_end-In_ok-last t) → FormEnds c.form_end-2.result (drop (c.in_ok-left.left + 1) c.args.bytes.now)
    → FormEnds (Some c.in_ok-last.field-0) (drop (c.in_ok-left.left + 1) c.args.bytes.now)
right_there t c r = subst (λ e. FormEnds e (drop (c.in_ok-left.left + 1) c.args.bytes.now)) c.in_ok-last.was r

-- past the end there is no byte
no_byte : (b : ℕ) (l : List ℕ) (n : ℕ) → length l ≤ n → (b ≡ 0 → ⊥) → get_or l n 0 ≡ b → ⊥
no_byte b l n h d e = let k = byte_there l n b e d in omega (arith, h, k)

pub pair_end-returns-in_err-get : goal.pair_end-returns-in_err-get
pair_end-returns-in_err-get t c = let b = c.args.bytes.now in
    subst (λ e. PairEnds e b) (sym c.from_residual-in_err-get.ensures)
    (no_space b c.in_ok-left.left (left_there t (goal.at.pair_end-returns-in_err-get t c).In_ok-left)
    (no_byte space b _ c.in_err-get.ensures.lookup.3 (λ z. omega (arith, z))))

pub pair_end-returns-then-branch-ne32 : goal.pair_end-returns-then-branch-ne32
pair_end-returns-then-branch-ne32 t c =
    no_space c.args.bytes.now c.in_ok-left.left (left_there t (goal.at.pair_end-returns-then-branch-ne32 t c).In_ok-left)
    (λ e. c.if-branch-ne32.true (c.in_ok-get.ensures.lookup.3.1 0 ∙ e))

pub pair_end-returns-in_err-last : goal.pair_end-returns-in_err-last
pair_end-returns-in_err-last t c = let b = c.args.bytes.now in
    let at = goal.at.pair_end-returns-in_err-last t c in
    subst (λ e. PairEnds e b) (sym c.from_residual-in_err-last.ensures)
    (no_right b c.in_ok-left.left (left_there t at.In_ok-left) (space_there t at.Else-branch-ne32)
    (subst (λ e. FormEnds e (drop (c.in_ok-left.left + 1) b)) c.in_err-last.was (right_read t at.After-form_end-2)))

pub pair_end-returns-in_err-get-2 : goal.pair_end-returns-in_err-get-2
pair_end-returns-in_err-get-2 t c = let b = c.args.bytes.now in
    let at = goal.at.pair_end-returns-in_err-get-2 t c in
    subst (λ e. PairEnds e b) (sym c.from_residual-in_err-get-2.ensures)
    (no_closing b c.in_ok-left.left (left_there t at.In_ok-left) (space_there t at.Else-branch-ne32) c.in_ok-last.field-0
    (right_there t at.In_ok-last (right_read t at.After-form_end-2))
    (no_byte closing b _ c.in_err-get-2.ensures.lookup.3 (λ z. omega (arith, z))))

pub pair_end-returns-then-branch-ne41 : goal.pair_end-returns-then-branch-ne41
pair_end-returns-then-branch-ne41 t c =
    let at = goal.at.pair_end-returns-then-branch-ne41 t c in
    no_closing c.args.bytes.now c.in_ok-left.left (left_there t at.In_ok-left) (space_there t at.Else-branch-ne32) c.in_ok-last.field-0
    (right_there t at.In_ok-last (right_read t at.After-form_end-2))
    (λ e. c.if-branch-ne41.true (c.in_ok-get-2.ensures.lookup.3.1 0 ∙ e))

pub pair_end-returns : goal.pair_end-returns
pair_end-returns t c =
    let at = goal.at.pair_end-returns t c in
    a_pair c.args.bytes.now c.in_ok-left.left (left_there t at.In_ok-left) (space_there t at.Else-branch-ne32) c.in_ok-last.field-0
    (right_there t at.In_ok-last (right_read t at.After-form_end-2))
    (sym (c.in_ok-get-2.ensures.lookup.3.1 0) ∙ c.if-branch-ne41.false)
