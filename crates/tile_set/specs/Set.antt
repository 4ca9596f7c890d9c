-- Sets of tiles, and what document 01's "Tile list" does with them: tiles under an ancestor are dropped, four siblings become their parent.
-- D is the deepest zoom, m the minimum zoom. A set is a test of tiles.
--   ancestor t s, parent_tile t     the ancestor of zoom s, and the parent
--   child p i j                    the child in column i and row j of the four
--   whole S p                      the set holds all four children of p: a family
--   joins m S, joined m S          the tiles that one pass of merging takes away, and the parents that it puts in their place
--   merged m S, passes n m S       the set after one pass, and after n
--   uncovered k S                  the tiles that have no ancestor in the set, or none far enough above
--   simplified D m S, simplified_v1 D m S     what `simplify` and `simplify_v1` make of the set
--   tiles_in_order D S                    the set as a list, in the order of every list
use Rattle.std.specs.Prelude.{Bool, false, cond, not, ◌&&◌, ◌||◌, List, [], ◌∷◌, ◌++◌, ℕ, zero, suc, ◌+◌, ◌-◌, ◌*◌, ◌/◌, ◌^◌, leb, ltb}
use Rattle.tile.specs.OnMap.{tile_at}
use Rattle.tile.specs.declared.Tile.{Tile}

-- p holds at one of the numbers below n
unfoldable pub any_below : ℕ → (ℕ → Bool) → Bool
any_below zero p = false
any_below (suc n) p = p n || any_below n p

-- the tile's ancestor of zoom s, at its own zoom itself
abbrev pub ancestor : Tile → ℕ → Tile
ancestor t s = tile_at (t.x / 2 ^ (t.z - s)) (t.y / 2 ^ (t.z - s)) s

abbrev pub parent_tile : Tile → Tile
parent_tile t = tile_at (t.x / 2) (t.y / 2) (t.z - 1)

-- the child in column i and row j of the four
abbrev pub child : Tile → ℕ → ℕ → Tile
child p i j = tile_at (2 * p.x + i) (2 * p.y + j) (suc p.z)

-- the set holds all four children of p
abbrev pub whole : (Tile → Bool) → Tile → Bool
whole S p = (S (child p 0 0) && S (child p 0 1)) && (S (child p 1 0) && S (child p 1 1))

-- the tiles that one pass of merging at minimum zoom m takes away: those of zoom > m that stand with their three siblings
abbrev pub joins : ℕ → (Tile → Bool) → Tile → Bool
joins m S t = ltb m t.z && whole S (parent_tile t)

-- the tiles that it puts in their place: the parents
abbrev pub joined : ℕ → (Tile → Bool) → Tile → Bool
joined m S p = leb m p.z && whole S p

-- the set after one pass
unfoldable pub merged : ℕ → (Tile → Bool) → Tile → Bool
merged m S t = (S t && not (joins m S t)) || joined m S t

-- the set after n passes
unfoldable pub passes : ℕ → ℕ → (Tile → Bool) → Tile → Bool
passes zero m S t = S t
passes (suc n) m S t = merged m (passes n m S) t

-- a tile stays where the set holds none of its ancestors of the zooms 0 to z - 1 - k
unfoldable pub uncovered : ℕ → (Tile → Bool) → Tile → Bool
uncovered k S t = S t && not (any_below (t.z - k) (λ s. S (ancestor t s)))

-- `simplify`: all ancestors count; then merging until nothing changes, which takes no more than D passes (`Theorems`)
unfoldable pub simplified : ℕ → ℕ → (Tile → Bool) → Tile → Bool
simplified D m S t = passes D m (uncovered 0 S) t

-- `simplify_v1`: the ancestors of the zooms 0 to z - 1 - m count
unfoldable pub simplified_v1 : ℕ → ℕ → (Tile → Bool) → Tile → Bool
simplified_v1 D m S t = passes D m (uncovered m S) t

-- f 0 ++ f 1 ++ .. ++ f (n - 1)
unfoldable pub collect : {A : Type 0} → ℕ → (ℕ → List A) → List A
collect zero f = []
collect (suc n) f = collect n f ++ f n

-- the set as a list in the order of `Tile`'s `cmp`: zoom by zoom, column by column, row by row
unfoldable pub tiles_in_order : ℕ → (Tile → Bool) → List Tile
tiles_in_order D S = collect (suc D) (λ z. collect (2 ^ z) (λ x. collect (2 ^ z) (λ y. cond (S (tile_at x y z)) (tile_at x y z ∷ []) [])))
