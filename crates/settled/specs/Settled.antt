-- "Settled means: strictly in order, no tile beside its own ancestor, no four siblings together", as a test of a list of entries.
use Rattle.std.specs.Prelude.{Bool, true, false, not, ◌&&◌, List, [], ◌∷◌, ℕ}
use Rattle.bits.specs.Tests.{all_of}
use Rattle.ids.specs.Entry.{entry_tile}
use Rattle.tile.specs.Order.{tile_order}
use Rattle.std.specs.declared.cmp.Ordering.{Ordering}
use Rattle.std.specs.declared.cmp.Ordering.TheVariants.{Less, Equal, Greater}
use Rattle.tile.specs.declared.Tile.{Tile}
use Rattle.tile_list.specs.List.{listed}
use Rattle.tile_set.specs.Set.{any_below, ancestor, joins}

abbrev pub is_less : Ordering → Bool
is_less Less = true
is_less Equal = false
is_less Greater = false

-- by the order of `Tile`'s `cmp`
abbrev pub is_before : Tile → Tile → Bool
is_before s t = is_less (tile_order s t)

unfoldable pub strictly_in_order : List ℕ → Bool
strictly_in_order [] = true
strictly_in_order (a ∷ l) = all_of (λ b. is_before (entry_tile a) (entry_tile b)) l && strictly_in_order l

-- the list names an ancestor of t
abbrev pub beside_ancestor : List ℕ → Tile → Bool
beside_ancestor list t = any_below t.z (λ s. listed list (ancestor t s))

-- the list names t with its three siblings
abbrev pub with_siblings : List ℕ → Tile → Bool
with_siblings list t = joins 0 (listed list) t

unfoldable pub is_settled : List ℕ → Bool
is_settled list =
    strictly_in_order list
    && (all_of (λ n. not (beside_ancestor list (entry_tile n))) list && all_of (λ n. not (with_siblings list (entry_tile n))) list)
