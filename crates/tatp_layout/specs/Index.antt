-- The index of an image: a tree that has the keys of the subscribers, by their locations.
use Rattle.std.specs.Prelude.{◌≢◌, ℕ, zero, suc, ◌+◌, ◌*◌, ◌^◌, List, ◌∷◌, Contains, map, Option}
use Rattle.std.specs.List.Sorted.{IsPermutation}
use Rattle.dude_base.specs.declared.sizes.Sizes.{Sizes}
use Rattle.tatp_model.specs.declared.sub_row.SubRow.{SubRow}
use Rattle.tree_index.specs.declared.tree.Tree.{Tree}
use Rattle.tree_index.specs.Shape.{Shape, keys_in}
use Rattle.tree_index.specs.Tree.{IsTree, StaysOutside}
use Rattle.tatp_layout.specs.Layout.{index_tree}

-- the key of a subscriber in an index: by the location, and then by the s_id
abbrev pub location_key : SubRow → ℕ
location_key row = row.vlr * 2 ^ 32 + row.s_id

-- the array has this tree, and the tree has these keys, each once
pub record HasKeys (tree : Tree) (array keys : List ℕ) : Type 0 where
  pub shape : Option Shape
  pub free_leaves : List ℕ
  pub free_inner : List ℕ
  pub lawful : IsTree tree array shape free_leaves free_inner
  pub same : IsPermutation (keys_in shape) keys

-- the first number without an index, and the second with one
abbrev pub by_index : ℕ → ℕ → ℕ → ℕ
by_index zero bare indexed = bare
by_index (suc more) bare indexed = indexed

-- where there is an index, its tree has these keys
abbrev pub IndexHas : Sizes → List ℕ → List ℕ → Type 0
IndexHas s array keys = s.index ≢ 0 → HasKeys (index_tree s) array keys

-- where there is an index, its tree has the keys of these subscribers
abbrev pub IndexStands : Sizes → List ℕ → List SubRow → Type 0
IndexStands s array rows = IndexHas s array (map location_key rows)

-- In every way in which the tree has the first key and others, of which none is the second, it has the second in place of the
-- first afterwards, and the words that it doesn't use stay.
abbrev pub MovesKey : Tree → ℕ → ℕ → List ℕ → List ℕ → Unit {0} → Type 0
MovesKey tree from to old new done = (others : List ℕ) → HasKeys tree old (from ∷ others) → ¬ Contains others to → HasKeys tree new (to ∷ others) × StaysOutside tree old new
