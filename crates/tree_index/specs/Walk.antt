-- What a walk by the bits of a key sees.
use Rattle.std.specs.Prelude.{◌≡◌, ◌≢◌, ℕ, zero, suc, ◌+◌, ◌<◌, ◌≤◌, List, Option, Some, None, IfSome, slice_index}
use Rattle.record_heap.specs.Pool.{IsRecord}
use Rattle.tree_index.specs.declared.tree.NearestLeaf.{NearestLeaf}
use Rattle.tree_index.specs.declared.tree.PassedRecord.{PassedRecord}
use Rattle.tree_index.specs.declared.tree.Trail.{Trail}
use Rattle.tree_index.specs.declared.tree.TreePosition.{TreePosition}
use Rattle.tree_index.specs.declared.tree.Tree.{Tree}
use Rattle.tree_index.specs.Path.{Frame, GoesBy, over_of, plug, slot_of, turn_of}
use Rattle.tree_index.specs.Shape.{Shape, Leaf, Fork, Holds, IsRadix, bit_of, least_of, link_of}

-- the most reads of `next`: two walks, the key of a leaf, a link, and the way to the least key behind it, with room to spare
abbrev pub next_reads : ℕ
next_reads = 400

-- the most reads of `insert`: two walks, the key of a leaf, and what two pools read
abbrev pub insert_reads : ℕ
insert_reads = 266

-- the most reads of `remove`: a walk, the key of a leaf, a link, and the headers of two pools
abbrev pub remove_reads : ℕ
remove_reads = 135

-- the most reads of `replace`: three walks, the keys of two leaves, and a link
abbrev pub replace_reads : ℕ
replace_reads = 390

-- each leaf and each inner record of the shape is a record of its pool
abbrev pub HasRecords : Tree → Shape → Type 0
HasRecords tree (Leaf at key) = IsRecord tree.leaves at
HasRecords tree (Fork at bit zeros ones) = IsRecord tree.inner at × HasRecords tree zeros × HasRecords tree ones

-- the array holds this shape in records of the two pools
pub record IsHeld (tree : Tree) (array : List ℕ) (shape : Shape) : Type 0 where
  pub records : HasRecords tree shape
  pub words : Holds array shape

-- and its root is linked from the tree's root
pub record IsIn (tree : Tree) (array : List ℕ) (shape : Shape) : Type 0 where
  pub link : slice_index array tree.root ≡ link_of shape
  pub held : IsHeld tree array shape
  pub radix : IsRadix 64 shape

-- a leaf, or an inner record of a bit below `floor`
abbrev pub EndsBelow : ℕ → Shape → Type 0
EndsBelow floor (Leaf at key) = Unit {0}
EndsBelow floor (Fork at bit zeros ones) = bit < floor

-- The words that a position names lie below n, and the last inner record that was passed is one.
pub record FitsPosition (tree : Tree) (n : ℕ) (position : TreePosition) : Type 0 where
  pub slot : position.slot < n
  pub turn : IfSome position.turn (λ word. word < n)
  pub over : IfSome position.over (λ passed. IsRecord tree.inner passed.at × (passed.slot < n) × (passed.side < 2))

-- as well those of all positions of a trail
pub record FitsTrail (tree : Tree) (n : ℕ) (trail : Trail) : Type 0 where
  pub last : FitsPosition tree n trail.last
  pub second : FitsPosition tree n trail.second
  pub third : FitsPosition tree n trail.third

-- the bit of the last inner record passed, where there is one, is at least `floor`
abbrev pub IsFrom : ℕ → TreePosition → Type 0
IsFrom floor position = IfSome position.over (λ over. floor ≤ over.bit)

-- there is one, and its bit is below
abbrev pub IsBelowFrom : ℕ → TreePosition → Type 0
IsBelowFrom floor position = (over : PassedRecord) × (position.over ≡ Some over) × (over.bit < floor)

-- where a walk begins, with this link in the word of the root
abbrev pub start_at : Tree → ℕ → TreePosition
start_at tree link = record { slot = tree.root; link = link; over = None; turn = None }

-- the word of the last turn to the zeros after a step to this side
abbrev pub turn_by : ℕ → ℕ → Option ℕ → Option ℕ
turn_by zero at before = Some (at + 3)
turn_by (suc side) at before = before

-- the position after one step to a side
abbrev pub step_by : List ℕ → TreePosition → ℕ → TreePosition
step_by array position side = record {
  slot = position.link + 2 + side;
  link = slice_index array (position.link + 2 + side);
  over = Some (record { at = position.link; slot = position.slot; bit = slice_index array position.link; side = side });
  turn = turn_by side position.link position.turn;
}

-- one step of a walk for the key, or None where no inner record of a bit from `floor` on is linked
abbrev pub IsStep : Tree → ℕ → ℕ → TreePosition → List ℕ → Option TreePosition → Type 0
IsStep tree key floor position array None = IsRecord tree.inner position.link → slice_index array position.link < floor
IsStep tree key floor position array (Some next) = IsRecord tree.inner position.link × (floor ≤ slice_index array position.link) × (next ≡ step_by array position (bit_of key (slice_index array position.link)))

-- A walk for the key passed this position: there is a path to it, by the bits of the key, and part of the shape stands there.
pub record Passes (tree : Tree) (key floor : ℕ) (array : List ℕ) (whole : Shape) (position : TreePosition) : Type 0 where
  pub path : List Frame
  pub part : Shape
  pub is : whole ≡ plug path part
  pub at : position ≡ record { slot = slot_of tree.root path; link = link_of part; over = over_of tree.root path; turn = turn_of path }
  pub steps : GoesBy key floor path
  pub held : IsHeld tree array part

-- A walk for the key reached this position: it passed it, and what stands there is a leaf or an inner record of a bit below `floor`.
pub record Reaches (tree : Tree) (key floor : ℕ) (array : List ℕ) (whole : Shape) (position : TreePosition) : Type 0 where
  pub passes : Passes tree key floor array whole position
  pub ends : EndsBelow floor passes.part

-- in every way in which the array has a tree, a walk for the key reached this position
abbrev pub WalksTo : Tree → ℕ → ℕ → List ℕ → TreePosition → Type 0
WalksTo tree key floor array position = (whole : Shape) → IsIn tree array whole → Reaches tree key floor array whole position

-- the last inner record that was passed before the lower position, where there is one, is the one that the upper position links
abbrev pub IsUnder : List ℕ → TreePosition → TreePosition → Type 0
IsUnder array upper lower = IfSome lower.over (λ over. (over.at ≡ upper.link) × (over.bit ≡ slice_index array over.at))

-- A walk for the key reached the last position of this trail, by way of the two others.
pub record Trails (tree : Tree) (key floor : ℕ) (array : List ℕ) (whole : Shape) (trail : Trail) : Type 0 where
  pub last : Reaches tree key floor array whole trail.last
  pub second : Passes tree key floor array whole trail.second
  pub third : Passes tree key floor array whole trail.third
  pub last_under : IsUnder array trail.second trail.last
  pub second_under : IsUnder array trail.third trail.second

-- the most reads of a walk: the root's link, and two words of each of 64 inner records
abbrev pub walk_reads : ℕ
walk_reads = 129

-- in every way in which the array has a tree, a walk for the key went along this trail
abbrev pub WalksAlong : Tree → ℕ → ℕ → List ℕ → Trail → Type 0
WalksAlong tree key floor array trail = (whole : Shape) → IsIn tree array whole → Trails tree key floor array whole trail

-- where the word of the root is 0, the walk stays there
abbrev pub StaysAtRoot : Tree → List ℕ → Trail → Type 0
StaysAtRoot tree array trail = slice_index array tree.root ≡ 0 → trail.last ≡ start_at tree 0

-- The bits of the key lead to this position, where a leaf stands, and to the key in it. The tree is not empty.
pub record LeadsTo (tree : Tree) (key : ℕ) (array : List ℕ) (near : NearestLeaf) : Type 0 where
  pub leaf : IsRecord tree.leaves near.trail.last.link
  pub read : near.key ≡ slice_index array near.trail.last.link
  pub walk : WalksAlong tree key 0 array near.trail
  pub some : slice_index array tree.root ≢ 0

-- where this is the leaf to which the bits of the key lead, a walk for the key down to this floor reached the position
abbrev pub PlacesBeside : Tree → ℕ → ℕ → NearestLeaf → List ℕ → TreePosition → Type 0
PlacesBeside tree key floor near array position = LeadsTo tree key array near → WalksTo tree key floor array position

-- the leaf to which the bits of the key lead, or None where there is no tree
abbrev pub FindsNearest : Tree → ℕ → List ℕ → Option NearestLeaf → Type 0
FindsNearest tree key array None = (whole : Shape) → ¬ IsIn tree array whole
FindsNearest tree key array (Some near) = LeadsTo tree key array near

-- the link for bit 0 of an inner record; another link stays
pub record GoesToZeros (tree : Tree) (link : ℕ) (array : List ℕ) (next : ℕ) : Type 0 where
  pub inner : IsRecord tree.inner link → next ≡ slice_index array (link + 2)
  pub other : ¬ IsRecord tree.inner link → next ≡ link

-- the most reads on the way to the least key behind a link: the zeros of 64 inner records, and the key
abbrev pub least_reads : ℕ
least_reads = 65

-- in every way in which a shape stands behind this link, the answer is its least key
abbrev pub FindsLeast : Tree → ℕ → List ℕ → Option ℕ → Type 0
FindsLeast tree link array r = (shape : Shape) → IsHeld tree array shape → IsRadix 64 shape → link ≡ link_of shape → r ≡ Some (least_of shape)
