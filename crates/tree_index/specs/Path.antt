-- Paths from the root of a shape down to one of its parts.
use Rattle.std.specs.Prelude.{◌≡◌, ℕ, ◌+◌, ◌≤◌, ◌⊎◌, List, [], ◌∷◌, Option, Some, None}
use Rattle.tree_index.specs.declared.tree.PassedRecord.{PassedRecord}
use Rattle.tree_index.specs.Shape.{Shape, Leaf, Fork, bit_of}

-- an inner record that a path goes through to its zeros or to its ones: its place, its bit, and what stands on
-- its other side
pub data Frame : Type 0 where
  OnZeros : ℕ → ℕ → Shape → Frame
  OnOnes : ℕ → ℕ → Shape → Frame

-- the inner record round the side that a path goes on to
abbrev pub around : Frame → Shape → Shape
around (OnZeros at bit ones) part = Fork at bit part ones
around (OnOnes at bit zeros) part = Fork at bit zeros part

-- the whole shape round the part that a path leads to; the path has its last inner record first
abbrev pub plug : List Frame → Shape → Shape
plug [] part = part
plug (frame ∷ path) part = plug path (around frame part)

-- the word that links the part
abbrev pub slot_of : ℕ → List Frame → ℕ
slot_of root [] = root
slot_of root (OnZeros at bit ones ∷ path) = at + 2
slot_of root (OnOnes at bit zeros ∷ path) = at + 3

-- the last inner record of a path, with the word that links it, its bit, and the side that the path takes
abbrev pub over_of : ℕ → List Frame → Option PassedRecord
over_of root [] = None
over_of root (OnZeros at bit ones ∷ path) = Some (record { at = at; slot = slot_of root path; bit = bit; side = 0 })
over_of root (OnOnes at bit zeros ∷ path) = Some (record { at = at; slot = slot_of root path; bit = bit; side = 1 })

-- the word that links the ones of the last inner record where a path goes to the zeros
abbrev pub turn_of : List Frame → Option ℕ
turn_of [] = None
turn_of (OnZeros at bit ones ∷ path) = Some (at + 3)
turn_of (OnOnes at bit zeros ∷ path) = turn_of path

-- a path goes by the bits of a key, all from `floor` on
abbrev pub GoesBy : ℕ → ℕ → List Frame → Type 0
GoesBy key floor [] = Unit {0}
GoesBy key floor (OnZeros at bit ones ∷ path) = (floor ≤ bit) × (bit_of key bit ≡ 0) × GoesBy key floor path
GoesBy key floor (OnOnes at bit zeros ∷ path) = (floor ≤ bit) × (bit_of key bit ≡ 1) × GoesBy key floor path

-- One shape has a leaf more than the other: over some part of the other one it has an inner record `fork` with
-- that part on one side and the leaf on the other. All else is the same.
pub record HasLeafMore (key leaf fork : ℕ) (fewer more : Shape) : Type 0 where
  pub path : List Frame
  pub part : Shape
  pub bit : ℕ
  pub without : fewer ≡ plug path part
  pub with_leaf : (more ≡ plug path (Fork fork bit (Leaf leaf key) part)) ⊎ (more ≡ plug path (Fork fork bit part (Leaf leaf key)))

-- The same of a tree that may be empty, with its free inner records: the first leaf needs none, and a further
-- one takes the first of those that are free without it.
abbrev pub GrowsBy : ℕ → ℕ → Option Shape → List ℕ → List ℕ → Shape → Type 0
GrowsBy key leaf None free left more = (free ≡ left) × (more ≡ Leaf leaf key)
GrowsBy key leaf (Some fewer) free left more = (fork : ℕ) × (free ≡ fork ∷ left) × HasLeafMore key leaf fork fewer more
