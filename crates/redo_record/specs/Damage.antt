-- Where the log of an image is damaged. Heads are judged whose last numbers are over a given one, mostly the mark.
use Rattle.std.specs.Prelude.{◌≡◌, ◌⊎◌, ℕ, ◌<◌, List}
use Rattle.dude_base.specs.declared.sizes.Sizes.{Sizes}
use Rattle.dude_base.specs.Image.{Cell}
use Rattle.dude_base.specs.Records.{Covers}
use Rattle.redo_record.specs.Cells.{line_of}
use Rattle.redo_record.specs.Images.{bundle_at, IsSound, IsNewHead}

-- a head that has no complete record, or one whose first number isn't over the given one
pub record IsTorn (s : Sizes) (above : ℕ) (image : List ℕ) (cell : Cell) : Type 0 where
  pub head : IsNewHead s above image cell
  pub incomplete : ¬ IsSound s above image cell

-- a head of which a head at a lower line covers a number
pub record IsDuplicateHead (s : Sizes) (above : ℕ) (image : List ℕ) (cell : Cell) : Type 0 where
  pub head : IsNewHead s above image cell
  pub other : Cell
  pub other_head : IsNewHead s above image other
  pub lower : line_of s other < line_of s cell
  pub number : ℕ
  pub covered : Covers (bundle_at s image cell) number
  pub too : Covers (bundle_at s image other) number

-- the least line at which a cell has this property
abbrev pub IsLeastLine : Sizes → (Cell → Type 0) → ℕ → Type 0
IsLeastLine s Is line = (cell : Cell) × Is cell × (line_of s cell ≡ line) × ((before : Cell) → line_of s before < line → ¬ Is before)

-- Each head has its complete record, of numbers over the given one, and no two heads cover one number.
pub record IsUndamaged (s : Sizes) (above : ℕ) (image : List ℕ) : Type 0 where
  pub complete : (head : Cell) → IsNewHead s above image head → IsSound s above image head
  pub single : (head other : Cell) (number : ℕ) → IsNewHead s above image head → IsNewHead s above image other
      → Covers (bundle_at s image head) number → Covers (bundle_at s image other) number → head ≡ other

-- The damage is at this line: the first head without a complete record; where there is none, the first of which a head at
-- a lower line covers a number.
abbrev pub IsDamagedAt : Sizes → ℕ → List ℕ → ℕ → Type 0
IsDamagedAt s above image line =
    IsLeastLine s (IsTorn s above image) line
    ⊎ (((cell : Cell) → ¬ IsTorn s above image cell) × IsLeastLine s (IsDuplicateHead s above image) line)
