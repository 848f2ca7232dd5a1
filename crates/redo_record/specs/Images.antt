-- An image read by its words: sizes, mark, home, and the cells of its rings.
use Rattle.std.specs.Prelude.{ℕ, ◌<◌, List, slice_index, slice_range}
use Rattle.dude_base.specs.declared.limits.TheConstants.{MARK}
use Rattle.dude_base.specs.declared.sizes.Sizes.{Sizes}
use Rattle.dude_base.specs.Image.{home_word, image_words, Cell, cell_start}
use Rattle.dude_base.specs.Records.{RedoBundle, first_of}
use Rattle.redo_record.specs.Tags.{IsHeadOver}
use Rattle.redo_record.specs.Cells.{IsCell, word_at}
use Rattle.redo_record.specs.Record.{HoldComplete, FitsVersion, record_of}

-- the sizes that an image names
abbrev pub sizes_of : List ℕ → Sizes
sizes_of image = record {
  subscribers = slice_index image 2;
  calls = slice_index image 3;
  rings = slice_index image 4;
  cells = slice_index image 5;
  pages = slice_index image 6;
  index = slice_index image 7;
}

-- the version that an image names
abbrev pub version_of : List ℕ → ℕ
version_of image = slice_index image 1

-- the number up to which the home has all writes
abbrev pub mark_of : List ℕ → ℕ
mark_of image = slice_index image MARK

-- the home words
abbrev pub home_of : Sizes → List ℕ → List ℕ
home_of s image = slice_range image (home_word s 0) (image_words s)

-- the tag of a cell
abbrev pub tag_of : Sizes → List ℕ → Cell → ℕ
tag_of s image cell = slice_index image (cell_start s cell)

-- word j of the k-th cell from this one on
abbrev pub word_in_image : Sizes → List ℕ → Cell → ℕ → ℕ → ℕ
word_in_image s image head k j = slice_index image (word_at s head k j)

-- what the cells from this one on hold
abbrev pub bundle_at : Sizes → List ℕ → Cell → RedoBundle
bundle_at s image head = record_of (word_in_image s image head)

-- The head at this cell has a complete record.
abbrev pub IsComplete : Sizes → List ℕ → Cell → Type 0
IsComplete s image head = HoldComplete s (word_in_image s image head)

-- The head has a complete record by the rules of the image's version, and all numbers of it are over this one.
pub record IsSound (s : Sizes) (above : ℕ) (image : List ℕ) (head : Cell) : Type 0 where
  pub complete : IsComplete s image head
  pub version : FitsVersion (version_of image) (word_in_image s image head)
  pub over : above < first_of (bundle_at s image head)

-- The cell is a head with a last number over this one.
pub record IsNewHead (s : Sizes) (above : ℕ) (image : List ℕ) (head : Cell) : Type 0 where
  pub cell : IsCell s head
  pub new : IsHeadOver above (tag_of s image head)
