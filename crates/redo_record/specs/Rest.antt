-- Header, mark and home: as an image has them, and as a medium has them settled.
use Rattle.std.specs.Prelude.{◌≡◌, ℕ, ◌*◌, ◌<◌, ◌≤◌, List, length, slice_index}
use Rattle.dude_base.specs.declared.limits.TheConstants.{MARK, PAGE}
use Rattle.dude_base.specs.declared.sizes.Sizes.{Sizes}
use Rattle.dude_base.specs.Image.{header_words, home_word, image_words}
use Rattle.pmem_trait.specs.Words.{State, IsImage, settled_at}
use Rattle.redo_record.specs.Images.{mark_of}

-- The image has the header of this version and these sizes, the mark at this number, and these home words.
pub record HasHome (version : ℕ) (s : Sizes) (number : ℕ) (home image : List ℕ) : Type 0 where
  pub header : (i : ℕ) → i < MARK → slice_index image i ≡ slice_index (header_words version s) i
  pub mark : mark_of image ≡ number
  pub count : length home ≡ s.pages * PAGE
  pub words : (i : ℕ) → i < length home → slice_index image (home_word s i) ≡ slice_index home i
  pub whole : image_words s ≤ length image

-- The medium rests at an image with the header of this version and these sizes, the mark at this number, and these home
-- words: they are settled.
pub record RestsAt (version : ℕ) (s : Sizes) (number : ℕ) (home : List ℕ) (p : State) : Type 0 where
  pub header : (i : ℕ) → i < MARK → p.word i ≡ settled_at (slice_index (header_words version s) i)
  pub mark : p.word MARK ≡ settled_at number
  pub count : length home ≡ s.pages * PAGE
  pub words : (i : ℕ) → i < length home → p.word (home_word s i) ≡ settled_at (slice_index home i)

-- Every image has what the medium rests at.
abbrev pub LawOfImagesAtRest : Type 0
LawOfImagesAtRest = (version : ℕ) (s : Sizes) (number : ℕ) (home : List ℕ) (p : State) (len : ℕ) (image : List ℕ) → image_words s ≤ len
    → RestsAt version s number home p → IsImage len p image → HasHome version s number home image
