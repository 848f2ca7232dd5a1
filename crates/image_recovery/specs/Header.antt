-- The header of an image: the words before the mark.
use Rattle.std.specs.Prelude.{◌≡◌, ℕ, ◌<◌, ◌≤◌, List, Option, Some, None, slice_index}
use Rattle.dude_base.specs.declared.limits.TheConstants.{MARK}
use Rattle.dude_base.specs.declared.sizes.Sizes.{Sizes}
use Rattle.dude_base.specs.Sizes.{IsAccepted}
use Rattle.dude_base.specs.Image.{header_words, image_words}
use Rattle.pmem_trait.specs.Sights.{Sight}
use Rattle.pmem_trait.specs.Reads.{ContentHas}
use Rattle.redo_record.specs.Images.{sizes_of, version_of}
use Rattle.redo_record.specs.Recovery.{IsVersion}

-- These words are the header of the version and the sizes that they name, which are accepted, and so many words are enough
-- for them.
pub record NamesSizes (len : ℕ) (header : List ℕ) : Type 0 where
  pub same : header ≡ header_words (version_of header) (sizes_of header)
  pub version : IsVersion (version_of header) (sizes_of header)
  pub sizes : IsAccepted (sizes_of header)
  pub whole : image_words (sizes_of header) ≤ len

-- these are the sizes that the header names, or it names none
abbrev pub AreSizes : ℕ → List ℕ → Option Sizes → Type 0
AreSizes len header None = ¬ NamesSizes len header
AreSizes len header (Some s) = NamesSizes len header × (s ≡ sizes_of header)

-- these are the words before the mark, where the medium is visible
abbrev pub IsHeaderOf : Sight → List ℕ → Type 0
IsHeaderOf m header = ContentHas (λ content. (i : ℕ) → i < MARK → slice_index header i ≡ slice_index content i) m
