-- What a format makes of its medium and leaves of it.
use Rattle.std.specs.Prelude.{◌≡◌, true, IsTrue, List, ℕ}
use Rattle.dude_base.specs.declared.sizes.Sizes.{Sizes}
use Rattle.pmem_trait.specs.Words.{IsSettled}
use Rattle.pmem_trait.specs.Sights.{Sight, state_now}
use Rattle.dude_recover.specs.declared.format_fault.FormatFault.{FormatFault}
use Rattle.dude_recover.specs.Causes.{FitsImage, FormatCallsMade, FormatsSome, HasFormatCause, fault_result}
use Rattle.dude_recover.specs.NewImages.{IsNewImage, ShowsNewImage}

-- At Ok there is a new image on the medium.
pub record FormatsTo (sizes : Sizes) (s t : Sight) : Type 0 where
  -- it fits
  pub fits : FitsImage sizes s.len
  -- exactly the calls that make it were made
  pub calls : FormatsSome sizes true s t
  -- the length stays
  pub len : t.len ≡ s.len
  -- from the moment that 0 is told on, each image recovers to 0 and the population
  pub images : ShowsNewImage sizes s t
  -- where the medium is visible, it is settled at the image, with the mark at 0 and no head, and 0 was told
  pub rests : IsTrue s.is_visible → (home : List ℕ) × IsNewImage sizes home (state_now s) (state_now t)
  -- all its words are settled then, also those behind the image
  pub settled : IsTrue s.is_visible → IsSettled s.len (state_now t)

-- No image was made, and this is why.
pub record NoFormat (sizes : Sizes) (fault : FormatFault) (s t : Sight) : Type 0 where
  -- the first cause that fits
  pub cause : HasFormatCause sizes s t fault
  -- at Device a prefix of the calls that make it was made, whose last one failed; else none
  pub calls : FormatCallsMade sizes (fault_result fault) s t
  -- the length stays
  pub len : t.len ≡ s.len
  -- from the moment that 0 is told on, each image recovers to 0 and the population
  pub images : ShowsNewImage sizes s t
