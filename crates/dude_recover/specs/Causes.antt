-- Why no image was made, and which calls were made by then.
use Rattle.std.specs.Prelude.{◌≡◌, ℕ, ◌<◌, ◌≤◌, ⊤, Bool, true, false, List, Result, Ok, Err}
use Rattle.dude_base.specs.declared.sizes.Sizes.{Sizes}
use Rattle.dude_base.specs.Sizes.{IsAccepted, IsFirstOut}
use Rattle.dude_base.specs.Image.{image_words}
use Rattle.pmem_trait.specs.Sights.{Sight, CallsMade, Risen}
use Rattle.tatp_model.specs.Population.{population_calls}
use Rattle.tatp_rows.specs.Populated.{IsPopulated}
use Rattle.tatp_rows.specs.declared.fault.PopFault.{PopFault}
use Rattle.tatp_rows.specs.declared.fault.PopFault.TheVariants as population
use Rattle.dude_recover.specs.FormatCalls.{format_calls}
use Rattle.dude_recover.specs.declared.format_fault.FormatFault.{FormatFault}
use Rattle.dude_recover.specs.declared.format_fault.FormatFault.TheVariants.{Size, Small, TooFew, Device, NoMemory}

-- An image of these sizes can be made on so many words: the sizes are accepted, there are words enough, and the population
-- has no more call rows than there may be.
pub record FitsImage (s : Sizes) (len : ℕ) : Type 0 where
  pub accepted : IsAccepted s
  pub room : image_words s ≤ len
  pub calls : population_calls s.subscribers ≤ s.calls

-- what a fault of the population is for a new image
abbrev pub fault_of_population : PopFault → FormatFault
fault_of_population (population.TooFew rows calls) = TooFew rows calls
fault_of_population population.NoMemory = NoMemory

-- The first cause that fits. The medium fails, and memory is asked for, only where the image fits.
abbrev pub HasFormatCause : Sizes → Sight → Sight → FormatFault → Type 0
HasFormatCause sizes s t (Size field) = IsFirstOut field sizes
HasFormatCause sizes s t (Small has needs) = IsAccepted sizes × (has ≡ s.len) × (needs ≡ image_words sizes) × (has < needs)
HasFormatCause sizes s t (TooFew rows calls) =
    IsAccepted sizes × (image_words sizes ≤ s.len) × (rows ≡ population_calls sizes.subscribers) × (calls ≡ sizes.calls) × (calls < rows)
HasFormatCause sizes s t Device = FitsImage sizes s.len × Risen s.faults t.faults
HasFormatCause sizes s t NoMemory = FitsImage sizes s.len

-- the calls that make an image with the population's home, all of them or a prefix whose last one failed
abbrev pub FormatsSome : Sizes → Bool → Sight → Sight → Type 0
FormatsSome sizes ok s t = (home : List ℕ) × IsPopulated sizes home × CallsMade (format_calls sizes home) ok s t

-- At Ok exactly these calls were made, and at Device a prefix of them, whose last one failed; else none.
abbrev pub FormatCallsMade : {X : Type 0} → Sizes → Result X FormatFault → Sight → Sight → Type 0
FormatCallsMade sizes (Ok x) s t = FormatsSome sizes true s t
FormatCallsMade sizes (Err Device) s t = FormatsSome sizes false s t
FormatCallsMade sizes (Err (Size field)) s t = t ≡ s
FormatCallsMade sizes (Err (Small has needs)) s t = t ≡ s
FormatCallsMade sizes (Err (TooFew rows calls)) s t = t ≡ s
FormatCallsMade sizes (Err NoMemory) s t = t ≡ s

-- the result that is this fault
abbrev pub fault_result : FormatFault → Result ⊤ FormatFault
fault_result fault = Err fault
