-- Which opening a command starts from.
use Rattle.dude_base.specs.declared.sizes.Sizes.{Sizes}
use Rattle.pmem_trait.specs.Sights.{Sight}
use Rattle.pmem_trait.specs.Reads.{ContentHas}
use Rattle.tatp_model.specs.Population.{population}
use Rattle.image_recovery.specs.Recovered.{RecoversTo}
use Rattle.dude_engine.specs.Opening.{Opening}
pub use Rattle.dude_engine.specs.Plain.{IsOpeningOf}

-- a new image starts with number 0 and the population
abbrev pub new_opening : Sizes → Opening
new_opening sizes = record { number = 0; sizes = sizes; database = population sizes.subscribers }

-- the medium's content recovers to this opening
abbrev pub IsOpeningOn : Sight → Opening → Type 0
IsOpeningOn medium opening = ContentHas (λ content. RecoversTo content opening.number opening.sizes opening.database) medium
