-- The image that a command only reads.
use Rattle.std.specs.Prelude.{Bool, true, MatchResult, Result}
use Rattle.pmem_trait.specs.Sights.{Sight}
use Rattle.pmem_trait.specs.Reads.{OnlyReads}
use Rattle.tatp_model.specs.Database.{database_of}
use Rattle.dude_engine.specs.Opening.{Opening, IsOpening}
use Rattle.command_edges.specs.declared.fault.Fault.{Fault}
use Rattle.command_openings.specs.declared.image_read.ImageRead.{ImageRead}
use Rattle.command_openings.specs.Faults.{HasOpenFault}
use Rattle.command_openings.specs.Openings.{IsOpeningOn}

-- the opening that the image has
abbrev pub opening_read : ImageRead → Opening
opening_read image = record { number = image.number; sizes = image.sizes; database = database_of image.tables }

-- the medium's content recovers to the image's opening
abbrev pub IsImageOn : Sight → ImageRead → Type 0
IsImageOn medium image = IsOpening (opening_read image) × IsOpeningOn medium (opening_read image)

-- why an image isn't read: its content says why, a read failed, or there was no memory; the medium was only read
abbrev pub FailsReading : Sight → Sight → Fault → Type 0
FailsReading s t fault = HasOpenFault s t fault × ((ok : Bool) × OnlyReads ok s t)

-- Reads alone were made, and none failed; or why the image isn't read.
abbrev pub OnlyReadsImage : {X : Type 0} → Result X Fault → Sight → Sight → Type 0
OnlyReadsImage result s t = MatchResult result (λ x. OnlyReads true s t) (FailsReading s t)
