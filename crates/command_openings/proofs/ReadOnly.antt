-- An image that is only read.
use Rattle.std.proofs.Common.{◌≡◌, ℕ, Bool, true, false, IsTrue, List, inl, refl}
use Rattle.std.specs.Prelude.{Err}
use Rattle.dude_base.specs.declared.sizes.Sizes.{Sizes}
use Rattle.pmem_trait.specs.Sights.{Sight, Risen, state_now}
use Rattle.pmem_trait.specs.Words.{IsSettled}
use Rattle.pmem_trait.specs.Reads.{ContentHas, OnlyReads}
use Rattle.tatp_model.specs.declared.tables.Tables.{Tables}
use Rattle.tatp_model.specs.Database.{database_of}
use Rattle.tatp_layout.specs.StandsFor.{StandsFor}
use Rattle.image_recovery.specs.Faults.{IsFaultOn, ReadsMade}
use Rattle.image_recovery.specs.Recovered.{IsRecovered, RecoversArray}
use Rattle.image_recovery.specs.declared.open_fault.OpenFault.{OpenFault}
use Rattle.image_recovery.specs.declared.open_fault.OpenFault.TheVariants as opening
use Rattle.dude_recover.specs.Answers.{StillRecovers}
use Rattle.dude_recover.proofs.SettledReads.{content_kept, reads_keep}
use Rattle.dude_engine.specs.Opening.{Opening, IsOpening}
use Rattle.command_openings.specs.Faults.{fault_of_opening}
use Rattle.command_openings.specs.ImageRead.{FailsReading}
use Rattle.command_openings.specs.Opens.{OpensPartly}
use Rattle.command_openings.specs.Openings.{IsOpeningOn}
use Rattle.command_openings.proofs.Images.{calls_fit}
use Rattle.command_openings.proofs.ImageOpened.{on_content, partly_opened}

-- why an image wasn't recovered
pub fails_reading : (X : Type 0) (fault : OpenFault) (s t : Sight) → ReadsMade {X = X} (Err fault) s t → IsFaultOn s fault → (fault ≡ opening.Device → Risen s.faults t.faults) → FailsReading s t (fault_of_opening fault)
fails_reading X opening.Unformatted s t reads is device = ((is, reads), (true, reads))
fails_reading X (opening.Damaged line) s t reads is device = ((is, reads), (true, reads))
fails_reading X (opening.NotDb word) s t reads is device = ((is, reads), (true, reads))
fails_reading X opening.Device s t reads is device = ((device refl, inl (inl reads)), (false, reads))
fails_reading X opening.NoMemory s t reads is device = (inl reads, (true, reads))

-- what was recovered is an opening of the content
pub read_on : (sizes : Sizes) (number : ℕ) (words : List ℕ) (tables : Tables) (s : Sight) → IsRecovered s.len sizes number words → ContentHas (RecoversArray sizes number words) s → StandsFor sizes words (database_of tables)
    → IsOpening (record { number = number; sizes = sizes; database = database_of tables }) × IsOpeningOn s (record { number = number; sizes = sizes; database = database_of tables })
read_on sizes number words tables s found recovered stands = (
  record { small = found.small; accepted = found.accepted; in_order = stands.in_order; room = calls_fit sizes words (database_of tables) stands },
  on_content sizes number words (record { number = number; sizes = sizes; database = database_of tables }) s refl refl stands recovered,
)

-- where a medium at rest is only read, every image stays an opening of it
pub read_partly : {ok : Bool} {s t : Sight} → (IsTrue s.is_visible → IsSettled s.len (state_now s)) → OnlyReads ok s t → (opening : Opening) → IsOpeningOn s opening → OpensPartly false opening s t
read_partly {s = s} {t = t} settled reads opening on =
    partly_opened opening s t (reads_keep (StillRecovers (state_now s).told opening.number opening.sizes opening.database) reads (content_kept s settled on))
