-- What a command meets: the medium, the files and the sink.
use Rattle.std.specs.Prelude.{◌≡◌, ◌≤◌}
use Rattle.pmem_trait.specs.Sights.{Sight}
use Rattle.dude_io.specs.Files.{FilesSight}
use Rattle.dude_io.specs.Sink.{SinkSight}

-- the medium, the files and the sink, as clauses see them
pub record World : Type 0 where
  pub medium : Sight
  pub files : FilesSight
  pub sink : SinkSight

-- the sink's count of faults doesn't fall, and it stays visible or not
pub record SinkStays (s t : SinkSight) : Type 0 where
  pub faults : s.faults ≤ t.faults
  pub is_visible : t.is_visible ≡ s.is_visible

-- a medium, files and a sink, taken together
abbrev pub world_of : Sight → FilesSight → SinkSight → World
world_of medium files sink = record { medium = medium; files = files; sink = sink }

-- the medium, the files and the sink are as they were, with their counts of calls and faults
abbrev pub IsSameWorld : World → World → Type 0
IsSameWorld old new = (new.medium ≡ old.medium) × (new.files ≡ old.files) × (new.sink ≡ old.sink)
