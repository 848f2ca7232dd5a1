-- What an event drops of the words read.
use Rattle.std.specs.Prelude.{◌≡◌, ℕ, List, []}
use Rattle.core_events.specs.Setups.{Setup}
use Rattle.core_events.specs.Views.{View}
use Rattle.core_events.specs.Words.{State}
use Rattle.core_events.specs.Events.{Event, unfilled}
use Rattle.core_medium.specs.Stores.{Store}
use Rattle.core_medium.specs.Machines.{store_after}
use Rattle.dude_core.specs.declared.dropped.Dropped.{Dropped}
use Rattle.dude_core.specs.declared.dropped.Dropped.TheVariants.{Nothing, Everything, OfPage}

-- what is left of the words read
abbrev pub dropped_from : Dropped → List (ℕ × ℕ) → List (ℕ × ℕ)
dropped_from Nothing read = read
dropped_from Everything read = []
dropped_from (OfPage p) read = unfilled p read

-- the event drops this of the words read, and leaves all else of a store
abbrev pub Drops : Setup → Event → State → View → Dropped → Type 0
Drops z e c v dropped = (d : Store) → store_after z e c v d ≡ record d { read = dropped_from dropped d.read }
