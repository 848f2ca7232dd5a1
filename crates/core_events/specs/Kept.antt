-- The kept state. It is laid in layers, each over the words and the views that it speaks of, with a ghost beside that says who has what.
-- A medium beside the state, and a layer that speaks of it, change nothing here.
use Rattle.std.specs.Prelude.{◌≡◌, true}
use Rattle.core_events.specs.Setups.{Setup}
use Rattle.core_events.specs.Words.{State}
use Rattle.core_events.specs.Ghosts.{Ghost}
use Rattle.core_events.specs.Layers.{ThreadsIn, LocksIn}
use Rattle.core_events.specs.KeptValues.{ValuesKept}
use Rattle.core_events.specs.KeptEntries.{EntriesKept}
use Rattle.core_events.specs.KeptNumbers.{NumbersKept}
use Rattle.core_events.specs.KeptTurn.{TurnKept}
use Rattle.core_events.specs.KeptPages.{PagesKept}
use Rattle.core_events.specs.KeptOrder.{OrderKept}

-- the layers that say nothing of values
pub record LayersKept (z : Setup) (g : Ghost) (c : State) : Type 0 where
  pub threads : ThreadsIn z g c
  pub locks : LocksIn z g c
  pub entries : EntriesKept z g c
  pub numbers : NumbersKept z g c
  pub turn : TurnKept z c
  pub pages : PagesKept z g c
  pub order : OrderKept z g c

-- The kept state: with some ghost beside it all layers hold, that of values only where what the medium gives is known.
pub record Kept (z : Setup) (c : State) : Type 0 where
  pub ghost_is : Ghost
  pub layers : LayersKept z ghost_is c
  -- where it is known what the medium gives
  pub values : z.is_told ≡ true → ValuesKept z ghost_is c
