-- What the laws of the layers say: an allowed event, a split and a join each keep what a layer says, where other layers hold beside it.
use Rattle.std.specs.Prelude.{◌≡◌, ℕ, true}
use Rattle.core_events.specs.Setups.{Setup}
use Rattle.core_events.specs.Views.{View}
use Rattle.core_events.specs.Words.{State}
use Rattle.core_events.specs.Events.{Event}
use Rattle.core_events.specs.Conditions.{IsAllowed, after}
use Rattle.core_events.specs.Partings.{MaySplit, MayJoin, split, join}
use Rattle.core_events.specs.Ghosts.{Ghost, ghost_after, ghost_joined}
use Rattle.core_events.specs.Kept.{LayersKept}
use Rattle.core_events.specs.KeptTurn.{TurnKept}
-- the layers
pub use Rattle.core_events.specs.KeptEntries.{EntriesKept}
pub use Rattle.core_events.specs.KeptNumbers.{NumbersKept}
pub use Rattle.core_events.specs.KeptOrder.{OrderKept}
pub use Rattle.core_events.specs.KeptPages.{PagesKept}
pub use Rattle.core_events.specs.KeptValues.{ValuesKept}
pub use Rattle.core_events.specs.Layers.{ThreadsIn, LocksIn}

-- what a layer says of a state, with the ghost beside it
abbrev pub Layer : Type 1
Layer = Setup → Ghost → State → Type 0

-- nothing has to hold beside the layer
abbrev pub Alone : Layer
Alone z g c = Unit {0}

-- the layers of threads and of locks hold
pub record OverLocks (z : Setup) (g : Ghost) (c : State) : Type 0 where
  pub threads : ThreadsIn z g c
  pub locks : LocksIn z g c

-- the layers of threads, of locks and of the turn hold
pub record OverTurn (z : Setup) (g : Ghost) (c : State) : Type 0 where
  pub threads : ThreadsIn z g c
  pub locks : LocksIn z g c
  pub turn : TurnKept z c

-- the layers of threads, of locks, of the turn and of numbers hold
pub record OverNumbers (z : Setup) (g : Ghost) (c : State) : Type 0 where
  pub threads : ThreadsIn z g c
  pub locks : LocksIn z g c
  pub turn : TurnKept z c
  pub numbers : NumbersKept z g c

-- all layers that say nothing of values hold, and it is known what the medium gives
pub record OverLayers (z : Setup) (g : Ghost) (c : State) : Type 0 where
  pub layers : LayersKept z g c
  pub told : z.is_told ≡ true

-- the layer of the turn says nothing of the ghost
abbrev pub TurnIn : Layer
TurnIn z g c = TurnKept z c

-- an allowed event keeps what the layer says, where the other holds beside it
abbrev pub EventKeeps : Layer → Layer → Type 0
EventKeeps Beside Says =
    (z : Setup) (e : Event) (c : State) (who : ℕ) (v : View) (g : Ghost) → Beside z g c → Says z g c → IsAllowed z c who e v → Says z (ghost_after z g c who v e) (after z c who v e)

-- a split of a view keeps what the layer says, where the other holds beside it
abbrev pub SplitKeeps : Layer → Layer → Type 0
SplitKeeps Beside Says = (z : Setup) (c : State) (who draws : ℕ) (v : View) (g : Ghost) → Beside z g c → Says z g c → MaySplit c who v draws → Says z g (split z c who v draws)

-- a join of two views keeps what the layer says, where the other holds beside it
abbrev pub JoinKeeps : Layer → Layer → Type 0
JoinKeeps Beside Says =
    (z : Setup) (c : State) (who other : ℕ) (v w : View) (g : Ghost) → Beside z g c → Says z g c → MayJoin c who v other w → Says z (ghost_joined g who other) (join z c who v other w)
