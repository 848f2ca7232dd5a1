-- What an `EventTable` is seen as, and what it keeps of its fields.
use Rattle.std.specs.Prelude.{◌≡◌, ℕ, ◌<◌, ◌≤◌, ◌^◌}
use Rattle.dude_base.specs.declared.limits.TheConstants.{MAX_RINGS, MAX_LOCKS, MAX_BOXES}
use Rattle.atomic_table.specs.Seated.{TableId}
use Rattle.core_events.specs.Setups.{Setup}
use Rattle.core_table.specs.Places.{count}

-- which table it is, the key that it was made with, and what this sets the machine up with
pub record TableSight (K : Type 0) : Type 0 where
  pub id : TableId
  pub key : K
  pub setup : Setup

-- the sizes are so small that the place of each word is a number of 64 bits
pub record IsSmall (z : Setup) : Type 0 where
  pub some_lock : 0 < z.locks
  pub threads : z.threads ≤ MAX_RINGS
  pub locks : z.locks ≤ MAX_LOCKS
  pub boxes : z.boxes ≤ MAX_BOXES
  pub frames : z.frames ≤ z.pages
  pub pages : z.pages ≤ 2 ^ 32

-- a table has as many words as its setup needs, and these sizes are those of the setup
pub record IsLaidOut (z : Setup) (words threads locks pages frames boxes : ℕ) : Type 0 where
  pub small : IsSmall z
  pub words_are : words ≡ count z
  pub threads_are : z.threads ≡ threads
  pub locks_are : z.locks ≡ locks
  pub pages_are : z.pages ≡ pages
  pub frames_are : z.frames ≡ frames
  pub boxes_are : z.boxes ≡ boxes

-- the machine starts the same, whatever is known of its medium
abbrev pub IsSameStart : Setup → Setup → Type 0
IsSameStart y z = z ≡ record y { is_told = z.is_told; may_fail = z.may_fail }
