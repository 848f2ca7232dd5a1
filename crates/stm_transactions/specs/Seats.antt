-- What a seat keeps while its transaction makes steps, and what these steps ask of the slots.
use Rattle.std.specs.Prelude.{◌≡◌, ℕ, ◌≤◌, List, Some, false}
use mathlib.Core.Option.{Option as MaybeSlot}
use Rattle.atomic_table.specs.declared.shared.Seat.{Seat}
use Rattle.core_events.specs.Words.{State}
use Rattle.core_events.specs.Views.{View}
use Rattle.pmem_trait.specs.Faults.{up_to_last}
use Rattle.core_events.specs.Events.{check, entry, extend, load, look, one_more, pin, take, unpin}
use Rattle.core_events.specs.Conditions.{HasThread}
use Rattle.core_table.specs.Known.{Known}
use Rattle.core_table.specs.Layout.{TableSight}
use Rattle.core_table.specs.Rules.{Outlasts}
use Rattle.core_table.specs.Steps.{BelongsTo}

-- a count of found words rose, or stands at its last value
abbrev pub HasRisen : ℕ → ℕ → Type 0
HasRisen old new = one_more old ≤ new

-- it didn't fall, but to its last value
abbrev pub HasNotFallen : ℕ → ℕ → Type 0
HasNotFallen old new = up_to_last old ≤ new

-- The seat is of this table as before, and has what it had beside its view, and just these slots.
pub record KeepsSeat {S X K : Type 0} (t : TableSight K) (left : List (ℕ × S)) (old new : Seat S (Known X)) : Type 0 where
  pub belongs : BelongsTo t new
  pub id : new.id ≡ old.id
  pub beside : new.me.0.beside ≡ old.me.0.beside
  pub slots : new.me.1 ≡ left

-- it has the slots that it had
abbrev pub Stays : {S X K : Type 0} → TableSight K → Seat S (Known X) → Seat S (Known X) → Type 0
Stays t old new = KeepsSeat t old.me.1 old new

-- The fact of the slots outlasts each step by which a transaction pins, looks, reads and takes locks.
pub record OutlastsReading {S X K : Type 0} (slot_fact : K → State → List X → List (MaybeSlot S) → Type 0) (t : TableSight K) : Type 0 where
  pub entry : (page : ℕ) → Outlasts (slot_fact t.key) t.setup (entry page)
  pub pin : (page : ℕ) → Outlasts (slot_fact t.key) t.setup (pin page)
  pub unpin : (page : ℕ) → Outlasts (slot_fact t.key) t.setup (unpin page)
  pub look : (lock : ℕ) → Outlasts (slot_fact t.key) t.setup (look lock)
  pub load : (at : ℕ) → Outlasts (slot_fact t.key) t.setup (load at)
  pub check : (lock : ℕ) → Outlasts (slot_fact t.key) t.setup (check lock)
  pub take : (lock : ℕ) → Outlasts (slot_fact t.key) t.setup (take lock)
  pub extend : Outlasts (slot_fact t.key) t.setup extend

-- the view is of this thread
pub record IsOf (thread : ℕ) (v : View) : Type 0 where
  pub live : v.part.is_spent ≡ false
  pub its : v.part.thread ≡ Some thread

-- it is a live view of some thread
pub record IsLive (v : View) : Type 0 where
  pub live : v.part.is_spent ≡ false
  pub threaded : HasThread v
