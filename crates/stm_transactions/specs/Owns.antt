-- Locks that are taken, and what a call leaves of them.
use Rattle.std.specs.Prelude.{◌≡◌, ℕ, ◌⊎◌, List, Some, None}
use Rattle.atomic_table.specs.declared.shared.Seat.{Seat}
use Rattle.dude_base.specs.declared.write.Write.{Write}
use Rattle.core_events.specs.Setups.{Setup}
use Rattle.core_events.specs.Views.{the_lock, View}
use Rattle.core_events.specs.Events.{take}
use Rattle.core_table.specs.Known.{Known, known_after}
use Rattle.core_table.specs.Layout.{TableSight}
use Rattle.stm_transactions.specs.declared.bad_lock.BadLock.{BadLock}
use Rattle.stm_transactions.specs.Looks.{AreUpTo, HasChanged, InConflict, Within}
use Rattle.stm_transactions.specs.Pairs.{Noted, pairs_of}
use Rattle.stm_transactions.specs.Seats.{HasNotFallen, HasRisen}

-- the view after a lock was taken, or a try of it, with these locks and this snapshot
pub record AfterOwn (owned : List (ℕ × ℕ)) (snapshot2 : ℕ) (v w : View) : Type 0 where
  pub within : Within v w
  pub like : w.tx ≡ record v.tx { snapshot = w.tx.snapshot; extension = w.tx.extension; checked = w.tx.checked; look = w.tx.look; loaded = w.tx.loaded; owned = w.tx.owned }
  pub snap : w.tx.snapshot ≡ snapshot2
  pub ended : w.tx.extension ≡ None
  pub owned_are : w.tx.owned ≡ owned
  pub upto : AreUpTo v.tx.snapshot v → AreUpTo snapshot2 v
  pub counted : HasNotFallen v.count w.count

-- an exchange of this lock's word was the last event, and found another word than the look before it; neither is the thread's own
pub record HasNotTaken {X : Type 0} (z : Setup) (thread lock seen : ℕ) (v : View) (k : Known X) : Type 0 where
  pub before : Known X
  pub tried : k ≡ known_after z (take lock) before seen
  pub changed : HasChanged thread lock seen before.view
  pub found : k.view.found ≡ Some (the_lock lock, seen)
  pub counted : HasRisen v.count k.view.count

-- why the lock `own` wasn't taken
abbrev pub IsOwnStop : {X : Type 0} → Setup → ℕ → ℕ → List (ℕ × ℕ) → ℕ → ℕ → ℕ → View → Known X → Type 0
IsOwnStop z thread snapshot reads own lock seen v k = InConflict z thread snapshot reads own lock seen v k.view ⊎ ((lock ≡ own) × HasNotTaken z thread lock seen v k)

-- ---- of a seat

-- the locks of the view are those that are noted
abbrev pub OwnsHeld : List Write → View → Type 0
OwnsHeld held v = v.tx.owned ≡ pairs_of held

module _ {S X : Type 0} where
  -- the lock is owned and noted, at this snapshot
  abbrev pub HasOwned : ℕ → List Write → List Write → ℕ → Seat S (Known X) → Seat S (Known X) → Type 0
  HasOwned lock held held2 snapshot old new = AfterOwn (pairs_of held2) snapshot old.me.0.view new.me.0.view × Noted lock held held2

  -- no lock was taken
  abbrev pub HasOwnedNone : List Write → List Write → ℕ → Seat S (Known X) → Seat S (Known X) → Type 0
  HasOwnedNone held held2 snapshot old new = (held2 ≡ held) × AfterOwn (pairs_of held) snapshot old.me.0.view new.me.0.view

  -- this lock has this word, which isn't good, or isn't the one that was looked at
  abbrev pub FailsToOwn : {K : Type 0} → ℕ → ℕ → List (ℕ × ℕ) → ℕ → TableSight K → Seat S (Known X) → Seat S (Known X) → BadLock → Type 0
  FailsToOwn thread snapshot reads lock t old new c = IsOwnStop t.setup thread snapshot reads lock c.lock c.seen old.me.0.view new.me.0
