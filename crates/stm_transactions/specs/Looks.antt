-- Looks at locks and extensions of the snapshot, and what a call leaves of them.
use Rattle.std.specs.Prelude.{◌≡◌, ◌≢◌, ℕ, ◌+◌, ◌*◌, ◌%◌, ◌<◌, ◌≤◌, ◌⊎◌, true, false, List, length, map, All, Some, None, slice_index_or}
use Rattle.atomic_table.specs.declared.shared.Seat.{Seat}
use Rattle.core_events.specs.Setups.{Setup, lock_of}
use Rattle.core_events.specs.Keyed.{has}
use Rattle.core_events.specs.Views.{the_lock, Transaction, View}
use Rattle.core_events.specs.Events.{extend, is_good, own_word}
use Rattle.core_events.specs.Conditions.{Keeps, IsSteady}
use Rattle.core_events.specs.Telling.{IsTold}
use Rattle.core_table.specs.Known.{Known}
use Rattle.core_table.specs.Layout.{TableSight}
use Rattle.stm_transactions.specs.declared.bad_lock.BadLock.{BadLock}
use Rattle.stm_transactions.specs.declared.good_look.GoodLook.{GoodLook}
use Rattle.stm_transactions.specs.Seats.{HasNotFallen, HasRisen, IsOf}

-- what an extension and a look need of the view
pub record IsReading (thread snapshot : ℕ) (reads : List (ℕ × ℕ)) (v : View) : Type 0 where
  pub of : IsOf thread v
  pub steady : IsSteady v.tx
  pub snap : v.tx.snapshot ≡ snapshot
  pub reads_are : v.tx.reads ≡ reads

-- the lock of a read, among so many
abbrev pub lock_at : ℕ → List (ℕ × ℕ) → ℕ → ℕ
lock_at locks reads k = (slice_index_or reads k (0, 0)).0 % locks

-- no read before has the lock of this one
abbrev pub HasNewLock : ℕ → List (ℕ × ℕ) → ℕ → Type 0
HasNewLock locks reads k = (j : ℕ) → j < k → lock_at locks reads j ≢ lock_at locks reads k

-- a read before has the lock of this one
abbrev pub RepeatsLock : ℕ → List (ℕ × ℕ) → ℕ → Type 0
RepeatsLock locks reads k = (j : ℕ) × (j < k) × (lock_at locks reads j ≡ lock_at locks reads k)

-- the last of the first `count` reads, where there is one, has a lock that none before it has
abbrev pub EndsAtNewLock : ℕ → List (ℕ × ℕ) → ℕ → Type 0
EndsAtNewLock locks reads count = (k : ℕ) → count ≡ k + 1 → (k < length reads) × HasNewLock locks reads k

-- all reads from this one on have locks of reads before them
abbrev pub RepeatFrom : ℕ → List (ℕ × ℕ) → ℕ → Type 0
RepeatFrom locks reads count = (k : ℕ) → count ≤ k → k < length reads → RepeatsLock locks reads k

-- y is x but for where an extension is
abbrev pub Moved : Transaction → Transaction → Type 0
Moved x y = y ≡ record x { snapshot = y.snapshot; extension = y.extension; checked = y.checked; loaded = y.loaded }

-- w is v but for its transaction, and what was found
abbrev pub Within : View → View → Type 0
Within v w = w ≡ record v { tx = w.tx; found = w.found; count = w.count }

-- the extension ended with this snapshot
pub record Extended (snapshot : ℕ) (v w : View) : Type 0 where
  pub within : Within v w
  pub moved : Moved v.tx w.tx
  pub snap : w.tx.snapshot ≡ snapshot
  pub ended : w.tx.extension ≡ None
  pub counted : HasNotFallen v.count w.count

-- the entries have numbers up to the snapshot
abbrev pub AreUpTo : ℕ → View → Type 0
AreUpTo snapshot v = All (λ e. e.number ≤ snapshot) v.entries

-- the lock of the last found word isn't good, in an extension: it is that of a read
pub record IsOutdated (z : Setup) (thread snapshot : ℕ) (reads : List (ℕ × ℕ)) (lock seen : ℕ) : Type 0 where
  pub of_read : has (map (λ r. lock_of z r.0) reads) lock ≡ true
  pub bad : is_good (Some thread) snapshot seen ≡ false

-- another thread owns it
pub record IsForeign (thread seen : ℕ) : Type 0 where
  pub owner : ℕ
  pub is : seen ≡ 2 * owner + 1
  pub other : owner ≢ thread

-- it differs from the word that the view saw at its last look, which was of this lock, and neither is the thread's own
pub record HasChanged (thread lock seen : ℕ) (v : View) : Type 0 where
  pub looked : ℕ
  pub look : v.tx.look ≡ Some (lock, looked)
  pub differ : looked ≢ seen
  pub looked_other : looked ≢ own_word (Some thread)
  pub seen_other : seen ≢ own_word (Some thread)

-- The last found word is this lock's. It is the lock of the word `at` and foreign or changed, or that of an earlier read and outdated
pub record InConflict (z : Setup) (thread snapshot : ℕ) (reads : List (ℕ × ℕ)) (own lock seen : ℕ) (v w : View) : Type 0 where
  pub found : w.found ≡ Some (the_lock lock, seen)
  pub counted : HasRisen v.count w.count
  pub why : ((lock ≡ own) × (IsForeign thread seen ⊎ HasChanged thread lock seen w)) ⊎ IsOutdated z thread snapshot reads lock seen

-- the lock was looked at, and its word is good for this snapshot
pub record HasGoodLook (thread lock seen snapshot2 : ℕ) (v w : View) : Type 0 where
  pub within : Within v w
  pub tx : w.tx ≡ record v.tx { snapshot = w.tx.snapshot; extension = w.tx.extension; checked = w.tx.checked; look = w.tx.look; loaded = w.tx.loaded }
  pub snap : w.tx.snapshot ≡ snapshot2
  pub ended : w.tx.extension ≡ None
  pub look : w.tx.look ≡ Some (lock, seen)
  pub good : is_good (Some thread) snapshot2 seen ≡ true
  -- the own word shows the locks that the view owns, and no others
  pub own : seen ≡ own_word (Some thread) → Keeps v.tx.owned lock
  pub owned : Keeps v.tx.owned lock → seen ≡ own_word (Some thread)
  pub upto : AreUpTo v.tx.snapshot v → AreUpTo snapshot2 v
  pub counted : HasRisen v.count w.count

-- it wasn't, and the snapshot stays
pub record HasNoLook (v w : View) : Type 0 where
  pub within : Within v w
  pub tx : w.tx ≡ record v.tx { snapshot = v.tx.snapshot; extension = None; checked = w.tx.checked; look = w.tx.look; loaded = w.tx.loaded }
  pub counted : HasNotFallen v.count w.count

-- ---- of a seat
module _ {S X : Type 0} where
  -- the snapshot is extended to this number
  abbrev pub Extends : {K : Type 0} → TableSight K → Seat S (Known X) → Seat S (Known X) → ℕ → Type 0
  Extends t old new n = Extended n old.me.0.view new.me.0.view × IsTold t.setup extend old.me.0.view n

  -- it stays, since this lock of a read has this word, which isn't good
  abbrev pub FailsToExtend : {K : Type 0} → ℕ → ℕ → List (ℕ × ℕ) → TableSight K → Seat S (Known X) → Seat S (Known X) → BadLock → Type 0
  FailsToExtend thread snapshot reads t old new c = Extended snapshot old.me.0.view new.me.0.view × IsOutdated t.setup thread snapshot reads c.lock c.seen
      × (new.me.0.view.found ≡ Some (the_lock c.lock, c.seen)) × (HasRisen old.me.0.view.count new.me.0.view.count)

  -- the lock has this word, which is good for this snapshot
  abbrev pub LooksAt : ℕ → ℕ → Seat S (Known X) → Seat S (Known X) → GoodLook → Type 0
  LooksAt thread lock old new r = HasGoodLook thread lock r.seen r.snapshot old.me.0.view new.me.0.view

  -- this lock has this word, which isn't good
  abbrev pub FailsToLook : {K : Type 0} → ℕ → ℕ → List (ℕ × ℕ) → ℕ → TableSight K → Seat S (Known X) → Seat S (Known X) → BadLock → Type 0
  FailsToLook thread snapshot reads lock t old new c = HasNoLook old.me.0.view new.me.0.view × InConflict t.setup thread snapshot reads lock c.lock c.seen old.me.0.view new.me.0.view
