-- The draw of a number, and the check of the reads behind it.
use Rattle.std.specs.Prelude.{◌≡◌, ℕ, true, false, List, map, All, Option, Some, None}
use Rattle.atomic_table.specs.declared.shared.Seat.{Seat}
use Rattle.dude_base.specs.declared.write.Write.{Write}
use Rattle.core_events.specs.Setups.{Setup, lock_of}
use Rattle.core_events.specs.Keyed.{has}
use Rattle.core_events.specs.Views.{the_lock, View}
use Rattle.core_events.specs.Events.{is_good}
use Rattle.core_events.specs.Conditions.{IsUndecided}
use Rattle.core_table.specs.Known.{Known}
use Rattle.core_table.specs.Layout.{TableSight}
use Rattle.stm_transactions.specs.declared.bad_lock.BadLock.{BadLock}
use Rattle.stm_transactions.specs.declared.pinned.Pinned.{Pinned}
use Rattle.stm_transactions.specs.Pairs.{pairs_of}
use Rattle.stm_transactions.specs.Pins.{pin_list}
use Rattle.stm_transactions.specs.Running.{IsRunning}
use Rattle.stm_transactions.specs.declared.commit.Commit.{Commit}
use Rattle.stm_transactions.specs.Seats.{HasNotFallen, HasRisen, IsOf}

-- a number is drawn and neither decided nor void, and the reads are to be checked
pub record IsChecking (thread snapshot : ℕ) (reads : List (ℕ × ℕ)) (v : View) : Type 0 where
  pub of : IsOf thread v
  pub loaded : v.tx.loaded ≡ None
  pub no_extension : v.tx.extension ≡ None
  pub undecided : IsUndecided v.tx.hand
  pub snap : v.tx.snapshot ≡ snapshot
  pub reads_are : v.tx.reads ≡ reads

-- w is v but for the checked locks and what was found
abbrev pub CheckedOn : View → View → Type 0
CheckedOn v w = w ≡ record v { tx = record v.tx { checked = w.tx.checked }; found = w.found; count = w.count }

-- each lock of the reads was found good
pub record IsChecked (z : Setup) (reads : List (ℕ × ℕ)) (v w : View) : Type 0 where
  pub on : CheckedOn v w
  pub good : All (λ r. has w.tx.checked (lock_of z r.0) ≡ true) reads
  pub counted : HasNotFallen v.count w.count

-- one wasn't, and the number is void
pub record IsVoided (z : Setup) (thread snapshot : ℕ) (reads : List (ℕ × ℕ)) (lock seen : ℕ) (v w : View) : Type 0 where
  pub on : w ≡ record v { tx = record v.tx { checked = w.tx.checked; hand = record v.tx.hand { void = true } }; found = w.found; count = w.count }
  pub found : w.found ≡ Some (the_lock lock, seen)
  pub of_read : has (map (λ r. lock_of z r.0) reads) lock ≡ true
  pub bad : is_good (Some thread) snapshot seen ≡ false
  pub counted : HasRisen v.count w.count

-- ---- of a seat
module _ {S X : Type 0} where
  -- its transaction runs, and pins the pages of its writes
  abbrev pub RunsPaged : {K : Type 0} → TableSight K → Commit → List Write → Seat S (Known X) → Type 0
  RunsPaged t c frames s = IsRunning t.setup c.thread c.snapshot c.reads.now c.writes.now (pairs_of c.held.now) (pairs_of frames) s.me.0.view

  -- its transaction runs, and pins the page that it read last, or none
  abbrev pub RunsPinned : {K : Type 0} → TableSight K → Commit → Option Pinned → Seat S (Known X) → Type 0
  RunsPinned t c pinned s = IsRunning t.setup c.thread c.snapshot c.reads.now c.writes.now (pairs_of c.held.now) (pin_list pinned) s.me.0.view

  -- each lock of the reads was found good
  abbrev pub HasChecked : {K : Type 0} → List (ℕ × ℕ) → TableSight K → Seat S (Known X) → Seat S (Known X) → Type 0
  HasChecked reads t old new = IsChecked t.setup reads old.me.0.view new.me.0.view

  -- this lock has this word, which isn't good, and the number is void
  abbrev pub HasVoided : {K : Type 0} → ℕ → ℕ → List (ℕ × ℕ) → TableSight K → Seat S (Known X) → Seat S (Known X) → BadLock → Type 0
  HasVoided thread snapshot reads t old new c = IsVoided t.setup thread snapshot reads c.lock c.seen old.me.0.view new.me.0.view
