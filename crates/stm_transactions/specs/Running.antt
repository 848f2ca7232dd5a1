-- A transaction that runs, as its view has it.
use Rattle.std.specs.Prelude.{◌≡◌, ℕ, ◌*◌, ◌<◌, ◌≤◌, true, false, List, length, All, is_some}
use Rattle.dude_base.specs.declared.limits.TheConstants.{PAGE}
use Rattle.dude_base.specs.declared.write.Write.{Write}
use Rattle.dude_base.specs.Writes.{IsWriteList}
use Rattle.core_events.specs.Setups.{Setup, lock_of}
use Rattle.core_events.specs.Keyed.{find}
use Rattle.core_events.specs.Views.{View}
use Rattle.core_events.specs.Conditions.{IsSteady}
use Rattle.stm_transactions.specs.Looks.{AreUpTo}
use Rattle.stm_transactions.specs.Seats.{IsOf}

-- a transaction that runs, with what it keeps of its view
pub record IsRunning (z : Setup) (thread snapshot : ℕ) (reads : List (ℕ × ℕ)) (writes : List Write) (held pins : List (ℕ × ℕ)) (v : View) : Type 0 where
  pub of : IsOf thread v
  pub steady : IsSteady v.tx
  pub snap : v.tx.snapshot ≡ snapshot
  pub reads_are : v.tx.reads ≡ reads
  pub owned_are : v.tx.owned ≡ held
  pub pins_are : v.paging.pins ≡ pins
  pub no_turn : v.turn.has_it ≡ false
  pub box : v.box.is_empty ≡ true
  pub upto : AreUpTo snapshot v
  pub list : IsWriteList writes
  pub inside : All (λ w. w.at < z.pages * PAGE) writes
  pub covered : All (λ w. is_some (find held (lock_of z w.at)) ≡ true) writes
  pub few : length held ≤ length writes
