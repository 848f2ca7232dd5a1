-- What the steps of a commit ask of the slots, and what it leaves of them.
use Rattle.std.specs.Prelude.{ℕ, List}
use mathlib.Core.Option.{Option}
use Rattle.core_events.specs.Words.{State}
use Rattle.core_events.specs.Views.{About}
use Rattle.core_events.specs.Events.{decide, finish, release, restore, store, touch}
use Rattle.atomic_table.specs.declared.shared.Seat.{Seat}
use Rattle.core_table.specs.Known.{Known}
use Rattle.core_table.specs.Layout.{TableSight}
use Rattle.core_table.specs.Rules.{Outlasts}
use Rattle.stm_transactions.specs.Boxes.{without_box}
use Rattle.stm_transactions.specs.Seats.{KeepsSeat, OutlastsReading}

-- The fact of the slots outlasts each step by which a transaction reads, and ends, but for the draw and the post of a number.
pub record OutlastsEnding {S X K : Type 0} (slot_fact : K → State → List X → List (Option S) → Type 0) (t : TableSight K) : Type 0 where
  pub reading : OutlastsReading slot_fact t
  pub decide : Outlasts (slot_fact t.key) t.setup decide
  pub finish : (about : About) → Outlasts (slot_fact t.key) t.setup (finish about)
  pub store : (at : ℕ) → Outlasts (slot_fact t.key) t.setup (store at)
  pub touch : (page : ℕ) → Outlasts (slot_fact t.key) t.setup (touch page)
  pub release : (lock : ℕ) → Outlasts (slot_fact t.key) t.setup (release lock)
  pub restore : (lock : ℕ) → Outlasts (slot_fact t.key) t.setup (restore lock)

-- The seat is of this table as before, and has what it had beside its view, and its slots, but for that of its next box, which it gave
-- where a draw takes it.
abbrev pub GivesBack : {S X K : Type 0} → List S → TableSight K → Seat S (Known X) → Seat S (Known X) → Type 0
GivesBack taken t old new = KeepsSeat t (without_box taken old.me.1) old new
