-- What a read of a word leaves, and why it stops.
use Rattle.std.specs.Prelude.{◌≡◌, ℕ, List, [], ◌∷◌, ◌++◌, Option, None}
use Rattle.atomic_table.specs.declared.shared.Seat.{Seat}
use Rattle.word_space.specs.declared.stop.Stop.{Stop}
use Rattle.word_space.specs.declared.stop.Stop.TheVariants.{Conflict, Out, Busy}
use Rattle.core_events.specs.Setups.{Setup, lock_of, page_of}
use Rattle.core_events.specs.Views.{Transaction, View}
use Rattle.core_table.specs.Known.{Known}
use Rattle.core_table.specs.Layout.{TableSight}
use Rattle.stm_transactions.specs.declared.pinned.Pinned.{Pinned}
use Rattle.stm_transactions.specs.Looks.{AreUpTo, InConflict}
use Rattle.stm_transactions.specs.Pins.{IsNotPinned, pin_list}
use Rattle.stm_transactions.specs.Seats.{HasRisen, HasNotFallen}

-- y is x but for its snapshot and reads, and what is looked at
abbrev pub Like : Transaction → Transaction → Type 0
Like x y = y ≡ record x { snapshot = y.snapshot; extension = y.extension; reads = y.reads; checked = y.checked; look = y.look; loaded = y.loaded }

-- the view after a read, or a try of one, with these reads, this snapshot and these pins
pub record AfterRead (reads : List (ℕ × ℕ)) (snapshot2 : ℕ) (pins : List (ℕ × ℕ)) (v w : View) : Type 0 where
  pub rest : w ≡ record v { tx = w.tx; paging = w.paging; found = w.found; count = w.count }
  pub like : Like v.tx w.tx
  pub snap : w.tx.snapshot ≡ snapshot2
  pub ended : w.tx.extension ≡ None
  pub reads_are : w.tx.reads ≡ reads
  pub pins_are : w.paging.pins ≡ pins
  pub upto : AreUpTo v.tx.snapshot v → AreUpTo snapshot2 v
  pub counted : HasNotFallen v.count w.count

-- why a read of the word `at` stopped
abbrev pub IsReadStop : Setup → ℕ → ℕ → List (ℕ × ℕ) → ℕ → Stop → View → View → Type 0
IsReadStop z thread snapshot reads at (Conflict lock seen) v w = InConflict z thread snapshot reads (lock_of z at) lock seen v w
IsReadStop z thread snapshot reads at (Out p) v w = IsNotPinned z (page_of at) (Out p) w × (HasRisen v.count w.count)
IsReadStop z thread snapshot reads at (Busy p seen) v w = IsNotPinned z (page_of at) (Busy p seen) w × (HasRisen v.count w.count)
IsReadStop z thread snapshot reads at e v w = ⊥

-- ---- of a seat
module _ {S X : Type 0} where
  -- the word was read with this value, at this snapshot, with this page pinned
  abbrev pub HasRead : List (ℕ × ℕ) → ℕ → ℕ → Option Pinned → Seat S (Known X) → Seat S (Known X) → ℕ → Type 0
  HasRead reads at snapshot pinned old new x = AfterRead (reads ++ (at, x) ∷ []) snapshot (pin_list pinned) old.me.0.view new.me.0.view

  -- nothing was read
  abbrev pub HasReadNone : List (ℕ × ℕ) → ℕ → Option Pinned → Seat S (Known X) → Seat S (Known X) → Type 0
  HasReadNone reads snapshot pinned old new = AfterRead reads snapshot (pin_list pinned) old.me.0.view new.me.0.view

  -- why
  abbrev pub StopsRead : {K : Type 0} → ℕ → ℕ → List (ℕ × ℕ) → ℕ → TableSight K → Seat S (Known X) → Seat S (Known X) → Stop → Type 0
  StopsRead thread snapshot reads at t old new stop = IsReadStop t.setup thread snapshot reads at stop old.me.0.view new.me.0.view
