-- The pins of a transaction, and what a call leaves of them.
use Rattle.std.specs.Prelude.{◌≡◌, ◌≢◌, ℕ, true, false, List, [], ◌∷◌, Option, Some, None}
use Rattle.atomic_table.specs.declared.shared.Seat.{Seat}
use Rattle.dude_base.specs.declared.write.Write.{Write}
use Rattle.word_space.specs.declared.stop.Stop.{Stop}
use Rattle.word_space.specs.declared.stop.Stop.TheVariants.{Out, Busy}
use Rattle.core_events.specs.Setups.{Setup}
use Rattle.core_events.specs.Keyed.{find}
use Rattle.core_events.specs.Views.{the_entry, View}
use Rattle.core_events.specs.Events.{pin, view_after}
use Rattle.core_table.specs.Known.{Known}
use Rattle.core_table.specs.Layout.{TableSight}
use Rattle.stm_transactions.specs.declared.pinned.Pinned.{Pinned}
use Rattle.stm_transactions.specs.Pairs.{pairs_of}
use Rattle.stm_transactions.specs.Seats.{HasNotFallen, HasRisen, IsLive}

-- the one page that a transaction pins between its calls, or none
abbrev pub pin_list : Option Pinned → List (ℕ × ℕ)
pin_list None = []
pin_list (Some p) = (p.page, p.frame) ∷ []

-- a transaction that may pin pages and take pins back
pub record IsPinning (pins : List (ℕ × ℕ)) (v : View) : Type 0 where
  pub its : IsLive v
  pub is_open : v.tx.is_open ≡ true
  pub no_number : v.tx.hand.number ≡ 0
  pub no_turn : v.turn.has_it ≡ false
  pub pins_are : v.paging.pins ≡ pins

-- one that pins the page of a call, or none
abbrev pub IsPinningOne : Option Pinned → View → Type 0
IsPinningOne pinned v = IsPinning (pin_list pinned) v

-- one that pins the pages of a list, each in its frame
abbrev pub IsPinningAll : List Write → View → Type 0
IsPinningAll frames v = IsPinning (pairs_of frames) v

-- w is v with these pins
pub record Paged (pins : List (ℕ × ℕ)) (v w : View) : Type 0 where
  pub rest : w ≡ record v { paging = w.paging; found = w.found; count = w.count }
  pub pins_are : w.paging.pins ≡ pins
  pub counted : HasNotFallen v.count w.count

-- why a page couldn't be pinned: its entry was found as 0, or the pin found another entry than the one that was loaded
abbrev pub IsNotPinned : Setup → ℕ → Stop → View → Type 0
IsNotPinned z page (Out p) w = (p ≡ page) × (w.found ≡ Some (the_entry page, 0))
IsNotPinned z page (Busy p seen) w = (p ≡ page) × (w.found ≡ Some (the_entry page, seen)) × ((u : View) × (n : ℕ) × (w ≡ view_after z (pin page) u seen) × (find u.paging.entries page ≡ Some n) × (n ≢ seen))
IsNotPinned z page e w = ⊥

-- ---- of a seat

-- the pins of a seat's view
abbrev pub pins_in : {S X : Type 0} → Seat S (Known X) → List (ℕ × ℕ)
pins_in s = s.me.0.view.paging.pins

module _ {S X : Type 0} where
  -- the page is pinned in this frame, beside those that were
  abbrev pub HasPinned : ℕ → Seat S (Known X) → Seat S (Known X) → ℕ → Type 0
  HasPinned page old new frame = Paged ((page, frame) ∷ pins_in old) old.me.0.view new.me.0.view

  -- the pins are as they were
  abbrev pub LeavesPins : Seat S (Known X) → Seat S (Known X) → Type 0
  LeavesPins old new = Paged (pins_in old) old.me.0.view new.me.0.view

  -- no page is pinned
  abbrev pub LetsGo : Seat S (Known X) → Seat S (Known X) → Type 0
  LetsGo old new = Paged [] old.me.0.view new.me.0.view

  -- just this page is pinned, in this frame
  abbrev pub Reaches : ℕ → Option Pinned → Seat S (Known X) → Seat S (Known X) → ℕ → Type 0
  Reaches page pinned old new frame = (pin_list pinned ≡ (page, frame) ∷ []) × Paged (pin_list pinned) old.me.0.view new.me.0.view

  -- none is pinned
  abbrev pub ReachesNone : Option Pinned → Seat S (Known X) → Seat S (Known X) → Type 0
  ReachesNone pinned old new = (pinned ≡ None) × Paged [] old.me.0.view new.me.0.view

  -- why a page wasn't pinned
  abbrev pub StopsPin : {K : Type 0} → TableSight K → ℕ → Seat S (Known X) → Seat S (Known X) → Stop → Type 0
  StopsPin t page old new stop = IsNotPinned t.setup page stop new.me.0.view × (HasRisen old.me.0.view.count new.me.0.view.count)
