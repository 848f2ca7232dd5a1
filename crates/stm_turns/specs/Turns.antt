-- What contracts say of a seat that has the turn.
use Rattle.std.specs.Prelude.{◌≡◌, ◌≢◌, ◌⊎◌, ℕ, ◌+◌, ◌-◌, ◌<◌, ltb, if◌then◌else◌, ◌≤◌, true, false, List, [], ◌∷◌, Option, Some, None, Result, Ok, Err, OnOk, slice_index}
use Rattle.std.specs.List.{Contains}
use Rattle.dude_base.specs.Records.{RedoBundle, RedoRecord, first_of}
use Rattle.pmem_trait.specs.Sights.{Sight}
use Rattle.pmem_trait.specs.declared.medium.Medium.{Ghosts}
use Rattle.redo_record.specs.Waiting.{Waiting}
use Rattle.back_store.specs.Back.{BackState, waiting_now, waiting_of_ring}
use Rattle.back_store.specs.BackView.{state_of}
use Rattle.back_store.specs.declared.back_fault.BackFault.{BackFault}
use Rattle.back_store.specs.declared.back_fault.BackFault.TheVariants.{RingFull, Device, Dead}
use Rattle.atomic_table.specs.Table.{rest}
use Rattle.atomic_table.specs.declared.shared.Seat.{Seat}
use Rattle.core_events.specs.Keyed.{has}
use Rattle.core_events.specs.Views.{View}
use Rattle.core_table.specs.Known.{Known}
use Rattle.core_table.specs.Layout.{TableSight}
use Rattle.core_table.specs.Steps.{BelongsTo, IsAfter}
use Rattle.core_events.specs.Events.{take_turn}
use Rattle.stm_slots.specs.KnownLists.{lists}
use Rattle.stm_slots.specs.Records.{HasRecord, IsReached}
use Rattle.stm_slots.specs.Beside.{Hands, Beside}
use Rattle.stm_slots.specs.Lists.{IsSettled}
use Rattle.stm_slots.specs.Opening.{setup_of}
use Rattle.stm_slots.specs.declared.home.Home.{Home as TheHome}
use Rattle.stm_slots.specs.declared.slot.Slot.{Slot}
use Rattle.stm_slots.specs.declared.slot.Slot.TheVariants.{Record}
use Rattle.stm_slots.specs.declared.opening.Opening.{Opening}
use Rattle.stm_turns.specs.Holding.{Held, Holding, IsInHand, slots_out}

-- ---- views, records and backs
-- what steps of the turn leave of a view
abbrev pub settled_view : View → View
settled_view v = record v { turn = record v.turn { full = []; touches = []; filled = [] }; found = None; count = 0 }

-- what steps of the turn leave of a view, also those that raise the durable number
abbrev pub raised_view : View → View
raised_view v = record v { turn = record v.turn { durable = 0; full = []; touches = []; filled = [] }; found = None; count = 0 }

-- The durable number that the view knows doesn't fall. Where it was the one before, it is the one after now
pub record DurableRises {S : Type 0} (before after : ℕ) (old new : Seat S (Known Beside)) : Type 0 where
  pub rises : old.me.0.view.turn.durable ≤ new.me.0.view.turn.durable
  pub tells : old.me.0.view.turn.durable ≡ before → new.me.0.view.turn.durable ≡ after

-- no less than the number, where there is one
abbrev pub IsNoLess : Option ℕ → ℕ → Type 0
IsNoLess None m = ⊥
IsNoLess (Some n) m = n ≤ m

-- each number that the view drew was handed over to the back, or is no less than this one, where there is one
abbrev pub HandedBelow : Known Beside → Option ℕ → Type 0
HandedBelow k n = (hs : Hands) → k.beside.turn ≡ Some hs → (m : ℕ) → has k.view.drawn m ≡ true → HasRecord hs.lists.records m ⊎ IsNoLess n m

-- the number of the record, where there is one
abbrev pub number_in : Option RedoRecord → Option ℕ
number_in None = None
number_in (Some r) = Some r.number

-- the record that was found in front of a thread's boxes, in hand
abbrev pub found_in : ℕ → List ℕ → Option RedoRecord → List Held
found_in thread next None = []
found_in thread next (Some r) = record { thread = thread; place = slice_index next thread; redo = r } ∷ []

-- The number is announced, and nothing that waits leads on
pub record IsAnnounced (v : BackState) (n : ℕ) : Type 0 where
  pub alive : v.dead ≡ false
  pub durable : v.log.durable ≡ n
  pub next : (w : Waiting) → Contains (waiting_now v) w → first_of w.redo ≢ n + 1

-- the place behind this one, round so many boxes
abbrev pub place_after : ℕ → ℕ → ℕ
place_after boxes place = if ltb (place + 1) boxes then (place + 1) else (place + 1 - boxes)

-- what the seat has with the turn has this reproduced word
abbrev pub HasShown : {S : Type 0} → Seat S (Known Beside) → ℕ → Type 0
HasShown seat n = (hs : Hands) → seat.me.0.beside.turn ≡ Some hs → hs.shown ≡ n

-- the seat is of this thread, and has no open number
abbrev pub IsOwn : {S : Type 0} → ℕ → Seat S (Known Beside) → Type 0
IsOwn thread seat = (seat.me.0.view.part.thread ≡ Some thread) × (seat.me.0.view.tx.hand.number ≡ 0)

-- where it is the own thread that was looked at, what it drew below the number found was handed over
abbrev pub LooksAtAll : {S : Type 0} → ℕ → Option RedoRecord → Seat S (Known Beside) → Seat S (Known Beside) → Type 0
LooksAtAll thread result old new = IsOwn thread old → HandedBelow new.me.0 (number_in result)

-- the number is up to the durable one, or up to one that waits in the ring of the thread
abbrev pub IsPast : BackState → ℕ → ℕ → Type 0
IsPast v thread n = (n ≤ v.log.durable) ⊎ ((q : RedoBundle) × Contains (waiting_of_ring v thread) q × (n ≤ q.last))

module _ {M : Type 0} {ghosts : Ghosts M} where
  -- the slot that a seat took last has a record
  abbrev pub FrontRecord : List (ℕ × Slot M ghosts) → ℕ → Type 0
  FrontRecord slots k = (r : RedoRecord) × (slots ≡ (k, Record r) ∷ rest slots)

-- ---- the seat with the turn
-- The seat is of the table, has its number still, and no slot is out
pub record IsBare {S X K : Type 0} (t : TableSight K) (old new : Seat S (Known X)) : Type 0 where
  pub belongs : BelongsTo t new
  pub id : new.id ≡ old.id
  pub slots : new.me.1 ≡ []

-- The turn word wasn't 0, so another seat has the turn: this one made the event alone
pub record IsOthers {S X K : Type 0} (t : TableSight K) (seen : ℕ) (old new : Seat S (Known X)) : Type 0 where
  pub held : seen ≢ 0
  pub belongs : BelongsTo t new
  pub view : IsAfter t take_turn old new seen
  pub bare : new.me.1 ≡ []

module _ {M : Type 0} {ghosts : Ghosts M} (sight : M → Sight) (t : TableSight (Opening M ghosts)) where
  -- The seat has the turn, with this of the back's slot and perhaps records in hand
  pub record InTurn (seat : Seat (Slot M ghosts) (Known Beside)) (h : TheHome M ghosts) (hand : List Held) : Type 0 where
    pub belongs : BelongsTo t seat
    pub setup : t.setup ≡ setup_of sight t.key
    pub holding : Holding sight t.key seat.me.0 h hand
    pub slots : seat.me.1 ≡ slots_out sight (setup_of sight t.key) hand
    -- no record was handed over since the last step
    pub same : holding.stale.records ≡ holding.records
    pub in_hand : IsInHand (setup_of sight t.key) (lists (state_of h.back) holding.records) hand

  -- The seat took the turn, with this of the back's slot, where all is done that can be
  pub record HasTaken (old new : Seat (Slot M ghosts) (Known Beside)) (h : TheHome M ghosts) : Type 0 where
    pub is_after : IsAfter t take_turn old new 0
    pub in_turn : InTurn new h []
    pub settled : IsSettled (state_of h.back)

  -- The seat made steps of the turn, and has this of the back's slot behind them, and perhaps records in hand
  pub record Stepped (old new : Seat (Slot M ghosts) (Known Beside)) (h : TheHome M ghosts) (hand : List Held) : Type 0 where
    pub id : new.id ≡ old.id
    pub turn : InTurn new h hand
    pub view : settled_view new.me.0.view ≡ settled_view old.me.0.view
    pub handed : (n : Option ℕ) → HandedBelow old.me.0 n → HandedBelow new.me.0 n

  -- The seat made such steps, of which some may have raised the durable number that it knows
  pub record Advanced (before after : ℕ) (old new : Seat (Slot M ghosts) (Known Beside)) (h : TheHome M ghosts) (hand : List Held) : Type 0 where
    pub id : new.id ≡ old.id
    pub turn : InTurn new h hand
    pub view : raised_view new.me.0.view ≡ raised_view old.me.0.view
    pub durable : DurableRises before after old new
    pub handed : (n : Option ℕ) → HandedBelow old.me.0 n → HandedBelow new.me.0 n

  -- whatever records were in hand, the seat made steps of the turn, and has them in hand still
  abbrev pub SteppedOn : Seat (Slot M ghosts) (Known Beside) → Seat (Slot M ghosts) (Known Beside) → TheHome M ghosts → TheHome M ghosts → Type 0
  SteppedOn old new h h2 = (hand : List Held) → InTurn old h hand → Stepped old new h2 hand

  -- and perhaps raised the durable number that it knows
  abbrev pub AdvancedOn : ℕ → ℕ → Seat (Slot M ghosts) (Known Beside) → Seat (Slot M ghosts) (Known Beside) → TheHome M ghosts → TheHome M ghosts → Type 0
  AdvancedOn before after old new h h2 = (hand : List Held) → InTurn old h hand → Advanced before after old new h2 hand

  -- the seat has the turn, with this of the back's slot
  abbrev pub HasHome : Seat (Slot M ghosts) (Known Beside) → TheHome M ghosts → Type 0
  HasHome seat h = (hand : List Held) × InTurn seat h hand

  -- The number is that of the back, and all up to it was handed over
  pub record MayRaise (seat : Seat (Slot M ghosts) (Known Beside)) (h : TheHome M ghosts) (n : ℕ) : Type 0 where
    pub hand : List Held
    pub turn : InTurn seat h hand
    pub alive : (state_of h.back).dead ≡ false
    pub durable : (state_of h.back).log.durable ≡ n
    pub reached : IsReached (setup_of sight t.key).first turn.holding.records n

-- ---- what a call of the back leaves
module _ {M : Type 0} {ghosts : Ghosts M} where
  -- all up to the number is announced and in the home
  pub record EndsSettled (seat : Seat (Slot M ghosts) (Known Beside)) (h : TheHome M ghosts) (n : ℕ) : Type 0 where
    pub is : IsAnnounced (state_of h.back) n
    pub reproduced : (state_of h.back).log.reproduced ≡ n
    pub durable : seat.me.0.view.turn.durable ≡ n

-- Of the back's slot: the places that are emptied next, and the sizes of the store, are as before
pub record KeepsPlaces {M : Type 0} {ghosts : Ghosts M} (h h2 : TheHome M ghosts) : Type 0 where
  pub next : h2.next ≡ h.next
  pub sizes : (state_of h2.back).log.sizes ≡ (state_of h.back).log.sizes

-- ---- which fault a call of the back answers
-- the fault is Dead where the back was dead before, and Device where it was alive
abbrev pub IsFaultOf : BackState → BackFault → Type 0
IsFaultOf v Device = v.dead ≡ false
IsFaultOf v Dead = v.dead ≡ true
IsFaultOf v (RingFull used need) = ⊥

-- the back was alive where the call succeeds; a call that fails leaves it dead, and its fault is that of the back before
abbrev pub FailsBy : {X : Type 0} → Result X BackFault → BackState → BackState → Type 0
FailsBy (Ok x) v w = v.dead ≡ false
FailsBy (Err fault) v w = IsFaultOf v fault × (w.dead ≡ true)

-- and a call that succeeds leaves it alive
abbrev pub LivesBy : {X : Type 0} → Result X BackFault → BackState → BackState → Type 0
LivesBy result v w = FailsBy result v w × OnOk result (w.dead ≡ false)

-- ---- the numbers of a thread's records rise
-- each number that was past in the ring of the thread was less than this one, which is past now
pub record RisesTo (m thread : ℕ) (v w : BackState) : Type 0 where
  pub over : (low : ℕ) → IsPast v thread low → low < m
  pub past : IsPast w thread m

-- what was past is so still
abbrev pub KeepsPast : BackState → BackState → Type 0
KeepsPast v w = (thread low : ℕ) → IsPast v thread low → IsPast w thread low
