-- The seat with the turn and a gathering: what persists, and what of it stays.
use Rattle.std.specs.Prelude.{◌≡◌, ◌≢◌, ℕ, ◌+◌, ◌<◌, Bool, true, false, List, [], ◌∷◌, ◌++◌, Option, Some, None, Result, Ok, Err}
use Rattle.std.specs.List.{Contains}
use Rattle.dude_base.specs.Records.{RedoBundle, RedoRecord}
use Rattle.pmem_trait.specs.Sights.{Sight}
use Rattle.pmem_trait.specs.declared.medium.Medium.{Ghosts}
use Rattle.back_store.specs.Back.{BackState, IsRingFull}
use Rattle.back_store.specs.BackView.{state_of}
use Rattle.back_store.specs.declared.back_fault.BackFault.{BackFault}
use Rattle.atomic_table.specs.declared.shared.Seat.{Seat}
use Rattle.core_events.specs.Keyed.{has}
use Rattle.core_table.specs.Known.{Known}
use Rattle.core_table.specs.Layout.{TableSight}
use Rattle.core_table.specs.Steps.{BelongsTo}
use Rattle.stm_slots.specs.KnownLists.{lists}
use Rattle.stm_slots.specs.Records.{HasRecord, LacksRecord, writes_in}
use Rattle.stm_slots.specs.Beside.{Beside}
use Rattle.stm_slots.specs.Opening.{setup_of}
use Rattle.stm_slots.specs.Queues.{back_slot}
use Rattle.stm_slots.specs.declared.home.Home.{Home as TheHome}
use Rattle.stm_slots.specs.declared.slot.Slot.{Slot}
use Rattle.stm_slots.specs.declared.slot.Slot.TheVariants.{Empty, Record}
use Rattle.stm_slots.specs.declared.opening.Opening.{Opening}
use Rattle.stm_turns.specs.Gathered.{AreApart, AreFronts, AreThreads, IsGathered}
use Rattle.stm_turns.specs.Holding.{Held, Holding, IsHeld, box_held, boxes_held, slots_held, slots_out}
use Rattle.stm_turns.specs.Turns.{EndsSettled, HandedBelow, InTurn, IsAnnounced, RisesTo, Stepped, settled_view}
use Rattle.stm_turns.specs.declared.gathering.Gathering.{Gathering}

-- the number behind this one isn't one that the view drew
abbrev pub NextIsNotDrawn : {S : Type 0} → Seat S (Known Beside) → ℕ → Type 0
NextIsNotDrawn seat n = has seat.me.0.view.drawn (n + 1) ≡ false

-- the ring had no room for the bundle, and nothing changed
abbrev pub FoundFull : ℕ → RedoBundle → BackState → BackState → Type 0
FoundFull ring b v w = (w ≡ v) × IsRingFull v ring b

-- All that leads on is announced and in the home, and the ring still has no room for the bundle
pub record IsFullStill (ring : ℕ) (b : RedoBundle) (v : BackState) : Type 0 where
  pub number : ℕ
  pub announced : IsAnnounced v number
  pub reproduced : v.log.reproduced ≡ number
  pub full : IsRingFull v ring b

-- where there is a number, all ends settled at it, behind a bundle more of the thread; else at the one that is given, and the next isn't one that the view drew
abbrev pub EndsNext : {M : Type 0} {ghosts : Ghosts M} → ℕ → ℕ → Seat (Slot M ghosts) (Known Beside) → TheHome M ghosts → TheHome M ghosts → Option ℕ → Type 0
EndsNext own number seat h h2 None = EndsSettled seat h2 number × NextIsNotDrawn seat number
EndsNext own number seat h h2 (Some n) = EndsSettled seat h2 n × ((m : ℕ) × RisesTo m own (state_of h.back) (state_of h2.back))

module _ {M : Type 0} {ghosts : Ghosts M} (sight : M → Sight) (t : TableSight (Opening M ghosts)) where
  -- ---- with a gathering in hand
  -- The seat has the turn, with this of the back's slot and the records of a gathering in hand
  pub record InTurnWith (seat : Seat (Slot M ghosts) (Known Beside)) (h : TheHome M ghosts) (g : Gathering) : Type 0 where
    pub hand : List Held
    pub turn : InTurn sight t seat h hand
    pub gathered : IsGathered (setup_of sight t.key) h.next (state_of h.back).log.sizes.cells hand g

  -- The seat made steps of the turn, and has the records of a gathering in hand behind them
  pub record SteppedWith (old new : Seat (Slot M ghosts) (Known Beside)) (h : TheHome M ghosts) (g : Gathering) : Type 0 where
    pub hand : List Held
    pub step : Stepped sight t old new h hand
    pub gathered : IsGathered (setup_of sight t.key) h.next (state_of h.back).log.sizes.cells hand g

  -- a bundle that was persisted, or met a fault, is in hand no more; one whose ring was full stays
  abbrev pub SteppedBy : Result Bool BackFault → Seat (Slot M ghosts) (Known Beside) → Seat (Slot M ghosts) (Known Beside) → TheHome M ghosts → Gathering → Type 0
  SteppedBy (Ok true) old new h g = Stepped sight t old new h []
  SteppedBy (Ok false) old new h g = SteppedWith old new h g
  SteppedBy (Err fault) old new h g = Stepped sight t old new h []

  -- ---- a look for a number
  -- The seat may look for the number at a place of a thread's boxes: no record in hand has it
  pub record MayLook (seat : Seat (Slot M ghosts) (Known Beside)) (h : TheHome M ghosts) (thread place number : ℕ) : Type 0 where
    pub hand : List Held
    pub turn : InTurn sight t seat h hand
    pub inside : thread < (setup_of sight t.key).threads
    pub near : place < (setup_of sight t.key).boxes
    pub some : 0 < number
    pub others : (p : Held) → Contains hand p → p.redo.number ≢ number

  -- The record of the number was found there; its slot is the one that was taken last
  pub record HasFound (old new : Seat (Slot M ghosts) (Known Beside)) (h : TheHome M ghosts) (hand : List Held) (thread place number : ℕ) : Type 0 where
    pub redo : RedoRecord
    pub number_is : redo.number ≡ number
    pub id : new.id ≡ old.id
    pub belongs : BelongsTo t new
    pub setup : t.setup ≡ setup_of sight t.key
    pub holding : Holding sight t.key new.me.0 h (hand ++ record { thread = thread; place = place; redo = redo } ∷ [])
    pub slots : new.me.1 ≡ (box_held (setup_of sight t.key) (record { thread = thread; place = place; redo = redo }), Record redo) ∷ slots_out sight (setup_of sight t.key) hand
    pub same : holding.stale.records ≡ holding.records
    pub in_hand : (p : Held) → Contains (hand ++ record { thread = thread; place = place; redo = redo } ∷ []) p → IsHeld (setup_of sight t.key) (lists (state_of h.back) holding.records) p
    pub apart : (q : RedoRecord) → Contains (boxes_held (setup_of sight t.key) hand) (box_held (setup_of sight t.key) (record { thread = thread; place = place; redo = redo }), q) → ⊥
    pub view : settled_view new.me.0.view ≡ settled_view old.me.0.view
    pub handed : (n : Option ℕ) → HandedBelow old.me.0 n → HandedBelow new.me.0 n

  -- whatever records are in hand, this one was found behind them
  abbrev pub FindsNumber : Seat (Slot M ghosts) (Known Beside) → Seat (Slot M ghosts) (Known Beside) → TheHome M ghosts → ℕ → ℕ → ℕ → Type 0
  FindsNumber old new h thread place number = (hand : List Held) → InTurn sight t old h hand → HasFound old new h hand thread place number

  -- The seat found a record there
  pub record HasLast (seat : Seat (Slot M ghosts) (Known Beside)) (h : TheHome M ghosts) (thread place : ℕ) : Type 0 where
    pub before : Seat (Slot M ghosts) (Known Beside)
    pub hand : List Held
    pub number : ℕ
    pub found : HasFound before seat h hand thread place number

  -- whichever record the seat found there, it is in its box again
  abbrev pub PutsLast : Seat (Slot M ghosts) (Known Beside) → Seat (Slot M ghosts) (Known Beside) → TheHome M ghosts → ℕ → ℕ → Type 0
  PutsLast old new h thread place = (before : Seat (Slot M ghosts) (Known Beside)) (hand : List Held) (number : ℕ) → HasFound before old h hand thread place number → Stepped sight t before new h hand

  -- ---- records go
  -- the slots of these records, and behind them the back's, which is empty
  abbrev pub slots_let : List Held → List (ℕ × Slot M ghosts)
  slots_let hand = slots_held sight (setup_of sight t.key) hand ++ (back_slot (setup_of sight t.key), Empty) ∷ []

  -- The seat has the turn, these records in hand, and these slots
  pub record IsLetting (seat : Seat (Slot M ghosts) (Known Beside)) (h : TheHome M ghosts) (hand : List Held) (slots : List (ℕ × Slot M ghosts)) : Type 0 where
    pub belongs : BelongsTo t seat
    pub setup : t.setup ≡ setup_of sight t.key
    pub holding : Holding sight t.key seat.me.0 h hand
    pub slots_are : seat.me.1 ≡ slots
    pub near : (p : Held) → Contains hand p → p.place < (setup_of sight t.key).boxes
    pub apart : AreApart (setup_of sight t.key) hand

  -- The records in hand were handed over, and each is in front of its thread's boxes behind those before it
  pub record MayEmpty (seat : Seat (Slot M ghosts) (Known Beside)) (h : TheHome M ghosts) (hand : List Held) (slots : List (ℕ × Slot M ghosts)) : Type 0 where
    pub letting : IsLetting seat h hand slots
    pub ahead : List ℕ
    pub fronts : AreFronts (setup_of sight t.key) h.next hand ahead
    pub handed : (p : Held) → Contains hand p → HasRecord letting.holding.records p.redo.number × (writes_in letting.holding.records p.redo.number ≡ p.redo.writes)

  -- The records in hand may be put back into boxes from these places on: they weren't handed over, or the back is dead
  pub record MayPutBack (seat : Seat (Slot M ghosts) (Known Beside)) (h : TheHome M ghosts) (places : List ℕ) (hand : List Held) (slots : List (ℕ × Slot M ghosts)) : Type 0 where
    pub letting : IsLetting seat h hand slots
    pub ahead : List ℕ
    pub fronts : AreFronts (setup_of sight t.key) places hand ahead
    pub lacks : (state_of h.back).dead ≡ false → (p : Held) → Contains hand p → LacksRecord letting.holding.records p.redo.number

  -- the seat made steps of the turn, as far as its view tells
  pub record WentOver (old new : Seat (Slot M ghosts) (Known Beside)) : Type 0 where
    pub id : new.id ≡ old.id
    pub view : settled_view new.me.0.view ≡ settled_view old.me.0.view
    pub handed : (n : Option ℕ) → HandedBelow old.me.0 n → HandedBelow new.me.0 n

  -- So many boxes of records in hand were emptied, and these are left
  pub record HasEmptied (done : ℕ) (old new : Seat (Slot M ghosts) (Known Beside)) (h : TheHome M ghosts) (left : List Held) : Type 0 where
    pub went : WentOver old new
    pub may : MayEmpty new h left (slots_let left)
    pub fresh : 0 < done → may.letting.holding.stale.records ≡ may.letting.holding.records

  -- So many records in hand were put back, and these are left, from these places on
  pub record HasPutBack (done : ℕ) (old new : Seat (Slot M ghosts) (Known Beside)) (h : TheHome M ghosts) (places : List ℕ) (left : List Held) : Type 0 where
    pub went : WentOver old new
    pub may : MayPutBack new h places left (slots_let left)
    pub fresh : 0 < done → may.letting.holding.stale.records ≡ may.letting.holding.records

  -- The record that was taken first is from this thread, and its box may be emptied
  pub record MayEmptyFirst (seat : Seat (Slot M ghosts) (Known Beside)) (h : TheHome M ghosts) (thread : ℕ) : Type 0 where
    pub first : Held
    pub left : List Held
    pub may : MayEmpty seat h (first ∷ left) (slots_let (first ∷ left))
    pub thread_is : first.thread ≡ thread

  -- whichever record was taken first, from this thread, its box was emptied
  abbrev pub EmptiesFirst : Seat (Slot M ghosts) (Known Beside) → Seat (Slot M ghosts) (Known Beside) → TheHome M ghosts → TheHome M ghosts → ℕ → Type 0
  EmptiesFirst old new h h2 thread = (first : Held) (left : List Held) → MayEmpty old h (first ∷ left) (slots_let (first ∷ left)) → first.thread ≡ thread → HasEmptied 1 old new h2 left

  -- All records of a gathering were handed over, and their boxes may be emptied
  pub record MayEmptyAll (seat : Seat (Slot M ghosts) (Known Beside)) (h : TheHome M ghosts) (g : Gathering) : Type 0 where
    pub hand : List Held
    pub may : MayEmpty seat h hand (slots_out sight (setup_of sight t.key) hand)
    pub threads : AreThreads g.threads g.count 0 hand
    pub some : 0 < g.count

  -- All records of a gathering may be put back
  pub record MayPutAllBack (seat : Seat (Slot M ghosts) (Known Beside)) (h : TheHome M ghosts) (g : Gathering) : Type 0 where
    pub hand : List Held
    pub may : MayPutBack seat h h.next hand (slots_out sight (setup_of sight t.key) hand)
    pub threads : AreThreads g.threads g.count 0 hand
    pub some : 0 < g.count
