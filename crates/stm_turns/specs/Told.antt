-- What each step of the thread with the turn tells it, where its lists are known to be there, but not which.
use Rattle.std.specs.Prelude.{◌≡◌, ◌⊎◌, ℕ, ◌<◌, ◌≤◌, true, false, List, [], ◌∷◌, Option, Some, None, slice_index}
use Rattle.dude_base.specs.Records.{RedoRecord}
use Rattle.pmem_trait.specs.Sights.{Sight}
use Rattle.pmem_trait.specs.declared.medium.Medium.{Ghosts}
use Rattle.back_store.specs.BackView.{medium_of, state_of}
use Rattle.core_events.specs.Keyed.{has}
use Rattle.core_events.specs.Events.{Event, raise_durable, raise_reproduced, view_after}
use Rattle.core_events.specs.Views.{View}
use Rattle.core_events.specs.Telling.{IsSeated}
use Rattle.stm_slots.specs.KnownLists.{lists}
use Rattle.stm_slots.specs.Known.{Known as KnownBy}
use Rattle.stm_slots.specs.Records.{HasRecord, LacksRecord, writes_in}
use Rattle.std.specs.List.{Contains}
use Rattle.stm_slots.specs.Beside.{Hands}
use Rattle.stm_slots.specs.Opening.{setup_of, since_of}
use Rattle.stm_slots.specs.Turns.{Seated, SawFull, SawNumber}
use Rattle.stm_slots.specs.declared.home.Home.{Home as TheHome}
use Rattle.stm_slots.specs.declared.slot.Slot.{Slot}
use Rattle.stm_slots.specs.declared.opening.Opening.{Opening}
use Rattle.stm_turns.specs.Holding.{hands_of}

-- each number that the hands' lists have, the records have too
abbrev pub HasGrown : Option Hands → List RedoRecord → Type 0
HasGrown turn records = (hs : Hands) → turn ≡ Some hs → (n : ℕ) → HasRecord hs.lists.records n → HasRecord records n

-- the reproduced word is what the step makes of it, where it raises it
abbrev pub IsRaisedTo : Event → ℕ → Type 0
IsRaisedTo (raise_reproduced n) shown = shown ≡ n
IsRaisedTo e shown = Unit {0}

-- the durable number that the view knows is no greater than the one that the step raises it to
abbrev pub RisesFrom : Event → View → Type 0
RisesFrom (raise_durable n) v = v.turn.durable ≤ n
RisesFrom e v = Unit {0}

-- all but the last one
abbrev pub but_last : {A : Type 0} → List A → List A
but_last [] = []
but_last (x ∷ []) = []
but_last (x ∷ y ∷ xs) = x ∷ but_last (y ∷ xs)

-- the boxes whose slots are out
abbrev pub boxes_in : Option Hands → List (ℕ × RedoRecord)
boxes_in None = []
boxes_in (Some hs) = hs.boxes

module _ {M : Type 0} {ghosts : Ghosts M} (sight : M → Sight) where
  -- the step e was made with this of the back's slot, and leaves these boxes and slots out, with some records
  pub record Went (o : Opening M ghosts) (e : Event) (h : TheHome M ghosts) (boxes : List (ℕ × RedoRecord)) (left : List (ℕ × Slot M ghosts)) (m : Seated M ghosts) (n : ℕ) (w : Seated M ghosts) : Type 0 where
    pub records : List RedoRecord
    pub shown : ℕ
    pub seated : IsSeated (setup_of sight o) w.0.view
    pub view : w.0.view ≡ view_after (setup_of sight o) e m.0.view n
    pub beside : w.0.beside.turn ≡ Some (hands_of sight h records shown boxes)
    pub slots : w.1 ≡ left
    pub known : KnownBy (since_of sight o) (lists (state_of h.back) records) (sight (medium_of h.back))
    pub grown : HasGrown m.0.beside.turn records

  -- such a step, behind which the records in hand are ones that were handed over
  pub record WentHanded (o : Opening M ghosts) (e : Event) (h : TheHome M ghosts) (boxes : List (ℕ × RedoRecord)) (left : List (ℕ × Slot M ghosts)) (m : Seated M ghosts) (n : ℕ) (w : Seated M ghosts) : Type 0 where
    pub went : Went o e h boxes left m n w
    pub handed : (k : ℕ) (r : RedoRecord) → Contains boxes (k, r) → HasRecord went.records r.number × (writes_in went.records r.number ≡ r.writes)

  -- such a step, behind which none of the records in hand was handed over to a back that isn't dead
  pub record WentLacking (o : Opening M ghosts) (e : Event) (h : TheHome M ghosts) (boxes : List (ℕ × RedoRecord)) (left : List (ℕ × Slot M ghosts)) (m : Seated M ghosts) (n : ℕ) (w : Seated M ghosts) : Type 0 where
    pub went : Went o e h boxes left m n w
    pub lacks : (state_of h.back).dead ≡ false → (k : ℕ) (r : RedoRecord) → Contains boxes (k, r) → LacksRecord went.records r.number

  -- a word was raised, and no record was handed over since the step before
  pub record Raised (o : Opening M ghosts) (e : Event) (h : TheHome M ghosts) (m : Seated M ghosts) (n : ℕ) (w : Seated M ghosts) : Type 0 where
    pub went : Went o e h (boxes_in m.0.beside.turn) m.1 m n w
    pub same : (hs : Hands) → m.0.beside.turn ≡ Some hs → hs.lists.records ≡ went.records
    pub raised : IsRaisedTo e went.shown
    pub rises : RisesFrom e m.0.view

  -- A look at the front box of a thread, which found n. Where it is the own thread, which has no open number: a number that it drew was
  -- handed over, unless it is in a box, where it is no less than the one found
  pub record SawFront (o : Opening M ghosts) (thread : ℕ) (h : TheHome M ghosts) (m : Seated M ghosts) (n : ℕ) (w : Seated M ghosts) : Type 0 where
    pub records : List RedoRecord
    pub shown : ℕ
    pub known : KnownBy (since_of sight o) (lists (state_of h.back) records) (sight (medium_of h.back))
    pub grown : HasGrown m.0.beside.turn records
    pub saw : SawFull sight o thread (slice_index h.next thread) (hands_of sight h records shown []) m n w
    pub drawn : m.0.view.part.thread ≡ Some thread → m.0.view.tx.hand.number ≡ 0 → (k : ℕ) → has m.0.view.drawn k ≡ true → HasRecord records k ⊎ ((0 < n) × (n ≤ k))

  -- A look that takes the record only of this number, with the hands that the seat had and no record handed over since the step before
  pub record SawNext (o : Opening M ghosts) (thread place number : ℕ) (h : TheHome M ghosts) (m : Seated M ghosts) (n : ℕ) (w : Seated M ghosts) : Type 0 where
    pub records : List RedoRecord
    pub shown : ℕ
    pub known : KnownBy (since_of sight o) (lists (state_of h.back) records) (sight (medium_of h.back))
    pub grown : HasGrown m.0.beside.turn records
    pub same : (hs : Hands) → m.0.beside.turn ≡ Some hs → hs.lists.records ≡ records
    pub saw : SawNumber sight o thread place number (hands_of sight h records shown (boxes_in m.0.beside.turn)) m n w
