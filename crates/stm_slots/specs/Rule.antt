-- The rule of the slots.
use Rattle.std.specs.Prelude.{◌≡◌, ◌⊎◌, ℕ, ◌+◌, ◌<◌, true, List, [], length, Some}
use Rattle.std.specs.List.{Contains}
use mathlib.Core.Option.{Option as Maybe, none, some}
use lib.ListN.{get_elem?}
use Rattle.dude_base.specs.Records.{RedoRecord}
use Rattle.pmem_trait.specs.Sights.{Sight}
use Rattle.pmem_trait.specs.declared.medium.Medium.{Ghosts}
use Rattle.back_store.specs.BackView.{medium_of, state_of}
use Rattle.core_events.specs.Setups.{Setup, box_of}
use Rattle.stm_slots.specs.Known.{IsKnown}
use Rattle.stm_slots.specs.Beside.{Hands, Beside}
use Rattle.stm_slots.specs.Stage.{Owner, Stage}
use Rattle.stm_slots.specs.Opening.{setup_of, since_of}
use Rattle.stm_slots.specs.Queues.{back_slot, Queued}
use Rattle.stm_slots.specs.Lists.{IsBoxed, ListsKept, IsSettled}
use Rattle.stm_slots.specs.Pages.{IsMapped}
use Rattle.stm_slots.specs.declared.home.Home.{Home as TheHome}
use Rattle.stm_slots.specs.declared.slot.Slot.{Slot}
use Rattle.stm_slots.specs.declared.slot.Slot.TheVariants.{Empty, Record, Home}
use Rattle.stm_slots.specs.declared.opening.Opening.{Opening}

module _ {M : Type 0} {ghosts : Ghosts M} (sight : M → Sight) where
  -- what the slot of the back has is what these hands say
  pub record IsHome (o : Opening M ghosts) (h : TheHome M ghosts) (hands : Hands) : Type 0 where
    pub state : state_of h.back ≡ hands.lists.state
    pub next : h.next ≡ hands.next
    pub map : h.pager ≡ hands.map
    pub known : IsKnown (since_of sight o) hands.lists (sight (medium_of h.back))
    pub settled : IsSettled hands.lists.state
    pub boxes : hands.boxes ≡ []

  -- The slots of boxes: one with a number has its record, unless the holder of the turn took it; an empty one is empty, or the view whose
  -- next box it is has it, while it has an open number
  pub record BoxSlots (z : Setup) (s : Stage) (taken : List (ℕ × RedoRecord)) (homes : List (Maybe (Slot M ghosts))) : Type 0 where
    pub full : (k n : ℕ) → get_elem? s.boxes k ≡ some n → 0 < n → ((r : RedoRecord) × Contains taken (k, r))
        ⊎ ((r : RedoRecord) × IsBoxed s k r × (get_elem? homes k ≡ some (some (Record r))))
    pub hand : (k : ℕ) (r : RedoRecord) → Contains taken (k, r) → IsBoxed s k r × (0 < r.number) × (k < back_slot z) × (get_elem? homes k ≡ some none)
    pub free : (k : ℕ) → get_elem? s.boxes k ≡ some 0 → (get_elem? homes k ≡ some (some Empty))
        ⊎ ((j : ℕ) × (t : ℕ) × (o : Owner) × (get_elem? s.owners j ≡ some o) × (0 < o.number) × (o.thread ≡ Some t) × (k ≡ box_of z t o.next))
    pub opened : (j : ℕ) (o : Owner) → get_elem? s.owners j ≡ some o → 0 < o.number
        → (t : ℕ) × (o.thread ≡ Some t) × (get_elem? s.boxes (box_of z t o.next) ≡ some 0) × (get_elem? homes (box_of z t o.next) ≡ some none)

  -- The rule, with these hands of the back's slot, wherever that is
  pub record SlotsKeptBy (o : Opening M ghosts) (s : Stage) (xs : List Beside) (homes : List (Maybe (Slot M ghosts))) (hands : Hands) : Type 0 where
    pub sized : length homes ≡ back_slot (setup_of sight o) + 1
    pub seats : length xs ≡ length s.owners
    -- how many boxes of each thread are full
    pub count : ℕ → ℕ
    pub queues : Queued (setup_of sight o) s hands.next count
    pub lists : ListsKept (setup_of sight o) s hands.lists hands.boxes
    pub pages : IsMapped (setup_of sight o) s hands.map
    pub boxes : BoxSlots (setup_of sight o) s hands.boxes homes
    pub shown : s.reproduced ≡ hands.shown
    -- where nobody has the turn, the back is in its slot
    pub home : s.turn ≡ 0 → (h : TheHome M ghosts) × IsHome o h hands × (get_elem? homes (back_slot (setup_of sight o)) ≡ some (some (Home h)))
    -- the view with the turn keeps what the back is
    pub held : (j : ℕ) (w : Owner) (x : Beside) → get_elem? s.owners j ≡ some w → get_elem? xs j ≡ some x → w.has_turn ≡ true → x.turn ≡ Some hands

  -- The slots are kept, with some hands
  pub record SlotsKept (o : Opening M ghosts) (s : Stage) (xs : List Beside) (homes : List (Maybe (Slot M ghosts))) : Type 0 where
    pub hands : Hands
    pub kept : SlotsKeptBy o s xs homes hands
