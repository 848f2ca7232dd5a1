-- What the thread that has the turn knows of the back between two calls, and the records that it took from boxes.
use Rattle.std.specs.Prelude.{◌≡◌, ℕ, ◌<◌, ◌≤◌, true, false, List, [], ◌∷◌, ◌++◌, Some, slice_index, length, map}
use Rattle.std.specs.List.{Contains}
use Rattle.dude_base.specs.Records.{RedoRecord}
use Rattle.pmem_trait.specs.Sights.{Sight}
use Rattle.pmem_trait.specs.declared.medium.Medium.{Ghosts}
use Rattle.back_store.specs.BackView.{medium_of, state_of}
use Rattle.core_events.specs.Setups.{Setup, box_of}
use Rattle.core_events.specs.Conditions.{HasThread}
use Rattle.core_table.specs.Known.{Known}
use Rattle.stm_slots.specs.KnownLists.{BackLists, lists}
use Rattle.stm_slots.specs.Known.{Known as KnownBy}
use Rattle.stm_slots.specs.Beside.{Hands, Beside}
use Rattle.stm_slots.specs.Queues.{back_slot}
use Rattle.stm_slots.specs.Opening.{setup_of, since_of}
use Rattle.stm_slots.specs.Turns.{Follows, MayBeHanded}
use Rattle.stm_slots.specs.declared.home.Home.{Home as TheHome}
use Rattle.stm_slots.specs.declared.slot.Slot.{Slot}
use Rattle.stm_slots.specs.declared.slot.Slot.TheVariants.{Empty, Record}
use Rattle.stm_slots.specs.declared.opening.Opening.{Opening}

-- A record that was taken from a place of a thread's boxes
pub record Held : Type 0 where
  pub thread : ℕ
  pub place : ℕ
  pub redo : RedoRecord

-- the box that it was taken from
abbrev pub box_held : Setup → Held → ℕ
box_held z p = box_of z p.thread p.place

-- the boxes that the records in hand were taken from, each with its record, the one taken last first
abbrev pub boxes_held : Setup → List Held → List (ℕ × RedoRecord)
boxes_held z [] = []
boxes_held z (p ∷ hand) = boxes_held z hand ++ (box_held z p, p.redo) ∷ []

-- the record is one of a thread's boxes, and may be handed over
pub record IsHeld (z : Setup) (l : BackLists) (p : Held) : Type 0 where
  pub inside : p.thread < z.threads
  pub near : p.place < z.boxes
  pub may : MayBeHanded z l p.thread p.redo

-- each record in hand is such a one
abbrev pub IsInHand : Setup → BackLists → List Held → Type 0
IsInHand z l hand = (p : Held) → Contains hand p → IsHeld z l p

module _ {M : Type 0} {ghosts : Ghosts M} (sight : M → Sight) where
  -- the slots of the boxes that the records in hand were taken from, the one taken first first; each has its record still
  abbrev pub slots_held : Setup → List Held → List (ℕ × Slot M ghosts)
  slots_held z hand = map (λ p. (box_held z p, Record p.redo)) hand

  -- the slots that are out with the turn: the one of the back is empty
  abbrev pub slots_out : Setup → List Held → List (ℕ × Slot M ghosts)
  slots_out z hand = (back_slot z, Empty) ∷ slots_held z hand

  -- the hands that have this of the back's slot, and these boxes
  abbrev pub hands_of : TheHome M ghosts → List RedoRecord → ℕ → List (ℕ × RedoRecord) → Hands
  hands_of h records shown boxes = record { lists = lists (state_of h.back) records; next = h.next; map = h.pager; shown = shown; boxes = boxes }

  -- The seat has the turn, with this of the back's slot and perhaps records in hand. It is said of what the seat knows alone, not of its slots
  pub record Holding (o : Opening M ghosts) (k : Known Beside) (h : TheHome M ghosts) (hand : List Held) : Type 0 where
    pub live : k.view.part.is_spent ≡ false
    pub thread : HasThread k.view
    pub turn : k.view.turn.has_it ≡ true
    pub places : (u : ℕ) → u < (setup_of sight o).threads → slice_index h.next u < (setup_of sight o).boxes
    pub wide : (setup_of sight o).threads ≤ length h.next
    -- all that the back was handed
    pub records : List RedoRecord
    -- the reproduced word
    pub shown : ℕ
    -- the lists as the last step left them; the back may have made calls since
    pub stale : BackLists
    pub hands : k.beside.turn ≡ Some (record (hands_of h records shown (boxes_held (setup_of sight o) hand)) { lists = stale })
    pub follows : Follows (setup_of sight o) h.next (boxes_held (setup_of sight o) hand) stale (lists (state_of h.back) records)
    pub known : KnownBy (since_of sight o) (lists (state_of h.back) records) (sight (medium_of h.back))
    pub rings : (setup_of sight o).threads ≤ (state_of h.back).log.sizes.rings
    pub pages : (state_of h.back).log.sizes.pages ≡ (setup_of sight o).pages
