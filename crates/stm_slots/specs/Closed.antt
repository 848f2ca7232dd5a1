-- What a closed table of running transactions has.
use Rattle.std.specs.Prelude.{◌≡◌, ℕ, ◌*◌, ◌<◌, ◌≤◌, true, List, slice_index}
use mathlib.Core.Option.{some}
use lib.ListN.{get_elem?}
use Rattle.dude_base.specs.declared.limits.TheConstants.{PAGE}
use Rattle.dude_base.specs.Records.{RedoRecord}
use Rattle.pmem_trait.specs.Sights.{Sight}
use Rattle.pmem_trait.specs.declared.medium.Medium.{Ghosts}
use Rattle.back_store.specs.BackView.{medium_of, state_of}
use Rattle.core_events.specs.Setups.{page_of, cell_of, frame_in}
use Rattle.core_events.specs.Views.{View}
use Rattle.core_events.specs.Words.{State}
use Rattle.core_events.specs.Entries.{value, value_at, writes_of}
use Rattle.core_events.specs.Telling.{IsReadOut, IsSized}
use Rattle.core_table.specs.Places.{flat}
use Rattle.stm_slots.specs.Known.{Known}
use Rattle.stm_slots.specs.KnownLists.{lists}
use Rattle.stm_slots.specs.Records.{HasRecord, IsReached, writes_in}
use Rattle.stm_slots.specs.Queues.{back_slot}
use Rattle.stm_slots.specs.Opening.{setup_of, since_of}
use Rattle.stm_slots.specs.KeptBack.{InView, KeptBack}
use Rattle.stm_slots.specs.Pages.{IsMapped}
use Rattle.stm_slots.specs.Stage.{stage_of}
use Rattle.stm_slots.specs.declared.home.Home.{Home as TheHome}
use Rattle.stm_slots.specs.declared.slot.Slot.{Slot}
use Rattle.stm_slots.specs.declared.slot.Slot.TheVariants.{Empty, Record, Home}
use Rattle.stm_slots.specs.declared.opening.Opening.{Opening}

module _ {M : Type 0} {ghosts : Ghosts M} (sight : M → Sight) where
  -- The words are those of a state that the last view reads out; the last slot has the kept back, and each other one the record of its box
  pub record IsClosed (o : Opening M ghosts) (v : View) (words : List ℕ) (slots : List (Slot M ghosts)) : Type 0 where
    pub core : State
    pub words_are : words ≡ flat core
    pub read_out : IsReadOut (setup_of sight o) core v
    pub sized : IsSized (setup_of sight o) core
    pub is_view : (j : ℕ) × (get_elem? core.views j ≡ some v)
    pub home : TheHome M ghosts
    pub is_home : get_elem? slots (back_slot (setup_of sight o)) ≡ some (Home home)
    pub back : KeptBack sight o core home.back
    -- all records that the back was handed, and what is known of it by them; each has the writes of the entry with its number, or none
    pub records : List RedoRecord
    pub known : Known (since_of sight o) (lists (state_of home.back) records) (sight (medium_of home.back))
    pub listed : (n : ℕ) → HasRecord records n → (n ≤ core.clock) × (writes_in records n ≡ writes_of v.entries n)
    -- the values by them are those by entries
    pub values : (n i : ℕ) → IsReached o.terms.first records n → value o.terms.opening (writes_in records) n i ≡ value_at o.terms.opening v.entries n i
    pub rings : o.terms.threads ≤ (state_of home.back).log.sizes.rings
    pub sizes : (state_of home.back).log.sizes.pages ≡ o.terms.pages
    pub empty : (k : ℕ) → get_elem? core.boxes k ≡ some 0 → get_elem? slots k ≡ some Empty
    pub full : (k n : ℕ) → get_elem? core.boxes k ≡ some n → 0 < n
        → get_elem? slots k ≡ some (Record (record { number = n; writes = writes_of v.entries n }))
    -- no number is open
    pub no_view : (n : ℕ) → 0 < n → InView core n → ⊥
    pub pages : IsMapped (setup_of sight o) (stage_of core) home.pager
    -- where it is known what the medium gives, the words of pages in frames are the values at the clock
    pub shown : (setup_of sight o).is_told ≡ true → (i : ℕ) → i < o.terms.pages * PAGE → 0 < slice_index core.entries (page_of i)
        → slice_index core.cells (cell_of (frame_in (slice_index core.entries (page_of i))) i) ≡ value_at o.terms.opening v.entries core.clock i
