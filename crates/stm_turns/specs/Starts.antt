-- What the table of running transactions may start with.
use Rattle.std.specs.Prelude.{◌≡◌, ◌<◌, ◌≤◌, List}
use Rattle.dude_base.specs.declared.limits.TheConstants.{MAX_RINGS}
use Rattle.pmem_trait.specs.Sights.{Sight}
use Rattle.pmem_trait.specs.declared.medium.Medium.{Ghosts}
use Rattle.back_store.specs.declared.back.Back.{Back}
use Rattle.back_store.specs.BackView.{sight_of, state_of}
use Rattle.core_events.specs.Partings.{start}
use Rattle.core_events.specs.Setups.{Setup}
use Rattle.stm_slots.specs.Calls.{IsIdle}
use Rattle.shadow_pages.specs.PageMap.{PageMap}
use Rattle.stm_slots.specs.Opened.{IsFirst, first_slots}
use Rattle.stm_slots.specs.Pages.{IsMapped}
use Rattle.stm_slots.specs.Stage.{stage_of}
use Rattle.stm_slots.specs.declared.home.Home.{Home as TheHome}
use Rattle.stm_slots.specs.declared.opening.Opening.{Opening}
use Rattle.stm_slots.specs.declared.slot.Slot.{Slot}

-- Nothing waits in the back, which has the opening words at home; it fits the terms, and the first pages are in the frames
pub record MayStart {M : Type 0} {ghosts : Ghosts M} (terms : Setup) (back : Back M ghosts) (pager : PageMap) : Type 0 where
  pub idle : IsIdle (record { start = sight_of back; state = state_of back; opening = terms.opening; first = terms.first }) back
  pub pages : (state_of back).log.sizes.pages ≡ terms.pages
  pub rings : terms.threads ≤ (state_of back).log.sizes.rings
  pub threads : terms.threads ≤ MAX_RINGS
  pub some_box : 0 < terms.boxes
  pub map : IsMapped terms (stage_of (start terms)) pager

module _ {M : Type 0} {ghosts : Ghosts M} (sight : M → Sight) where
  -- the slots are those at first, with what the back's slot may have then
  pub record AreFirstSlots (o : Opening M ghosts) (slots : List (Slot M ghosts)) : Type 0 where
    pub home : TheHome M ghosts
    pub is : IsFirst sight o home
    pub slots_are : slots ≡ first_slots sight o home
