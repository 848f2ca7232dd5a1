-- What a table of running transactions starts with.
use Rattle.std.specs.Prelude.{◌≡◌, ℕ, ◌*◌, ◌<◌, ◌≤◌, List, [], ◌∷◌, ◌++◌, length, replicate, slice_index}
use Rattle.pmem_trait.specs.Sights.{Sight}
use Rattle.pmem_trait.specs.declared.medium.Medium.{Ghosts}
use Rattle.back_store.specs.BackView.{medium_of, state_of}
use Rattle.core_events.specs.Partings.{start}
use Rattle.stm_slots.specs.Known.{Known}
use Rattle.stm_slots.specs.KnownLists.{lists}
use Rattle.stm_slots.specs.Stage.{stage_of}
use Rattle.stm_slots.specs.Lists.{IsSettled}
use Rattle.stm_slots.specs.Pages.{IsMapped}
use Rattle.stm_slots.specs.Opening.{setup_of, since_of}
use Rattle.stm_slots.specs.declared.home.Home.{Home as TheHome}
use Rattle.stm_slots.specs.declared.slot.Slot.{Slot}
use Rattle.stm_slots.specs.declared.slot.Slot.TheVariants.{Empty, Home}
use Rattle.stm_slots.specs.declared.opening.Opening.{Opening}

module _ {M : Type 0} {ghosts : Ghosts M} (sight : M → Sight) where
  -- What the back's slot has at first: a back that was handed no record, on which nothing waits; all boxes are empty, and the first pages are
  -- in the frames
  pub record IsFirst (o : Opening M ghosts) (h : TheHome M ghosts) : Type 0 where
    pub known : Known (since_of sight o) (lists (state_of h.back) []) (sight (medium_of h.back))
    pub settled : IsSettled (state_of h.back)
    pub durable : o.terms.first ≤ (state_of h.back).log.durable
    pub pages : (state_of h.back).log.sizes.pages ≡ o.terms.pages
    pub rings : o.terms.threads ≤ (state_of h.back).log.sizes.rings
    pub some_box : 0 < o.terms.boxes
    pub wide : o.terms.threads ≤ length h.next
    pub next : (t : ℕ) → slice_index h.next t ≡ 0
    pub map : IsMapped (setup_of sight o) (stage_of (start (setup_of sight o))) h.pager

  -- the slots at first: those of boxes are empty, and behind them is that of the back
  abbrev pub first_slots : Opening M ghosts → TheHome M ghosts → List (Slot M ghosts)
  first_slots o h = replicate (o.terms.threads * o.terms.boxes) Empty ++ Home h ∷ []
