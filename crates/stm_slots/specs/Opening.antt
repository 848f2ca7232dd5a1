-- What the machine is set up with, by what its table starts with.
use Rattle.std.specs.Prelude.{true, ◌||◌, ◌==◌}
use Rattle.pmem_trait.specs.Sights.{Sight}
use Rattle.pmem_trait.specs.declared.medium.Medium.{Ghosts}
use Rattle.back_store.specs.BackView.{medium_of, state_of}
use Rattle.core_events.specs.Setups.{Setup}
use Rattle.stm_slots.specs.Known.{Since}
use Rattle.stm_slots.specs.declared.opening.Opening.{Opening}

module _ {M : Type 0} {ghosts : Ghosts M} (sight : M → Sight) where
  -- the medium at the start
  abbrev pub start_sight : Opening M ghosts → Sight
  start_sight o = sight (medium_of o.back.value)

  -- What the medium gives is told where it is visible, or where all pages are in frames and nothing is read from it; a turn may fail
  abbrev pub setup_of : Opening M ghosts → Setup
  setup_of o = record o.terms { is_told = (start_sight o).is_visible || (o.terms.frames == o.terms.pages); may_fail = true }

  -- what the back was at the start
  abbrev pub since_of : Opening M ghosts → Since
  since_of o = record { start = start_sight o; state = state_of o.back.value; opening = o.terms.opening; first = o.terms.first }
