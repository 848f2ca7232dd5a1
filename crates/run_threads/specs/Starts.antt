-- What the transactions of a run start from.
use Rattle.std.specs.Prelude.{◌≡◌, ◌≤◌}
use Rattle.dude_base.specs.declared.limits.TheConstants.{MAX_NUMBER}
use Rattle.dude_base.specs.declared.sizes.Sizes.{Sizes}
use Rattle.dude_base.specs.Image.{image_words}
use Rattle.dude_base.specs.Sizes.{IsAccepted}
use Rattle.pmem_trait.specs.Sights.{Sight}
use Rattle.pmem_trait.specs.declared.medium.Medium.{Ghosts}
use Rattle.tatp_layout.specs.StandsFor.{IsLawful}
use Rattle.back_store.specs.Back.{idle}
use Rattle.back_store.specs.BackView.{state_of}
use Rattle.stm_slots.specs.Opening.{setup_of, start_sight}
use Rattle.stm_slots.specs.declared.opening.Opening.{Opening}
use Rattle.run_threads.specs.Ran.{Start}

module _ {M : Type 0} {ghosts : Ghosts M} (sight : M → Sight) where
  -- what a run with these transactions started from
  abbrev pub start_of : Opening M ghosts → Sizes → Start
  start_of o sizes = record { setup = setup_of sight o; sizes = sizes; state = state_of o.back.value; sight = start_sight sight o }

  -- The transactions began over an idle back with a lawful home of these sizes, for which the medium has room.
  pub record StartsOver (o : Opening M ghosts) (sizes : Sizes) : Type 0 where
    pub state : state_of o.back.value ≡ idle sizes o.terms.first
    pub accepted : IsAccepted sizes
    pub small : o.terms.first ≤ MAX_NUMBER
    pub lawful : IsLawful sizes o.terms.opening
    pub room : image_words sizes ≤ (start_sight sight o).len
