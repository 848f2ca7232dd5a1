-- Slots of which the last alone isn't empty.
use Rattle.std.specs.Prelude.{◌≡◌, ℕ, List, [], ◌∷◌, ◌++◌, replicate}
use Rattle.pmem_trait.specs.declared.medium.Medium.{Ghosts}
use Rattle.stm_slots.specs.declared.home.Home.{Home as TheHome}
use Rattle.stm_slots.specs.declared.slot.Slot.{Slot}
use Rattle.stm_slots.specs.declared.slot.Slot.TheVariants.{Empty, Home}

module _ {M : Type 0} {ghosts : Ghosts M} where
  -- the slot has what a back's slot has
  abbrev pub IsHomeSlot : Slot M ghosts → Type 0
  IsHomeSlot slot = (home : TheHome M ghosts) × (slot ≡ Home home)

  -- this one stands behind empty ones
  pub record HasBehind (slots : List (Slot M ghosts)) (last : Slot M ghosts) : Type 0 where
    pub before : ℕ
    pub slots_are : slots ≡ replicate before Empty ++ last ∷ []

  -- what a back's slot has stands behind empty ones
  abbrev pub EndsInHome : List (Slot M ghosts) → Type 0
  EndsInHome slots = (home : TheHome M ghosts) × HasBehind slots (Home home)
