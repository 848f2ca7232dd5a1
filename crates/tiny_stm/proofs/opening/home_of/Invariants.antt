use Rattle.std.proofs.Common.{◌≡◌, length, replicate}
use Rattle.stm_slots.specs.declared.slot.Slot.TheVariants.{Empty}
use Rattle.tiny_stm.proofs.opening.home_of.Given as goal

abbrev pub invariant-loop-slot : goal.invariant-loop-slot
invariant-loop-slot g l = l.slots.items ≡ replicate (length l.slots.items) Empty

abbrev pub decreases-loop-slot : goal.decreases-loop-slot
decreases-loop-slot g l = length l.slots.items
