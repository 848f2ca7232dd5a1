use Rattle.std.proofs.Common.{◌≡◌, ◌+◌, ◌≤◌, replicate}
use Rattle.std.specs.Vec.{vec_capacity, vec_len}
use Rattle.stm_slots.specs.declared.slot.Slot.TheVariants.{Empty}
use Rattle.tiny_stm.proofs.room.empty_slots.Given as goal

abbrev pub invariant-loop : goal.invariant-loop
invariant-loop g l = record { items : l.slots.items ≡ replicate l.counter Empty; len : vec_len l.slots ≡ l.counter; room : l.boxes + 1 ≤ vec_capacity l.slots }
