use Rattle.std.proofs.Common.{◌≡◌, ◌*◌, ◌≤◌, ◌+◌}
use Rattle.std.specs.Mem.Slots.{slots_filled, slots_items}
use Rattle.std.specs.Vec.{vec_capacity}
use Rattle.tiny_stm.specs.Collected.{AreCollected}
use Rattle.tiny_stm.proofs.closing.collect.Given as goal

abbrev pub invariant-loop-place : goal.invariant-loop-place
invariant-loop-place g l = record {
  got : AreCollected (slots_items l.fn.table.slots) (slots_items l.table.slots) (slots_filled l.table.slots) l.boxes (l.ring * l.boxes + l.place) l.rest.items;
  words : l.table.words ≡ l.fn.table.words;
  room : l.threads * l.boxes ≤ vec_capacity l.rest;
  most : l.place ≤ l.boxes;
}

abbrev pub invariant-loop-ring : goal.invariant-loop-ring
invariant-loop-ring g l = record {
  got : AreCollected (slots_items l.fn.table.slots) (slots_items l.table.slots) (slots_filled l.table.slots) l.boxes (l.ring * l.boxes) l.rest.items;
  words : l.table.words ≡ l.fn.table.words;
  room : l.threads * l.boxes ≤ vec_capacity l.rest;
  most : l.ring ≤ l.threads;
}
