-- the writes gone over so far were taken
use Rattle.std.proofs.Common.{◌≡◌, ◌++◌, get_or, take}
use Rattle.back_store.proofs.Merging.{no_record}
use Rattle.back_store.proofs.merge.take_writes.Given as goal

abbrev pub invariant-loop-i : goal.invariant-loop-i
invariant-loop-i l = record {
  taken : l.group.taken ≡ l.fn.group.taken ++ take l.i (get_or l.lane.waiting l.k no_record).writes;
  room : l.group.room ≡ l.fn.group.room;
}
