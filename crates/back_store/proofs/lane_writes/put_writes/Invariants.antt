-- the writes gone over so far stand in their places, and the other places are as they were
use Rattle.std.proofs.Common.{◌≡◌, ◌≢◌, ℕ, ◌<◌, length, get_or}
use Rattle.dude_base.specs.declared.write.Write.{Write}
use Rattle.back_store.specs.Entries.{no_write, write_place}
use Rattle.back_store.proofs.lane_writes.put_writes.Given as goal

abbrev pub invariant-loop-i : goal.invariant-loop-i
invariant-loop-i l = record {
  size : length l.writes ≡ length l.fn.writes;
  own : (j : ℕ) → j < l.i → get_or l.writes (write_place l.cells l.slot j) no_write ≡ get_or l.r.writes j no_write;
  others : (at : ℕ) (d : Write) → ((j : ℕ) → j < l.i → at ≢ write_place l.cells l.slot j) → get_or l.writes at d ≡ get_or l.fn.writes at d;
}
