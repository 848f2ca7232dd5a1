use Rattle.std.proofs.Common.{sym, subst, arith}
use Rattle.tatp_text.specs.Summary.{EachHasRoom}
use Rattle.tatp_text.proofs.Counting.{counted-add, counted-room}
use Rattle.tatp_text.proofs.summary.Summary.of.Goals as goal

pub add-requires : goal.add-requires
add-requires c = record {
  room = subst EachHasRoom (sym c.loop-entry.invariant) (counted-room c.args.done.now c.loop-entry.entry-index c.loop-entry-test.true (omega arith));
}

pub loop-entry-preserved : goal.loop-entry-preserved
loop-entry-preserved c =
    counted-add c.args.done.now c.loop-entry.entry-index _ c.loop-entry.summary c.add.new.self c.loop-entry-test.true c.loop-entry.invariant c.add.ensures
