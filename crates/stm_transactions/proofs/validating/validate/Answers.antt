use Rattle.std.proofs.Common.{rules}
use Rattle.stm_transactions.proofs.Pins.{stays_on, stays_once}
use Rattle.stm_transactions.proofs.Validates.{check_may, checking_bad, checking_on}
use Rattle.stm_transactions.proofs.validating.validate.Goals as goal

pub check-seen-requires : goal.check-seen-requires
check-seen-requires g c = record { may = record { seat = c.loop-k.invariant.0.belongs; may = rw c.lock_for-lock.ensures (check_may c.args.stm.now.events.setup c.args.thread c.args.snapshot c.args.reads.now c.args.seat.now.me.0.view c.requires.checking c.loop-k.k c.loop-k.seat.me.0.view c.loop-k.invariant.1 (0, 0) c.loop-k-test.true (search rules)); slots = c.requires.slots.reading.check _ } }

pub returns-then-not-is_good_word-clause-err : goal.returns-then-not-is_good_word-clause-err
returns-then-not-is_good_word-clause-err g c = rw c.lock_for-lock.ensures (checking_bad c.args.stm.now.events.setup c.args.thread c.args.snapshot c.args.reads.now c.args.seat.now.me.0.view c.requires.checking c.loop-k.k c.loop-k.seat.me.0.view c.loop-k.invariant.1 (0, 0) c.loop-k-test.true c.check-seen.result c.check-seen.new.seat.me.0.view (rw c.lock_for-lock.ensures at c.check-seen.ensures.view) (search rules))

pub loop-k-preserved : goal.loop-k-preserved
loop-k-preserved g c = (
  stays_on c.args.stm.now.events c.args.seat.now c.loop-k.seat c.check-seen.new.seat c.loop-k.invariant.0 (stays_once c.args.stm.now.events _ c.check-seen.result c.loop-k.seat c.check-seen.new.seat c.check-seen.ensures.found),
  checking_on c.args.stm.now.events.setup c.args.thread c.args.snapshot c.args.reads.now c.args.seat.now.me.0.view c.requires.checking c.loop-k.k c.loop-k.seat.me.0.view c.loop-k.invariant.1 (0, 0) c.loop-k-test.true c.check-seen.result c.check-seen.new.seat.me.0.view (rw c.lock_for-lock.ensures at c.check-seen.ensures.view) (search rules),
)
