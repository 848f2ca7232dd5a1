use Rattle.std.proofs.Common.{◌+◌, length, subst, arith}
use native.Mathlib.Decide.{dec_lt}
use mathlib.Core.Logic.{dite}
use Rattle.stm_transactions.specs.Looks.{RepeatsLock}
use Rattle.stm_transactions.proofs.looking.up_to_last_lock.Goals as goal

pub loop-behind-preserved : goal.loop-behind-preserved
loop-behind-preserved c = λ k low there. dite (dec_lt (k + c.loop-behind.behind) (length c.args.reads.now))
    (λ lt. subst (RepeatsLock c.args.locks c.args.reads.now) (let inside = c.loop-behind-test.true in omega arith) c.if-not-repeats_lock.ensures)
    (λ over. c.loop-behind.invariant k (omega arith) there)
