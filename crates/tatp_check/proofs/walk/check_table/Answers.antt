use Rattle.std.proofs.Common.{◌≡◌, Err, arith, rules, sym, subst}
use Rattle.tatp_check.specs.Pools.{HasWholePool, IsWrongPool}
use Rattle.tatp_check.specs.PoolWalk.{AreApartMarked}
use Rattle.tatp_check.proofs.Ends.{all_right, apart_marked, in_pool}
use Rattle.tatp_check.proofs.PoolSteps.{handed_cause}
use Rattle.tatp_check.proofs.Steps.{knows_none}
use Rattle.tatp_check.proofs.walk.check_table.Goals as goal

pub loop-bucket-init : goal.loop-bucket-init
loop-bucket-init g c = knows_none _ _ _ _ c.in_ok-new.ensures (c.new-2.ensures c.args.a.now)

pub check_pool-requires-clause-marked : goal.check_pool-requires-clause-marked
check_pool-requires-clause-marked g c =
    subst (λ l. AreApartMarked c.args.table.now.pool l c.loop-bucket.seen.marks) (sym c.records.ensures) (apart_marked _ _ _ _ _ c.loop-bucket.invariant (omega arith))

pub returns-in_err-check_pool-clause-fault : goal.returns-in_err-check_pool-clause-fault
returns-in_err-check_pool-clause-fault g c =
    let was : c.from_residual-in_err-check_pool.result ≡ Err c.in_err-check_pool.field-0.0 = search rules in
    handed_cause _ _ (λ word wrong. in_pool _ _ _ _ _ c.loop-bucket.invariant (omega arith) word (subst (λ l. IsWrongPool c.args.table.now.pool c.args.a.now l word) c.records.ensures wrong)) was c.in_err-check_pool.ensures.fault

pub returns-clause-whole : goal.returns-clause-whole
returns-clause-whole g c =
    all_right _ _ _ _ _ c.loop-bucket.invariant (omega arith) (subst (HasWholePool c.args.table.now.pool c.args.a.now) c.records.ensures c.in_ok-check_pool.ensures.whole)
