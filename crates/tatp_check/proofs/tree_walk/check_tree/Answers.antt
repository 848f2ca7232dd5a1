use Rattle.std.proofs.Common.{◌≡◌, Err, IfErr, inl, rules, sym, subst}
use Rattle.tatp_check.specs.Faults.{IsCause}
use Rattle.tatp_check.specs.PoolWalk.{AreApartMarked}
use Rattle.tatp_check.specs.Pools.{HasWholePool, IsWrongPool}
use Rattle.tatp_check.specs.TreeFaults.{IsWrongTree}
use Rattle.tatp_check.proofs.Ends.{cause_of}
use Rattle.tatp_check.proofs.PoolSteps.{handed_cause}
use Rattle.tatp_check.proofs.TreeEnds.{forks_apart, in_forks, in_leaves, keeps_tree, leaves_apart}
use Rattle.tatp_check.proofs.tree_walk.check_tree.Goals as goal

pub returns-in_err-walk_tree-clause-fault : goal.returns-in_err-walk_tree-clause-fault
returns-in_err-walk_tree-clause-fault c =
    let was : c.from_residual-in_err-walk_tree.result ≡ Err c.in_err-walk_tree.field-0.0 = search rules in
    subst (λ r. IfErr r (IsCause (IsWrongTree c.args.tree.now c.args.a.now c.args.keys.now))) (sym was)
    (cause_of _ _ (λ word wrong. inl wrong) c.in_err-walk_tree.field-0.0 c.in_err-walk_tree.ensures.fault)

pub check_pool-requires-clause-marked : goal.check_pool-requires-clause-marked
check_pool-requires-clause-marked c =
    subst (λ l. AreApartMarked c.args.tree.now.leaves l c.walk_tree.new.seen.leaves.marks) (sym c.records.ensures) (leaves_apart c.args.tree.now c.args.a.now c.args.keys.now c.in_ok-walk_tree.ensures.knows)

pub returns-in_err-check_pool-clause-fault : goal.returns-in_err-check_pool-clause-fault
returns-in_err-check_pool-clause-fault c =
    let was : c.from_residual-in_err-check_pool.result ≡ Err c.in_err-check_pool.field-0.0 = search rules in
    handed_cause _ _ (λ word wrong. in_leaves c.args.tree.now c.args.a.now c.args.keys.now c.in_ok-walk_tree.ensures.knows word (subst (λ l. IsWrongPool c.args.tree.now.leaves c.args.a.now l word) c.records.ensures wrong)) was c.in_err-check_pool.ensures.fault

pub check_pool-requires-2-clause-marked : goal.check_pool-requires-2-clause-marked
check_pool-requires-2-clause-marked c =
    subst (λ l. AreApartMarked c.args.tree.now.inner l c.walk_tree.new.seen.inner) (sym c.as_slice.ensures.value) (forks_apart c.args.tree.now c.args.a.now c.args.keys.now c.in_ok-walk_tree.ensures.knows)

pub returns-in_err-check_pool-2-clause-fault : goal.returns-in_err-check_pool-2-clause-fault
returns-in_err-check_pool-2-clause-fault c =
    let was : c.from_residual-in_err-check_pool-2.result ≡ Err c.in_err-check_pool-2.field-0.0 = search rules in
    let leaves = subst (HasWholePool c.args.tree.now.leaves c.args.a.now) c.records.ensures c.in_ok-check_pool.ensures.whole in
    handed_cause _ _ (λ word wrong. in_forks c.args.tree.now c.args.a.now c.args.keys.now c.in_ok-walk_tree.ensures.knows leaves word (subst (λ l. IsWrongPool c.args.tree.now.inner c.args.a.now l word) c.as_slice.ensures.value wrong)) was c.in_err-check_pool-2.ensures.fault

pub returns-clause-whole : goal.returns-clause-whole
returns-clause-whole c =
    keeps_tree c.args.tree.now c.args.a.now c.args.keys.now c.in_ok-walk_tree.ensures.knows
    (subst (HasWholePool c.args.tree.now.leaves c.args.a.now) c.records.ensures c.in_ok-check_pool.ensures.whole)
    (subst (HasWholePool c.args.tree.now.inner c.args.a.now) c.as_slice.ensures.value c.in_ok-check_pool-2.ensures.whole)
