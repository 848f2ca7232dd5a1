use Rattle.std.proofs.Common.{◌≡◌, Err, IfErr, rules, arith, sym, subst}
use Rattle.std.proofs.lemmas.List.Elements.{All-contains}
use Rattle.std.proofs.lemmas.List.Sorted.{IsNonDecreasingBy-from_sort}
use Rattle.std.specs.List.Sorted.{IsNonDecreasing}
use Rattle.tree_index.specs.Shape.{leaves_in}
use Rattle.tatp_check.specs.Faults.{IsCause}
use Rattle.tatp_check.specs.IndexFaults.{HasSmallKey, IsWrongIndex}
use Rattle.tatp_check.proofs.Ends.{cause_of}
use Rattle.tatp_check.proofs.IndexSound.{leafless_there}
use Rattle.tatp_check.proofs.IndexSteps.{sorted_keys, whole_index, without_leaf, wrong_in_tree}
use Rattle.tatp_check.proofs.index_check.check_keys.Goals as goal

pub check_tree-requires-clause-rising : goal.check_tree-requires-clause-rising
check_tree-requires-clause-rising c =
    subst IsNonDecreasing (sym c.as_slice.ensures.value) (IsNonDecreasingBy-from_sort (λ x. x) c.sort.new.self.items c.in_ok-sort.ensures.sorted)

pub returns-in_err-leaves-clause-fault : goal.returns-in_err-leaves-clause-fault
returns-in_err-leaves-clause-fault c =
    let array = c.args.a.now in
    let subscribers = c.args.subscribers.now in
    let same = sorted_keys array subscribers c.in_ok-keys.ensures c.sort.ensures.permutation c.as_slice.ensures.value in
    let was : c.from_residual-in_err-leaves.result ≡ Err c.in_err-leaves.field-0.0 = search rules in
    subst (λ r. IfErr r (IsCause (IsWrongIndex c.args.tree.now array subscribers))) (sym was)
    (cause_of _ _ (λ word wrong. wrong_in_tree c.args.tree.now array subscribers c.as_slice.result.now same word wrong) c.in_err-leaves.field-0.0 c.in_err-leaves.ensures.fault)

pub overflow_add-result : goal.overflow_add-result
overflow_add-result c =
    let kept = c.in_ok-leaves.ensures.whole in
    let there = leafless_there c.args.a.now (leaves_in kept.shape) c.args.subscribers.now c.in-Some.at (c.in-Some.ensures (leaves_in kept.shape) kept.keeps) in
    let small = All-contains (HasSmallKey c.args.a.now) c.args.subscribers.now c.in-Some.at c.requires.small there in
    omega (arith, small.inside)

pub returns-in-Some-clause-fault : goal.returns-in-Some-clause-fault
returns-in-Some-clause-fault c =
    let array = c.args.a.now in
    let subscribers = c.args.subscribers.now in
    let same = sorted_keys array subscribers c.in_ok-keys.ensures c.sort.ensures.permutation c.as_slice.ensures.value in
    without_leaf c.args.tree.now array subscribers c.as_slice.result.now same c.in_ok-leaves.ensures.whole c.in-Some.at c.in-Some.ensures

pub returns-clause-ok : goal.returns-clause-ok
returns-clause-ok c =
    let array = c.args.a.now in
    let subscribers = c.args.subscribers.now in
    let same = sorted_keys array subscribers c.in_ok-keys.ensures c.sort.ensures.permutation c.as_slice.ensures.value in
    whole_index c.args.tree.now array subscribers c.as_slice.result.now same c.in_ok-leaves.ensures.whole c.in-None.ensures
