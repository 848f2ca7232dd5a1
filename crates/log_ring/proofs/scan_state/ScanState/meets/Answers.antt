use Rattle.std.proofs.Common.{ℕ, subst, arith}
use Rattle.std.proofs.lemmas.Bool.{leb-true}
use Rattle.std.specs.declared.ops.Bound.TheVariants.{Included, Unbounded}
use Rattle.std.specs.Ordering.{nat_cmp}
use Rattle.std.specs.BTreeMap.Range.{IsRangeOf}
use Rattle.log_ring.proofs.KeptBundles.{IsFrom, meets_first, misses_first}
use Rattle.log_ring.proofs.scan_state.ScanState.meets.Goals as goal

pub returns-then-first-head-clause-meets : goal.returns-then-first-head-clause-meets
returns-then-first-head-clause-meets c is =
    let range = subst (IsFrom c.args.self.now c.args.head.now) c.in-Some.ensures.steps
    (subst (λ (a : ℕ). IsRangeOf nat_cmp (Included a) Unbounded c.args.self.now.heads c.range.result) c.first.ensures (c.range.ensures.in_range tt)) in
    meets_first c.args.self.now c.args.head.now _ _ _ range (omega arith) (let less = leb-true _ _ is in omega arith)

pub returns-else-first-head-clause-misses : goal.returns-else-first-head-clause-misses
returns-else-first-head-clause-misses c is =
    let range = subst (IsFrom c.args.self.now c.args.head.now) c.in-Some.ensures.steps
    (subst (λ (a : ℕ). IsRangeOf nat_cmp (Included a) Unbounded c.args.self.now.heads c.range.result) c.first.ensures (c.range.ensures.in_range tt)) in
    misses_first c.args.self.now c.args.head.now _ _ _ range (let past = c.if-first-head.false in omega arith)
