use Rattle.std.proofs.Common.{refl, arith}
use Rattle.log_ring.proofs.reads.count_in.Goals.{else-version-eq-VERSION_ONE-via-then-version-eq-VERSION_ONE+else-word-gt-MAX_WRITES, else-version-eq-VERSION_ONE-via-else-version-eq-VERSION_ONE}
use Rattle.log_ring.proofs.reads.count_in.Goals as goal

pub returns-then-count-gt-MAX_BUNDLE_WRITES-clause-none : goal.returns-then-count-gt-MAX_BUNDLE_WRITES-clause-none
returns-then-count-gt-MAX_BUNDLE_WRITES-clause-none c = λ few fits. omega arith

pub returns-then-word-gt-MAX_WRITES-clause-none : goal.returns-then-word-gt-MAX_WRITES-clause-none
returns-then-word-gt-MAX_WRITES-clause-none c = λ few fits. let most = fits c.if-version-eq-VERSION_ONE.true in omega arith

pub returns-clause-some : goal.returns-clause-some
returns-clause-some c = (
  refl,
  omega arith,
  λ one. elim c.else-version-eq-VERSION_ONE.branch [
    | else-version-eq-VERSION_ONE-via-then-version-eq-VERSION_ONE+else-word-gt-MAX_WRITES w ↦ omega arith
    | else-version-eq-VERSION_ONE-via-else-version-eq-VERSION_ONE w ↦ absurd (w.if-version-eq-VERSION_ONE.false one)
  ],
)
