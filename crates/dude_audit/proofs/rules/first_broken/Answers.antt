use Rattle.std.proofs.Common.{◌∙◌, refl, sym}
use Rattle.std.proofs.lemmas.Bool.{both_ways, eqb-true, eqb-false, not-false, not-true, and_parts, and_from}
use Rattle.dude_audit.proofs.Ruled.{out_of_bounds, repeated, ruled_more, known_next, written_more}
use Rattle.dude_audit.proofs.rules.first_broken.Goals as goal

pub returns-then-not-keeps_bounds-clause-broken : goal.returns-then-not-keeps_bounds-clause-broken
returns-then-not-keeps_bounds-clause-broken c =
    let at = c.loop-k.invariant in
    out_of_bounds c.args.first c.args.last c.args.claims.now c.loop-k.k c.loop-k.file c.loop-k.asked c.loop-k.any _ c.loop-k-test.true c.requires.in_files c.requires.asks at.ruled at.known
    _ (eqb-true _ c.loop-k.file) (eqb-false _ c.loop-k.file) c.kept-asked.result c.kept-any.result c.kept-asked.ensures c.kept-any.ensures c.keeps_bounds.result c.keeps_bounds.ensures
    c.if-not-keeps_bounds.true

pub returns-then-not-branch-clause-broken : goal.returns-then-not-branch-clause-broken
returns-then-not-branch-clause-broken c =
    let at = c.loop-k.invariant in
    let both = and_parts _ _ (not-false _ (sym c.in_ok-writes_anew.ensures.anew ∙ c.if-not-branch.true)) in
    repeated c.args.first c.args.last c.args.claims.now c.loop-k.k c.loop-k.file c.loop-k.asked c.loop-k.any _ c.loop-k-test.true c.requires.in_files c.requires.asks at.ruled at.known
    _ (eqb-true _ c.loop-k.file) (eqb-false _ c.loop-k.file) c.kept-asked.result c.kept-any.result c.kept-asked.ensures c.kept-any.ensures c.keeps_bounds.result c.keeps_bounds.ensures
    both.0 ((at.written _).0 both.1)

pub loop-k-preserved : goal.loop-k-preserved
loop-k-preserved c =
    let at = c.loop-k.invariant in
    let anew = not-true _ (sym c.in_ok-writes_anew.ensures.anew ∙ c.if-not-branch.false) in
    record {
      ruled = ruled_more c.args.first c.args.last c.args.claims.now c.loop-k.k c.loop-k.file c.loop-k.asked c.loop-k.any _ c.loop-k-test.true c.requires.in_files c.requires.asks at.ruled at.known
          _ (eqb-true _ c.loop-k.file) (eqb-false _ c.loop-k.file) c.kept-asked.result c.kept-any.result c.kept-asked.ensures c.kept-any.ensures c.keeps_bounds.result c.keeps_bounds.ensures
          c.if-not-keeps_bounds.false (λ wrote was. both_ways _ anew (and_from _ _ wrote ((at.written _).1 was)));
      known = known_next c.args.first c.args.last c.args.claims.now c.loop-k.k c.loop-k.file c.loop-k.asked c.loop-k.any _ c.loop-k-test.true c.requires.in_files c.requires.asks at.ruled at.known
          _ (eqb-true _ c.loop-k.file) (eqb-false _ c.loop-k.file) c.kept-asked.result c.kept-any.result c.kept-asked.ensures c.kept-any.ensures c.keeps_bounds.result c.keeps_bounds.ensures
          c.if-not-keeps_bounds.false _ _ (c.kept-asked-in-loop-k.ensures ∙ rw c.is_sync.ensures refl) c.max-any.ensures;
      written = λ q. written_more c.args.claims.now c.loop-k.k _ q _ _ c.loop-k-test.true (c.in_ok-writes_anew.ensures.added q) (at.written q);
    }
