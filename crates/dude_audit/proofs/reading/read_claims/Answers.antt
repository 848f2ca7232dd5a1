use Rattle.std.proofs.Common.{ℕ, List, subst, sym, take, inr, ◌+◌}
use Rattle.std.proofs.lemmas.List.{take_rest}
use Rattle.dude_audit.specs.declared.claim.Claim.{Claim}
use Rattle.dude_audit.specs.Last.{BeginsWithLast}
use Rattle.dude_audit.specs.Reading.{BeginsWithLines}
use Rattle.dude_audit.proofs.Whole.{front_more, surplus}
use Rattle.dude_audit.proofs.reading.read_claims.Goals as goal

pub loop-k-preserved : goal.loop-k-preserved
loop-k-preserved c =
    subst (λ (l : List Claim). BeginsWithLines (take (c.loop-k.k + 1) c.args.blanks.now) c.args.printed.now l (c.in-Some.claim.to + 1)) (sym c.in_ok-push.ensures.items)
    (front_more c.args.blanks.now c.args.printed.now c.loop-k.claims.items c.loop-k.k c.loop-k.at _ c.loop-k-test.true c.loop-k.invariant c.in-Some.claim c.in-Some.ensures.read)

pub returns-then-at-last : goal.returns-then-at-last
returns-then-at-last c =
    inr (inr (surplus c.args.blanks.now c.args.printed.now c.loop-k.claims.items c.loop-k.k c.loop-k.at c.loop-k-test.false c.loop-k.invariant c.in-Some-read_last.last
    (subst (λ (l : List ℕ). BeginsWithLast l c.in-Some-read_last.last) (take_rest c.args.printed.now c.loop-k.at) c.in-Some-read_last.ensures.last) c.if-at-last.true))
