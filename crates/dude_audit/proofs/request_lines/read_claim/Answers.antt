use Rattle.std.proofs.Common.{ℕ, List, refl, subst}
use Rattle.std.proofs.lemmas.Bool.{both_ways}
use Rattle.std.proofs.lemmas.List.{take_rest}
use Rattle.dude_audit.specs.Line.{BeginsWithLine}
use Rattle.dude_audit.proofs.Claimed.{misfits, reads}
use Rattle.dude_audit.proofs.request_lines.read_claim.Goals as goal

pub returns-then-not-fits_request-clause-none : goal.returns-then-not-fits_request-clause-none
returns-then-not-fits_request-clause-none c =
    misfits c.args.printed.now c.args.at c.args.blank.now c.in_ok-line.line c.requires
    (subst (λ (l : List ℕ). BeginsWithLine l c.in_ok-line.line) (take_rest c.args.printed.now c.args.at) c.in_ok-line.ensures.line) _ refl
    (λ fits. both_ways _ c.if-not-fits_request.true (c.fits_request.ensures.1 fits))

pub returns-clause-read : goal.returns-clause-read
returns-clause-read c =
    reads c.args.printed.now c.args.at c.args.blank.now c.in_ok-line.line c.requires
    (subst (λ (l : List ℕ). BeginsWithLine l c.in_ok-line.line) (take_rest c.args.printed.now c.args.at) c.in_ok-line.ensures.line) _ refl c.says_wrote.result
    (c.fits_request.ensures.0 c.if-not-fits_request.false) c.says_wrote.ensures
