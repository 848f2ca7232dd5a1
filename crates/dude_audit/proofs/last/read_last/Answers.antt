use Rattle.std.proofs.Common.{◌∙◌, take}
use Rattle.std.proofs.lemmas.List.{take_rest}
use Rattle.dude_audit.proofs.Lined.{no_last, no_last_number}
use Rattle.dude_audit.proofs.last.read_last.Goals as goal

pub returns-in_err-to-clause-none : goal.returns-in_err-to-clause-none
returns-in_err-to-clause-none c = rw c.from_residual.ensures (no_last c.args.bytes.now c.in_err-to.ensures.none)

pub returns-in_err-number-clause-none : goal.returns-in_err-number-clause-none
returns-in_err-number-clause-none c = rw c.from_residual-in_err-number.ensures (no_last_number c.args.bytes.now c.in_ok-to.to c.in_ok-to.ensures.found
    (λ n small is. c.in_err-number.ensures.none n small (take_rest (take c.in_ok-to.to c.args.bytes.now) 5 ∙ is)))
