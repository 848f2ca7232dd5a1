use Rattle.std.proofs.Common.{take}
use Rattle.dude_audit.proofs.Lined.{no_line, no_head, begins_with}
use Rattle.dude_audit.proofs.Numerals.{no_number, no_space}
use Rattle.dude_audit.proofs.line.read_line.Goals as goal

pub returns-in_err-to-clause-none : goal.returns-in_err-to-clause-none
returns-in_err-to-clause-none c = rw c.from_residual.ensures (no_line c.args.bytes.now c.in_err-to.ensures.none)

pub returns-in_err-space-clause-none : goal.returns-in_err-space-clause-none
returns-in_err-space-clause-none c =
    rw c.from_residual-in_err-space.ensures
    (no_head c.args.bytes.now c.in_ok-to.to c.in_ok-to.ensures.found (no_space (take c.in_ok-to.to c.args.bytes.now) c.in_err-space.ensures.none))

pub returns-in_err-number-clause-none : goal.returns-in_err-number-clause-none
returns-in_err-number-clause-none c =
    rw c.from_residual-in_err-number.ensures
    (no_head c.args.bytes.now c.in_ok-to.to c.in_ok-to.ensures.found (no_number (take c.in_ok-to.to c.args.bytes.now) c.in_ok-space.space c.in_ok-space.ensures.found c.in_err-number.ensures.none))

pub returns-clause-line : goal.returns-clause-line
returns-clause-line c =
    begins_with c.args.bytes.now c.in_ok-to.to c.in_ok-space.space c.in_ok-number.number c.in_ok-to.ensures.found c.in_ok-space.ensures.found c.in_ok-number.ensures.said
