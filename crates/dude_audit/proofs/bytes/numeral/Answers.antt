use Rattle.std.proofs.Common.{◌≡◌, ◌≤◌, get_or, length}
use Rattle.dude_audit.proofs.Numerals.{zero_first, numeral_answer}
use Rattle.dude_audit.proofs.bytes.numeral.Goals as goal
use Rattle.dude_audit.proofs.bytes.numeral.Goals.{else-text-gt1-via-then-text-gt1+else-text-eq48, else-text-gt1-via-else-text-gt1}

pub returns-then-text-eq48-clause-none : goal.returns-then-text-eq48-clause-none
returns-then-text-eq48-clause-none c = λ n small is. zero_first c.args.text.now n small c.if-text-gt1.true c.if-text-eq48.true is

plain : (c : goal.After-number_in) → get_or c.args.text.now 0 0 ≡ 48 → length c.args.text.now ≤ 1
plain c first = elim c.else-text-gt1.branch [
  | else-text-gt1-via-then-text-gt1+else-text-eq48 w ↦ absurd (w.if-text-eq48.false first)
  | else-text-gt1-via-else-text-gt1 w ↦ w.if-text-gt1.false
]

pub returns-clause-said : goal.returns-clause-said
returns-clause-said c = (numeral_answer c.args.text.now c.number_in.result (plain c) c.number_in.ensures).0

pub returns-clause-none : goal.returns-clause-none
returns-clause-none c = (numeral_answer c.args.text.now c.number_in.result (plain c) c.number_in.ensures).1
