use Rattle.std.proofs.Common.{arith}
use Rattle.stm_turns.proofs.Starting.{all_zero, is_first}
use Rattle.stm_turns.proofs.opening.first_home.Goals as goal

pub returns-clause-first : goal.returns-clause-first
returns-clause-first g c = is_first (record { terms = c.args.terms; back = c.of.result }) (record { back = c.args.back; pager = c.args.pager; next = _ }) c.requires.may c.start.ensures.known c.of.ensures (omega arith) (all_zero 16)

pub returns-clause-key : goal.returns-clause-key
returns-clause-key g c = c.of.ensures
