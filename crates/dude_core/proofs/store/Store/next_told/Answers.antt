use Rattle.dude_core.proofs.NextCalls.{announces_none, announces_not, false_not}
use Rattle.dude_core.proofs.store.Store.next_told.Goals as goal
use Rattle.dude_core.proofs.store.Store.next_told.Goals.{else-is_at_rest-via-then-is_at_rest+else-ends_at, else-is_at_rest-via-else-is_at_rest}

pub returns-in_default-clause-none : goal.returns-in_default-clause-none
returns-in_default-clause-none c = announces_not c.args.self.now c.args.call c.in_default.ensures.none

pub returns-else-is_at_rest-clause-none : goal.returns-else-is_at_rest-clause-none
returns-else-is_at_rest-clause-none c = announces_none c.args.self.now c.args.call c.in-Some.number c.in-Some.ensures.some
    (λ rest end. elim c.else-is_at_rest.branch [
      | else-is_at_rest-via-then-is_at_rest+else-ends_at w ↦ w.if-ends_at.ensures end
      | else-is_at_rest-via-else-is_at_rest w ↦ false_not (w.if-is_at_rest.ensures.1 rest)
    ])
