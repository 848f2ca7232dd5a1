use Rattle.std.proofs.Common.{◌∙◌, ap, sym, arith}
use lib.ListN.{get_elem?}
use Rattle.core_events.specs.Words.{State}
use Rattle.core_events.proofs.Lists.{at_index}
use Rattle.dude_core.proofs.Places.{inside_there, turn_tells}
use Rattle.dude_core.proofs.state.State.has_turn.Goals as goal

pub returns-then-who-len : goal.returns-then-who-len
returns-then-who-len c = λ t. let n = c.self.inside.views.ok.0 in let l = c.len.ensures in let h = c.if-who-len.true in
    let lt = inside_there c.self.inside.views.items c.args.self.now.views c.args.who t.0 (ap (λ (s : State). s.views) c.self.view_is) t.1.0 in absurd (omega arith)

pub returns : goal.returns
returns c = turn_tells c.args.self.now c.args.who c.index.result.now c.has_turn.result
    (ap (λ (s : State). get_elem? s.views c.args.who) (sym c.self.view_is)
    ∙ at_index c.self.inside.views.items c.args.who c.index.result.now (let n = c.self.inside.views.ok.0 in let l = c.len.ensures in let h = c.if-who-len.false in omega arith) c.index.ensures)
    c.has_turn.ensures
