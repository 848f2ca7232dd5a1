use Rattle.std.proofs.Common.{ap, arith}
use Rattle.core_events.specs.Words.{State}
use Rattle.dude_core.proofs.Places.{inside_there}
use Rattle.core_events.proofs.Lists.{at_index}
use Rattle.dude_core.proofs.Parted.{split_tells}
use Rattle.dude_core.proofs.state.State.may_split.Goals as goal

pub returns-then-who-len : goal.returns-then-who-len
returns-then-who-len c = λ t. let n = c.self.inside.views.ok.0 in let l = c.len.ensures in let h = c.if-who-len.true in
    let lt = inside_there c.self.inside.views.items c.args.self.now.views c.args.who t.0 (ap (λ (s : State). s.views) c.self.view_is) t.1.is_there in absurd (omega arith)

pub returns : goal.returns
returns c = rw (← c.self.view_is) (split_tells _ c.args.who c.args.draws c.index.result.now c.may_split.result
    (at_index c.self.inside.views.items c.args.who c.index.result.now (let n = c.self.inside.views.ok.0 in let l = c.len.ensures in let h = c.if-who-len.false in omega arith) c.index.ensures)
    c.may_split.ensures)
