use Rattle.std.proofs.Common.{ap, arith}
use Rattle.core_events.specs.Words.{State}
use Rattle.dude_core.specs.Named.{event_of}
use Rattle.dude_core.proofs.Places.{inside_there, met_tells, not_met}
use Rattle.core_events.proofs.Lists.{at_index}
use Rattle.dude_core.proofs.state.State.may_make.Goals as goal

pub returns-then-who-len : goal.returns-then-who-len
returns-then-who-len c = λ t. let n = c.self.inside.views.ok.0 in let l = c.len.ensures in let h = c.if-who-len.true in
    let lt = inside_there c.self.inside.views.items c.args.self.now.views c.args.who t.0 (ap (λ (s : State). s.views) c.self.view_is) t.1.is_there in absurd (omega arith)

pub returns-then-may : goal.returns-then-may
returns-then-may c = rw (← c.self.view_is) (met_tells c.args.z.now _ c.args.store.now c.args.who (event_of c.args.deed.now) c.index-view.result.now c.meets.result
    (at_index c.self.inside.views.items c.args.who c.index-view.result.now (let n = c.self.inside.views.ok.0 in let l = c.len.ensures in let h = c.if-who-len.false in omega arith) c.index-view.ensures)
    c.if-may.ensures (rw (← c.self.view_is) at c.meets.ensures))

pub returns-else-may : goal.returns-else-may
returns-else-may c = rw (← c.self.view_is) (not_met c.args.z.now _ c.args.store.now c.args.who (event_of c.args.deed.now) c.index-view.result.now c.may.result c.if-may.false
    (at_index c.self.inside.views.items c.args.who c.index-view.result.now (let n = c.self.inside.views.ok.0 in let l = c.len.ensures in let h = c.if-who-len.false in omega arith) c.index-view.ensures)
    c.may.ensures)
