use Rattle.dude_core.proofs.NextCalls.{some_by, none_by}
use Rattle.dude_core.proofs.Gathers.{gathers_longer, gathers_no, gathers_none}
use Rattle.dude_core.proofs.state.State.+gather.Goals as goal

pub returns-in-Some-longer-clause-some : goal.returns-in-Some-longer-clause-some
returns-in-Some-longer-clause-some t c = some_by c.gather.result
    (λ g on. gathers_longer c.args.z.now c.args.self.now c.args.store.now c.requires.kept c.args.call c.args.ring c.args.bundle c.in-Some-longer.longer g.bundle g.is_last c.in-Some-longer.ensures.some on)
    c.gather.ensures.some

pub returns-in-Some-longer-clause-none : goal.returns-in-Some-longer-clause-none
returns-in-Some-longer-clause-none t c = none_by c.gather.result
    (λ no_more. gathers_none c.args.z.now c.args.self.now c.args.store.now c.requires.kept c.args.call c.args.ring c.args.bundle c.in-Some-longer.longer
    c.in_default.ensures.none c.in-Some-longer.ensures.some no_more)
    c.gather.ensures.none

pub returns-in-None-clause-none : goal.returns-in-None-clause-none
returns-in-None-clause-none t c = gathers_no c.args.z.now c.args.self.now c.args.store.now c.requires.kept c.args.call c.args.ring c.args.bundle
    c.in_default.ensures.none c.in-None.ensures.none
