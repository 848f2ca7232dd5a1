use Rattle.std.proofs.Common.{ap, subst, arith}
use Rattle.core_events.specs.Views.{View}
use Rattle.core_events.specs.Words.{State}
use Rattle.dude_core.specs.Named.{event_of}
use Rattle.dude_core.specs.DroppedReads.{Drops}
use Rattle.dude_core.proofs.Places.{inside_there, same_there}
use Rattle.dude_core.proofs.state.State.drops.Goals as goal

pub index-requires : goal.index-requires
index-requires c = (let n = c.self.inside.views.ok.0 in let h = inside_there c.self.inside.views.items c.args.self.now.views c.args.who c.requires.0 (ap (λ (s : State). s.views) c.self.view_is) c.requires.1 in omega arith)

pub returns : goal.returns
returns c = λ v at. subst (λ (u : View). Drops c.args.z.now (event_of c.args.deed.now) c.args.self.now u c.view_drops.result)
    (same_there c.self.inside.views.items c.args.self.now.views c.args.who v c.index.result.now (ap (λ (s : State). s.views) c.self.view_is) at c.index.ensures) c.view_drops.ensures
