use Rattle.std.proofs.Common.{ap, sym, subst, ◌∙◌, arith}
use Rattle.core_events.specs.Views.{View}
use Rattle.core_events.specs.Words.{State}
use Rattle.core_events.specs.Events.{name}
use Rattle.core_events.specs.Conditions.{May}
use Rattle.core_events.specs.Telling.{IsSeated}
use Rattle.dude_core.specs.Named.{event_of}
use Rattle.dude_core.proofs.Places.{inside_there, same_there}
use Rattle.dude_core.proofs.state.State.name_of.Goals as goal

pub index-requires : goal.index-requires
index-requires c = (let n = c.self.inside.views.ok.0 in let h = inside_there c.self.inside.views.items c.args.self.now.views c.args.who c.requires.view (ap (λ (s : State). s.views) c.self.view_is) c.requires.is_there in omega arith)

pub name-requires-clause-seated : goal.name-requires-clause-seated
name-requires-clause-seated c = subst (IsSeated c.args.z.now) (sym (same_there c.self.inside.views.items c.args.self.now.views c.args.who c.requires.view c.index.result.now (ap (λ (s : State). s.views) c.self.view_is) c.requires.is_there c.index.ensures)) c.requires.seated

pub name-requires-clause-may : goal.name-requires-clause-may
name-requires-clause-may c = subst (λ (v : View). May c.args.z.now (event_of c.args.deed.now) v) (sym (same_there c.self.inside.views.items c.args.self.now.views c.args.who c.requires.view c.index.result.now (ap (λ (s : State). s.views) c.self.view_is) c.requires.is_there c.index.ensures)) c.requires.may

pub returns : goal.returns
returns c = λ v at. c.name.ensures ∙ ap (λ (u : View). name c.args.z.now (event_of c.args.deed.now) u) (same_there c.self.inside.views.items c.args.self.now.views c.args.who v c.index.result.now (ap (λ (s : State). s.views) c.self.view_is) at c.index.ensures)
