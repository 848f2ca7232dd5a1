use Rattle.std.proofs.Common.{ap, sym, subst, ◌∙◌, ◌<◌, arith}
use Rattle.core_events.specs.Views.{View}
use Rattle.core_events.specs.Words.{State}
use Rattle.core_events.specs.Events.{thread_of, next_box}
use Rattle.dude_core.proofs.Places.{inside_there, same_there}
use Rattle.dude_core.proofs.state.State.next_box_of.Goals as goal

pub index-requires : goal.index-requires
index-requires c = (let n = c.self.inside.views.ok.0 in let h = inside_there c.self.inside.views.items c.args.self.now.views c.args.who c.requires.there.0 (ap (λ (s : State). s.views) c.self.view_is) c.requires.there.1 in omega arith)

pub next_box-requires-clause-thread : goal.next_box-requires-clause-thread
next_box-requires-clause-thread c = subst (λ (u : View). thread_of u < c.args.z.now.threads) (sym (same_there c.self.inside.views.items c.args.self.now.views c.args.who c.requires.there.0 c.index.result.now (ap (λ (s : State). s.views) c.self.view_is) c.requires.there.1 c.index.ensures)) (c.requires.inside c.requires.there.0 c.requires.there.1).0

pub next_box-requires-clause-place : goal.next_box-requires-clause-place
next_box-requires-clause-place c = subst (λ (u : View). u.box.next < c.args.z.now.boxes) (sym (same_there c.self.inside.views.items c.args.self.now.views c.args.who c.requires.there.0 c.index.result.now (ap (λ (s : State). s.views) c.self.view_is) c.requires.there.1 c.index.ensures)) (c.requires.inside c.requires.there.0 c.requires.there.1).1

pub returns : goal.returns
returns c = λ v at. c.next_box.ensures ∙ ap (λ (u : View). next_box c.args.z.now u) (same_there c.self.inside.views.items c.args.self.now.views c.args.who v c.index.result.now (ap (λ (s : State). s.views) c.self.view_is) at c.index.ensures)
