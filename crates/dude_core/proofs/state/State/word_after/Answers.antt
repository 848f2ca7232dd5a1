use Rattle.std.proofs.Common.{ap, sym, subst, ◌∙◌, arith, ℕ}
use Rattle.core_events.specs.Views.{View}
use Rattle.core_events.specs.Words.{State}
use Rattle.core_events.specs.Events.{word_after}
use Rattle.core_events.specs.Conditions.{May}
use Rattle.core_events.specs.Telling.{IsSeated, WordTold}
use Rattle.dude_core.specs.Named.{event_of}
use Rattle.dude_core.proofs.Places.{inside_there, same_there}
use Rattle.dude_core.proofs.state.State.word_after.Goals as goal

pub index-requires : goal.index-requires
index-requires c = (let n = c.self.inside.views.ok.0 in let h = inside_there c.self.inside.views.items c.args.self.now.views c.args.who c.requires.ready.view (ap (λ (s : State). s.views) c.self.view_is) c.requires.ready.is_there in omega arith)

pub word_after-requires-clause-seated : goal.word_after-requires-clause-seated
word_after-requires-clause-seated c = subst (IsSeated c.args.z.now) (sym (same_there c.self.inside.views.items c.args.self.now.views c.args.who c.requires.ready.view c.index.result.now (ap (λ (s : State). s.views) c.self.view_is) c.requires.ready.is_there c.index.ensures)) c.requires.ready.seated

pub word_after-requires-clause-may : goal.word_after-requires-clause-may
word_after-requires-clause-may c = subst (λ (v : View). May c.args.z.now (event_of c.args.deed.now) v) (sym (same_there c.self.inside.views.items c.args.self.now.views c.args.who c.requires.ready.view c.index.result.now (ap (λ (s : State). s.views) c.self.view_is) c.requires.ready.is_there c.index.ensures)) c.requires.ready.may

pub word_after-requires-clause-told : goal.word_after-requires-clause-told
word_after-requires-clause-told c = subst (λ (v : View). WordTold c.args.z.now (event_of c.args.deed.now) v c.args.found) (sym (same_there c.self.inside.views.items c.args.self.now.views c.args.who c.requires.ready.view c.index.result.now (ap (λ (s : State). s.views) c.self.view_is) c.requires.ready.is_there c.index.ensures)) (subst (λ (n : ℕ). WordTold c.args.z.now (event_of c.args.deed.now) c.requires.ready.view n) (sym (c.requires.found c.requires.ready.view c.requires.ready.is_there)) c.requires.ready.told)

pub returns : goal.returns
returns c = λ v at. c.word_after.ensures ∙ ap (λ (u : View). word_after (event_of c.args.deed.now) u c.args.found) (same_there c.self.inside.views.items c.args.self.now.views c.args.who v c.index.result.now (ap (λ (s : State). s.views) c.self.view_is) at c.index.ensures)
