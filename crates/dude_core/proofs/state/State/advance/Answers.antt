use Rattle.std.proofs.Common.{set, ap, sym, subst, ◌∙◌, arith, ℕ}
use Rattle.core_events.specs.Views.{View}
use Rattle.core_events.specs.Words.{State}
use Rattle.core_events.specs.Events.{name, view_after}
use Rattle.core_events.specs.Conditions.{May}
use Rattle.core_events.specs.Telling.{IsSeated, WordTold}
use Rattle.dude_core.specs.Named.{event_of}
use Rattle.dude_core.proofs.Places.{inside_there, same_there}
use Rattle.dude_core.proofs.state.State.advance.Goals as goal

pub index_mut-requires : goal.index_mut-requires
index_mut-requires c = (let n = c.self.inside.views.ok.0 in let h = inside_there c.self.inside.views.items c.args.self.now.views c.args.who c.requires.ready.view (ap (λ (s : State). s.views) c.self.view_is) c.requires.ready.is_there in omega arith)

pub advance-requires-clause-seated : goal.advance-requires-clause-seated
advance-requires-clause-seated c = subst (IsSeated c.args.z.now) (sym (same_there c.self.inside.views.items c.args.self.now.views c.args.who c.requires.ready.view c.index_mut.result.now (ap (λ (s : State). s.views) c.self.view_is) c.requires.ready.is_there c.index_mut.ensures.value)) c.requires.ready.seated

pub advance-requires-clause-may : goal.advance-requires-clause-may
advance-requires-clause-may c = subst (λ (v : View). May c.args.z.now (event_of c.args.deed.now) v) (sym (same_there c.self.inside.views.items c.args.self.now.views c.args.who c.requires.ready.view c.index_mut.result.now (ap (λ (s : State). s.views) c.self.view_is) c.requires.ready.is_there c.index_mut.ensures.value)) c.requires.ready.may

pub advance-requires-clause-told : goal.advance-requires-clause-told
advance-requires-clause-told c = subst (λ (v : View). WordTold c.args.z.now (event_of c.args.deed.now) v c.args.found) (sym (same_there c.self.inside.views.items c.args.self.now.views c.args.who c.requires.ready.view c.index_mut.result.now (ap (λ (s : State). s.views) c.self.view_is) c.requires.ready.is_there c.index_mut.ensures.value)) (subst (λ (n : ℕ). WordTold c.args.z.now (event_of c.args.deed.now) c.requires.ready.view n) (sym (c.requires.found c.requires.ready.view c.requires.ready.is_there)) c.requires.ready.told)

pub advance-requires-clause-name : goal.advance-requires-clause-name
advance-requires-clause-name c = c.requires.name c.requires.ready.view c.requires.ready.is_there ∙ ap (λ (u : View). name c.args.z.now (event_of c.args.deed.now) u) (sym (same_there c.self.inside.views.items c.args.self.now.views c.args.who c.requires.ready.view c.index_mut.result.now (ap (λ (s : State). s.views) c.self.view_is) c.requires.ready.is_there c.index_mut.ensures.value))

pub returns-clause-ok : goal.returns-clause-ok
returns-clause-ok c = λ v at.
    ap (λ (s : State). record s { views = set s.views c.args.who c.advance.new.view }) c.self.view_is
    ∙ ap (λ (x : View). record c.args.self.now { views = set c.args.self.now.views c.args.who x })
    (c.in_ok-advance.ensures ∙ ap (λ (u : View). view_after c.args.z.now (event_of c.args.deed.now) u c.args.found) (same_there c.self.inside.views.items c.args.self.now.views c.args.who v c.index_mut.result.now (ap (λ (s : State). s.views) c.self.view_is) at c.index_mut.ensures.value))
