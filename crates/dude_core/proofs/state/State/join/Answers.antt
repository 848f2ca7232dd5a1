use Rattle.std.proofs.Common.{ap, arith, refl}
use Rattle.core_events.specs.Words.{State}
use Rattle.core_events.specs.Partings.{joining, join}
use Rattle.dude_core.proofs.Places.{inside_there}
use Rattle.dude_core.proofs.Refused.{never_off, made_not_off, unmade_not_off}
use Rattle.dude_core.proofs.Parted.{small_there}
use Rattle.dude_core.proofs.state.State.join.Goals as goal
use Rattle.dude_core.proofs.state.State.join.Goals.{in-Ok, in-Err}

pub join_into-requires-clause-who : goal.join_into-requires-clause-who
join_into-requires-clause-who c = let t = c.if-not-may_join.ensures in inside_there c.self.inside.views.items c.args.self.now.views c.args.who t.0 (ap (λ (s : State). s.views) c.self.view_is) t.2.is_there

pub join_into-requires-clause-other : goal.join_into-requires-clause-other
join_into-requires-clause-other c = let t = c.if-not-may_join.ensures in inside_there c.self.inside.views.items c.args.self.now.views c.args.other t.1 (ap (λ (s : State). s.views) c.self.view_is) t.2.other_there

pub join_into-requires-clause-small : goal.join_into-requires-clause-small
join_into-requires-clause-small c = small_there c.args.z.now c.args.self.now c.args.who c.args.other c.self.inside.views.items c.self.inside.boxes.items (ap (λ (s : State). s.views) c.self.view_is) (ap (λ (s : State). s.boxes) c.self.view_is) (let n = c.self.inside.boxes.ok.0 in omega arith) c.requires c.if-not-may_join.ensures

pub returns-clause-off : goal.returns-clause-off
returns-clause-off c = let t = c.if-not-may_join.ensures in never_off c.args.z.now c.args.self.now (joining c.args.who c.args.other) (join c.args.z.now c.args.self.now c.args.who t.0 c.args.other t.1) (t.0, t.1, t.2, refl)
    (λ e. elim c.match-join_into.branch [ in-Ok w ↦ made_not_off _ _ w.result-is e | in-Err w ↦ unmade_not_off _ w.result-is e ])
