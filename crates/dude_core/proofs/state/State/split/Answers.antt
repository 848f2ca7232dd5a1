use Rattle.std.proofs.Common.{ap, refl}
use Rattle.core_events.specs.Words.{State}
use Rattle.core_events.specs.Partings.{parting, split}
use Rattle.dude_core.proofs.Places.{inside_there}
use Rattle.dude_core.proofs.Refused.{never_off, made_not_off, unmade_not_off}
use Rattle.dude_core.proofs.state.State.split.Goals as goal
use Rattle.dude_core.proofs.state.State.split.Goals.{in-Ok, in-Err}

pub split_off-requires : goal.split_off-requires
split_off-requires c = let t = c.if-not-may_split.ensures in inside_there c.self.inside.views.items c.args.self.now.views c.args.who t.0 (ap (λ (s : State). s.views) c.self.view_is) t.1.is_there

pub returns-clause-off : goal.returns-clause-off
returns-clause-off c = let t = c.if-not-may_split.ensures in never_off c.args.z.now c.args.self.now (parting c.args.who c.args.draws) (split c.args.z.now c.args.self.now c.args.who t.0 c.args.draws) (t.0, t.1, refl)
    (λ e. elim c.match-split_off.branch [ in-Ok w ↦ made_not_off _ _ w.result-is e | in-Err w ↦ unmade_not_off _ w.result-is e ])
