use Rattle.std.proofs.Common.{◌∷◌, [], ◌++◌, ap, ◌∙◌}
use Rattle.core_events.specs.Views.{View}
use Rattle.core_events.specs.Partings.{newcomer}
use Rattle.dude_core.proofs.PartedViews.{split_is}
use Rattle.dude_core.proofs.parted_views.split_off.Goals as goal

pub returns-clause-ok : goal.returns-clause-ok
returns-clause-ok c = λ v at. split_is c.args.views.now.items c.push.new.self.items c.args.who c.args.draws (newcomer c.args.z.now 0 c.args.draws) v c.index_mut.result.now c.leave.new.self
    (c.in_ok-push.ensures.items ∙ ap (λ (n : View). c.args.views.now.items ++ n ∷ []) c.newcomer.ensures) at c.index_mut.ensures.value c.leave.ensures
