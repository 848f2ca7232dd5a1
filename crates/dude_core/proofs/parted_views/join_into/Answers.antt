use Rattle.std.proofs.Common.{subst}
use Rattle.std.specs.Prelude.{OnOk}
use Rattle.core_events.specs.Views.{View}
use Rattle.dude_core.specs.Views.{AreJoined}
use Rattle.dude_core.proofs.parted_views.join_into.Goals as goal

pub returns-clause-ok : goal.returns-clause-ok
returns-clause-ok c = subst (λ (s : View). OnOk c.join_beside.result (AreJoined c.args.views.now.items c.args.who c.args.other s c.join_beside.new.views.items)) c.spent-spent.ensures c.join_beside.ensures.ok
