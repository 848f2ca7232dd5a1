use Rattle.std.proofs.Common.{ap, ◌∙◌}
use Rattle.core_events.specs.Partings.{both_of}
use Rattle.dude_core.proofs.PartedViews.{join_is, small_places, undone}
use Rattle.dude_core.proofs.parted_views.join_beside.Goals as goal

pub take_over-requires-clause-draws : goal.take_over-requires-clause-draws
take_over-requires-clause-draws c = (small_places c.args.views.now.items c.args.who c.args.other c.swap.new.x c.index_mut-2.result.now c.swap.new.y c.index_mut.result.now c.requires.apart c.requires.who c.requires.other c.index_mut-2.ensures.value c.swap.ensures.y_after c.index_mut.ensures.value c.requires.small).draws

pub take_over-requires-clause-splits : goal.take_over-requires-clause-splits
take_over-requires-clause-splits c = (small_places c.args.views.now.items c.args.who c.args.other c.swap.new.x c.index_mut-2.result.now c.swap.new.y c.index_mut.result.now c.requires.apart c.requires.who c.requires.other c.index_mut-2.ensures.value c.swap.ensures.y_after c.index_mut.ensures.value c.requires.small).splits

pub returns-in-Ok-clause-ok : goal.returns-in-Ok-clause-ok
returns-in-Ok-clause-ok c = λ v w at also. join_is c.args.views.now.items c.args.who c.args.other c.args.spent.now c.swap.new.x v w c.index_mut-2.result.now c.index_mut.result.now c.take_over.new.self c.requires.apart at also c.swap.ensures.x_after
    c.index_mut-2.ensures.value c.index_mut.ensures.value (c.in-Ok.ensures.ok ∙ ap (both_of c.index_mut-2.result.now) c.swap.ensures.y_after)

pub returns-in-Err-clause-err : goal.returns-in-Err-clause-err
returns-in-Err-clause-err c = undone c.args.views.now.items c.args.who c.args.other c.swap.new.x c.index_mut-2.result.now c.take_over.new.self c.index_mut.result.now c.swap-in-Err.new.y c.requires.who c.requires.other
    c.index_mut-2.ensures.value c.in-Err.ensures.err c.index_mut.ensures.value (c.swap-in-Err.ensures.y_after ∙ c.in-Err.ensures.other ∙ c.swap.ensures.y_after)
