use Rattle.pmem_trait.proofs.GroupRuns.{group_keeps, ok_settles}
use Rattle.pmem_trait.proofs.group.settle_group.Goals as goal

pub returns-clause-mix : goal.returns-clause-mix
returns-clause-mix g c = group_keeps c.args.writes.now c.args.lines.now c.make_group.ensures.made

pub returns-clause-settles : goal.returns-clause-settles
returns-clause-settles g c = ok_settles _ c.args.writes.now c.args.lines.now c.make_group.ensures.made
