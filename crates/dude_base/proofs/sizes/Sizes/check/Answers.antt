use Rattle.std.proofs.Common.{◌∙◌}
use Rattle.dude_base.proofs.SizesWithin.{accepted}
use Rattle.dude_base.proofs.sizes.Sizes.check.Goals as goal

pub pages_needed-requires : goal.pages_needed-requires
pages_needed-requires c = c.in_ok-check_counts.ensures.ok

pub returns-clause-ok : goal.returns-clause-ok
returns-clause-ok c = accepted c.args.self.now c.args.self.now.pages c.in_ok-check_counts.ensures.ok (c.if-self-pages_needed.false ∙ c.pages_needed.ensures)
