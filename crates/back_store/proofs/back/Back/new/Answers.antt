use Rattle.back_store.proofs.RestingHome.{idle_keeps}
use Rattle.back_store.proofs.back.Back.new.Goals as goal

pub returns-in-Ok-clause-keeps : goal.returns-in-Ok-clause-keeps
returns-in-Ok-clause-keeps g c before home idle_medium =
    rw (c.in-Ok.ensures, c.of.ensures) (idle_keeps before c.args.sizes.now c.args.number home (g.M.Medium.sight c.args.medium) c.requires.accepted c.requires.small idle_medium)
