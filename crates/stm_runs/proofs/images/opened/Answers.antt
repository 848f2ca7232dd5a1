use Rattle.pmem_fake.specs.Fakes.{sight}
use Rattle.stm_runs.proofs.Resting.{at_rest}
use Rattle.stm_runs.proofs.images.opened.Goals as goal

pub returns-in-Ok-open : goal.returns-in-Ok-open
returns-in-Ok-open c = at_rest (sight c.in-Ok.medium) c.in-Ok-open.opened c.in-Ok-open.ensures.opened c.in-Ok.ensures.untold c.in-Ok-open.ensures.opens
