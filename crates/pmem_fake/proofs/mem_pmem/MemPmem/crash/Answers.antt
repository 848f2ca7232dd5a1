use Rattle.std.proofs.Common.{take, arith, length-take}
use Rattle.std.proofs.lemmas.Grind.{common_steps}
use Rattle.pmem_fake.proofs.Picks.{ok_allowed, each_picked}
use Rattle.pmem_fake.proofs.mem_pmem.MemPmem.crash.Goals as goal

pub returns-clause-picked : goal.returns-clause-picked
returns-clause-picked c = grind (arith, common_steps)

pub returns-clause-allowed : goal.returns-clause-allowed
returns-clause-allowed c = ok_allowed _ _ _ _ (returns-clause-picked c)

pub returns-clause-every : goal.returns-clause-every
returns-clause-every c =
    let history = c.args.self.now.history in
    each_picked _ c.args.self.now.history.late (take history.now history.calls.items) c.args.self.now.start.items (omega (arith, length-take history.now history.calls.items, history.as_many, history.small))
