use Rattle.std.proofs.Common.{take, arith, length-take}
use Rattle.std.proofs.lemmas.Grind.{common_steps}
use Rattle.pmem_fake.specs.History.{IsPicked}
use Rattle.pmem_fake.specs.Fakes.{sight}
use Rattle.pmem_fake.proofs.Picks.{picked_allowed, each_picked}
use Rattle.pmem_fake.proofs.mem_pmem.MemPmem.images_at.Goals as goal

pub returns-clause-allowed : goal.returns-clause-allowed
returns-clause-allowed c =
    let picked : IsPicked (sight c.args.self.now).len ((sight c.args.self.now).state c.args.moment) c.args.picks.now c.in_ok-image_after.field-0.items = grind (arith, common_steps) in
    picked_allowed picked

pub returns-then-moment-now-clause-every : goal.returns-then-moment-now-clause-every
returns-then-moment-now-clause-every c =
    let history = c.args.self.now.history in
    each_picked _ c.args.self.now.history.late (take c.args.moment history.calls.items) c.args.self.now.start.items (omega (arith, length-take c.args.moment history.calls.items, history.as_many, history.small))

pub returns-in_err-image_after-clause-every : goal.returns-in_err-image_after-clause-every
returns-in_err-image_after-clause-every c =
    let history = c.args.self.now.history in
    each_picked _ c.args.self.now.history.late (take c.args.moment history.calls.items) c.args.self.now.start.items (omega (arith, length-take c.args.moment history.calls.items, history.as_many, history.small))

pub returns-clause-every : goal.returns-clause-every
returns-clause-every c =
    let history = c.args.self.now.history in
    each_picked _ c.args.self.now.history.late (take c.args.moment history.calls.items) c.args.self.now.start.items (omega (arith, length-take c.args.moment history.calls.items, history.as_many, history.small))
