use Rattle.std.proofs.Common.{refl}
use Rattle.pmem_fake.proofs.Histories.{makes_call, content_stays, fence_value}
use Rattle.pmem_fake.proofs.mem_pmem.MemPmemMedium.fence.Goals as goal

pub invariant_of-self-clause-content : goal.invariant_of-self-clause-content
invariant_of-self-clause-content c =
    content_stays c.args.self.now.start.items c.args.self.now.words.items c.enter.ensures (λ k w done. fence_value k w) c.args.self.now.content

pub returns : goal.returns
returns c = makes_call c.enter.ensures refl
