use Rattle.std.proofs.Common.{refl}
use Rattle.pmem_fake.proofs.Histories.{makes_call, content_stays}
use Rattle.pmem_fake.proofs.mem_pmem.MemPmemMedium.tell.Goals as goal

pub invariant_of-self-clause-content : goal.invariant_of-self-clause-content
invariant_of-self-clause-content c =
    content_stays c.args.self.now.start.items c.args.self.now.words.items c.enter.ensures (λ k w done. refl) c.args.self.now.content

pub returns : goal.returns
returns c = makes_call c.enter.ensures refl
