use Rattle.std.proofs.Common.{◌≡◌, false, is_ok, rules, refl}
use Rattle.pmem_fake.proofs.Histories.{makes_call, content_stays}
use Rattle.pmem_fake.proofs.mem_pmem.MemPmemMedium.read.Goals as goal

pub invariant_of-self-clause-content : goal.invariant_of-self-clause-content
invariant_of-self-clause-content c = content_stays c.args.self.now.start.items c.args.self.now.words.items c.enter.ensures (λ k w done. refl) c.args.self.now.content

pub returns-in_err-enter-clause-made : goal.returns-in_err-enter-clause-made
returns-in_err-enter-clause-made c = let err : is_ok c.from_residual.result ≡ false = search rules in rw err (makes_call c.in_err-enter.ensures refl)

pub returns-clause-made : goal.returns-clause-made
returns-clause-made c = makes_call c.in_ok-enter.ensures refl
