use Rattle.std.proofs.Common.{true≢false, length, refl, sym, ◌∙◌, arith, ◌<◌}
use Rattle.std.proofs.Math.ListN.{length-set}
use Rattle.pmem_fake.proofs.Histories.{makes_call, content_stays, content_put}
use Rattle.pmem_fake.proofs.mem_pmem.MemPmemMedium.put.Goals as goal
use Rattle.pmem_fake.proofs.mem_pmem.MemPmemMedium.put.Goals.{then-is_next_effective, else-is_next_effective}

pub invariant_of-self : goal.invariant_of-self
invariant_of-self c =
    let medium = c.args.self.now in
    let inside : c.args.at < length medium.words.items = omega (arith, medium.same_len, c.requires) in
    elim c.if-is_next_effective.branch [
      | then-is_next_effective w ↦ rw w.self-is (record {
        same_len = length-set medium.words.items c.args.at c.args.value ∙ medium.same_len;
        content = content_put c.args.at c.args.value medium.start.items medium.words.items c.enter.ensures (sym c.is_next_effective.ensures ∙ w.if-is_next_effective.true) inside medium.content;
      })
      | else-is_next_effective w ↦ rw w.self-is (record {
        same_len = medium.same_len;
        content = content_stays medium.start.items medium.words.items c.enter.ensures (λ k word acts. absurd (true≢false (sym acts ∙ sym c.is_next_effective.ensures ∙ w.if-is_next_effective.false))) medium.content;
      })
    ]

pub returns : goal.returns
returns c = makes_call c.enter.ensures refl
