use Rattle.std.proofs.Common.{◌∙◌, ap, sym}
use Rattle.pmem_trait.specs.Words.{State, last_told}
use Rattle.pmem_fake.specs.History.{start_state}
use Rattle.pmem_fake.proofs.Histories.{made_next}
use Rattle.pmem_fake.proofs.replay.last_told_by.Goals as goal

pub loop-made-preserved : goal.loop-made-preserved
loop-made-preserved c start =
    c.told_after_made-told.ensures _ (c.loop-made.invariant start)
    ∙ ap (λ (p : State). last_told p.told) (sym (made_next c.args.late c.args.calls.now c.loop-made.made-index _ (start_state start) c.loop-made-test.true))
