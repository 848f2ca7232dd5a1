use Rattle.std.proofs.Common.{sym, ap, ◌∙◌, slice_set}
use Rattle.dude_base.proofs.Overwriting.{overwritten-more}
use Rattle.dude_core.proofs.StoreLists.{rising_apart}
use Rattle.dude_core.proofs.edits.put_home.Goals as goal

pub loop-k-preserved : goal.loop-k-preserved
loop-k-preserved c =
    let w = c.write_at-write.result in
    ap (λ words. slice_set words w.at w.value) c.loop-k.invariant
    ∙ sym (overwritten-more c.args.writes.now c.args.home.now c.loop-k.k w (rising_apart c.args.writes.now c.requires.rising) c.write_at-write.ensures)
