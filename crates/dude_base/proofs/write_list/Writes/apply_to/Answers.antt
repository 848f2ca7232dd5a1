use Rattle.std.proofs.Common.{sym, ap, ◌∙◌, slice_set}
use Rattle.dude_base.proofs.Overwriting.{overwritten-more}
use Rattle.dude_base.proofs.write_list.Writes.apply_to.Goals as goal

pub loop-k-preserved : goal.loop-k-preserved
loop-k-preserved g c =
    let w = c.get-w.result in
    ap (λ words. slice_set words w.at w.value) c.loop-k.invariant
    ∙ sym (overwritten-more c.args.self.now c.args.words.now c.loop-k.k w c.len-k-end.ensures.writes.distinct c.get-w.ensures)
