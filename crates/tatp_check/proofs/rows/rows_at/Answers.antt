use Rattle.std.proofs.Common.{◌∙◌}
use Rattle.tatp_check.proofs.Slices.{of_slice, rows_more}
use Rattle.tatp_check.proofs.rows.rows_at.Goals as goal

pub loop-at-preserved : goal.loop-at-preserved
loop-at-preserved g c =
    rows_more _ _ _ _ _ _ c.loop-at-test.true c.loop-at.invariant c.in_ok-push.ensures.items
    (c.of.ensures ∙ g.met.R.RecordRow.apart c.args.a.now _ _ (of_slice g.R.RecordRow.size c.size.result _ c.args.a.now c.size.ensures c.requires.wide (c.requires.inside c.loop-at.at-index 0 c.loop-at-test.true)))
