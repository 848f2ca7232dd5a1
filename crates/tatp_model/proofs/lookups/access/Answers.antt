use Rattle.std.proofs.Common.{sym}
use Rattle.tatp_model.specs.Transaction.{is_access}
use Rattle.tatp_model.proofs.Rows.{find-position_None, find-position_Some}
use Rattle.tatp_model.proofs.lookups.access.Goals as goal

pub returns-in_err-index : goal.returns-in_err-index
returns-in_err-index c = rw c.from_residual.ensures (sym (find-position_None (is_access c.args.s_id c.args.ai_type) c.args.rows.now (sym c.in_err-index.ensures)))

pub returns : goal.returns
returns c = sym (find-position_Some (is_access c.args.s_id c.args.ai_type) c.args.rows.now c.in_ok-index.index _ (sym c.in_ok-index.ensures))
