use Rattle.std.proofs.Common.{sym}
use Rattle.tatp_model.specs.Transaction.{is_subscriber}
use Rattle.tatp_model.proofs.Rows.{find-position_None, find-position_Some}
use Rattle.tatp_model.proofs.lookups.subscriber.Goals as goal

pub returns-in_err-index : goal.returns-in_err-index
returns-in_err-index c = rw c.from_residual.ensures (sym (find-position_None (is_subscriber c.args.s_id) c.args.rows.now (sym c.in_err-index.ensures)))

pub returns : goal.returns
returns c = sym (find-position_Some (is_subscriber c.args.s_id) c.args.rows.now c.in_ok-index.index _ (sym c.in_ok-index.ensures))
