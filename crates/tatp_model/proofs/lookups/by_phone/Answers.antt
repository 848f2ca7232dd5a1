use Rattle.std.proofs.Common.{sym}
use Rattle.tatp_model.specs.Transaction.{has_phone}
use Rattle.tatp_model.proofs.Rows.{find-position_None, find-position_Some}
use Rattle.tatp_model.proofs.lookups.by_phone.Goals as goal

pub returns-in_err-index : goal.returns-in_err-index
returns-in_err-index c = rw c.from_residual.ensures (sym (find-position_None (has_phone c.args.sub_nbr) c.args.rows.now (sym c.in_err-index.ensures)))

pub returns : goal.returns
returns c = sym (find-position_Some (has_phone c.args.sub_nbr) c.args.rows.now c.in_ok-index.index _ (sym c.in_ok-index.ensures))
