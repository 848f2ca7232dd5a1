use Rattle.std.proofs.Common.{sym, ap, ◌∙◌}
use Rattle.std.specs.Prelude.{is_some}
use Rattle.tatp_model.specs.Transaction.{is_call}
use Rattle.tatp_model.proofs.Rows.{list_any-position}
use Rattle.tatp_model.proofs.lookups.has_call.Goals as goal

pub returns : goal.returns
returns c = c.is_some.ensures ∙ ap is_some c.index_of_call.ensures ∙ sym (list_any-position (is_call c.args.s_id c.args.sf_type c.args.start_time) c.args.rows.now)
