use Rattle.std.proofs.Common.{◌∙◌}
use Rattle.tatp_csv.proofs.Fields.{field_at-get, now-unwrap_or}
use Rattle.tatp_csv.proofs.record.field.Goals as goal

pub returns : goal.returns
returns c =
    rw c.unwrap_or.ensures (now-unwrap_or c.get.result _ ∙ rw c.get.ensures.value (field_at-get _ c.args.place))
