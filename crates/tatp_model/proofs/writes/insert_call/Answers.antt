use Rattle.std.proofs.Common.{◌≡◌, Some, sym}
use Rattle.std.specs.List.{find}
use Rattle.tatp_model.specs.Database.{IsSubRow}
use Rattle.tatp_model.specs.Transaction.{has_phone}
use Rattle.tatp_model.proofs.Rows.{All-find}
use Rattle.tatp_model.proofs.writes.insert_call.Goals as goal

pub insert_row-requires-clause-in_range : goal.insert_row-requires-clause-in_range
insert_row-requires-clause-in_range c =
    let ranges = c.requires.in_range in
    let found : find (has_phone c.args.sub_nbr) c.args.t.now.subscribers.items ≡ Some c.in-Some.subscriber = sym (rw c.deref.ensures.value at c.in-Some.ensures) in
    let row = All-find IsSubRow (has_phone c.args.sub_nbr) c.args.t.now.subscribers.items c.in-Some.subscriber c.requires.in_order.subscribers_in_range found in
    record { s_id = row.s_id; sf_type = ranges.1; start_time = ranges.2; end_time = ranges.3; numberx = ranges.4 }
