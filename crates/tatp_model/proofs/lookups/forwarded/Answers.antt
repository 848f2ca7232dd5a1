use Rattle.std.proofs.Common.{◌<◌, ◌∙◌, sym, arith, ap, length, take}
use Rattle.std.specs.List.{filter}
use Rattle.std.proofs.lemmas.List.{length-map}
use Rattle.tatp_model.specs.declared.numbers.Numbers.{Numbers}
use Rattle.tatp_model.specs.declared.call_row.CallRow.{CallRow}
use Rattle.tatp_model.specs.Transaction.{forwards}
use Rattle.tatp_model.proofs.Calls.{room_for_one}
use Rattle.tatp_model.proofs.lookups.forwarded.Goals as goal

pub push-requires : goal.push-requires
push-requires c =
    let fits = forwards c.args.s_id c.args.sf_type c.args.start_time c.args.end_time in
    let room : length (filter fits (take c.loop-row.row-index c.args.rows.now)) < 3 = room_for_one c.args.s_id c.args.sf_type c.args.start_time c.args.end_time c.args.rows.now c.loop-row.row-index _ c.requires.in_range c.requires.rise c.loop-row-test.true (sym c.forwards.ensures ∙ c.if-forwards.true) in
    omega (arith, ap (λ (n : Numbers). n.count) c.loop-row.invariant, length-map (filter fits (take c.loop-row.row-index c.args.rows.now)) (λ (r : CallRow). r.numberx), room)
