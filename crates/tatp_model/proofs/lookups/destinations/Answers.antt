use Rattle.std.proofs.Common.{◌∙◌, ◌-◌, List, map, ap}
use Rattle.tatp_model.specs.declared.call_row.CallRow.{CallRow}
use Rattle.tatp_model.specs.Database.{call_key}
use Rattle.tatp_model.specs.Numbers.{numbers_of}
use Rattle.tatp_model.proofs.CallHalves.{counts_rise, forwards_between}
use Rattle.tatp_model.proofs.Rising.{rising_part}
use Rattle.tatp_model.proofs.lookups.destinations.Goals as goal

pub slice_bounds-forwarded-count : goal.slice_bounds-forwarded-count
slice_bounds-forwarded-count c = counts_rise c.args.s_id c.args.sf_type c.args.rows.now _ _ c.count_before-first.ensures c.count_before-behind.ensures

pub slice_bounds-forwarded-start : goal.slice_bounds-forwarded-start
slice_bounds-forwarded-start c = counts_rise c.args.s_id c.args.sf_type c.args.rows.now _ _ c.count_before-first.ensures c.count_before-behind.ensures

pub forwarded-requires-clause-rise : goal.forwarded-requires-clause-rise
forwarded-requires-clause-rise c = rising_part call_key c.args.rows.now c.count_before-first.result (c.count_before-behind.result - c.count_before-first.result) c.requires.rise

pub returns : goal.returns
returns c =
    c.forwarded.ensures ∙ ap (λ (rows : List CallRow). numbers_of (map (λ (r : CallRow). r.numberx) rows)) (forwards_between c.args.s_id c.args.sf_type c.args.rows.now _ _ c.count_before-first.ensures c.count_before-behind.ensures c.args.start_time c.args.end_time c.requires.in_range)
