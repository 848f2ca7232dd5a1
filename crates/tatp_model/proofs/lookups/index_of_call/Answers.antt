use Rattle.std.proofs.Common.{◌∙◌}
use Rattle.tatp_model.proofs.CallHalves.{call_halved}
use Rattle.tatp_model.proofs.lookups.index_of_call.Goals as goal

pub returns : goal.returns
returns c = c.ok.ensures.value ∙ call_halved c.args.s_id c.args.sf_type c.args.start_time c.args.rows.now c.requires.in_range c.requires.rise c.search_calls.result c.search_calls.ensures.bound c.search_calls.ensures.halved
