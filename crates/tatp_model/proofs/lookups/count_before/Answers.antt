use Rattle.tatp_model.proofs.CallHalves.{count_found, count_parted}
use Rattle.tatp_model.proofs.lookups.count_before.Goals as goal

pub returns-in-Ok : goal.returns-in-Ok
returns-in-Ok c = count_found c.args.s_id c.args.sf_type c.args.start_time c.args.rows.now c.requires.in_range c.requires.rise c.in-Ok.at c.in-Ok.ensures.bound c.in-Ok.ensures.halved

pub returns-in-Err : goal.returns-in-Err
returns-in-Err c = count_parted c.args.s_id c.args.sf_type c.args.start_time c.args.rows.now c.requires.in_range c.requires.rise c.in-Err.at c.in-Err.ensures.bound c.in-Err.ensures.halved
