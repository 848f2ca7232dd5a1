use Rattle.stm_slots.proofs.Parting.{quiet_steps}
use Rattle.stm_slots.proofs.quiet_steps.law_of_quiet_steps.Goals as goal

pub returns : goal.returns
returns g c = quiet_steps g.M.Medium.sight c.args.events.now c.box_count-boxes.ensures.setup
