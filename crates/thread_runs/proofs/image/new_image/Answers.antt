use Rattle.command_openings.specs.Openings.{new_opening}
use Rattle.thread_runs.proofs.Runs.{as_opened}
use Rattle.thread_runs.proofs.image.new_image.Goals as goal

pub returns-in-Ok-make_and_open-clause-held : goal.returns-in-Ok-make_and_open-clause-held
returns-in-Ok-make_and_open-clause-held c = as_opened c.in-Ok-make_and_open.opened _ (new_opening c.args.sizes.now) c.in-Ok-make_and_open.ensures.opening c.in-Ok-make_and_open.ensures.is_open.holds
