use Rattle.std.proofs.lemmas.List.Elements.{All-push}
use Rattle.transaction_trial.specs.Fit.{IsFit}
use Rattle.transaction_trial.proofs.place.split_jobs.Goals as goal

pub loop-file-preserved : goal.loop-file-preserved
loop-file-preserved c = (
  c.in-Ok.ensures.ok.rests,
  rw c.in-Ok-push.ensures.items (All-push (IsFit c.args.place.now.stm.events) c.loop-file.jobs.items c.in_ok-job.job c.loop-file.invariant.1 c.in_ok-job.ensures),
)

pub returns : goal.returns
returns c = rw c.in-Ok-push-2.ensures.items (All-push (IsFit c.args.place.now.stm.events) c.loop-file.jobs.items c.in_ok-job-2.job c.loop-file.invariant.1 c.in_ok-job-2.ensures)
