use Rattle.std.proofs.Common.{refl}
use Rattle.std.proofs.lemmas.List.{get_or_default}
use Rattle.run_workers.proofs.JobSteps.{at_next}
use Rattle.run_workers.proofs.work.Work.serve_next.Goals as goal

pub returns-clause-ok : goal.returns-clause-ok
returns-clause-ok g c = at_next c.args.self.now.stm.now.events c.args.self.now.lay.now c.args.requests.now c.args.index c.args.job.now _ c.requires.at
    _ c.in_ok-done.done c.requires.there (get_or_default c.args.requests.now c.args.index _ _ c.requires.there) c.in_ok-done.ensures.ok refl c.push_reserved.ensures.items c.push_reserved.ensures.capacity
