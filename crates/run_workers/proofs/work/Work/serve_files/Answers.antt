use Rattle.std.proofs.Common.{sym, subst}
use Rattle.run_workers.specs.Work.{AreOver, work_files}
use Rattle.run_workers.specs.Jobs.{FirstHasRoom, request_count}
use Rattle.run_workers.proofs.JobsRun.{changed_in_place, first_kept}
use Rattle.run_workers.proofs.work.Work.serve_files.Goals as goal

pub join_served-requires-clause-worked : goal.join_served-requires-clause-worked
join_served-requires-clause-worked g c κs within =
    let each = c.deref_mut in let ran = c.run_jobs in
    changed_in_place (λ l. AreOver c.args.self.now l) c.in_ok-jobs.jobs.each each.result.now ran.new.jobs each.ensures.value ran.auto.jobs ran.ensures.worked

pub join_served-requires-clause-room : goal.join_served-requires-clause-room
join_served-requires-clause-room g c κs within =
    let count = request_count (work_files c.args.self.now) in let had = c.in_ok-jobs in let each = c.deref_mut in let ran = c.run_jobs in
    let room = subst (λ l. FirstHasRoom count l) (sym each.ensures.value) had.ensures.room.done in
    record {
      done = changed_in_place (λ l. FirstHasRoom count l) had.jobs.each each.result.now ran.new.jobs each.ensures.value ran.auto.jobs (first_kept count each.result.now ran.new.jobs ran.auto.jobs ran.ensures.places room);
      counts = had.ensures.room.counts;
    }
