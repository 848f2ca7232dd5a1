use Rattle.std.proofs.Common.{arith}
use Rattle.run_workers.specs.Job.{KeepPlaces}
use Rattle.run_workers.specs.Work.{work_files, work_table}
use Rattle.run_workers.proofs.JobsRun.{jobs_of, jobs_worked}
use Rattle.run_workers.proofs.work.Work.run_jobs.Goals as goal

pub run_beside_last-requires-after_bounds : goal.run_beside_last-requires-after_bounds
run_beside_last-requires-after_bounds g c κs inside = λ k d within.
    let w = c.args.self.now in let h = c.requires in
    record { may = h.may; fresh = jobs_of (work_table w) (work_files w) c.args.jobs.now h.fresh k d within; sent = h.sent k d within }

pub returns : goal.returns
returns g c =
    let w = c.args.self.now in let x = c.run_beside_last in let long = x.auto.jobs in
    let places : KeepPlaces c.args.jobs.now x.new.jobs = λ i d within. (x.ensures i d within).place in
    record {
      worked = jobs_worked (work_table w) (work_files w) w.lay.now c.args.jobs.now x.new.jobs c.requires.fresh long places (λ i d within. (x.ensures i d (omega (arith, long, within))).worked);
      places = places;
      lanes = λ i d within. (x.ensures i d within).lane;
      sent = λ i d within. (x.ensures i d (omega (arith, long, within))).sent;
    }
