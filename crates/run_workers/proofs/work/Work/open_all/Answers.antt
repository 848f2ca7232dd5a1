use Rattle.std.proofs.Common.{length, map, ap, arith}
use Rattle.run_workers.specs.Job.{IsFresh}
use Rattle.run_workers.specs.Jobs.{request_count}
use Rattle.run_workers.specs.Work.{work_files, work_table}
use Rattle.run_workers.proofs.JobsStreamed.{fresh_handed, jobs_count, lanes_handed, room_handed}
use Rattle.run_workers.proofs.work.Work.open_all.Goals as goal

pub hand_out-requires : goal.hand_out-requires
hand_out-requires g c =
    let t = c.args.self.now.stm.now.events in
    let files = map (λ f. f.items) c.args.self.now.files.now in
    let a = jobs_count t files (IsFresh t) c.in_ok-jobs.jobs.each.items c.in_ok-jobs.ensures.ok in
    let b = c.in-Ok.ensures.boxes_count in
    let v = ap length c.deref_mut.ensures.value in
    omega (arith, c.in-Ok.lanes.outboxes.ok.0)

pub returns-clause-fresh : goal.returns-clause-fresh
returns-clause-fresh g c =
    let w = c.args.self.now in let jobs = c.in_ok-jobs in let gave = c.hand_out in
    fresh_handed jobs.jobs.each c.deref_mut.result.now gave.new.jobs c.deref_mut.ensures.value gave.auto.jobs gave.ensures.work (work_table w) (work_files w) jobs.ensures.ok

pub returns-clause-room : goal.returns-clause-room
returns-clause-room g c =
    let jobs = c.in_ok-jobs in let gave = c.hand_out in record {
      done = room_handed jobs.jobs.each c.deref_mut.result.now gave.new.jobs c.deref_mut.ensures.value gave.auto.jobs gave.ensures.work (request_count (work_files c.args.self.now)) jobs.ensures.room.done;
      counts = jobs.ensures.room.counts;
    }

pub returns-clause-lanes : goal.returns-clause-lanes
returns-clause-lanes g c =
    let w = c.args.self.now in let jobs = c.in_ok-jobs in let gave = c.hand_out in let lanes = c.in-Ok.lanes in
    lanes_handed jobs.jobs.each c.deref_mut.result.now gave.new.jobs c.deref_mut.ensures.value gave.auto.jobs gave.ensures.work (work_table w) (work_files w) jobs.ensures.ok lanes.outboxes.items lanes.outlets.items gave.ensures.boxes c.in-Ok.ensures
