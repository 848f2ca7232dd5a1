use Rattle.run_workers.specs.Work.{work_files, work_table}
use Rattle.run_workers.proofs.FilesServed.{law_jobs, may_join}
use Rattle.run_workers.proofs.work.Work.join_served.Goals as goal

pub join_jobs-requires : goal.join_jobs-requires
join_jobs-requires g c =
    let w = c.args.self.now in
    may_join (work_table w) w.lay.now (work_files w) c.args.jobs c.requires.some c.requires.worked c.requires.room

pub returns-clause-served : goal.returns-clause-served
returns-clause-served g c =
    let w = c.args.self.now in
    law_jobs (work_table w) w.lay.now (work_files w) c.args.jobs.each.items c.join_jobs.result c.requires.worked c.join_jobs.ensures
