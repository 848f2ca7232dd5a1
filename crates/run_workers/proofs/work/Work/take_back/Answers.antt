use Rattle.std.proofs.Common.{[], rules}
use Rattle.run_workers.proofs.PassesJoined.{back_popped, popped_rests}
use Rattle.run_workers.proofs.work.Work.take_back.Goals as goal

pub loop-job-init : goal.loop-job-init
loop-job-init g c = record { newcomers = c.requires.newcomers; back = ([], search rules, search rules) }

pub loop-job-preserved : goal.loop-job-preserved
loop-job-preserved g c =
    let h = c.loop-job.invariant in
    let next = back_popped c.args.self.now.stm.now.events c.loop-job.jobs.items c.pop.new.self.items h.back.0 c.args.jobs.items c.in-Some.job c.args.first c.loop-job.pass c.join.new.self c.requires.rests c.requires.from c.in-Some.ensures.items h.newcomers h.back.1 h.back.2
    c.join.ensures.joined in
    record { newcomers = next.0; back = next.1 }

pub loop-job-preserved-in-Some : goal.loop-job-preserved-in-Some
loop-job-preserved-in-Some g c =
    let h = c.loop-job.invariant in
    let next = back_popped c.args.self.now.stm.now.events c.loop-job.jobs.items c.pop.new.self.items h.back.0 c.args.jobs.items c.in-Some.job c.args.first c.loop-job.pass c.join.new.self c.requires.rests c.requires.from c.in-Some.ensures.items h.newcomers h.back.1 h.back.2
    c.join.ensures.joined in
    record { newcomers = next.0; back = next.1 }

pub join-requires-clause-other : goal.join-requires-clause-other
join-requires-clause-other g c = popped_rests c.args.self.now.stm.now.events c.loop-job.jobs.items c.pop.new.self.items c.in-Some.job c.in-Some.ensures.items c.loop-job.invariant.newcomers
