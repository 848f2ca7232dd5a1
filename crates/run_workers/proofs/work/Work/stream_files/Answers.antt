use Rattle.std.proofs.Common.{◌≡◌, List, length, sym, ◌∙◌, subst, arith}
use Rattle.std.proofs.lemmas.List.{length-map, with_items_is}
use Rattle.run_workers.specs.declared.job.Job.{Job}
use Rattle.run_workers.specs.Jobs.{FirstHasRoom, request_count}
use Rattle.run_workers.specs.Joined.{AreJoined}
use Rattle.run_workers.specs.Streamed.{HasStreamed}
use Rattle.run_workers.specs.Work.{AreNew, AreOver, work_files, work_table}
use Rattle.run_workers.proofs.JobsRun.{changed_in_place, first_kept}
use Rattle.run_workers.proofs.JobsStreamed.{few_left, first_still, lanes_still, opened_first, opened_same, streamed, worked_still}
use Rattle.run_workers.proofs.work.Work.stream_files.Goals as goal

pub run_beside-stopped-requires-clause-ready : goal.run_beside-stopped-requires-clause-ready
run_beside-stopped-requires-clause-ready g c κs within =
    record {
      may = c.requires.may;
      fresh = subst (λ (l : List (Job _)). AreNew c.args.self.now l) (sym c.as_mut_slice-each.ensures.value) c.in_ok-jobs.ensures.fresh;
      sent = opened_first (opened_same c.as_mut_slice-each.ensures.value c.as_mut_slice-ends.ensures.value c.in_ok-jobs.ensures.lanes);
    }

pub count_printed-requires-clause-left : goal.count_printed-requires-clause-left
count_printed-requires-clause-left g c =
    few_left (opened_same c.as_mut_slice-each.ensures.value c.as_mut_slice-ends.ensures.value c.in_ok-jobs.ensures.lanes) c.run_beside-stopped.ensures.printed

pub compare_lanes-requires-clause-lanes : goal.compare_lanes-requires-clause-lanes
compare_lanes-requires-clause-lanes g c =
    let ran = c.run_beside-stopped in
    lanes_still (opened_same c.as_mut_slice-each.ensures.value c.as_mut_slice-ends.ensures.value c.in_ok-jobs.ensures.lanes) ran.ensures.printed ran.new.jobs ran.auto.jobs ran.ensures.ended.lanes

pub join_served-requires-clause-worked : goal.join_served-requires-clause-worked
join_served-requires-clause-worked g c κs within =
    let w = c.args.self.now in let each = c.as_mut_slice-each in let ran = c.run_beside-stopped in let last = c.compare_lanes.new.jobs in
    let compared : length last ≡ length ran.new.jobs = c.compare_lanes.auto.jobs in
    changed_in_place (λ l. AreOver w l) c.in_ok-jobs.field-0.jobs.each each.result.now last each.ensures.value (compared ∙ ran.auto.jobs)
    (worked_still (work_table w) (work_files w) w.lay.now ran.new.jobs last compared c.compare_lanes.ensures.work ran.ensures.ended.worked)

pub join_served-requires-clause-room : goal.join_served-requires-clause-room
join_served-requires-clause-room g c κs within =
    let count = request_count (work_files c.args.self.now) in let had = c.in_ok-jobs in let each = c.as_mut_slice-each in let ran = c.run_beside-stopped in let last = c.compare_lanes.new.jobs in
    let compared : length last ≡ length ran.new.jobs = c.compare_lanes.auto.jobs in
    let room = subst (λ (l : List (Job _)). FirstHasRoom count l) (sym each.ensures.value) had.ensures.room.done in
    let kept = first_kept count each.result.now ran.new.jobs ran.auto.jobs ran.ensures.ended.places room in
    record {
      done = changed_in_place (λ l. FirstHasRoom count l) had.field-0.jobs.each each.result.now last each.ensures.value (compared ∙ ran.auto.jobs) (first_still count ran.new.jobs last compared c.compare_lanes.ensures.work kept);
      counts = had.ensures.room.counts;
    }

pub returns-clause-printed : goal.returns-clause-printed
returns-clause-printed g c =
    let t = work_table c.args.self.now in let s = c.args.self.now.lay.now in let had = c.in_ok-jobs.field-0.jobs in
    let each = c.as_mut_slice-each.result.now in let ran = c.run_beside-stopped in let last = c.compare_lanes.new.jobs in
    let u = g.O.Sink.sight c.args.out.now in let v = g.O.Sink.sight ran.new.out in
    let counts = c.count_printed.new.printed.items in let joined = c.join_served.result in
    let opened = opened_same c.as_mut_slice-each.ensures.value c.as_mut_slice-ends.ensures.value c.in_ok-jobs.ensures.lanes in
    let first = c.as_mut_slice-each.ensures.len in
    let same : length ran.new.jobs ≡ length each = ran.auto.jobs in
    let compared : length last ≡ length ran.new.jobs = c.compare_lanes.auto.jobs in
    let len : length last ≡ had.each.len = omega arith in
    let are_joined = subst (λ (l : List (Job _)). AreJoined t l joined) (with_items_is had.each last len) c.join_served.ensures.joined in
    subst (λ n. HasStreamed n joined.done.items counts ran.result u v) (length-map c.args.self.now.files.now (λ f. f.items))
    (streamed opened ran.ensures.printed t s ran.new.jobs last counts joined same compared ran.ensures.ended.worked ran.ensures.ended.lanes ran.ensures.ended.sent c.compare_lanes.ensures.received c.compare_lanes.ensures.work c.count_printed.ensures are_joined)
