use Rattle.std.proofs.Common.{◌≡◌, ◌<◌, ◌+◌, List, length, map, sym, ◌∙◌, subst, arith}
use Rattle.std.specs.Prelude.{All, None}
use Rattle.std.proofs.lemmas.List.{length-map}
use Rattle.std.proofs.lemmas.List.Elements.{All-push}
use Rattle.run_workers.specs.declared.job.Job.{Job}
use Rattle.run_workers.specs.Partings.{AreShared, HasParted}
use Rattle.run_workers.proofs.PassesJoined.{draws_here, file_at, parted_next, shared_next}
use Rattle.run_workers.proofs.work.Work.split_jobs.Goals as goal

pub split_job-requires-clause-draws : goal.split_job-requires-clause-draws
split_job-requires-clause-draws g c =
    let files = map (λ f. f.items) c.args.self.now.files.now in
    let k = c.loop-file.file in
    let long = length-map c.args.self.now.files.now (λ f. f.items) in
    let test = c.loop-file-test.true in
    let there : k < length files = omega arith in
    let is = c.deref.ensures.value ∙ file_at (λ f. f.items) c.args.self.now.files.now k c.index-files-file.result c.loop-file-test.true c.index-files-file.is in
    draws_here c.args.self.now.stm.now.events files k c.deref.result.now c.loop-file.first c.loop-file.jobs.items there is c.loop-file.invariant.shared

pub loop-file-preserved : goal.loop-file-preserved
loop-file-preserved g c =
    let t = c.args.self.now.stm.now.events in
    let k = c.loop-file.file in
    let files = map (λ f. f.items) c.args.self.now.files.now in
    let long = length-map c.args.self.now.files.now (λ f. f.items) in
    let test = c.loop-file-test.true in
    let there : k < length files = omega arith in
    let is = c.deref.ensures.value ∙ file_at (λ f. f.items) c.args.self.now.files.now k c.index-files-file.result c.loop-file-test.true c.index-files-file.is in
    let h = c.loop-file.invariant in
    let q = c.loop-file.first in
    let r = c.split_job.new.first in
    let jobs = c.loop-file.jobs.items in
    let job = c.in_ok-job.job in
    let draws = draws_here t files k c.deref.result.now q jobs there is h.shared in
    let part = c.in_ok-job.ensures.some in
    let items = sym c.push_reserved.ensures.items in
    record {
      parted = subst (λ (l : List (Job _)). HasParted t c.args.first.now r l) items (parted_next t k c.deref.result.now c.args.first.now q r jobs job draws part h.parted);
      shared = subst (λ (l : List (Job _)). AreShared t files (k + 1) r l) items (shared_next t k c.deref.result.now c.args.first.now q r jobs job draws part files there c.loop-file.auto.file is h.parted.rests h.shared);
      count = (let a = c.push_reserved.ensures.len in let b = h.count in omega arith);
      none = subst (λ (l : List (Job _)). All (λ j. j.outbox ≡ None) l) items (All-push (λ (j : Job _). j.outbox ≡ None) jobs job h.none c.in_ok-job.ensures.outbox);
      capacity = c.push_reserved.ensures.capacity ∙ h.capacity;
    }

pub returns-clause-shared : goal.returns-clause-shared
returns-clause-shared g c =
    let some = c.requires.may.some in
    let long = length-map c.args.self.now.files.now (λ f. f.items) in
    let from = c.loop-file.auto.file in
    let end = c.loop-file.auto.file-end in
    let test = c.loop-file-test.false in
    let is : c.loop-file.file ≡ length c.args.self.now.files.now = omega arith in
    subst (λ n. AreShared c.args.self.now.stm.now.events (map (λ f. f.items) c.args.self.now.files.now) n c.loop-file.first c.loop-file.jobs.items) is c.loop-file.invariant.shared
