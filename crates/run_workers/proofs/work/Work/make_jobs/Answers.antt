use Rattle.std.proofs.Common.{◌-◌, ◌≤◌, length, map, refl, replicate, sym, ap, subst, arith}
use Rattle.std.specs.Prelude.{List, All, None, ◌≡◌}
use Rattle.std.specs.Vec.{vec_capacity}
use Rattle.std.proofs.lemmas.List.Elements.{All-cons}
use Rattle.std.proofs.lemmas.List.{length-map}
use Rattle.std.proofs.lemmas.List.FromFn.{length-range_with_len}
use Rattle.run_workers.specs.declared.job.Job.{Job}
use Rattle.run_workers.specs.declared.work_end.WorkEnd.TheVariants.{SetAside}
use Rattle.run_workers.specs.Job.{requests_of}
use Rattle.run_workers.specs.Partings.{AreShared}
use Rattle.run_workers.specs.Jobs.{AreFresh, FirstHasRoom, request_count}
use Rattle.run_workers.proofs.PassesJoined.{all_shared, first_count}
use Rattle.run_workers.proofs.work.Work.make_jobs.Goals as goal

pub unreachable-requires : goal.unreachable-requires
unreachable-requires g c =
    let shared = c.in-Some-split_jobs.ensures.shared in
    let counted = ap length shared.in_order in
    let long = length-map c.split_jobs.new.jobs.items (λ (j : Job _). j.file) in
    let range = length-range_with_len 1 (length c.args.self.now.files.now - 1) in
    let some = c.requires.some in
    let full = c.in_default-insert.ensures.full in
    let capacity = c.split_jobs.ensures.capacity in
    let room = c.in-Some.ensures.jobs in
    let files = length-map c.args.self.now.files.now (λ f. f.items) in
    omega (arith, c.split_jobs.new.jobs.ok.0)

pub returns-clause-ok : goal.returns-clause-ok
returns-clause-ok g c =
    let t = c.args.self.now.stm.now.events in
    let files = map (λ f. f.items) c.args.self.now.files.now in
    let long = length-map c.args.self.now.files.now (λ f. f.items) in
    let q = c.split_jobs.new.first in
    let done = c.in-Some-room_for.done in
    let jobs = c.split_jobs.new.jobs.items in
    let job : Job _ = record { file = 0; pass = q; done = done; end = SetAside; outbox = None; apart = replicate 16 0 } in
    let shared = subst (λ n. AreShared t files n q jobs) (sym long) c.in-Some-split_jobs.ensures.shared in
    let room : length (requests_of files 0) ≤ vec_capacity done = omega (arith, first_count files, c.count_requests.ensures, c.in-Some-room_for.ensures.room) in
    subst (λ l. AreFresh t files l) (sym c.in-Ok.ensures.items) (all_shared t files c.args.pass q job jobs c.requires c.split_jobs.ensures.parted shared refl refl c.in-Some-room_for.ensures.none room)

pub returns-clause-room : goal.returns-clause-room
returns-clause-room g c =
    let files = map (λ f. f.items) c.args.self.now.files.now in
    let done = c.in-Some-room_for.done in
    let job : Job _ = record { file = 0; pass = c.split_jobs.new.first; done = done; end = SetAside; outbox = None; apart = replicate 16 0 } in
    let room : request_count files ≤ vec_capacity done = omega (arith, c.count_requests.ensures, c.in-Some-room_for.ensures.room) in
    record {
      done = subst (λ (l : List (Job _)). FirstHasRoom (request_count files) l) (sym c.in-Ok.ensures.items) room;
      counts = (c.in-Some.ensures.no_count, omega (arith, length-map c.args.self.now.files.now (λ f. f.items), c.in-Some.ensures.counts));
    }

pub returns-clause-none : goal.returns-clause-none
returns-clause-none g c =
    let job : Job _ = record { file = 0; pass = c.split_jobs.new.first; done = c.in-Some-room_for.done; end = SetAside; outbox = None; apart = replicate 16 0 } in
    subst (λ (l : List (Job _)). All (λ j. j.outbox ≡ None) l) (sym c.in-Ok.ensures.items) (All-cons (λ (j : Job _). j.outbox ≡ None) job c.split_jobs.new.jobs.items refl c.split_jobs.ensures.none)
