use Rattle.std.proofs.Common.{◌≡◌, List, [], ◌∷◌, ◌++◌, length, sym, ap, ap₂, ◌∙◌, subst, arith, append_assoc}
use Rattle.std.specs.List.{All, sum_by}
use Rattle.std.specs.Vec.Iter.{into_iter_items}
use Rattle.std.proofs.lemmas.List.{append-nil, nil_from_length}
use Rattle.std.proofs.lemmas.List.Elements.{All-head, All-tail}
use Rattle.stm_transactions.specs.Passes.{IsResting}
use Rattle.run_workers.specs.declared.job.Job.{Job}
use Rattle.run_workers.specs.Joined.{AreJoined}
use Rattle.run_workers.specs.Jobs.{FirstHasRoom}
use Rattle.run_workers.proofs.JobsJoined.{done_fits, worst_one}
use Rattle.run_workers.proofs.PassesJoined.{took_one}
use Rattle.run_workers.proofs.joining.join_jobs.Goals as goal

pub loop-job-init : goal.loop-job-init
loop-job-init g c =
    let t = c.args.stm.now.events in
    let first = c.in-Some.first in
    let rest = into_iter_items c.next.new.self in
    let each = c.args.jobs.each.items in
    let all : first ∷ rest ≡ each = sym c.in-Some.ensures.items ∙ c.into_iter-others.ensures.rest in
    let rests = subst (λ (l : List (Job _)). All (λ j. IsResting t j.pass) l) (sym all) c.requires.rests in
    let count : c.len.result ≡ length first.done.items = omega (arith, c.len.ensures, first.done.ok.0) in
    record {
      joined = (
        first ∷ [],
        all,
        record {
          pass = took_one t first (All-head (λ (j : Job _). IsResting t j.pass) first rest rests);
          done = sym (append-nil first.done.items);
          counts = c.push_reserved.ensures.items ∙ ap₂ (λ l n. l ++ n ∷ []) c.requires.counts.0 count;
          end = worst_one first.end;
        },
      );
      rests = All-tail (λ (j : Job _). IsResting t j.pass) first rest rests;
      count = omega (arith, c.in-Some.ensures.len, ap length all, c.into_iter-others.ensures.len, c.args.jobs.each.ok.0);
      done = subst (λ (l : List (Job _)). FirstHasRoom (sum_by (λ (j : Job _). length j.done.items) each) l) (sym all) c.requires.done;
      counts = omega (arith, c.requires.counts.1, c.push_reserved.ensures.capacity);
    }

pub take_in-requires-clause-other : goal.take_in-requires-clause-other
take_in-requires-clause-other g c =
    let t = c.args.stm.now.events in
    let rests = subst (λ (l : List (Job _)). All (λ j. IsResting t j.pass) l) c.in-Some-next.ensures.items c.loop-job.invariant.rests in
    All-head (λ (j : Job _). IsResting t j.pass) c.in-Some-next.job (into_iter_items c.next-in-loop-job.new.self) rests

pub take_in-requires-clause-done : goal.take_in-requires-clause-done
take_in-requires-clause-done g c =
    let h = c.loop-job.invariant in
    let gathered = h.joined.0 in
    let whole = ap (λ (l : List (Job _)). gathered ++ l) (sym c.in-Some-next.ensures.items) ∙ h.joined.1 in
    let fits = done_fits gathered (into_iter_items c.next-in-loop-job.new.self) c.args.jobs.each.items c.in-Some-next.job whole in
    omega (arith, fits, ap length h.joined.2.done, h.done, c.loop-job.joined.done.ok.0)

pub loop-job-preserved : goal.loop-job-preserved
loop-job-preserved g c =
    let t = c.args.stm.now.events in
    let job = c.in-Some-next.job in
    let rest = into_iter_items c.next-in-loop-job.new.self in
    let items = c.in-Some-next.ensures.items in
    let h = c.loop-job.invariant in
    let gathered = h.joined.0 in
    let whole = ap (λ (l : List (Job _)). gathered ++ l) (sym items) ∙ h.joined.1 in
    record {
      joined = (gathered ++ job ∷ [], append_assoc gathered (job ∷ []) rest ∙ whole, c.take_in.ensures.joined gathered h.joined.2);
      rests = All-tail (λ (j : Job _). IsResting t j.pass) job rest (subst (λ (l : List (Job _)). All (λ j. IsResting t j.pass) l) items h.rests);
      count = omega (arith, c.in-Some-next.ensures.len, ap length items, h.count);
      done = omega (arith, h.done, c.take_in.ensures.done);
      counts = omega (arith, h.counts, c.take_in.ensures.counts);
    }

pub returns : goal.returns
returns g c =
    let h = c.loop-job.invariant in
    let empty = nil_from_length (into_iter_items c.loop-job.others) (sym h.count ∙ c.in_default-next.ensures.cases.0) in
    let all = sym (append-nil h.joined.0) ∙ ap (λ (l : List (Job _)). h.joined.0 ++ l) (sym empty) ∙ h.joined.1 in
    subst (λ (l : List (Job _)). AreJoined c.args.stm.now.events l c.loop-job.joined) all h.joined.2
