-- What jobs did is put together, one job after another.
use Rattle.std.proofs.Common.{◌≡◌, ℕ, ◌+◌, ◌≤◌, ◌⊎◌, List, [], ◌∷◌, ◌++◌, length, map, refl, ap, sym, ◌∙◌, subst, arith, inl, inr, ⊎_elim}
use Rattle.std.specs.List.{Contains, flat_map, sum_by}
use Rattle.std.proofs.lemmas.List.{map_push}
use Rattle.std.proofs.lemmas.List.Concat.{length-flat_map}
use Rattle.std.proofs.lemmas.List.Elements.{All-nil, All-cons, All-push, All-weaker, Contains-append_left, Contains-push}
use Rattle.std.proofs.lemmas.List.Sums.{sum_by-append, sum_by-cons}
use Rattle.tatp_model.specs.declared.done.Done.{Done}
use Rattle.core_table.specs.Layout.{TableSight}
use Rattle.stm_transactions.specs.Partings.{IsJoined}
use Rattle.stm_transactions.specs.Passes.{IsResting}
use Rattle.run_workers.specs.declared.job.Job.{Job}
use Rattle.run_workers.specs.declared.joined.Joined.{Joined}
use Rattle.run_workers.specs.declared.work_end.WorkEnd.{WorkEnd}
use Rattle.run_workers.specs.Joined.{TakesIn}
use Rattle.run_workers.specs.WorkEnd.{IsWorst, rank}
use Rattle.run_workers.proofs.PassesJoined.{flat_map_push, took_push}

-- the one end there is
pub worst_one : (e : WorkEnd) → IsWorst (e ∷ []) e
worst_one e = record { among = inr (0, (omega arith), refl); others = All-cons (λ x. rank x ≤ rank e) e [] (omega arith) (All-nil (λ x. rank x ≤ rank e)) }

-- one more end
worst_push : (ends : List WorkEnd) (e other r : WorkEnd) → IsWorst ends e → (r ≡ e) ⊎ (r ≡ other) → rank e ≤ rank r → rank other ≤ rank r → IsWorst (ends ++ other ∷ []) r
worst_push ends e other r h either first second = record {
  among = ⊎_elim
      (λ same. ⊎_elim (λ whole. inl (same ∙ whole)) (λ c. inr (Contains-append_left ends (other ∷ []) r (subst (Contains ends) (sym same) c))) h.among)
      (λ its. inr (subst (Contains (ends ++ other ∷ [])) (sym its) (Contains-push ends other)))
      either;
  others = All-push (λ x. rank x ≤ rank r) ends other (All-weaker (λ x. rank x ≤ rank e) (λ x. rank x ≤ rank r) (λ x u. omega arith) ends h.others) second;
}

module _ {X : Type 0} where
  abbrev done_of : Job X → List Done
  done_of job = job.done.items

  abbrev count_of : Job X → ℕ
  count_of job = length job.done.items

  -- one more job was taken in
  pub taken_in : {K : Type 0} (t : TableSight K) (job : Job X) (old new : Joined X) → IsResting t job.pass → IsJoined t old.pass job.pass new.pass → new.done.items ≡ old.done.items ++ job.done.items
      → new.counts.items ≡ old.counts.items ++ length job.done.items ∷ [] → (new.end ≡ old.end) ⊎ (new.end ≡ job.end) → rank old.end ≤ rank new.end → rank job.end ≤ rank new.end → TakesIn t job old new
  taken_in t job old new rests pass done counts either first second js h = record {
    pass = took_push t js job old.pass new.pass h.pass rests pass;
    done = done ∙ ap (λ (l : List Done). l ++ job.done.items) h.done ∙ sym (flat_map_push done_of js job);
    counts = counts ∙ ap (λ (l : List ℕ). l ++ length job.done.items ∷ []) h.counts ∙ sym (map_push count_of js job);
    end = subst (λ (l : List WorkEnd). IsWorst l new.end) (sym (map_push (λ (x : Job X). x.end) js job)) (worst_push (map (λ (x : Job X). x.end) js) old.end job.end new.end h.end either first second);
  }

  -- there is room for what the next one did
  pub done_fits : (js rest all : List (Job X)) (job : Job X) → js ++ job ∷ rest ≡ all → length (flat_map done_of js) + length job.done.items ≤ sum_by count_of all
  done_fits js rest all job whole = omega (arith, length-flat_map done_of js, ap (sum_by count_of) whole, sum_by-append count_of js (job ∷ rest), sum_by-cons count_of job rest)
