-- Jobs and lanes, place by place.
use Rattle.std.proofs.Common.{◌≡◌, ℕ, ◌+◌, ◌<◌, ◌≤◌, List, [], ◌∷◌, ◌++◌, length, get_or, set, sym, ap, ◌∙◌, arith, subst, ⊎_elim}
use Rattle.std.specs.Prelude.{Some, slice_index}
use Rattle.std.proofs.lemmas.Bool.{cases_eq}
use Rattle.std.proofs.lemmas.List.{get_or-set_other, get_or-set_same, get_or_append_left, get_or_default, get_or_push}
use Rattle.tatp_model.specs.declared.request.Request.{Request}
use Rattle.dude_stream.specs.declared.outbox.Outbox.{Outbox}
use Rattle.dude_stream.specs.declared.outlet.Outlet.{Outlet}
use Rattle.run_workers.specs.declared.job.Job.{Job}
use Rattle.run_workers.specs.Job.{requests_of}
use Rattle.run_workers.specs.Lanes.{HaveSameWork, IsOpenLane, IsSameWork}

-- what holds of each place before this one and of this one holds of each place up to it
upto : (P : ℕ → Type 0) (n : ℕ) → ((k : ℕ) → k < n → P k) → P n → (k : ℕ) → k < n + 1 → P k
upto P n before here k below =
    ⊎_elim (λ (is : k ≡ n). subst P (sym is) here) (λ other. before k (omega (arith, other))) (cases_eq k n)

-- ---- one more lane is opened
module _ (files : List (List Request)) (boxes : List Outbox) (outlets : List Outlet) (n : ℕ) (boxes_count : length boxes ≡ n) (outlets_count : length outlets ≡ n) where
  pub opened_next : (box : Outbox) (outlet : Outlet) → ((k : ℕ) (b : Outbox) (o : Outlet) → k < n → IsOpenLane (requests_of files k) (get_or boxes k b) (get_or outlets k o)) → IsOpenLane (requests_of files n) box outlet
      → (k : ℕ) (b : Outbox) (o : Outlet) → k < n + 1 → IsOpenLane (requests_of files k) (get_or (boxes ++ box ∷ []) k b) (get_or (outlets ++ outlet ∷ []) k o)
  opened_next box outlet before here k b o below = upto (λ (i : ℕ). IsOpenLane (requests_of files i) (get_or (boxes ++ box ∷ []) i b) (get_or (outlets ++ outlet ∷ []) i o)) n
      (λ i under. rw (get_or_append_left boxes (box ∷ []) b i (omega arith), get_or_append_left outlets (outlet ∷ []) o i (omega arith)) (before i b o under))
      (rw (get_or_push boxes box b n boxes_count, get_or_push outlets outlet o n outlets_count) here) k below

-- ---- one more file is counted
pub counted_next : (files : List (List Request)) (outlets : List Outlet) (printed : List ℕ) (n more : ℕ) → length printed ≡ n
    → ((k : ℕ) (o : Outlet) → k < n → slice_index printed k + (get_or outlets k o).left ≡ length (requests_of files k)) → ((o : Outlet) → more + (get_or outlets n o).left ≡ length (requests_of files n))
    → (k : ℕ) (o : Outlet) → k < n + 1 → slice_index (printed ++ more ∷ []) k + (get_or outlets k o).left ≡ length (requests_of files k)
counted_next files outlets printed n more count before here k o below = upto (λ (i : ℕ). slice_index (printed ++ more ∷ []) i + (get_or outlets i o).left ≡ length (requests_of files i)) n
    (λ i under. rw (get_or_append_left printed (more ∷ []) 0 i (omega arith)) (before i o under))
    (rw (get_or_push printed more 0 n count) (here o)) k below

-- ---- one job gets another end of a lane
module _ {X : Type 0} (jobs : List (Job X)) (n : ℕ) (d new : Job X) (within : n < length jobs) where
  pub work_next : (old : List (Job X)) → length jobs ≡ length old → HaveSameWork old jobs → IsSameWork (get_or jobs n d) new → HaveSameWork old (set jobs n new)
  work_next old long same here k e below = ⊎_elim one other (cases_eq k n)
    where
      one : k ≡ n → IsSameWork (get_or old k e) (get_or (set jobs n new) k e)
      one is = subst (λ (i : ℕ). IsSameWork (get_or old i e) (get_or (set jobs n new) i e)) (sym is)
          (rw (get_or-set_same jobs n new e within) (here ∙ ap (λ (j : Job X). record j { outbox = new.outbox }) (get_or_default jobs n d e within ∙ same n e (omega arith))))

      other : (k ≡ n → ⊥) → IsSameWork (get_or old k e) (get_or (set jobs n new) k e)
      other not = rw (get_or-set_other jobs n k new e not) (same k e below)

  pub boxes_next : (boxes : List Outbox) (box : Outbox) → ((b : Outbox) → get_or boxes n b ≡ box) → new.outbox ≡ Some box
      → ((k : ℕ) (e : Job X) (b : Outbox) → n + 1 ≤ k → k < length jobs → (get_or jobs k e).outbox ≡ Some (get_or boxes k b))
      → (k : ℕ) (e : Job X) (b : Outbox) → n ≤ k → k < length jobs → (get_or (set jobs n new) k e).outbox ≡ Some (get_or boxes k b)
  boxes_next boxes box at its before k e b from below = ⊎_elim one other (cases_eq k n)
    where
      one : k ≡ n → (get_or (set jobs n new) k e).outbox ≡ Some (get_or boxes k b)
      one is = subst (λ (i : ℕ). (get_or (set jobs n new) i e).outbox ≡ Some (get_or boxes i b)) (sym is)
          (rw (get_or-set_same jobs n new e within) (its ∙ ap (λ (x : Outbox). Some x) (sym (at b))))

      other : (k ≡ n → ⊥) → (get_or (set jobs n new) k e).outbox ≡ Some (get_or boxes k b)
      other not = rw (get_or-set_other jobs n k new e not) (before k e b (omega (arith, not)) below)

-- the places behind this one are as they were
pub rest_next : {A : Type 0} (old now : List A) (n : ℕ) (new : A) → ((k : ℕ) (d : A) → n ≤ k → get_or now k d ≡ get_or old k d) → (k : ℕ) (d : A) → n + 1 ≤ k → get_or (set now n new) k d ≡ get_or old k d
rest_next old now n new before k d from = get_or-set_other now n k new d (λ e. omega arith) ∙ before k d (omega arith)
