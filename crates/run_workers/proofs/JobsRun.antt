-- The jobs of files before and behind their threads.
use Rattle.std.proofs.Common.{◌≡◌, ℕ, zero, suc, ◌+◌, ◌<◌, List, [], ◌∷◌, ◌++◌, length, get_or, map, refl, ap, ap₂, sym, ◌∙◌, subst, arith}
use Rattle.std.specs.Global.{Vec}
use Rattle.std.specs.List.{All, sum_by}
use Rattle.std.specs.Vec.{with_items}
use Rattle.std.proofs.lemmas.List.{get_or-map, length-map, with_items_is}
use Rattle.std.proofs.lemmas.List.FromFn.{get_or-range_with_len, length-range_with_len}
use Rattle.std.proofs.lemmas.List.Sums.{sum_by-cons}
use Rattle.dude_base.specs.declared.sizes.Sizes.{Sizes}
use Rattle.tatp_model.specs.declared.request.Request.{Request}
use Rattle.core_events.specs.Views.{Part}
use Rattle.core_events.specs.KeptThreads.{held_of}
use Rattle.core_table.specs.Layout.{TableSight}
use Rattle.stm_transactions.specs.Passes.{pass_view}
use Rattle.run_workers.specs.declared.job.Job.{Job}
use Rattle.run_workers.specs.Job.{HasWorkedOn, IsJobOf, KeepPlaces, thread_count}
use Rattle.run_workers.specs.Jobs.{AreFresh, FirstHasRoom, HaveWorked}

-- the elements of a list were changed where they lie: what holds of them holds of the list
pub changed_in_place : {A : Type 0} (P : List A → Type 0) (list : Vec A) (old new : List A) → old ≡ list.items → length new ≡ length old → P new → P (with_items list new).items
changed_in_place {A} P list old new was long holds =
    let many = ap (λ (l : List A). length l) was in
    subst P (sym (with_items_is list new (omega (arith, list.ok.0)))) holds

-- the first one's list has the room that it had
pub first_kept : {X : Type 0} (count : ℕ) (old new : List (Job X)) → length new ≡ length old → KeepPlaces old new → FirstHasRoom count old → FirstHasRoom count new
first_kept count old [] long keeps h = tt
first_kept count [] (n ∷ ns) long keeps h = absurd (omega arith)
first_kept count (o ∷ os) (n ∷ ns) long keeps h = omega (arith, h, (keeps 0 o (omega arith)).room)

-- what holds of each place of two pairs of lists holds of each place of the pairs joined
pub each_joined : {A : Type 0} (R : A → A → Type 0) (a b c e : List A) → length c ≡ length a
    → ((i : ℕ) (d : A) → i < length a → R (get_or a i d) (get_or c i d)) → ((i : ℕ) (d : A) → i < length b → R (get_or b i d) (get_or e i d))
    → (i : ℕ) (d : A) → i < length a + length b → R (get_or (a ++ b) i d) (get_or (c ++ e) i d)
each_joined R [] b [] e long first second i d lt = second i d (omega arith)
each_joined R [] b (n ∷ c) e long first second i d lt = absurd (omega arith)
each_joined R (o ∷ a) b [] e long first second i d lt = absurd (omega arith)
each_joined R (o ∷ a) b (n ∷ c) e long first second zero d lt = first 0 d (omega arith)
each_joined R (o ∷ a) b (n ∷ c) e long first second (suc i) d lt = each_joined R a b c e (omega arith) (λ j x within. first (suc j) x (omega arith)) second i d (omega arith)

module _ {X K : Type 0} (t : TableSight K) (files : List (List Request)) where
  pub jobs_of : (jobs : List (Job X)) → AreFresh t files jobs → All (IsJobOf t files) jobs
  jobs_of jobs h k d within =
      let all : length (map (λ (j : Job X). j.file) jobs) ≡ length files = ap length h.in_order ∙ length-range_with_len 0 (length files) in
      let long = length-map jobs (λ (j : Job X). j.file) in
      let here : k < length files = omega arith in
      let at : (get_or jobs k d).file ≡ 0 + k = sym (get_or-map (λ (j : Job X). j.file) jobs k d 0 within) ∙ ap (λ (l : List ℕ). get_or l k 0) h.in_order ∙ get_or-range_with_len 0 (length files) k 0 here in
      record { there = omega arith; fresh = h.each k d within }

  -- jobs whose places were kept
  files_kept : (old new : List (Job X)) → length new ≡ length old → KeepPlaces old new → map (λ (j : Job X). j.file) new ≡ map (λ (j : Job X). j.file) old
  files_kept [] [] long keeps = refl
  files_kept [] (n ∷ ns) long keeps = absurd (omega arith)
  files_kept (o ∷ os) [] long keeps = absurd (omega arith)
  files_kept (o ∷ os) (n ∷ ns) long keeps = ap₂ (λ (f : ℕ) (l : List ℕ). f ∷ l) (keeps 0 o (omega arith)).file (files_kept os ns (omega arith) (λ i d within. keeps (suc i) d (omega arith)))

  threads_kept : (old new : List (Job X)) → length new ≡ length old → KeepPlaces old new → sum_by (λ (j : Job X). thread_count (pass_view j.pass)) new ≡ sum_by (λ (j : Job X). thread_count (pass_view j.pass)) old
  threads_kept [] [] long keeps = refl
  threads_kept [] (n ∷ ns) long keeps = absurd (omega arith)
  threads_kept (o ∷ os) [] long keeps = absurd (omega arith)
  threads_kept (o ∷ os) (n ∷ ns) long keeps =
      let here : thread_count (pass_view n.pass) ≡ thread_count (pass_view o.pass) = ap (λ (p : Part). held_of p + p.splits) (keeps 0 o (omega arith)).part in
      let rest = threads_kept os ns (omega arith) (λ i d within. keeps (suc i) d (omega arith)) in
      omega (arith, sum_by-cons (λ (j : Job X). thread_count (pass_view j.pass)) n ns, sum_by-cons (λ (j : Job X). thread_count (pass_view j.pass)) o os)

  pub jobs_worked : (s : Sizes) (old new : List (Job X)) → AreFresh t files old → length new ≡ length old → KeepPlaces old new → All (HasWorkedOn t s files) new → HaveWorked t s files new
  jobs_worked s old new h long keeps worked = record { each = worked; in_order = files_kept old new long keeps ∙ h.in_order; threads = threads_kept old new long keeps ∙ h.threads }
