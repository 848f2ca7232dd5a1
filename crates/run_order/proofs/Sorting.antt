-- Requests of different places, put in the order in which they are printed.
use Rattle.std.proofs.Common.{◌≡◌, List, [], ◌∷◌, ◌++◌, sym, ◌∙◌, subst, inl, inr, ◌⊎◌, ⊎_elim}
use Rattle.std.specs.List.{All, AllPairs}
use Rattle.std.specs.Prelude.{IsPermutation}
use Rattle.std.proofs.lemmas.Bool.{cases_Bool, cases_order}
use Rattle.std.proofs.lemmas.List.Elements.{All-weaker}
use Rattle.std.proofs.lemmas.List.Sorted.{IsPermutation-refl, IsPermutation-sym, IsPermutation-trans, IsPermutation-cons, IsPermutation-middle, All-permutation}
use Rattle.tatp_model.specs.declared.done.Done.{Done}
use Rattle.tatp_model.specs.OneThread.{PrecedesInFiles, PrecedesAtNumber, Precedes}
use Rattle.run_order.specs.Runs.{StandApart}
use Rattle.run_order.proofs.Pairs.{pairs_nil, pairs_head, pairs_tail, pairs_insert}
use Rattle.run_order.proofs.Precedence.{Precedes-transitive, splits}

flip_sum : {A B : Type 0} → A ⊎ B → B ⊎ A
flip_sum (inl a) = inr a
flip_sum (inr b) = inl b

-- one of two requests of different places stands before the other
either_in_files : (d e : Done) → StandApart d e → PrecedesInFiles d e ⊎ PrecedesInFiles e d
either_in_files d e apart =
    ⊎_elim
    (λ same. ⊎_elim (λ i. absurd (apart same i)) (λ other. ⊎_elim (λ less. inl (inr (same, less))) (λ more. inr (inr (sym same, more))) other) (cases_order d.index e.index))
    (λ other. ⊎_elim (λ less. inl (inl less)) (λ more. inr (inl more)) other)
    (cases_order d.file e.file)

either_alike : (d e : Done) → StandApart d e → d.wrote ≡ e.wrote → PrecedesAtNumber d e ⊎ PrecedesAtNumber e d
either_alike d e apart alike = ⊎_elim (λ p. inl (inr (alike, p))) (λ q. inr (inr (sym alike, q))) (either_in_files d e apart)

either_at_number : (d e : Done) → StandApart d e → PrecedesAtNumber d e ⊎ PrecedesAtNumber e d
either_at_number d e apart =
    ⊎_elim
    (λ w. ⊎_elim (λ w'. either_alike d e apart (w ∙ sym w')) (λ h'. inl (inl (w, h'))) (cases_Bool e.wrote))
    (λ h. ⊎_elim (λ w'. inr (inl (w', h))) (λ h'. either_alike d e apart (h ∙ sym h')) (cases_Bool e.wrote))
    (cases_Bool d.wrote)

pub either_first : (d e : Done) → StandApart d e → Precedes d e ⊎ Precedes e d
either_first d e apart =
    ⊎_elim
    (λ same. ⊎_elim (λ p. inl (inr (same, p))) (λ q. inr (inr (sym same, q))) (either_at_number d e apart))
    (λ other. ⊎_elim (λ less. inl (inl less)) (λ more. inr (inl more)) other)
    (cases_order d.number e.number)

pub record Sorted (done : List Done) : Type 0 where
  pub order : List Done
  pub same : IsPermutation done order
  pub sorted : AllPairs Precedes order

pub sort : (done : List Done) → AllPairs StandApart done → Sorted done
sort [] apart = record { order = []; same = IsPermutation-refl []; sorted = pairs_nil Precedes }
sort (d ∷ done) apart =
    let rest = sort done (pairs_tail StandApart d done apart) in
    let either : All (λ e. Precedes e d ⊎ Precedes d e) rest.order =
    All-permutation (λ e. Precedes e d ⊎ Precedes d e) done rest.order rest.same
    (All-weaker (StandApart d) (λ e. Precedes e d ⊎ Precedes d e) (λ e a. flip_sum (either_first d e a)) done (pairs_head StandApart d done apart)) in
    let p = splits (Precedes d) d (λ e f behind later either. Precedes-transitive d e f behind later) rest.order rest.sorted either in
    record {
      order = p.before ++ d ∷ p.behind;
      same = IsPermutation-trans (d ∷ done) (d ∷ (p.before ++ p.behind)) (p.before ++ d ∷ p.behind)
          (subst (λ (l : List Done). IsPermutation (d ∷ done) (d ∷ l)) p.is (IsPermutation-cons d done rest.order rest.same))
          (IsPermutation-sym (p.before ++ d ∷ p.behind) (d ∷ (p.before ++ p.behind)) (IsPermutation-middle p.before d p.behind));
      sorted = pairs_insert Precedes p.before d p.behind (subst (λ (l : List Done). AllPairs Precedes l) p.is rest.sorted) p.first p.rest;
    }
