-- The order in which requests are printed, and where a request goes in it.
use Rattle.std.proofs.Common.{◌≡◌, ℕ, ◌<◌, ◌≤◌, false, List, [], ◌∷◌, ◌++◌, get_or, refl, ap, sym, ◌∙◌, arith, inl, inr, ◌⊎◌, ⊎_elim}
use Rattle.std.specs.List.{All, AllPairs}
use Rattle.std.proofs.lemmas.Bool.{cases_Bool, cases_lt, cases_order, both_ways}
use Rattle.std.proofs.lemmas.List.Elements.{All-nil, All-cons, All-head, All-tail}
use Rattle.tatp_model.specs.declared.done.Done.{Done}
use Rattle.tatp_model.specs.OneThread.{PrecedesInFiles, PrecedesAtNumber, Precedes}
use Rattle.tatp_model.proofs.PrintedOrder.{Precedes-asymmetric}
use Rattle.run_order.specs.Runs.{PrecedesInRounds}
use Rattle.run_order.proofs.Pairs.{pairs_head, pairs_tail}

files_transitive : (d e f : Done) → PrecedesInFiles d e → PrecedesInFiles e f → PrecedesInFiles d f
files_transitive d e f before behind =
    ⊎_elim (λ p. ⊎_elim (λ q. inl (omega (arith, p, q))) (λ q. inl (omega (arith, p, q.0))) behind)
    (λ p. ⊎_elim (λ q. inl (omega (arith, p.0, q))) (λ q. inr (p.0 ∙ q.0, omega (arith, p.1, q.1))) behind) before

at_number_transitive : (d e f : Done) → PrecedesAtNumber d e → PrecedesAtNumber e f → PrecedesAtNumber d f
at_number_transitive d e f before behind =
    ⊎_elim (λ p. ⊎_elim (λ q. absurd (both_ways e.wrote p.1 q.0)) (λ q. inl (p.0, sym q.0 ∙ p.1)) behind)
    (λ p. ⊎_elim (λ q. inl (p.0 ∙ q.0, q.1)) (λ q. inr (p.0 ∙ q.0, files_transitive d e f p.1 q.1)) behind) before

pub Precedes-transitive : (d e f : Done) → Precedes d e → Precedes e f → Precedes d f
Precedes-transitive d e f before behind =
    ⊎_elim (λ p. ⊎_elim (λ q. inl (omega (arith, p, q))) (λ q. inl (omega (arith, p, q.0))) behind)
    (λ p. ⊎_elim (λ q. inl (omega (arith, p.0, q))) (λ q. inr (p.0 ∙ q.0, at_number_transitive d e f p.1 q.1)) behind) before

-- it is printed behind d, and didn't write
abbrev pub ReadsBehind : Done → Done → Type 0
ReadsBehind d e = Precedes d e × (e.wrote ≡ false)

-- where a request goes in a list in order: behind those that are printed before it, and before the rest, of which this holds
pub record Splits (Behind : Done → Type 0) (d : Done) (order : List Done) : Type 0 where
  pub before : List Done
  pub behind : List Done
  pub is : order ≡ before ++ behind
  pub first : All (λ e. Precedes e d) before
  pub rest : All Behind behind

-- Where it goes on from a request to those that are printed behind it:
module _ (Behind : Done → Type 0) (d : Done) (goes_on : (e f : Done) → Behind e → Precedes e f → Precedes f d ⊎ Behind f → Behind f) where
  pub splits : (order : List Done) → AllPairs Precedes order → All (λ e. Precedes e d ⊎ Behind e) order → Splits Behind d order
  splits [] sorted either = record { before = []; behind = []; is = refl; first = All-nil (λ e. Precedes e d); rest = All-nil Behind }
  splits (e ∷ order) sorted either =
      let others : All (λ f. Precedes f d ⊎ Behind f) order = All-tail (λ f. Precedes f d ⊎ Behind f) e order either in
      let later : All (Precedes e) order = pairs_head Precedes e order sorted in
      ⊎_elim (λ before.
      let left = splits order (pairs_tail Precedes e order sorted) others in
      record {
        before = e ∷ left.before;
        behind = left.behind;
        is = ap (λ (l : List Done). e ∷ l) left.is;
        first = All-cons (λ f. Precedes f d) e left.before before left.first;
        rest = left.rest;
      })
      (λ behind. record {
        before = [];
        behind = e ∷ order;
        is = refl;
        first = All-nil (λ f. Precedes f d);
        rest = All-cons Behind e order behind (λ k f within. goes_on e (get_or order k f) behind (later k f within) (others k f within));
      }) (All-head (λ f. Precedes f d ⊎ Behind f) e order either)

-- what is printed behind one that reads behind d, and not before d, reads behind d too
pub reads_on : (d e f : Done) → ReadsBehind d e → Precedes e f → Precedes f d ⊎ ReadsBehind d f → ReadsBehind d f
reads_on d e f behind later either = ⊎_elim (λ before. absurd (Precedes-asymmetric d f (Precedes-transitive d e f behind.0 later) before)) (λ reads. reads) either

files_three : (m n : ℕ) → (m < n) ⊎ ((m ≡ n) ⊎ (n < m))
files_three m n = ⊎_elim (λ same. inr (inl same)) (λ other. ⊎_elim (λ less. inl less) (λ more. inr (inr more)) other) (cases_order m n)

in_files_or_back : (e d : Done) → PrecedesInRounds e d → PrecedesInFiles e d ⊎ PrecedesInFiles d e
in_files_or_back e d rounds =
    ⊎_elim (λ less. inl (inl less)) (λ other. ⊎_elim (λ same. inl (inr (same, ⊎_elim (λ index. index) (λ index. absurd (omega (arith, index.1, same))) rounds))) (λ more. inr (inl more)) other) (files_three e.file d.file)

-- a request is printed before one that is performed later and reads after a number that is no less, or else behind it,
-- and then it didn't write
pub before_or_behind : (d e : Done) → e.number ≤ d.number → d.wrote ≡ false → PrecedesInRounds e d → Precedes e d ⊎ ReadsBehind d e
before_or_behind d e within unwritten rounds =
    ⊎_elim (λ less. inl (inl less)) (λ at_least.
    let same : e.number ≡ d.number = omega (arith, within, at_least) in
    ⊎_elim (λ w. inl (inr (same, inl (w, unwritten)))) (λ h.
    let alike : e.wrote ≡ d.wrote = h ∙ sym unwritten in
    ⊎_elim (λ files. inl (inr (same, inr (alike, files)))) (λ files. inr (inr (sym same, inr (sym alike, files)), h)) (in_files_or_back e d rounds)) (cases_Bool e.wrote)) (cases_lt e.number d.number)
