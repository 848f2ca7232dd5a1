-- Whether a list that rises has a number, as a search answers it.
use Rattle.std.proofs.Common.{◌≡◌, ◌↔◌, inl, inr, ℕ, ◌<◌, ◌≤◌, List, length, Contains, Result, Ok, Err, MatchResult, is_ok, get_or, refl, sym, ◌∙◌, arith}
use Rattle.std.specs.Bool.{IsTrue}
use Rattle.std.proofs.lemmas.Bool.{cases_lt, false≢true}
use Rattle.std.proofs.lemmas.List.{get_or_default}

pub known_by : (xs : List ℕ) (x : ℕ) (found : Result ℕ ℕ)
    → MatchResult found (λ i. (i < length xs) × (get_or xs i 0 ≡ x)) (λ i. (i ≤ length xs) × ((k : ℕ) → k < i → get_or xs k 0 < x) × ((k : ℕ) → i ≤ k → k < length xs → x < get_or xs k 0))
    → IsTrue (is_ok found) ↔ Contains xs x
known_by xs x (Ok i) there = ((λ t. (i, there.0, sym (get_or_default xs i 0 x there.0) ∙ there.1)), (λ c. refl))
known_by xs x (Err i) there = (
  (λ t. absurd (false≢true t)),
  (λ c. absurd (
      let same : get_or xs c.0 0 ≡ x = get_or_default xs c.0 0 x c.1 ∙ c.2 in
      elim (cases_lt c.0 i) [ inl before ↦ omega (arith, same, there.1 c.0 before) | inr behind ↦ omega (arith, same, there.2 c.0 behind c.1) ])),
)
