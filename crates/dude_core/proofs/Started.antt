-- The lists of the state at its start, made one element after another.
use Rattle.std.proofs.Common.{◌≡◌, ℕ, zero, suc, ◌+◌, List, [], ◌∷◌, ◌++◌, refl, sym, ap, ◌∙◌, arith, if◌then◌else◌, ltb}
use Rattle.core_events.specs.Setups.{entry_with}
use Rattle.core_events.specs.Partings.{first_entries}

entries_suc : (frames p n : ℕ) → first_entries frames p (suc n) ≡ first_entries frames p n ++ (if ltb (p + n) frames then entry_with (p + n) 0 else 0) ∷ []
entries_suc frames p zero = let e : p + 0 ≡ p = omega arith in rw e refl
entries_suc frames p (suc n) = let e : p + 1 + n ≡ p + suc n = omega arith in
    ap (λ (l : List ℕ). (if ltb p frames then entry_with p 0 else 0) ∷ l) (entries_suc frames (p + 1) n ∙ ap (λ (q : ℕ). first_entries frames (p + 1) n ++ (if ltb q frames then entry_with q 0 else 0) ∷ []) e)

pub entries_more : (frames n : ℕ) (x : ℕ) (l m : List ℕ) → l ≡ first_entries frames 0 n → x ≡ (if ltb n frames then entry_with n 0 else 0) → m ≡ l ++ x ∷ [] → m ≡ first_entries frames 0 (n + 1)
entries_more frames n x l m l_is x_is m_is =
    let one : suc n ≡ n + 1 = omega arith in
    let same : 0 + n ≡ n = omega arith in
    let next : first_entries frames 0 (suc n) ≡ first_entries frames 0 n ++ (if ltb n frames then entry_with n 0 else 0) ∷ [] = entries_suc frames 0 n ∙ ap (λ (q : ℕ). first_entries frames 0 n ++ (if ltb q frames then entry_with q 0 else 0) ∷ []) same in
    m_is ∙ (ap (λ (k : List ℕ). k ++ x ∷ []) l_is ∙ (ap (λ (y : ℕ). first_entries frames 0 n ++ y ∷ []) x_is ∙ (sym next ∙ ap (first_entries frames 0) one)))
