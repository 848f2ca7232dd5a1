-- What the last calls tell.
use Rattle.std.proofs.Common.{◌≡◌, ℕ, ◌≤◌, IsTrue, List, [], ◌∷◌, ◌++◌, length, length-append, ap, ◌∙◌, arith}
use Rattle.pmem_trait.specs.Sights.{Sight, SomeCalls, state_now}
use Rattle.pmem_trait.proofs.Told.{calls_told}

-- a number told behind some calls since the start was told behind all that was told before
pub told_behind : {ok : _} {s t : Sight} (u : Sight) (n last : ℕ) → SomeCalls ok s t → IsTrue s.is_visible → (state_now u).told ≡ (state_now t).told ++ n ∷ [] → n ≡ last
    → (earlier : List ℕ) × ((state_now u).told ≡ earlier ++ last ∷ []) × (length (state_now s).told ≤ length earlier)
told_behind {s = s} {t = t} u n last calls seen is same =
    let more = calls_told calls.1 seen in
    ((state_now t).told, is ∙ ap (λ (k : ℕ). (state_now t).told ++ k ∷ []) same, (let long = length-append (state_now s).told more.more in let e = ap (λ (l : List ℕ). length l) more.is in omega arith))
