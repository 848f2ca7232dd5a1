-- Reads leave the state as it is.
use Rattle.std.proofs.Common.{◌≡◌, ℕ, ◌≤◌, List, [], ◌∷◌, map, take, true, IsTrue, Bool, refl, ap, ◌∙◌, subst}
use Rattle.std.specs.List.{range_with_len}
use Rattle.std.proofs.lemmas.List.FromFn.{take-map-range_with_len}
use Rattle.pmem_trait.specs.declared.call.Call.{Call}
use Rattle.pmem_trait.specs.declared.call.Call.TheVariants.{Read}
use Rattle.pmem_trait.specs.Words.{State, after_all}
use Rattle.pmem_trait.specs.Sights.{Sight, state_now, CallsMade}
use Rattle.pmem_trait.proofs.Runs.{made_here}

pub reads_state : (words : List ℕ) (p : State) → after_all (map Read words) p ≡ p
reads_state [] p = refl
reads_state (at ∷ words) p = reads_state words p

-- the first reads of a row of words
pub reads_front_state : (at n k : ℕ) {s t : Sight} → k ≤ n → CallsMade (take k (map Read (range_with_len at n))) true s t → IsTrue s.is_visible → state_now t ≡ state_now s
reads_front_state at n k {s} le made told = made_here made told ∙ ap (λ (cs : List Call). after_all cs (state_now s)) (take-map-range_with_len Read at n k le) ∙ reads_state (range_with_len at k) (state_now s)

-- the reads from a word on, where it is the same
pub reads_from : {at word : ℕ} {ok : Bool} {s t : Sight} → at ≡ word → CallsMade (map Read (range_with_len at 64)) ok s t → CallsMade (map Read (range_with_len word 64)) ok s t
reads_from {ok = ok} {s = s} {t = t} same made = subst (λ w. CallsMade (map Read (range_with_len w 64)) ok s t) same made
