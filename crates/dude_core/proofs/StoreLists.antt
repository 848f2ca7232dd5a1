-- Lists that are walked from the front.
use Rattle.std.proofs.Common.{◌≡◌, ◌⊎◌, ℕ, zero, suc, ◌+◌, ◌<◌, ◌≤◌, Bool, true, false, List, [], ◌∷◌, ◌++◌, length, take, get_or, All, inl, inr, ⊎_elim, refl, sym, ap, subst, arith, eq-eqb, ne_eqb}
use Rattle.std.specs.Prelude.{AllPairs}
use Rattle.std.specs.List.{AllWithin, Contains, IsAnyAnswer}
use Rattle.std.proofs.lemmas.List.{take_all}
use Rattle.std.proofs.lemmas.List.Elements.{All-contains}
use mathlib.Core.Logic.{dite}
use native.Mathlib.Decide.{ℕ_discrete}
use Rattle.dude_base.specs.declared.write.Write.{Write}
use Rattle.dude_base.specs.Records.{Covers}
use Rattle.dude_base.specs.Writes.{HasDistinctPlaces}
use Rattle.pmem_trait.specs.declared.call.Call.{Call}
use Rattle.pmem_trait.specs.declared.call.Call.TheVariants.{Read, Put, Flush, Fence, Tell}
use Rattle.pmem_trait.specs.Words.{IsIn}
use Rattle.redo_record.specs.Waiting.{Waiting}
use Rattle.core_events.specs.Keyed.{has}
use Rattle.dude_core.specs.Named.{Tells}
use Rattle.dude_core.specs.StoreData.{tells, ToldFrom}

-- ---- numbers told
tells-append : (xs ys : List Call) → tells (xs ++ ys) ≡ tells xs ++ tells ys
tells-append [] ys = refl
tells-append (Read at ∷ xs) ys = tells-append xs ys
tells-append (Put at value ∷ xs) ys = tells-append xs ys
tells-append (Flush line ∷ xs) ys = tells-append xs ys
tells-append (Fence ∷ xs) ys = tells-append xs ys
tells-append (Tell number ∷ xs) ys = ap (λ (ns : List ℕ). number ∷ ns) (tells-append xs ys)

in_append : (x : ℕ) (xs ys : List ℕ) → IsIn x (xs ++ ys) → IsIn x xs ⊎ IsIn x ys
in_append x [] ys h = inr h
in_append x (z ∷ zs) ys (inl e) = inl (inl e)
in_append x (z ∷ zs) ys (inr h) = ⊎_elim (λ l. inl (inr l)) (λ r. inr r) (in_append x zs ys h)

in_front : (x : ℕ) (xs ys : List ℕ) → IsIn x xs → IsIn x (xs ++ ys)
in_front x [] ys h = absurd h
in_front x (z ∷ zs) ys (inl e) = inl e
in_front x (z ∷ zs) ys (inr h) = inr (in_front x zs ys h)

in_behind : (x : ℕ) (xs ys : List ℕ) → IsIn x ys → IsIn x (xs ++ ys)
in_behind x [] ys h = h
in_behind x (z ∷ zs) ys h = inr (in_behind x zs ys h)

-- a call among them told the number
told_at : (cs : List Call) (i x : ℕ) → i < length cs → IsIn x (tells (get_or cs i Fence ∷ [])) → IsIn x (tells cs)
told_at [] i x lt h = absurd (omega arith)
told_at (c ∷ cs) zero x lt h = subst (IsIn x) (sym (tells-append (c ∷ []) cs)) (in_front x (tells (c ∷ [])) (tells cs) h)
told_at (c ∷ cs) (suc i) x lt h = subst (IsIn x) (sym (tells-append (c ∷ []) cs)) (in_behind x (tells (c ∷ [])) (tells cs) (told_at cs i x (omega arith) h))

-- none of them did
none_told : (cs : List Call) (x : ℕ) → AllWithin (λ c. IsIn x (tells (c ∷ [])) → ⊥) cs 0 (length cs) → IsIn x (tells cs) → ⊥
none_told [] x none h = h
none_told (c ∷ cs) x none h =
    ⊎_elim (none 0 c (omega arith) (omega arith)) (none_told cs x (λ k d low lt. none (suc k) d (omega arith) (omega arith)))
    (in_append x (tells (c ∷ [])) (tells cs) (subst (IsIn x) (tells-append (c ∷ []) cs) h))

-- they told it where one of them did, and a number from it on where one of them did that
pub any_told : (x : ℕ) (cs : List Call) (b : Bool) → IsAnyAnswer (λ c t. Tells t (IsIn x (tells (c ∷ [])))) cs b → Tells b (IsIn x (tells cs))
any_told x cs true one = told_at cs one.0 x one.1 (one.2 Fence)
any_told x cs false none = none_told cs x none

pub any_told_from : (n : ℕ) (cs : List Call) (b : Bool) → IsAnyAnswer (λ c t. Tells t (ToldFrom n (tells (c ∷ [])))) cs b → Tells b (ToldFrom n (tells cs))
any_told_from n cs true one = let h = one.2 Fence in (h.0, told_at cs one.0 h.0 one.1 h.1, h.2)
any_told_from n cs false none = λ h. none_told cs h.0 (λ k d low lt is. none k d low lt (h.0, is, h.2)) h.1

-- ---- a number stands in a list
pub tell_or : (P Q : Type 0) (b : Bool) → (P → ⊥) → Tells b Q → Tells b (P ⊎ Q)
tell_or P Q true not h = inr h
tell_or P Q false not h = λ e. ⊎_elim not h e

pub has_tells : (xs : List ℕ) (n : ℕ) → Tells (has xs n) (IsIn n xs)
has_tells [] n = λ h. h
has_tells (x ∷ xs) n = dite (ℕ_discrete x n)
    (λ same. rw (eq-eqb x n same) (inl (sym same)))
    (λ other. rw (ne_eqb x n other) (tell_or (n ≡ x) (IsIn n xs) (has xs n) (λ e. other (sym e)) (has_tells xs n)))

-- ---- waiting bundles
pub not_covered : (ws : List Waiting) (n i : ℕ) → length ws ≤ i → All (λ w. Covers w.redo n → ⊥) (take i ws) → (w : Waiting) × Contains ws w × Covers w.redo n → ⊥
not_covered ws n i le none h = All-contains (λ (w : Waiting). Covers w.redo n → ⊥) ws h.0 (subst (All (λ (w : Waiting). Covers w.redo n → ⊥)) (take_all i ws le) none) h.1 h.2

-- ---- writes in rising order
pub rising_apart : (ws : List Write) → AllPairs (λ v w. v.at < w.at) ws → HasDistinctPlaces ws
rising_apart ws rising i j d ij jl same = let lt = rising i j d ij jl in omega arith

-- ---- numbers told, from one on
-- a number is told from the first one on, or among the others
pub from_or : (number first : ℕ) (told : List ℕ) (b : Bool) → (number ≤ first → ⊥) → Tells b (ToldFrom number told) → Tells b (ToldFrom number (first ∷ told))
from_or number first told true not h = (h.0, inr h.1, h.2)
from_or number first told false not h = λ t. ⊎_elim (λ (e : t.0 ≡ first). not (let le = t.2 in omega arith)) (λ i. h (t.0, i, t.2)) t.1
