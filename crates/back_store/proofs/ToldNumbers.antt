-- The numbers that calls tell.
use Rattle.std.proofs.Common.{◌≡◌, ◌⊎◌, ℕ, ◌≤◌, Bool, true, false, IsTrue, List, [], ◌∷◌, ◌++◌, All, append_assoc, append-nil, refl, sym, ap, ◌∙◌, inl, inr, arith}
use Rattle.std.proofs.lemmas.List.Elements.{All-cons, All-nil}
use Rattle.pmem_trait.specs.declared.call.Call.{Call}
use Rattle.pmem_trait.specs.Words.{State, told_after}
use Rattle.pmem_trait.specs.Sights.{Sight, state_now, CallEffect, OneCall, CallsMade, CallsMade.stop, CallsMade.step}
use Rattle.redo_record.specs.BackCalls.{announce_calls}
use Rattle.back_store.specs.Told.{WereTold}

none_less : (durable : ℕ) → All (λ n. durable ≤ n) []
none_less durable = All-nil (λ (n : ℕ). durable ≤ n)

-- nothing is told
pub tells_none : (ok : Bool) (durable new_durable : ℕ) (told new_told : List ℕ) → new_durable ≡ durable → new_told ≡ told → WereTold ok durable new_durable told new_told
tells_none ok durable new_durable told new_told same still = ([], λ yes. refl, omega arith, none_less new_durable, inl (still ∙ sym (append-nil told), same))

-- a number is told, and is durable then
pub tells_one : (ok : Bool) (durable new_durable : ℕ) (told new_told : List ℕ) → new_told ≡ told ++ new_durable ∷ [] → WereTold ok durable new_durable told new_told
tells_one ok durable new_durable told new_told is = ([], λ yes. refl, omega arith, none_less new_durable, inr ([], is ∙ ap (λ l. l ++ new_durable ∷ []) (sym (append-nil told))))

-- a tell fails
pub tells_half : (durable new_durable end : ℕ) (told new_told : List ℕ) → new_durable ≡ durable → durable ≤ end → (new_told ≡ told) ⊎ (new_told ≡ told ++ end ∷ []) → WereTold false durable new_durable told new_told
tells_half durable new_durable end told new_told same le (inl still) = tells_none false durable new_durable told new_told same still
tells_half durable new_durable end told new_told same le (inr is) = (end ∷ [], λ no. absurd (cc), omega arith, All-cons (λ (n : ℕ). new_durable ≤ n) end [] (omega arith) (none_less new_durable), inl (is, same))

joined : (a b c : ℕ) (told mid new none more : List ℕ) → none ≡ []
    → ((mid ≡ told ++ none) × (b ≡ a)) ⊎ ((earlier : List ℕ) × (mid ≡ told ++ earlier ++ b ∷ none))
    → ((new ≡ mid ++ more) × (c ≡ b)) ⊎ ((earlier : List ℕ) × (new ≡ mid ++ earlier ++ c ∷ more))
    → ((new ≡ told ++ more) × (c ≡ a)) ⊎ ((earlier : List ℕ) × (new ≡ told ++ earlier ++ c ∷ more))
joined a b c told mid new none more empty (inl (p, q)) (inl (r, s)) = inl (r ∙ ap (λ l. l ++ more) (p ∙ ap (λ l. told ++ l) empty ∙ append-nil told), s ∙ q)
joined a b c told mid new none more empty (inl (p, q)) (inr (e, r)) = inr (e, r ∙ ap (λ l. l ++ e ++ c ∷ more) (p ∙ ap (λ l. told ++ l) empty ∙ append-nil told))
joined a b c told mid new none more empty (inr (e, p)) (inl (r, s)) = inr (e, r ∙ ap (λ l. l ++ more) (p ∙ ap (λ l. told ++ e ++ b ∷ l) empty) ∙ append_assoc (told ++ e) (b ∷ []) more ∙ ap (λ n. told ++ e ++ n ∷ more) (sym s))
joined a b c told mid new none more empty (inr (d, p)) (inr (e, r)) = inr (d ++ b ∷ e, r ∙ ap (λ l. l ++ c ∷ more) (ap (λ l. l ++ e) (p ∙ ap (λ l. told ++ d ++ b ∷ l) empty) ∙ append_assoc (told ++ d) (b ∷ []) e ∙ append_assoc told d (b ∷ e)))

-- one call after another
pub tells_then : (ok : Bool) (a b c : ℕ) (told mid new : List ℕ) → WereTold true a b told mid → WereTold ok b c mid new → WereTold ok a c told new
tells_then ok a b c told mid new one other =
    (other.0, other.1, other.2, other.3, joined a b c told mid new one.0 other.0 (one.1 refl) one.4 other.4)

-- what was told is only added to
pub told_more : (a b : ℕ) (told new : List ℕ) → WereTold true a b told new → (earlier : List ℕ) × (new ≡ told ++ earlier)
told_more a b told new (more, none, few, least, inl was) = (more, was.0)
told_more a b told new (more, none, few, least, inr was) = (was.0 ++ b ∷ more, was.1 ∙ append_assoc told was.0 (b ∷ more))

-- ---- what one call told

effect_told : (c : Call) (ok : Bool) (p q : State) → CallEffect c ok p q → (q.told ≡ p.told) ⊎ (q.told ≡ told_after c p.told)
effect_told c true p q does = inr (ap (λ (x : State). x.told) does)
effect_told c false p q half = half.told

-- a call has told what it tells, or nothing
pub one_told : {c : Call} {ok : Bool} {s t : Sight} → OneCall c ok s t → IsTrue s.is_visible → ((state_now t).told ≡ (state_now s).told) ⊎ ((state_now t).told ≡ told_after c (state_now s).told)
one_told {c} {ok} {s} {t} call visible = elim call.time [
  | inl next ↦ effect_told c ok (state_now s) (state_now t) (call.does visible next)
  | inr full ↦ inl (ap (λ (m : ℕ). (t.state m).told) full.1 ∙ ap (λ (x : State). x.told) (call.later.past visible s.now (omega arith)))
]

-- a tell that failed
pub half_tell : {number : ℕ} {s t : Sight} → CallsMade (announce_calls number) false s t → IsTrue s.is_visible → ((state_now t).told ≡ (state_now s).told) ⊎ ((state_now t).told ≡ (state_now s).told ++ number ∷ [])
half_tell (stop call) visible = one_told call visible
half_tell (step call rest) visible = absurd (not_none rest)
  where
    not_none : {s t : Sight} → CallsMade [] false s t → ⊥
    not_none made = elim made [ ]
