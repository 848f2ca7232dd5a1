-- Numbers told stay told; and each state has an image that a crash may leave.
use Rattle.std.proofs.Common.{◌≡◌, ◌⊎◌, ℕ, zero, suc, drop, subst, Bool, true, false, IsTrue, List, [], ◌∷◌, ◌++◌, map, refl, sym, ◌∙◌, ap, inl, inr, append_assoc, append-nil, arith}
use Rattle.std.specs.List.{range_with_len}
use Rattle.std.proofs.Math.Seq.{drop-nil}
use Rattle.std.proofs.lemmas.List.FromFn.{get_or-map-range_with_len, length-map-range_with_len}
use Rattle.pmem_trait.specs.declared.call.Call.{Call}
use Rattle.pmem_trait.specs.declared.call.Call.TheVariants.{Read, Put, Flush, Fence, Tell}
use Rattle.pmem_trait.specs.Words.{State, IsIn, told_after, IsImage}
use Rattle.pmem_trait.specs.Sights.{Sight, state_now, CallEffect, OneCall, CallsMade, CallsMade.none, CallsMade.stop, CallsMade.step, AtEveryMoment}

-- the second list of numbers begins with the first
pub record ToldMore (old new : List ℕ) : Type 0 where
  pub more : List ℕ
  pub is : new ≡ old ++ more

no_more : (told : List ℕ) → ToldMore told told
no_more told = record { more = []; is = sym (append-nil told) }

call_told : (c : Call) (told : List ℕ) → ToldMore told (told_after c told)
call_told (Tell number) told = record { more = number ∷ []; is = refl }
call_told (Put at value) told = no_more told
call_told (Flush line) told = no_more told
call_told Fence told = no_more told
call_told (Read at) told = no_more told

same_told : {old new : List ℕ} → new ≡ old → ToldMore old new
same_told {old} e = record { more = []; is = e ∙ sym (append-nil old) }

effect_told : (c : Call) (ok : Bool) (p q : State) → CallEffect c ok p q → ToldMore p.told q.told
effect_told c true p q e = let m = call_told c p.told in record { more = m.more; is = ap (λ (x : State). x.told) e ∙ m.is }
effect_told c false p q half = elim half.told [
  | inl e ↦ same_told e
  | inr e ↦ (let m = call_told c p.told in record { more = m.more; is = e ∙ m.is })
]

one_told : {c : Call} {ok : Bool} {s t : Sight} → OneCall c ok s t → IsTrue s.is_visible → ToldMore (state_now s).told (state_now t).told
one_told {c} {ok} {s} {t} call visible = elim call.time [
  | inl next ↦ effect_told c ok (state_now s) (state_now t) (call.does visible next)
  | inr full ↦ same_told (ap (λ (m : ℕ). (t.state m).told) full.1 ∙ ap (λ (x : State). x.told) (call.later.past visible s.now (omega arith)))
]

-- calls tell behind what was told
pub calls_told : {cs : List Call} {ok : Bool} {s t : Sight} → CallsMade cs ok s t → IsTrue s.is_visible → ToldMore (state_now s).told (state_now t).told
calls_told none visible = no_more _
calls_told (stop call) visible = one_told call visible
calls_told (step {s = s} call rest) visible =
    let first = one_told call visible in
    let others = calls_told rest (call.later.is_visible ∙ visible) in
    record { more = first.more ++ others.more; is = others.is ∙ (ap (λ (l : List ℕ). l ++ others.more) first.is ∙ append_assoc (state_now s).told first.more others.more) }

-- the settled values are an image
pub settled_image : (len : ℕ) (p : State) → IsImage len p (map (λ k. (p.word k).settled) (range_with_len 0 len))
settled_image len p = record {
  size = length-map-range_with_len (λ k. (p.word k).settled) 0 len;
  each = λ k below. inl (get_or-map-range_with_len (λ k. (p.word k).settled) 0 len k k 0 below (omega arith));
}

-- what holds of the images at the end, beside the numbers told, holds of some image
pub last_image : {P : List ℕ → List ℕ → Type 0} {s t : Sight} → AtEveryMoment P s t → IsTrue s.is_visible → (image : List ℕ) × P (state_now t).told image
last_image {P} {s} {t} keeps visible =
    let image = map (λ k. ((state_now t).word k).settled) (range_with_len 0 s.len) in
    (image, (keeps.each visible t.now keeps.later.now (omega arith)).each image (settled_image s.len (state_now t)))

-- a value of a list with one number more
pub IsIn-push : (x y : ℕ) (xs : List ℕ) → IsIn x (xs ++ y ∷ []) → IsIn x xs ⊎ (x ≡ y)
IsIn-push x y [] (inl e) = inr e
IsIn-push x y [] (inr h) = absurd h
IsIn-push x y (z ∷ zs) (inl e) = inl (inl e)
IsIn-push x y (z ∷ zs) (inr h) = elim (IsIn-push x y zs h) [ inl g ↦ inl (inr g) | inr e ↦ inr e ]

-- and of what is left of it
pub IsIn-drop_push : (k x y : ℕ) (xs : List ℕ) → IsIn x (drop k (xs ++ y ∷ [])) → IsIn x (drop k xs) ⊎ (x ≡ y)
IsIn-drop_push zero x y xs h = IsIn-push x y xs h
IsIn-drop_push (suc k) x y [] h = let P : List ℕ → Type 0 = λ l. IsIn x l in absurd (subst P (drop-nil k) h)
IsIn-drop_push (suc k) x y (z ∷ zs) h = IsIn-drop_push k x y zs h
