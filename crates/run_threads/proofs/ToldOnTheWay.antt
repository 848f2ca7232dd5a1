-- Which numbers were told at each moment of some calls.
use Rattle.std.proofs.Common.{◌≡◌, ◌⊎◌, inl, inr, ⊎_elim, ℕ, zero, suc, ◌+◌, ◌-◌, ◌^◌, ◌≤◌, Bool, false, IsTrue, List, [], ◌∷◌, ◌++◌, length, drop, refl, sym, ap, ◌∙◌, subst, arith, append_assoc, append-nil}
use Rattle.std.proofs.Math.Seq.{drop-append_seam}
use Rattle.pmem_trait.specs.Words.{AtLeast, IsIn, State}
use Rattle.pmem_trait.specs.Sights.{AtEveryMoment, CallsMade, CallsMade.none, CallsMade.stop, CallsMade.step, OneCall, Sight, SomeCalls, state_now}
use Rattle.pmem_trait.specs.declared.call.Call.{Call}
use Rattle.pmem_trait.proofs.Runs.{made_later}
use Rattle.pmem_trait.proofs.Told.{ToldMore, calls_told}

no_more : {old new : List ℕ} → new ≡ old → ToldMore old new
no_more {old} e = record { more = []; is = e ∙ sym (append-nil old) }

more_then : (a b c : List ℕ) → ToldMore a b → ToldMore b c → ToldMore a c
more_then a b c first then = record { more = first.more ++ then.more; is = then.is ∙ (ap (λ (l : List ℕ). l ++ then.more) first.is ∙ append_assoc a first.more then.more) }

either_side : (b m : ℕ) → (m ≤ b) ⊎ (b ≤ m)
either_side b m = grind arith

first_or_last : (ok : Bool) (a b m : ℕ) → a ≤ m → m ≤ b → (b ≡ a + 1) ⊎ ((a ≡ 2 ^ 64 - 1) × (b ≡ a) × (ok ≡ false)) → (m ≤ a) ⊎ (m ≡ b)
first_or_last ok a b m from upto (inl next) = grind arith
first_or_last ok a b m from upto (inr full) = inl (omega (arith, full.1))

-- at a moment of one call no number is told yet, or it is the last one
call_at : {c : Call} {ok : Bool} {s t : Sight} → OneCall c ok s t → ToldMore (state_now s).told (state_now t).told → IsTrue s.is_visible → (m : ℕ) → s.now ≤ m → m ≤ t.now
    → ToldMore (state_now s).told (t.state m).told
call_at {c} {ok} {s} {t} call told visible m from upto = ⊎_elim
    (λ (before : m ≤ s.now). let same : m ≡ s.now = omega arith in
    no_more (ap (λ (p : State). p.told) (call.later.past visible m before) ∙ ap (λ (k : ℕ). (s.state k).told) same))
    (λ (last : m ≡ t.now). subst (λ (k : ℕ). ToldMore (state_now s).told (t.state k).told) (sym last) told)
    (first_or_last ok s.now t.now m from upto call.time)

-- what was told at the start begins what was told at each moment
pub told_at : {cs : List Call} {ok : Bool} {s t : Sight} → CallsMade cs ok s t → IsTrue s.is_visible → (m : ℕ) → s.now ≤ m → m ≤ t.now → ToldMore (state_now s).told (t.state m).told
told_at (none {s = s}) visible m from upto = let same : m ≡ s.now = omega arith in no_more (ap (λ (k : ℕ). (s.state k).told) same)
told_at (stop {cs = cs} call) visible m from upto = call_at call (calls_told (stop {cs = cs} call) visible) visible m from upto
told_at (step {s = s} {t = t} {u = u} call rest) visible m from upto =
    let first = calls_told (step call none) visible in let later = made_later rest in let seen = call.later.is_visible ∙ visible in ⊎_elim
    (λ (before : m ≤ t.now). subst (λ (p : State). ToldMore (state_now s).told p.told) (sym (later.past seen m before)) (call_at call first visible m from before))
    (λ (behind : t.now ≤ m). more_then (state_now s).told (state_now t).told (u.state m).told first (told_at rest seen m behind upto))
    (either_side t.now m)

-- ---- a floor under what was told before
in_append : (x : ℕ) (a b : List ℕ) → IsIn x (a ++ b) → IsIn x a ⊎ IsIn x b
in_append x [] b h = inr h
in_append x (y ∷ a) b (inl e) = inl (inl e)
in_append x (y ∷ a) b (inr h) = elim (in_append x a b h) [ inl g ↦ inl (inr g) | inr g ↦ inr g ]

in_drop : (x k : ℕ) (a : List ℕ) → IsIn x (drop k a) → IsIn x a
in_drop x zero a h = h
in_drop x (suc k) [] h = absurd h
in_drop x (suc k) (y ∷ a) h = inr (in_drop x k a h)

drop_append : (x k : ℕ) (a b : List ℕ) → IsIn x (drop k (a ++ b)) → IsIn x (drop k a) ⊎ IsIn x b
drop_append x zero a b h = in_append x a b h
drop_append x (suc k) [] b h = inr (in_drop x (suc k) b h)
drop_append x (suc k) (y ∷ a) b h = drop_append x k a b h

-- a number that is at least those told before, and at least those told since
pub floor_before : (before low n : ℕ) (old new : List ℕ) → ToldMore old new → AtLeast before old low → low ≤ n → AtLeast (length old) new n → AtLeast before new n
floor_before before low n old new more under le floor x among = ⊎_elim
    (λ (early : IsIn x (drop before old)). let upto = under x early in omega arith)
    (λ (late : IsIn x more.more). floor x (subst (λ (l : List ℕ). IsIn x l) (sym (ap (drop (length old)) more.is ∙ drop-append_seam old more.more)) late))
    (drop_append x before old more.more (subst (λ (l : List ℕ). IsIn x (drop before l)) more.is among))

-- what holds of images at each moment, with what was told before
pub every_moment_told : {P Q : List ℕ → List ℕ → Type 0} {ok : Bool} {s t : Sight} → SomeCalls ok s t
    → (IsTrue s.is_visible → (told image : List ℕ) → ToldMore (state_now s).told told → P told image → Q told image) → AtEveryMoment P s t → AtEveryMoment Q s t
every_moment_told {P} {Q} {ok} {s} {t} calls holds keeps = record {
  later = keeps.later;
  each = λ visible m from upto. record { each = λ image is. holds visible (t.state m).told image (told_at calls.1 visible m from upto) ((keeps.each visible m from upto).each image is) };
}

in_last : (x : ℕ) (a : List ℕ) → IsIn x (a ++ x ∷ [])
in_last x [] = inl refl
in_last x (y ∷ a) = inr (in_last x a)

drop_last : (x k : ℕ) (a : List ℕ) → k ≤ length a → IsIn x (drop k (a ++ x ∷ []))
drop_last x zero a le = in_last x a
drop_last x (suc k) [] le = absurd (omega arith)
drop_last x (suc k) (y ∷ a) le = drop_last x k a (omega arith)

-- the last number told is among those told since
pub told_in : (x k : ℕ) (earlier told : List ℕ) → told ≡ earlier ++ x ∷ [] → k ≤ length earlier → IsIn x (drop k told)
told_in x k earlier told is le = subst (λ (l : List ℕ). IsIn x (drop k l)) (sym is) (drop_last x k earlier le)
