-- What is said of each write of a number, write by write.
use Rattle.std.proofs.Common.{◌≡◌, ◌*◌, ◌<◌, ◌≤◌, ℕ, zero, suc, Bool, true, false, List, [], ◌∷◌, length, get_or, refl, subst, arith, eq-eqb, ne_eqb}
use mathlib.Core.Logic.{dite}
use native.Mathlib.Decide.{ℕ_discrete}
use Rattle.std.specs.Prelude.{Some, slice_get}
use Rattle.dude_base.specs.declared.limits.TheConstants.{PAGE}
use Rattle.dude_base.specs.declared.write.Write.{Write}
use Rattle.dude_base.specs.Writes.{written}
use Rattle.core_events.specs.Views.{View}
use Rattle.core_events.specs.Setups.{Setup, page_of, lock_of}
use Rattle.core_events.specs.Conditions.{Owns, Pins}
use Rattle.dude_core.proofs.Walks.{AllBelow, all_told, get_of}
use Rattle.dude_core.specs.Held.{AnswersEach, Holds, HoldsAll}
use Rattle.dude_core.specs.Named.{Tells}

pub written_one : (ws : List Write) (i x : ℕ) → written ws i ≡ Some x → (j : ℕ) × (w : Write) × (j < length ws) × (slice_get ws j ≡ Some w) × (w.at ≡ i)
written_one [] i x e = absurd (cc)
written_one (w ∷ ws) i x e = dite (ℕ_discrete w.at i)
    (λ same. (0, w, omega arith, refl, same))
    (λ apart. let r = written_one ws i x (rw (ne_eqb w.at i apart) at e) in (suc r.0, r.1, (let lt = r.2 in omega arith), r.3, r.4))

pub one_written : (ws : List Write) (k : ℕ) (w : Write) → slice_get ws k ≡ Some w → (x : ℕ) × (written ws w.at ≡ Some x)
one_written [] k w e = absurd (cc)
one_written (v ∷ ws) zero w e = let is : v ≡ w = cc in (w.value, rw (← is, eq-eqb v.at v.at refl) refl)
one_written (v ∷ ws) (suc k) w e = dite (ℕ_discrete v.at w.at)
    (λ same. (v.value, rw (eq-eqb v.at w.at same) refl))
    (λ apart. rw (ne_eqb v.at w.at apart) (one_written ws k w e))

pub told_written : (P : ℕ → Type 0) (ws : List Write) (k : ℕ) → length ws ≤ k → AllBelow (λ (w : Write). P w.at) ws k → (i x : ℕ) → written ws i ≡ Some x → P i
told_written P ws k le below i x e = let r = written_one ws i x e in subst P r.4 (below r.0 r.1 (let lt = r.2 in omega arith) r.3)

-- what is asked of each written word tells of them all
pub told_each : {E : ℕ → Bool → Type 0} {ws : List Write} (b : Bool) (Q : Type 0) (P : ℕ → Type 0) → (((i x : ℕ) → written ws i ≡ Some x → P i) → Q) → (Q → (i x : ℕ) → written ws i ≡ Some x → P i)
    → ((i : ℕ) (t : Bool) → E i t → Tells t (P i)) → AnswersEach E ws b → Tells b Q
told_each true Q P make of tells a = make (λ i x e. tells i true (a.told i x e))
told_each false Q P make of tells a = λ q. let one = a.told in tells one.0 false one.2 (of q one.0 one.1.0 one.1.1)

module _ (z : Setup) (v : View) where
  pub holds_told : (ws : List Write) (k : ℕ) → length ws ≤ k → AllBelow (Holds z v) ws k → HoldsAll z v ws
  holds_told ws k le below = record {
    inside = all_told (λ (w : Write). w.at < z.pages * PAGE) ws k le (λ j w lt e. (below j w lt e).0);
    owned = told_written (λ (i : ℕ). Owns v (lock_of z i)) ws k le (λ j w lt e. (below j w lt e).1);
    pinned = told_written (λ (i : ℕ). Pins v (page_of i)) ws k le (λ j w lt e. (below j w lt e).2);
  }

  pub not_held : (ws : List Write) (k : ℕ) (w : Write) → k < length ws → slice_get ws k ≡ Some w → (Holds z v w → ⊥) → HoldsAll z v ws → ⊥
  not_held ws k w lt at never h =
      let is : get_or ws k w ≡ w = (let r = get_of ws k w lt in cc) in
      let r = one_written ws k w at in
      never (subst (λ (u : Write). u.at < z.pages * PAGE) is (h.inside k w lt), h.owned w.at r.0 r.1, h.pinned w.at r.0 r.1)

pub not_in : (ws : List Write) (p k : ℕ) → length ws ≤ k → AllBelow (λ (w : Write). page_of w.at ≡ p → ⊥) ws k → (i x : ℕ) → written ws i ≡ Some x → page_of i ≡ p → ⊥
not_in ws p k le below i x e = told_written (λ (j : ℕ). page_of j ≡ p → ⊥) ws k le below i x e
