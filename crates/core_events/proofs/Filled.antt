-- Filled words, and the numbers of entries and pins.
use Rattle.std.proofs.Common.{◌≡◌, ◌≢◌, ℕ, zero, suc, ◌+◌, ◌<◌, ◌≤◌, ◌⊎◌, List, [], ◌∷◌, map, refl, sym, ap, ◌∙◌, inl, inr, ⊎_elim, eq-eqb, ne_eqb, arith}
use Rattle.std.specs.Prelude.{Option, Some, None}
use mathlib.Core.Option.{some, some-injective, some-ne-none}
use mathlib.Core.Logic.{dite}
use native.Mathlib.Decide.{ℕ_discrete}
use lib.ListN.{get_elem?}
use Rattle.core_events.specs.Setups.{page_of, ENTRY, entry_with, frame_in, without_pins}
use Rattle.core_events.specs.Keyed.{total, one_if}
use Rattle.core_events.specs.Events.{unfilled, refilled}
use Rattle.core_events.specs.Conditions.{IsFilled}
use Rattle.core_events.specs.KeptPages.{entry_word}

pub unfilled_in : (p : ℕ) (xs : List (ℕ × ℕ)) (i f : ℕ) → IsFilled (unfilled p xs) i f → IsFilled xs i f × (page_of i ≢ p)
unfilled_in p [] i f h = absurd h
unfilled_in p (x ∷ xs) i f h = dite (ℕ_discrete (page_of x.0) p)
    (λ hit. let r = unfilled_in p xs i f (rw (eq-eqb (page_of x.0) p hit) at h) in (inr r.0, r.1))
    (λ miss. ⊎_elim (λ t. (inl t, (λ e. miss (ap page_of t.0 ∙ e)))) (λ t. let r = unfilled_in p xs i f t in (inr r.0, r.1)) (rw (ne_eqb (page_of x.0) p miss) at h))

pub refilled_in : (p f : ℕ) (xs : List (ℕ × ℕ)) (i g : ℕ) → IsFilled (refilled p f xs) i g → IsFilled xs i g × ((g ≢ f) ⊎ (page_of i ≡ p))
refilled_in p f [] i g h = absurd h
refilled_in p f (x ∷ xs) i g h = dite (ℕ_discrete x.1 f)
    (λ hit. dite (ℕ_discrete (page_of x.0) p)
    (λ mine. ⊎_elim (λ t. (inl t, inr (sym (ap page_of t.0) ∙ mine))) (λ t. let r = refilled_in p f xs i g t in (inr r.0, r.1)) (rw (eq-eqb x.1 f hit, eq-eqb (page_of x.0) p mine) at h))
    (λ other. let r = refilled_in p f xs i g (rw (eq-eqb x.1 f hit, ne_eqb (page_of x.0) p other) at h) in (inr r.0, r.1)))
    (λ miss. ⊎_elim (λ t. (inl t, inl (λ e. miss (t.1 ∙ e)))) (λ t. let r = refilled_in p f xs i g t in (inr r.0, r.1)) (rw (ne_eqb x.1 f miss) at h))

-- ---- entries
pub frame_of_entry : (f pins : ℕ) → pins < ENTRY → frame_in (entry_with f pins) ≡ f
frame_of_entry f pins lt = omega arith

pub entry_positive : (f pins : ℕ) → 0 < entry_with f pins
entry_positive f pins = omega arith

-- an entry that is one without pins has none
pub bare_entry : (f pins e : ℕ) → pins < ENTRY → entry_with f pins ≡ without_pins e → pins ≡ 0
bare_entry f pins e lt same = omega arith

pub entry_none : (o : Option ℕ) (pins : ℕ) → entry_word o pins ≡ 0 → o ≡ None
entry_none None pins e = refl
entry_none (Some f) pins e = absurd (omega arith)

pub entry_some : (o : Option ℕ) (pins : ℕ) → 0 < entry_word o pins → (f : ℕ) × (o ≡ Some f)
entry_some None pins e = absurd (omega arith)
entry_some (Some f) pins e = (f, refl)

-- ---- sums over pins
pub one_most : (o : Option ℕ) → one_if o ≤ 1
one_most None = omega arith
one_most (Some x) = omega arith

pub one_at : (o : Option ℕ) (f : ℕ) → o ≡ Some f → one_if o ≡ 1
one_at o f e = rw e refl

pub zero_at : (o : Option ℕ) → o ≡ None → one_if o ≡ 0
zero_at o e = rw e refl

pub not_none : (o : Option ℕ) → (o ≡ None → ⊥) → (f : ℕ) × (o ≡ Some f)
not_none None e = absurd (e refl)
not_none (Some f) e = (f, refl)

pub counts_one : {A : Type 0} (f : A → ℕ) (l : List A) (j : ℕ) (a : A) → get_elem? l j ≡ some a → f a ≤ total f l
counts_one f [] j a e = absurd (some-ne-none a (sym e))
counts_one f (x ∷ xs) zero a e = let s : f x ≡ f a = ap f (some-injective x a e) in omega arith
counts_one f (x ∷ xs) (suc j) a e = let r = counts_one f xs j a e in omega arith

-- two places of a list count together
pub counts_two : {A : Type 0} (f : A → ℕ) (l : List A) (i j : ℕ) (a b : A) → get_elem? l i ≡ some a → get_elem? l j ≡ some b → i ≢ j → f a + f b ≤ total f l
counts_two f [] i j a b e h o = absurd (some-ne-none a (sym e))
counts_two f (x ∷ xs) zero zero a b e h o = absurd (o refl)
counts_two f (x ∷ xs) zero (suc j) a b e h o = let s : f x ≡ f a = ap f (some-injective x a e) in let one = counts_one f xs j b h in omega arith
counts_two f (x ∷ xs) (suc i) zero a b e h o = let s : f x ≡ f b = ap f (some-injective x b h) in let one = counts_one f xs i a e in omega arith
counts_two f (x ∷ xs) (suc i) (suc j) a b e h o = let two = counts_two f xs i j a b e h (λ y. o (ap suc y)) in omega arith

pub counts_none : {A : Type 0} (f : A → ℕ) (l : List A) → ((j : ℕ) (a : A) → get_elem? l j ≡ some a → f a ≡ 0) → total f l ≡ 0
counts_none f [] h = refl
counts_none f (x ∷ xs) h = let a = h 0 x refl in let r = counts_none f xs (λ j a e. h (suc j) a e) in omega arith

pub counts_below : {A B C : Type 0} (f : B → ℕ) (g : C → ℕ) (p : A → B) (q : A → C) (l : List A) → ((j : ℕ) (a : A) → get_elem? l j ≡ some a → f (p a) ≤ g (q a)) → total f (map p l) ≤ total g (map q l)
counts_below f g p q [] h = omega arith
counts_below f g p q (x ∷ xs) h = let a = h 0 x refl in let r = counts_below f g p q xs (λ j a e. h (suc j) a e) in omega arith
