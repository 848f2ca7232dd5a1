-- Threads' numbers: each is in one view, and they are counted.
use Rattle.std.proofs.Common.{◌≡◌, ◌≢◌, ℕ, zero, suc, ◌+◌, ◌-◌, ◌<◌, ◌≤◌, ◌⊎◌, ◌==◌, ◌||◌, Bool, true, false, List, [], ◌∷◌, ◌++◌, length, set, refl, sym, ap, ◌∙◌, subst, inl, inr, ⊎_elim, eq-eqb, ne_eqb, arith, length-append}
use Rattle.std.specs.Prelude.{Option, Some, None}
use Rattle.std.proofs.lemmas.Bool.{true≢false}
use mathlib.Core.Option.{some, some-injective, some-ne-none}
use mathlib.Core.Logic.{dite}
use native.Mathlib.Decide.{ℕ_discrete}
use lib.ListN.{get_elem?}
use Rattle.core_events.specs.Keyed.{has, total, one_if, change, Distinct}
use Rattle.core_events.specs.Views.{Part}
use Rattle.core_events.specs.Partings.{thread_list, both_parts}
use Rattle.core_events.specs.Ghosts.{moved}
use Rattle.core_events.specs.KeptThreads.{held_of, waiting_of, splits_of, ThreadsCounted}
use Rattle.core_events.proofs.Lists.{there, at_set, at_snoc, set_here, set_else, total_set, at_change}

pub or_cases : (a b : Bool) → (a || b) ≡ true → (a ≡ true) ⊎ (b ≡ true)
or_cases true b e = inl refl
or_cases false b e = inr e

pub or_right : (a b : Bool) → b ≡ true → (a || b) ≡ true
or_right true b e = refl
or_right false b e = e

or_none : (a b : Bool) → a ≡ false → b ≡ false → (a || b) ≡ false
or_none a b e f = rw (e, f) refl

or_both : (a b : Bool) → (a || b) ≡ false → (a ≡ false) × (b ≡ false)
or_both true b e = absurd (true≢false e)
or_both false b e = (refl, e)

pub has_append : (xs ys : List ℕ) (t : ℕ) → has (xs ++ ys) t ≡ true → (has xs t ≡ true) ⊎ (has ys t ≡ true)
has_append [] ys t e = inr e
has_append (x ∷ xs) ys t e = ⊎_elim (λ h. inl (rw h refl)) (λ r. ⊎_elim (λ a. inl (or_right (x == t) (has xs t) a)) (λ a. inr a) (has_append xs ys t r)) (or_cases (x == t) (has (xs ++ ys) t) e)

pub has_left : (xs ys : List ℕ) (t : ℕ) → has xs t ≡ true → has (xs ++ ys) t ≡ true
has_left [] ys t e = absurd (true≢false (sym e))
has_left (x ∷ xs) ys t e = ⊎_elim (λ h. rw h refl) (λ r. or_right (x == t) (has (xs ++ ys) t) (has_left xs ys t r)) (or_cases (x == t) (has xs t) e)

pub has_right : (xs ys : List ℕ) (t : ℕ) → has ys t ≡ true → has (xs ++ ys) t ≡ true
has_right [] ys t e = e
has_right (x ∷ xs) ys t e = or_right (x == t) (has (xs ++ ys) t) (has_right xs ys t e)

pub hasnt_append : (xs ys : List ℕ) (t : ℕ) → has xs t ≡ false → has ys t ≡ false → has (xs ++ ys) t ≡ false
hasnt_append [] ys t e f = f
hasnt_append (x ∷ xs) ys t e f = let b = or_both (x == t) (has xs t) e in or_none (x == t) (has (xs ++ ys) t) b.0 (hasnt_append xs ys t b.1 f)

pub not_true : (b : Bool) → (b ≡ true → ⊥) → b ≡ false
not_true true n = absurd (n refl)
not_true false n = refl

pub distinct_append : (xs ys : List ℕ) → Distinct xs → Distinct ys → ((t : ℕ) → has xs t ≡ true → has ys t ≡ false) → Distinct (xs ++ ys)
distinct_append [] ys d e apart = e
distinct_append (x ∷ xs) ys d e apart = (
  hasnt_append xs ys x d.0 (apart x (rw (eq-eqb x x refl) refl)),
  distinct_append xs ys d.1 e (λ t h. apart t (or_right (x == t) (has xs t) h)),
)

in_thread_list : (o : Option ℕ) (t : ℕ) → has (thread_list o) t ≡ true → o ≡ Some t
in_thread_list None t e = absurd (true≢false (sym e))
in_thread_list (Some s) t e = dite (ℕ_discrete s t) (λ h. ap Some h) (λ n. absurd (let r : false || false ≡ true = rw (ne_eqb s t n) at e in true≢false (sym r)))

thread_listed : (o : Option ℕ) (t : ℕ) → o ≡ Some t → has (thread_list o) t ≡ true
thread_listed o t e = rw (e, eq-eqb t t refl) refl

distinct_thread : (o : Option ℕ) → Distinct (thread_list o)
distinct_thread None = tt
distinct_thread (Some t) = (refl, tt)

length_thread : (o : Option ℕ) → length (thread_list o) ≡ one_if o
length_thread None = refl
length_thread (Some t) = refl

one_at_most : (o : Option ℕ) → one_if o ≤ 1
one_at_most None = omega arith
one_at_most (Some t) = omega arith

pub at_longer : {A : Type 0} (l m : List A) (i : ℕ) (a : A) → get_elem? l i ≡ some a → get_elem? (l ++ m) i ≡ some a
at_longer [] m i a e = absurd (some-ne-none a (sym e))
at_longer (x ∷ xs) m zero a e = e
at_longer (x ∷ xs) m (suc i) a e = at_longer xs m i a e

pub total_snoc : {A : Type 0} (f : A → ℕ) (l : List A) (a : A) → total f (l ++ a ∷ []) ≡ total f l + f a
total_snoc f [] a = omega arith
total_snoc f (x ∷ xs) a = let r = total_snoc f xs a in omega arith

waiting_live : (p : Part) → p.is_spent ≡ false → waiting_of p ≡ 1 - one_if p.thread
waiting_live p live = rw live refl

module _ (T : ℕ) (thread home : ℕ → ℕ) (threads : ℕ) (parts : List Part) (s : ThreadsCounted T thread home threads parts) where
  -- a view gets the next number
  pub threads_number : (id : ℕ) (p : Part) → get_elem? parts id ≡ some p → p.is_spent ≡ false → p.thread ≡ None
      → ThreadsCounted T (change thread id threads) (change home threads id) (threads + 1) (set parts id (record p { thread = Some threads }))
  threads_number id p at live none_yet =
      let q : Part = record p { thread = Some threads } in
      let home_past : (t : ℕ) → t < threads → change home threads id t ≡ home t = λ t lt. ⊎_elim (λ a. absurd (let e = a.0 in omega arith)) (λ a. a.1) (at_change home threads id t) in
      let home_now : change home threads id threads ≡ id = ⊎_elim (λ a. a.1) (λ a. absurd (a.0 refl)) (at_change home threads id threads) in
      let held = total_set held_of parts id p q at in let waits = total_set waiting_of parts id p q at in let cuts = total_set splits_of parts id p q at in
      let zero_held : one_if p.thread ≡ 0 = ap one_if none_yet in
      let waited = waiting_live p live in let waits_no_more : waiting_of q ≡ 0 = waiting_live q live in
      let all = s.held in let sum = s.counted in
      record {
        mine = λ j t r e is. ⊎_elim
            (λ a. let y : Some threads ≡ Some t = ap (λ (z : Part). z.thread) a.1 ∙ is in let x : threads ≡ t = cc in (
              ⊎_elim (λ b. b.1 ∙ x) (λ b. absurd (b.0 a.0)) (at_change thread id threads j),
              ap (change home threads id) (sym x) ∙ (home_now ∙ sym a.0),
              omega arith,
            ))
            (λ a. let m = s.mine j t r a.1 is in (⊎_elim (λ b. absurd (a.0 b.0)) (λ b. b.1 ∙ m.0) (at_change thread id threads j), home_past t m.2 ∙ m.1, (let lt = m.2 in omega arith)))
            (at_set parts id j q r e);
        gone = λ j t r e h. ⊎_elim
            (λ a. let m = s.gone id t p at (ap (λ (z : Part). has z.ended t) a.1 ∙ h) in (home_past t m.1 ∙ (m.0 ∙ sym a.0), (let lt = m.1 in omega arith), (λ z. let y : Some threads ≡ Some t = ap (λ (z : Part). z.thread) a.1 ∙ z in let x : threads ≡ t = cc in let lt = m.1 in omega arith)))
            (λ a. let m = s.gone j t r a.1 h in (home_past t m.1 ∙ m.0, (let lt = m.1 in omega arith), m.2))
            (at_set parts id j q r e);
        once = λ j r e. ⊎_elim (λ a. subst (λ (z : Part). Distinct z.ended) a.1 (s.once id p at)) (λ a. s.once j r a.1) (at_set parts id j q r e);
        there = λ t lt. dite (ℕ_discrete t threads)
            (λ h. rw h (q, rw home_now (set_here parts id q (there parts id p at)), inl refl))
            (λ n. let o = s.there t (omega arith) in rw (home_past t (omega arith)) (dite (ℕ_discrete (home t) id)
            (λ h. let same : o.0 ≡ p = some-injective o.0 p (sym o.1 ∙ (ap (get_elem? parts) h ∙ at)) in
            (q, rw h (set_here parts id q (there parts id p at)), inr (⊎_elim (λ x. let f : None ≡ Some t = sym none_yet ∙ (ap (λ (z : Part). z.thread) (sym same) ∙ x) in absurd cc) (λ x. ap (λ (z : Part). has z.ended t) (sym same) ∙ x) o.2)))
            (λ far. (o.0, set_else parts id (home t) q far ∙ o.1, o.2))));
        held = omega arith;
        counted = omega arith;
      }

  -- a view is cut in two
  pub threads_split : (id : ℕ) (p : Part) → get_elem? parts id ≡ some p → 0 < p.splits
      → ThreadsCounted T thread home threads (set parts id (record p { splits = p.splits - 1 }) ++ (record { is_spent = false; thread = None; ended = []; splits = 0 }) ∷ [])
  threads_split id p at some_left =
      let q : Part = record p { splits = p.splits - 1 } in let n : Part = record { is_spent = false; thread = None; ended = []; splits = 0 } in
      let old : (j : ℕ) (r : Part) → get_elem? (set parts id q ++ n ∷ []) j ≡ some r → ((z : Part) × (get_elem? parts j ≡ some z) × (z.thread ≡ r.thread) × (z.ended ≡ r.ended)) ⊎ (n ≡ r)
      = λ j r e. ⊎_elim
      (λ a. inl (⊎_elim (λ b. (p, rw b.0 at, ap (λ (z : Part). z.thread) b.1, ap (λ (z : Part). z.ended) b.1)) (λ b. (r, b.1, refl, refl)) (at_set parts id j q r a)))
      (λ a. inr a.0)
      (at_snoc (set parts id q) n r j e) in
      let held = total_set held_of parts id p q at in let waits = total_set waiting_of parts id p q at in let cuts = total_set splits_of parts id p q at in
      let held2 = total_snoc held_of (set parts id q) n in let waits2 = total_snoc waiting_of (set parts id q) n in let cuts2 = total_snoc splits_of (set parts id q) n in
      let all = s.held in let sum = s.counted in
      record {
        mine = λ j t r e is. ⊎_elim (λ a. s.mine j t a.0 a.1 (a.2 ∙ is)) (λ a. let y : None ≡ Some t = ap (λ (z : Part). z.thread) a ∙ is in absurd cc) (old j r e);
        gone = λ j t r e h. ⊎_elim (λ a. let m = s.gone j t a.0 a.1 (ap (λ (z : List ℕ). has z t) a.3 ∙ h) in (m.0, m.1, (λ z. m.2 (a.2 ∙ z)))) (λ a. absurd (true≢false (sym h ∙ sym (ap (λ (z : Part). has z.ended t) a)))) (old j r e);
        once = λ j r e. ⊎_elim (λ a. subst (λ (z : List ℕ). Distinct z) a.3 (s.once j a.0 a.1)) (λ a. subst (λ (z : Part). Distinct z.ended) a tt) (old j r e);
        there = λ t lt. let o = s.there t lt in dite (ℕ_discrete (home t) id)
            (λ h. let same : o.0 ≡ p = some-injective o.0 p (sym o.1 ∙ (ap (get_elem? parts) h ∙ at)) in
            (q, at_longer (set parts id q) (n ∷ []) (home t) q (rw h (set_here parts id q (there parts id p at))), ⊎_elim (λ x. inl (ap (λ (z : Part). z.thread) (sym same) ∙ x)) (λ x. inr (ap (λ (z : Part). has z.ended t) (sym same) ∙ x)) o.2))
            (λ far. (o.0, at_longer (set parts id q) (n ∷ []) (home t) o.0 (set_else parts id (home t) q far ∙ o.1), o.2));
        held = omega arith;
        counted = (let w : waiting_of q ≡ waiting_of p = refl in omega arith);
      }

  -- two views are joined
  pub threads_join : (id other : ℕ) (p q : Part) → get_elem? parts id ≡ some p → other ≢ id → get_elem? parts other ≡ some q → q.is_spent ≡ false
      → ThreadsCounted T thread (moved home id other) threads (set (set parts id (both_parts p q)) other (record { is_spent = true; thread = None; ended = []; splits = 0 }))
  threads_join id other p q at apart at2 live =
      let both = both_parts p q in let n : Part = record { is_spent = true; thread = None; ended = []; splits = 0 } in let ps : List Part = set parts id both in
      let at3 : get_elem? ps other ≡ some q = set_else parts id other both apart ∙ at2 in
      let new : (j : ℕ) (r : Part) → get_elem? (set ps other n) j ≡ some r → ((n ≡ r) × (j ≡ other)) ⊎ (((both ≡ r) × (j ≡ id)) ⊎ ((get_elem? parts j ≡ some r) × (j ≢ other) × (j ≢ id)))
      = λ j r e. ⊎_elim (λ a. inl (a.1, a.0)) (λ a. inr (⊎_elim (λ b. inl (b.1, b.0)) (λ b. inr (b.1, a.0, b.0)) (at_set parts id j both r a.1))) (at_set ps other j n r e) in
      let same_home : (t j : ℕ) → home t ≡ j → j ≢ other → moved home id other t ≡ j = λ t j e o. let z : home t ≢ other = λ w. o (sym e ∙ w) in rw (ne_eqb (home t) other z) e in
      let new_home : (t : ℕ) → home t ≡ other → moved home id other t ≡ id = λ t e. rw (eq-eqb (home t) other e) refl in
      let not_same : id ≢ other = λ e. apart (sym e) in
      let split_of : (t : ℕ) → has both.ended t ≡ true → (has p.ended t ≡ true) ⊎ ((q.thread ≡ Some t) ⊎ (has q.ended t ≡ true))
      = λ t h. ⊎_elim (λ a. inl a) (λ a. inr (⊎_elim (λ b. inl (in_thread_list q.thread t b)) (λ b. inr b) (has_append (thread_list q.thread) q.ended t a))) (has_append p.ended (thread_list q.thread ++ q.ended) t h) in
      let theirs : (t : ℕ) → (q.thread ≡ Some t) ⊎ (has q.ended t ≡ true) → (home t ≡ other) × (t < threads) = λ t e. ⊎_elim (λ a. let m = s.mine other t q at2 a in (m.1, m.2)) (λ a. let m = s.gone other t q at2 a in (m.0, m.1)) e in
      let h1 = total_set held_of parts id p both at in let h2 = total_set held_of ps other q n at3 in
      let w1 = total_set waiting_of parts id p both at in let w2 = total_set waiting_of ps other q n at3 in
      let c1 = total_set splits_of parts id p both at in let c2 = total_set splits_of ps other q n at3 in
      let n1 = length-append p.ended (thread_list q.thread ++ q.ended) in let n2 = length-append (thread_list q.thread) q.ended in let n3 = length_thread q.thread in let n4 = one_at_most q.thread in
      let w3 = waiting_live q live in let all = s.held in let sum = s.counted in
      record {
        mine = λ j t r e is. ⊎_elim
            (λ a. let y : None ≡ Some t = ap (λ (z : Part). z.thread) a.0 ∙ is in absurd cc)
            (λ a. ⊎_elim
            (λ b. let m = s.mine id t p at (ap (λ (z : Part). z.thread) b.0 ∙ is) in (ap thread b.1 ∙ m.0, same_home t id m.1 not_same ∙ sym b.1, m.2))
            (λ b. let m = s.mine j t r b.0 is in (m.0, same_home t j m.1 b.1, m.2)) a)
            (new j r e);
        gone = λ j t r e h. ⊎_elim
            (λ a. absurd (true≢false (sym h ∙ sym (ap (λ (z : Part). has z.ended t) a.0))))
            (λ a. ⊎_elim
            (λ b. ⊎_elim
            (λ x. let m = s.gone id t p at x in (same_home t id m.0 not_same ∙ sym b.1, m.1, (λ z. m.2 (ap (λ (y : Part). y.thread) b.0 ∙ z))))
            (λ x. let m = theirs t x in (new_home t m.0 ∙ sym b.1, m.1, (λ z. let k = s.mine id t p at (ap (λ (y : Part). y.thread) b.0 ∙ z) in not_same (sym k.1 ∙ m.0))))
            (split_of t (ap (λ (z : Part). has z.ended t) b.0 ∙ h)))
            (λ b. let m = s.gone j t r b.0 h in (same_home t j m.0 b.1, m.1, m.2)) a)
            (new j r e);
        once = λ j r e. ⊎_elim
            (λ a. subst (λ (z : Part). Distinct z.ended) a.0 tt)
            (λ a. ⊎_elim
            (λ b. subst (λ (z : Part). Distinct z.ended) b.0 (distinct_append p.ended (thread_list q.thread ++ q.ended) (s.once id p at)
            (distinct_append (thread_list q.thread) q.ended (distinct_thread q.thread) (s.once other q at2) (λ t h. not_true (has q.ended t) (λ x. (s.gone other t q at2 x).2 (in_thread_list q.thread t h))))
            (λ t h. not_true (has (thread_list q.thread ++ q.ended) t) (λ x. not_same (sym (s.gone id t p at h).0 ∙ (theirs t (⊎_elim (λ y. inl (in_thread_list q.thread t y)) (λ y. inr y) (has_append (thread_list q.thread) q.ended t x))).0)))))
            (λ b. s.once j r b.0) a)
            (new j r e);
        there = λ t lt. let o = s.there t lt in
            let both_there : get_elem? (set ps other n) id ≡ some both = set_else ps other id n not_same ∙ set_here parts id both (there parts id p at) in
            dite (ℕ_discrete (home t) other)
            (λ h. let same : o.0 ≡ q = some-injective o.0 q (sym o.1 ∙ (ap (get_elem? parts) h ∙ at2)) in (
              both,
              rw (new_home t h) both_there,
              inr (has_right p.ended (thread_list q.thread ++ q.ended) t (⊎_elim
                  (λ x. has_left (thread_list q.thread) q.ended t (thread_listed q.thread t (ap (λ (z : Part). z.thread) (sym same) ∙ x)))
                  (λ x. has_right (thread_list q.thread) q.ended t (ap (λ (z : Part). has z.ended t) (sym same) ∙ x)) o.2)),
            ))
            (λ far. dite (ℕ_discrete (home t) id)
            (λ h. let same : o.0 ≡ p = some-injective o.0 p (sym o.1 ∙ (ap (get_elem? parts) h ∙ at)) in
            (both, rw (same_home t id h not_same) both_there, ⊎_elim (λ x. inl (ap (λ (z : Part). z.thread) (sym same) ∙ x)) (λ x. inr (has_left p.ended (thread_list q.thread ++ q.ended) t (ap (λ (z : Part). has z.ended t) (sym same) ∙ x))) o.2))
            (λ off. (o.0, rw (same_home t (home t) refl far) (set_else ps other (home t) n far ∙ (set_else parts id (home t) both off ∙ o.1)), o.2)));
        held = omega arith;
        counted = (let w : waiting_of both ≡ waiting_of p = refl in omega arith);
      }
