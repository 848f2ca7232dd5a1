-- Each decided number stays in one entry.
use Rattle.std.proofs.Common.{◌≡◌, ◌≢◌, ℕ, ◌<◌, ◌≤◌, ◌||◌, Bool, true, false, List, [], ◌∷◌, ◌++◌, set, refl, sym, ap, ◌∙◌, subst, ⊎_elim, eq-eqb, ne_eqb, arith}
use Rattle.std.proofs.lemmas.Bool.{true≢false}
use mathlib.Core.Option.{some, some-injective}
use mathlib.Core.Logic.{dite}
use native.Mathlib.Decide.{ℕ_discrete}
use lib.ListN.{get_elem?}
use Rattle.core_events.specs.Keyed.{has, change, Distinct}
use Rattle.core_events.specs.Views.{Entry}
use Rattle.core_events.specs.Entries.{numbers_written}
use Rattle.core_events.specs.Ghosts.{moved}
use Rattle.core_events.specs.KeptEntries.{EntriesOnce}
use Rattle.core_events.proofs.Lists.{there, at_set, at_snoc, set_here, set_else, at_change}
use Rattle.core_events.proofs.Threads.{has_append, has_left, has_right, distinct_append, not_true, at_longer}

pub written_case : (e : Entry) (b : Bool) → e.wrote ≡ b → (es fs : List Entry) → numbers_written (es ++ fs) ≡ numbers_written es ++ numbers_written fs → numbers_written (e ∷ es ++ fs) ≡ numbers_written (e ∷ es) ++ numbers_written fs
written_case e true is es fs r = rw (is, r) refl
written_case e false is es fs r = rw (is, r) refl

pub written_append : (es fs : List Entry) → numbers_written (es ++ fs) ≡ numbers_written es ++ numbers_written fs
written_append [] fs = refl
written_append (e ∷ es) fs = written_case e e.wrote refl es fs (written_append es fs)

pub append_none : (l : List ℕ) → l ++ [] ≡ l
append_none [] = refl
append_none (x ∷ xs) = ap (λ (l : List ℕ). x ∷ l) (append_none xs)

has_one : (n m : ℕ) → has (n ∷ []) m ≡ true → n ≡ m
has_one n m e = dite (ℕ_discrete n m) (λ h. h) (λ o. absurd (let r : false || false ≡ true = rw (ne_eqb n m o) at e in true≢false (sym r)))

module _ (author : ℕ → ℕ) (settled : ℕ → Bool) (clock : ℕ) (logs : List (List Entry)) (a : EntriesOnce author settled clock logs) where
  pub later : (clock2 : ℕ) → clock ≤ clock2 → EntriesOnce author settled clock2 logs
  later clock2 up = record { wrote = a.wrote; once = a.once; entered = λ n e. let x = a.entered n e in let le = x.0 in (omega arith, x.1) }

  -- entries that write nothing are added
  pub reads_on : (id : ℕ) (es fs : List Entry) → get_elem? logs id ≡ some es → numbers_written fs ≡ numbers_written es → EntriesOnce author settled clock (set logs id fs)
  reads_on id es fs at same = record {
    wrote = λ j n gs e h. ⊎_elim (λ t. let r = a.wrote id n es at (ap (λ (l : List ℕ). has l n) (sym same ∙ ap numbers_written t.1) ∙ h) in (r.0 ∙ sym t.0, r.1)) (λ t. a.wrote j n gs t.1 h) (at_set logs id j fs gs e);
    once = λ j gs e. ⊎_elim (λ t. subst (λ (l : List ℕ). Distinct l) (sym same ∙ ap numbers_written t.1) (a.once id es at)) (λ t. a.once j gs t.1) (at_set logs id j fs gs e);
    entered = λ n e. let x = a.entered n e in (
      x.0,
      dite (ℕ_discrete (author n) id)
          (λ h. let is : x.1.0 ≡ es = some-injective x.1.0 es (sym x.1.1 ∙ (ap (get_elem? logs) h ∙ at)) in (fs, rw h (set_here logs id fs (there logs id es at)), ap (λ (l : List ℕ). has l n) (same ∙ ap numbers_written (sym is)) ∙ x.1.2))
          (λ far. (x.1.0, set_else logs id (author n) fs far ∙ x.1.1, x.1.2)),
    );
  }

  -- the entry of a number that becomes decided
  pub writes_on : (id m : ℕ) (es fs : List Entry) → get_elem? logs id ≡ some es → numbers_written fs ≡ numbers_written es ++ m ∷ [] → settled m ≡ false → m ≤ clock → EntriesOnce (change author m id) (change settled m true) clock (set logs id fs)
  writes_on id m es fs at same fresh le =
      let fresh_in : (j : ℕ) (gs : List Entry) → get_elem? logs j ≡ some gs → has (numbers_written gs) m ≡ false = λ j gs e. not_true (has (numbers_written gs) m) (λ h. true≢false (sym (a.wrote j m gs e h).1 ∙ fresh)) in
      let now : (n : ℕ) → m ≡ n → (change author m id n ≡ id) × (change settled m true n ≡ true) = λ n e. (⊎_elim (λ t. t.1) (λ t. absurd (t.0 (sym e))) (at_change author m id n), ⊎_elim (λ t. t.1) (λ t. absurd (t.0 (sym e))) (at_change settled m true n)) in
      let past : (n : ℕ) → settled n ≡ true → (change author m id n ≡ author n) × (change settled m true n ≡ true) = λ n e.
      (⊎_elim (λ t. absurd (true≢false (sym e ∙ (ap settled t.0 ∙ fresh)))) (λ t. t.1) (at_change author m id n), ⊎_elim (λ t. t.1) (λ t. t.1 ∙ e) (at_change settled m true n)) in
      record {
        wrote = λ j n gs e h. ⊎_elim
            (λ t. ⊎_elim
            (λ old. let r = a.wrote id n es at old in let p = past n r.1 in (p.0 ∙ (r.0 ∙ sym t.0), p.1))
            (λ new. let p = now n (has_one m n new) in (p.0 ∙ sym t.0, p.1))
            (has_append (numbers_written es) (m ∷ []) n (ap (λ (l : List ℕ). has l n) (sym same ∙ ap numbers_written t.1) ∙ h)))
            (λ t. let r = a.wrote j n gs t.1 h in let p = past n r.1 in (p.0 ∙ r.0, p.1))
            (at_set logs id j fs gs e);
        once = λ j gs e. ⊎_elim
            (λ t. subst (λ (l : List ℕ). Distinct l) (sym same ∙ ap numbers_written t.1) (distinct_append (numbers_written es) (m ∷ []) (a.once id es at) (refl, tt) (λ n h. not_true (has (m ∷ []) n) (λ x. true≢false (sym (ap (λ (z : ℕ). has (numbers_written es) z) (has_one m n x) ∙ h) ∙ fresh_in id es at)))))
            (λ t. a.once j gs t.1)
            (at_set logs id j fs gs e);
        entered = λ n e. ⊎_elim
            (λ t. (rw t.0 le, (fs, rw ((now n (sym t.0)).0) (set_here logs id fs (there logs id es at)), ap (λ (l : List ℕ). has l n) same ∙ has_right (numbers_written es) (m ∷ []) n (rw (eq-eqb m n (sym t.0)) refl))))
            (λ t. let old : settled n ≡ true = sym t.1 ∙ e in let x = a.entered n old in (
              x.0,
              rw ((past n old).0) (dite (ℕ_discrete (author n) id)
                  (λ h. let is : x.1.0 ≡ es = some-injective x.1.0 es (sym x.1.1 ∙ (ap (get_elem? logs) h ∙ at)) in
                  (fs, rw h (set_here logs id fs (there logs id es at)), ap (λ (l : List ℕ). has l n) same ∙ has_left (numbers_written es) (m ∷ []) n (ap (λ (z : List Entry). has (numbers_written z) n) (sym is) ∙ x.1.2)))
                  (λ far. (x.1.0, set_else logs id (author n) fs far ∙ x.1.1, x.1.2))),
            ))
            (at_change settled m true n);
      }

  pub draws_on : (m : ℕ) → clock < m → EntriesOnce author (change settled m false) clock logs
  draws_on m lt =
      let on : (n : ℕ) → settled n ≡ true → change settled m false n ≡ true = λ n e. ⊎_elim (λ t. absurd (let z = (a.entered n e).0 in let y = t.0 in omega arith)) (λ t. t.1 ∙ e) (at_change settled m false n) in
      record {
        wrote = λ j n gs e h. let r = a.wrote j n gs e h in (r.0, on n r.1);
        once = a.once;
        entered = λ n e. ⊎_elim (λ t. absurd (true≢false (sym e ∙ t.1))) (λ t. a.entered n (sym t.1 ∙ e)) (at_change settled m false n);
      }

  pub splits_on : EntriesOnce author settled clock (logs ++ [] ∷ [])
  splits_on = record {
    wrote = λ j n gs e h. ⊎_elim (λ t. a.wrote j n gs t h) (λ t. absurd (true≢false (sym h ∙ sym (ap (λ (z : List Entry). has (numbers_written z) n) t.0)))) (at_snoc logs [] gs j e);
    once = λ j gs e. ⊎_elim (λ t. a.once j gs t) (λ t. subst (λ (z : List Entry). Distinct (numbers_written z)) t.0 tt) (at_snoc logs [] gs j e);
    entered = λ n e. let x = a.entered n e in (x.0, (x.1.0, at_longer logs ([] ∷ []) (author n) x.1.0 x.1.1, x.1.2));
  }

  pub joins_on : (id other : ℕ) (es fs : List Entry) → get_elem? logs id ≡ some es → other ≢ id → get_elem? logs other ≡ some fs → EntriesOnce (moved author id other) settled clock (set (set logs id (es ++ fs)) other [])
  joins_on id other es fs at apart at2 =
      let ls : List (List Entry) = set logs id (es ++ fs) in let is = written_append es fs in
      let not_same : id ≢ other = λ e. apart (sym e) in
      let same_home : (t j : ℕ) → author t ≡ j → j ≢ other → moved author id other t ≡ j = λ t j e o. let z : author t ≢ other = λ w. o (sym e ∙ w) in rw (ne_eqb (author t) other z) e in
      let new_home : (t : ℕ) → author t ≡ other → moved author id other t ≡ id = λ t e. rw (eq-eqb (author t) other e) refl in
      record {
        wrote = λ j n gs e h. ⊎_elim
            (λ t. absurd (true≢false (sym h ∙ sym (ap (λ (z : List Entry). has (numbers_written z) n) t.1))))
            (λ t. ⊎_elim
            (λ s. ⊎_elim
            (λ x. let r = a.wrote id n es at x in (same_home n id r.0 not_same ∙ sym s.0, r.1))
            (λ x. let r = a.wrote other n fs at2 x in (new_home n r.0 ∙ sym s.0, r.1))
            (has_append (numbers_written es) (numbers_written fs) n (ap (λ (l : List ℕ). has l n) (sym is ∙ ap numbers_written s.1) ∙ h)))
            (λ s. let r = a.wrote j n gs s.1 h in (same_home n j r.0 t.0, r.1))
            (at_set logs id j (es ++ fs) gs t.1))
            (at_set ls other j [] gs e);
        once = λ j gs e. ⊎_elim
            (λ t. subst (λ (z : List Entry). Distinct (numbers_written z)) t.1 tt)
            (λ t. ⊎_elim
            (λ s. subst (λ (l : List ℕ). Distinct l) (sym is ∙ ap numbers_written s.1) (distinct_append (numbers_written es) (numbers_written fs) (a.once id es at) (a.once other fs at2)
            (λ n h. not_true (has (numbers_written fs) n) (λ x. apart (sym (a.wrote other n fs at2 x).0 ∙ (a.wrote id n es at h).0)))))
            (λ s. a.once j gs s.1)
            (at_set logs id j (es ++ fs) gs t.1))
            (at_set ls other j [] gs e);
        entered = λ n e. let x = a.entered n e in
            let both_there : get_elem? (set ls other []) id ≡ some (es ++ fs) = set_else ls other id [] not_same ∙ set_here logs id (es ++ fs) (there logs id es at) in (
              x.0,
              dite (ℕ_discrete (author n) other)
                  (λ h. let same : x.1.0 ≡ fs = some-injective x.1.0 fs (sym x.1.1 ∙ (ap (get_elem? logs) h ∙ at2)) in
                  (es ++ fs, rw (new_home n h) both_there, ap (λ (l : List ℕ). has l n) is ∙ has_right (numbers_written es) (numbers_written fs) n (ap (λ (z : List Entry). has (numbers_written z) n) (sym same) ∙ x.1.2)))
                  (λ far. dite (ℕ_discrete (author n) id)
                  (λ h. let same : x.1.0 ≡ es = some-injective x.1.0 es (sym x.1.1 ∙ (ap (get_elem? logs) h ∙ at)) in
                  (es ++ fs, rw (same_home n id h not_same) both_there, ap (λ (l : List ℕ). has l n) is ∙ has_left (numbers_written es) (numbers_written fs) n (ap (λ (z : List Entry). has (numbers_written z) n) (sym same) ∙ x.1.2)))
                  (λ off. (x.1.0, rw (same_home n (author n) refl far) (set_else ls other (author n) [] far ∙ (set_else logs id (author n) (es ++ fs) off ∙ x.1.1)), x.1.2))),
            );
      }
