-- A view that has all threads' numbers and all splits has all entries.
use Rattle.std.proofs.Common.{◌≡◌, Some, ◌*◌, subst, ◌≢◌, ℕ, zero, suc, ◌+◌, ◌-◌, ◌<◌, ◌≤◌, ◌⊎◌, Bool, true, false, List, [], ◌∷◌, ◌++◌, get_or, map, refl, sym, ap, ◌∙◌, inl, inr, arith}
use Rattle.std.specs.Prelude.{if◌then◌else◌}
use mathlib.Core.Option.{some, some-injective, some-ne-none}
use mathlib.Core.Logic.{dite}
use native.Mathlib.Decide.{ℕ_discrete}
use lib.ListN.{get_elem?}
use Rattle.dude_base.specs.Records.{RedoRecord}
use Rattle.dude_base.specs.declared.limits.TheConstants.{PAGE}
use Rattle.dude_base.specs.Writes.{written, IsWriteList}
use Rattle.core_events.specs.Setups.{Setup}
use Rattle.core_events.specs.Keyed.{has, one_if, total}
use Rattle.core_events.specs.Views.{Entry, Part, View}
use Rattle.core_events.specs.Words.{State}
use Rattle.core_events.specs.Entries.{all_entries, writes_of}
use Rattle.core_events.specs.Ghosts.{Place, in_view, in_box, behind_boxes, Ghost}
use Rattle.core_events.specs.KeptThreads.{part_of, held_of, waiting_of, splits_of}
use Rattle.core_events.specs.KeptLocks.{draws_of}
use Rattle.core_events.specs.KeptEntries.{entries_of}
use Rattle.core_events.specs.KeptNumbers.{number_of, numbers_of}
use Rattle.core_events.specs.Kept.{LayersKept, Kept}
use Rattle.core_events.specs.Telling.{HasAll, IsReadOut}
use Rattle.core_events.proofs.Lists.{at_map, of_map}
use Rattle.core_events.proofs.Threads.{not_true}
use Rattle.core_events.proofs.Filled.{counts_one, counts_two, one_at}
use Rattle.core_events.proofs.NumbersKept.{has_at}
use Rattle.core_events.proofs.EntriesAll.{writes_are, all_legal, all_numbered}

-- what a part counts
abbrev count_of : Part → ℕ
count_of p = held_of p + (waiting_of p + splits_of p)

total_count : (ps : List Part) → total count_of ps ≡ total held_of ps + (total waiting_of ps + total splits_of ps)
total_count [] = refl
total_count (p ∷ ps) = let h = total_count ps in omega arith

-- a part that counts nothing is of a spent view
spent_if : (b : Bool) (p : Part) → p.is_spent ≡ b → count_of p ≤ 0 → p.is_spent ≡ true
spent_if true p is le = is
spent_if false p is le = absurd (let w : waiting_of p ≡ 1 - one_if p.thread = ap (λ (y : Bool). if y then 0 else (1 - one_if p.thread)) is in omega arith)

-- where only one view has entries, they are all
only_entries : (views : List View) (id : ℕ) (v : View) → get_elem? views id ≡ some v → ((j : ℕ) (w : View) → get_elem? views j ≡ some w → j ≢ id → w.entries ≡ []) → all_entries views ≡ v.entries
only_entries [] id v at others = absurd (some-ne-none v (sym at))
only_entries (x ∷ xs) zero v at others = ap (λ (es : List Entry). x.entries ++ es) (none_left xs (λ j w e. others (suc j) w e (λ f. omega arith))) ∙ (append_none x.entries ∙ ap (λ (u : View). u.entries) (some-injective x v at))
  where
    none_left : (ys : List View) → ((j : ℕ) (w : View) → get_elem? ys j ≡ some w → w.entries ≡ []) → all_entries ys ≡ []
    none_left [] h = refl
    none_left (y ∷ ys) h = rw (h 0 y refl) (none_left ys (λ j w e. h (suc j) w e))

    append_none : (es : List Entry) → es ++ [] ≡ es
    append_none [] = refl
    append_none (e ∷ es) = ap (λ (l : List Entry). e ∷ l) (append_none es)
only_entries (x ∷ xs) (suc id) v at others = rw (others 0 x refl (λ f. omega arith)) (only_entries xs id v at (λ j w e o. others (suc j) w e (λ f. o (let p : j ≡ id = omega arith in p))))

module _ (z : Setup) (c : State) (k : Kept z c) (id : ℕ) (v : View) (at : get_elem? c.views id ≡ some v) (has_all : HasAll z v) (idle : v.tx.hand.number ≡ 0) where
  abbrev l : LayersKept z k.ghost_is c
  l = k.layers

  abbrev g : Ghost
  g = k.ghost_is

  alone_counts : (j : ℕ) (w : View) → get_elem? c.views j ≡ some w → j ≢ id → count_of w.part ≤ 0
  alone_counts j w e o =
      let ps = map part_of c.views in
      let two = counts_two count_of ps id j v.part w.part (at_map part_of c.views id v at) (at_map part_of c.views j w e) (λ y. o (sym y)) in
      let sum = total_count ps in let a = l.threads.held in let b = l.threads.counted in omega arith

  others_empty : (j : ℕ) (w : View) → get_elem? c.views j ≡ some w → j ≢ id → w.entries ≡ []
  others_empty j w e o = l.entries.spent j w e (spent_if w.part.is_spent w.part refl (alone_counts j w e o))

  all_are : all_entries c.views ≡ v.entries
  all_are = only_entries c.views id v at others_empty

  -- no view has an open number
  none_open : (j n : ℕ) → get_elem? (map number_of c.views) j ≡ some n → 0 < n → ⊥
  none_open j n e pos =
      let u = of_map number_of c.views j n e in
      dite (ℕ_discrete j id)
      (λ same. let is : u.0 ≡ v = some-injective u.0 v (sym u.1 ∙ (ap (get_elem? c.views) same ∙ at)) in let y : v.tx.hand.number ≡ n = ap number_of (sym is) ∙ u.2 in omega arith)
      (λ other. let seen = (l.turn.each j u.0 u.1).seen in let is = u.2 in
      let t = seen.empty (seen.drawn (omega arith)) in
      let one = one_at u.0.part.thread t.0 t.1 in let none_counted = alone_counts j u.0 u.1 other in omega arith)

  -- the record of a number has the writes of its entry
  record_writes : (n : ℕ) → g.claims.hist n ≡ writes_of v.entries n
  record_writes n = sym (writes_are z g c l.entries n) ∙ ap (λ (es : List Entry). writes_of es n) all_are

  placed_by : (n : ℕ) (p : Place) → g.place n ≡ p → z.first < n → n ≤ c.clock → ((b : ℕ) × (get_elem? c.boxes b ≡ some n)) ⊎ (has (numbers_of c.persisted) n ≡ true)
  placed_by n (in_view j) is lt le = absurd (none_open j n (l.numbers.placed.in_views n j lt le is) (omega arith))
  placed_by n (in_box b) is lt le = inl (b, l.numbers.placed.in_boxes n b lt le is)
  placed_by n behind_boxes is lt le = inr (l.numbers.placed.behind n lt le is)

  pub read_out : IsReadOut z c v
  read_out = record {
    all = all_are;
    numbers = rw (← all_are) (all_numbered z g c l.entries);
    legal = λ told. rw (← all_are) (all_legal z g c l.entries (k.values told));
    upto = λ j d lt. (l.entries.legal id v.entries (at_map entries_of c.views id v at) j d lt).upto;
    room = let one = counts_one draws_of c.views id v at in let bound = l.locks.bounded in omega arith;
    placed = λ n lt le. placed_by n (g.place n) refl lt le;
    once = l.numbers.placed.once;
    boxes = λ n b e pos. let a = l.numbers.placed.of_boxes n b e pos in (
      a.1,
      a.2,
      not_true (has (numbers_of c.persisted) n) (λ h. let p = (l.numbers.placed.of_persisted n h).0 in let f : in_box b ≡ behind_boxes = sym a.0 ∙ p in cc),
      (λ j e2. let p = (l.numbers.placed.of_boxes n j e2 pos).0 in let f : in_box j ≡ in_box b = sym p ∙ a.0 in (let s : j ≡ b = cc in s)),
      (l.numbers.records.boxed n b e pos).0 ∙ ap (λ ws. some (record { number = n; writes = ws })) (record_writes n),
    );
    persisted = λ j d lt. let r : RedoRecord = get_or c.persisted j d in let a = l.numbers.placed.of_persisted r.number (has_at c.persisted j d lt) in
        (a.1, a.2, (l.numbers.records.kept j d lt).0 ∙ record_writes r.number);
    writes = λ n. subst (λ ws. IsWriteList ws × ((i x : ℕ) → written ws i ≡ Some x → i < z.pages * PAGE)) (record_writes n) ((l.locks.numbers.lists n).0, (λ i x e. l.locks.numbers.inside n i x (inl e)));
  }
