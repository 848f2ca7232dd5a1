-- A lock is given back, with the number or with its old word.
use Rattle.std.proofs.Common.{◌≡◌, true, ◌≢◌, ℕ, ◌*◌, ◌<◌, ◌≤◌, ◌⊎◌, false, List, [], get_or, set, map, sym, ap, ◌∙◌, subst, inl, inr, ⊎_elim, arith, get_or-set_same, get_or-set_other}
use Rattle.std.specs.Prelude.{Some, None}
use Rattle.std.proofs.lemmas.Bool.{true≢false}
use mathlib.Core.Option.{some}
use lib.ListN.{get_elem?}
use Rattle.dude_base.specs.declared.write.Write.{Write}
use Rattle.dude_base.specs.Writes.{written}
use Rattle.core_events.specs.Setups.{Setup, lock_of}
use Rattle.core_events.specs.Keyed.{find, without, or_else, change}
use Rattle.core_events.specs.Views.{Hand, Transaction, View}
use Rattle.core_events.specs.Events.{release, restore}
use Rattle.core_events.specs.Conditions.{Can}
use Rattle.core_events.specs.Ghosts.{Hold, free, taken, writing, version, word_of, IsWriting, Claims}
use Rattle.core_events.specs.KeptLocks.{LocksOwned, UndecidedExclusive, hand_of, draws_of, Knows, LocksKept}
use Rattle.core_events.proofs.Lists.{unmoved, total_set, find_gone, find_without, at_change}
use Rattle.core_events.proofs.Stays.{Moves, lock_moves, numbers_put, together, new_hand}
use Rattle.core_events.proofs.Stores.{none_after}

module _ (z : Setup) (q : Claims) (thread : ℕ → ℕ) (clock : ℕ) (locks : List ℕ) (views : List View) (k : LocksKept z q thread clock locks views) (id : ℕ) (v : View) (at : get_elem? views id ≡ some v) (l : ℕ) (inside : l < z.locks) where
  abbrev m : Knows z q clock id v.part.thread v.tx
  m = k.each id v at

  -- what the view still owns
  kept_lock : (i o : ℕ) → find (without v.tx.owned l) i ≡ Some o → (l ≢ i) × (find v.tx.owned i ≡ Some o)
  kept_lock i o f =
      let other : l ≢ i = λ s. let r : find (without v.tx.owned l) l ≡ Some o = subst (λ (y : ℕ). find (without v.tx.owned l) y ≡ Some o) (sym s) f in let e : None ≡ Some o = sym (find_gone v.tx.owned l) ∙ r in cc in
      (other, sym (find_without v.tx.owned l i other) ∙ f)

  hands_stay : (w : View) → w.tx ≡ record v.tx { owned = without v.tx.owned l } → map hand_of (set views id w) ≡ map hand_of views
  hands_stay w tx = unmoved hand_of views id v w at (ap (λ (y : Transaction). y.hand) tx)

  -- the words show the locks once the lock l is given back with the version n
  shown_with : (n i : ℕ) → i < z.locks → get_or (set locks l (2 * n)) i 0 ≡ word_of thread (change q.lock l (free n) i)
  shown_with n i lt = let sized = k.numbers.sized in ⊎_elim
      (λ t. rw t.0 (get_or-set_same locks l (2 * n) 0 (omega arith) ∙ ap (word_of thread) (sym (ap (change q.lock l (free n)) (sym t.0) ∙ t.1))))
      (λ t. get_or-set_other locks l i (2 * n) 0 t.0 ∙ (k.owned.shows i lt ∙ ap (word_of thread) (sym t.1)))
      (at_change q.lock l (free n) i)

  -- what the view knows where it owns the lock l no longer, and the others stay as they are
  rest_knows : (lock2 : ℕ → Hold) → ((i : ℕ) → i ≢ l → lock2 i ≡ q.lock i) → ((i : ℕ) → version (q.lock i) ≤ version (lock2 i))
      → ((i u : ℕ) → lock2 i ≡ taken id u → (v.tx.hand.decided ≡ false) × (find (without v.tx.owned l) i ≡ Some (2 * u))) → ((i u : ℕ) → lock2 i ≡ writing id u → (v.tx.hand.decided ≡ true) × (find (without v.tx.owned l) i ≡ Some (2 * u)))
      → Knows z (record q { lock = lock2 }) clock id v.part.thread (record v.tx { owned = without v.tx.owned l })
  rest_knows lock2 stay up has_taken has_writing = record {
    owns = record {
      owns = λ i o e. let y = kept_lock i o e in let r = m.owns.owns i o y.1 in (r.0, r.1, r.2, (λ p. stay i (λ s. y.0 (sym s)) ∙ r.3 p), (λ p. stay i (λ s. y.0 (sym s)) ∙ r.4 p));
      has_taken = has_taken;
      has_writing = has_writing;
      owner = λ i o e. m.owns.owner i o (kept_lock i o e).1;
      inside = λ i o e. m.owns.inside i o (kept_lock i o e).1;
    };
    number = m.number;
    apart = m.apart;
    confirmed = record { snap = m.confirmed.snap; extended = m.confirmed.extended; valid = m.confirmed.valid };
    look = record {
      looked = λ i y u e even. let a = m.look.looked i y u e even in let b = up i in omega arith;
      waits = λ i y e. let r = m.look.waits i y e in (record { is_open = r.0.is_open; no_number = r.0.no_number }, r.1, r.2);
    };
  }

  -- the layer of locks is kept where the lock l is given back with the version n, as its owners and the undecided writes say
  lets_go : (n : ℕ) (w : View) → w.tx ≡ record v.tx { owned = without v.tx.owned l } → w.part ≡ v.part → w.draws ≡ v.draws
      → LocksOwned z q.hist (change q.lock l (free n)) thread clock (set locks l (2 * n)) (map hand_of views) → UndecidedExclusive z q.pending (change q.lock l (free n)) (map hand_of views)
      → Moves z id clock q clock (record q { lock = change q.lock l (free n) }) → Knows z (record q { lock = change q.lock l (free n) }) clock id v.part.thread (record v.tx { owned = without v.tx.owned l })
      → LocksKept z (record q { lock = change q.lock l (free n) }) thread clock (set locks l (2 * n)) (set views id w)
  lets_go n w tx part draws owned undecided moves knows =
      let sums = total_set draws_of views id v w at in let hands = hands_stay w tx in
      together z q thread clock locks views k id v w at (record q { lock = change q.lock l (free n) }) thread clock (set locks l (2 * n)) (rw hands owned) (rw hands undecided)
      (numbers_put z q.hist q.pending clock locks l (2 * n) k.numbers) moves (rw (tx, part) knows) (let s = k.bounded in omega arith)

  -- ---- with the number
  module _ (can : Can z (release l) v) where
    abbrev n : ℕ
    n = v.tx.hand.number

    abbrev pub released_claims : Claims
    released_claims = record q { lock = change q.lock l (free v.tx.hand.number) }

    abbrev lock2 : ℕ → Hold
    lock2 = change q.lock l (free n)

    abbrev at2 : (i : ℕ) → ((i ≡ l) × (lock2 i ≡ free n)) ⊎ ((i ≢ l) × (lock2 i ≡ q.lock i))
    at2 = at_change q.lock l (free n)

    pos : 0 < n
    pos = (m.number.decided can.0).0

    pub mine : (u : ℕ) × (u < n) × (q.lock l ≡ writing id u)
    mine = let r = m.owns.owns l can.1.0 can.1.1 in let s = (m.number.numbered pos).0 in let le = r.2 in (r.0, omega arith, r.4 can.0)

    pub on_other : (i : ℕ) → i ≢ l → lock2 i ≡ q.lock i
    on_other i o = ⊎_elim (λ t. absurd (o t.0)) (λ t. t.1) (at2 i)

    back : (i j u : ℕ) → lock2 i ≡ writing j u → (i ≢ l) × (q.lock i ≡ writing j u)
    back i j u e = ⊎_elim (λ t. let f : free n ≡ writing j u = sym t.1 ∙ e in absurd cc) (λ t. (t.0, sym t.1 ∙ e)) (at2 i)

    back_taken : (i j u : ℕ) → lock2 i ≡ taken j u → q.lock i ≡ taken j u
    back_taken i j u e = ⊎_elim (λ t. let f : free n ≡ taken j u = sym t.1 ∙ e in absurd cc) (λ t. sym t.1 ∙ e) (at2 i)

    pub owner_of_l : (j u : ℕ) → q.lock l ≡ writing j u → j ≡ id
    owner_of_l j u e = let f : writing j u ≡ writing id mine.0 = sym e ∙ mine.2 in cc

    version_up : (i : ℕ) → version (q.lock i) ≤ version (lock2 i)
    version_up i = ⊎_elim
        (λ t. let a : version (lock2 i) ≡ n = ap version t.1 in let b : version (q.lock i) ≡ mine.0 = ap version (ap q.lock t.0 ∙ mine.2) in let lt = mine.1 in omega arith)
        (λ t. let e : version (lock2 i) ≡ version (q.lock i) = ap version t.1 in omega arith) (at2 i)

    writing_on : (i : ℕ) → IsWriting (q.lock i) → IsWriting (lock2 i) ⊎ (version (q.lock i) < version (lock2 i))
    writing_on i is = ⊎_elim
        (λ t. let a : version (lock2 i) ≡ n = ap version t.1 in let b : version (q.lock i) ≡ mine.0 = ap version (ap q.lock t.0 ∙ mine.2) in let lt = mine.1 in inr (omega arith))
        (λ t. inl (is.0, is.1, t.1 ∙ is.2)) (at2 i)

    pub release_moves : Moves z id clock q clock released_claims
    release_moves = lock_moves z id clock q lock2 version_up writing_on (λ j i x other e. on_other i (λ s. let f : writing id mine.0 ≡ taken j x = sym mine.2 ∙ (ap q.lock (sym s) ∙ e) in absurd cc) ∙ e) (λ j i x other e. back_taken i j x e)
        (λ j i x other e. on_other i (λ s. other (owner_of_l j x (ap q.lock (sym s) ∙ e))) ∙ e) (λ j i x other e. (back i j x e).1)

    release_knows : Knows z released_claims clock id v.part.thread (record v.tx { owned = without v.tx.owned l })
    release_knows = rest_knows lock2 on_other version_up
        (λ i u e. absurd (true≢false (sym can.0 ∙ (m.owns.has_taken i u (back_taken i id u e)).0)))
        (λ i u e. let r = back i id u e in (can.0, find_without v.tx.owned l i (λ s. r.0 (sym s)) ∙ (m.owns.has_writing i u r.1).1))

    pub release_keeps : (w : View) → w.tx ≡ record v.tx { owned = without v.tx.owned l } → w.part ≡ v.part → w.draws ≡ v.draws → LocksKept z released_claims thread clock (set locks l (2 * n)) (set views id w)
    release_keeps w tx part draws =
        lets_go n w tx part draws
        (record {
          shows = shown_with n;
          upto = λ i. ⊎_elim (λ t. let e : version (lock2 i) ≡ n = ap version t.1 in let le = (m.number.numbered pos).1 in omega arith) (λ t. let e : version (lock2 i) ≡ version (q.lock i) = ap version t.1 in let le = k.owned.upto i in omega arith) (at2 i);
          covered = λ x i y lt f. ⊎_elim
              (λ t. let e : version (lock2 (lock_of z i)) ≡ n = ap version t.1 in absurd (none_after z q thread clock locks views k id v at can.0 l can.1.0 can.1.1 x i y t.0 (omega arith) f))
              (λ t. let e : version (lock2 (lock_of z i)) ≡ version (q.lock (lock_of z i)) = ap version t.1 in let o = k.owned.covered x i y (omega arith) f in (o.0, o.1, o.2, t.1 ∙ o.3, o.4, o.5))
              (at2 (lock_of z i));
        })
        (record {
          waiting = λ x i y f. let o = k.undecided.waiting x i y f in
              (o.0, o.1, o.2, on_other (lock_of z i) (λ s. let e : writing id mine.0 ≡ taken o.0 o.1 = sym mine.2 ∙ (ap q.lock (sym s) ∙ o.3) in absurd cc) ∙ o.3, o.4, o.5, o.6);
        })
        release_moves release_knows

  -- ---- with its old word
  module _ (can : Can z (restore l) v) where
    calm : v.tx.hand.decided ≡ false
    calm = ⊎_elim (λ e. (m.number.voided e).1) (λ e. (m.number.blank e).0) can.1

    abbrev u : ℕ
    u = version (q.lock l)

    had : q.lock l ≡ taken id u
    had = let r = m.owns.owns l can.0.0 can.0.1 in let e = r.3 calm in e ∙ ap (λ (y : ℕ). taken id y) (sym (ap version e))

    pub old_word : or_else (find v.tx.owned l) (get_or locks l 0) ≡ 2 * u
    old_word = let r = m.owns.owns l can.0.0 can.0.1 in let e = r.3 calm in ap (λ o. or_else o (get_or locks l 0)) can.0.1 ∙ (r.1 ∙ ap (λ (y : ℕ). 2 * y) (sym (ap version e)))

    abbrev pub restored_claims : Claims
    restored_claims = record q { lock = change q.lock l (free (version (q.lock l))) }

    abbrev lock3 : ℕ → Hold
    lock3 = change q.lock l (free u)

    abbrev at3 : (i : ℕ) → ((i ≡ l) × (lock3 i ≡ free u)) ⊎ ((i ≢ l) × (lock3 i ≡ q.lock i))
    at3 = at_change q.lock l (free u)

    other_stays : (i : ℕ) → i ≢ l → lock3 i ≡ q.lock i
    other_stays i o = ⊎_elim (λ t. absurd (o t.0)) (λ t. t.1) (at3 i)

    same_version : (i : ℕ) → version (lock3 i) ≡ version (q.lock i)
    same_version i = ⊎_elim (λ t. ap version t.1 ∙ sym (ap (λ (y : ℕ). version (q.lock y)) t.0)) (λ t. ap version t.1) (at3 i)

    was_taken : (i j x : ℕ) → lock3 i ≡ taken j x → (i ≢ l) × (q.lock i ≡ taken j x)
    was_taken i j x e = ⊎_elim (λ t. let f : free u ≡ taken j x = sym t.1 ∙ e in absurd cc) (λ t. (t.0, sym t.1 ∙ e)) (at3 i)

    was_writing : (i j x : ℕ) → lock3 i ≡ writing j x → q.lock i ≡ writing j x
    was_writing i j x e = ⊎_elim (λ t. let f : free u ≡ writing j x = sym t.1 ∙ e in absurd cc) (λ t. sym t.1 ∙ e) (at3 i)

    pub writing_stays : (i j x : ℕ) → q.lock i ≡ writing j x → lock3 i ≡ writing j x
    writing_stays i j x e = other_stays i (λ s. let f : taken id u ≡ writing j x = sym had ∙ (ap q.lock (sym s) ∙ e) in absurd cc) ∙ e

    taken_stays : (i j x : ℕ) → j ≢ id → q.lock i ≡ taken j x → lock3 i ≡ taken j x
    taken_stays i j x o e = other_stays i (λ s. let f : taken id u ≡ taken j x = sym had ∙ (ap q.lock (sym s) ∙ e) in o (let r : id ≡ j = cc in sym r)) ∙ e

    -- no undecided write is the view's own
    theirs : (n i x j : ℕ) (h : Hand) → written (q.pending n) i ≡ Some x → get_elem? (map hand_of views) j ≡ some h → h.number ≡ n → 0 < n → j ≢ id
    theirs n i x j h f got is pos s =
        let e : v.tx.hand.number ≡ n = ⊎_elim (λ t. ap (λ (y : Hand). y.number) (sym t.1) ∙ is) (λ t. absurd (t.0 s)) (new_hand views id v v at j h got) in
        ⊎_elim (λ w. let none_left = (m.number.voided w).4 in let r : written [] i ≡ Some x = ap (λ (y : List Write). written y i) (sym (ap q.pending (sym e) ∙ none_left)) ∙ f in cc) (λ y. omega arith) can.1

    pub restore_moves : Moves z id clock q clock restored_claims
    restore_moves = lock_moves z id clock q lock3 (λ i. let e = same_version i in omega arith) (λ i is. inl (is.0, is.1, writing_stays i is.0 is.1 is.2)) (λ j i x other e. taken_stays i j x other e) (λ j i x other e. (was_taken i j x e).1)
        (λ j i x other e. writing_stays i j x e) (λ j i x other e. was_writing i j x e)

    restore_knows : Knows z restored_claims clock id v.part.thread (record v.tx { owned = without v.tx.owned l })
    restore_knows = rest_knows lock3 other_stays (λ i. let e = same_version i in omega arith)
        (λ i x e. let r = was_taken i id x e in (calm, find_without v.tx.owned l i (λ s. r.0 (sym s)) ∙ (m.owns.has_taken i x r.1).1))
        (λ i x e. absurd (true≢false (sym (m.owns.has_writing i x (was_writing i id x e)).0 ∙ calm)))

    pub restore_keeps : (w : View) → w.tx ≡ record v.tx { owned = without v.tx.owned l } → w.part ≡ v.part → w.draws ≡ v.draws → LocksKept z restored_claims thread clock (set locks l (2 * u)) (set views id w)
    restore_keeps w tx part draws =
        lets_go u w tx part draws
        (record {
          shows = shown_with u;
          upto = λ i. let e = same_version i in let le = k.owned.upto i in omega arith;
          covered = λ n i x lt f. let e = same_version (lock_of z i) in let o = k.owned.covered n i x (omega arith) f in (o.0, o.1, o.2, writing_stays (lock_of z i) o.0 o.1 o.3, o.4, o.5);
        })
        (record {
          waiting = λ n i x f. let o = k.undecided.waiting n i x f in let other = theirs n i x o.0 o.2 f o.4 o.5 o.6 in (o.0, o.1, o.2, taken_stays (lock_of z i) o.0 o.1 other o.3, o.4, o.5, o.6);
        })
        restore_moves restore_knows
