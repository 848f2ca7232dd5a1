-- A lock is taken.
use Rattle.std.proofs.Common.{◌≡◌, ◌≢◌, ℕ, ◌+◌, ◌*◌, ◌<◌, ◌⊎◌, true, false, List, get_or, set, map, refl, sym, ap, ◌∙◌, inl, inr, ⊎_elim, arith, get_or-set_same, get_or-set_other}
use Rattle.std.specs.Prelude.{Some, None}
use Rattle.std.proofs.lemmas.Bool.{true≢false}
use mathlib.Core.Option.{some}
use lib.ListN.{get_elem?}
use Rattle.core_events.specs.Setups.{Setup, lock_of}
use Rattle.core_events.specs.Keyed.{change}
use Rattle.core_events.specs.Views.{Transaction, View}
use Rattle.core_events.specs.Events.{take, looked_word, own_word, taking}
use Rattle.core_events.specs.Conditions.{Can}
use Rattle.core_events.specs.Ghosts.{Hold, free, taken, writing, version, word_of, Claims}
use Rattle.core_events.specs.KeptThreads.{part_of, ThreadsCounted}
use Rattle.core_events.specs.KeptLocks.{hand_of, draws_of, Knows, LocksKept}
use Rattle.core_events.proofs.Lists.{at_map, unmoved, total_set, find_cons, find_head, find_tail, at_change}
use Rattle.core_events.proofs.Values.{even_version}
use Rattle.core_events.proofs.Stays.{Moves, lock_moves, numbers_put, together}

module _ (z : Setup) (q : Claims) (thread : ℕ → ℕ) (clock : ℕ) (locks : List ℕ) (views : List View) (k : LocksKept z q thread clock locks views) (threads : ℕ) (home : ℕ → ℕ) (seats : ThreadsCounted z.threads thread home threads (map part_of views))
    (id t : ℕ) (v : View) (at : get_elem? views id ≡ some v) (thread_is : v.part.thread ≡ Some t)
    (l : ℕ) (inside : l < z.locks) (can : Can z (take l) v) (hit : get_or locks l 0 ≡ looked_word v.tx.look) where
  abbrev m : Knows z q clock id v.part.thread v.tx
  m = k.each id v at

  abbrev u : ℕ
  u = can.1.0

  abbrev n : ℕ
  n = get_or locks l 0

  even : n ≡ 2 * u
  even = hit ∙ ap looked_word can.1.1

  was : q.lock l ≡ free u
  was = even_version thread (q.lock l) u (sym (k.owned.shows l inside) ∙ even)

  abbrev lock2 : ℕ → Hold
  lock2 = change q.lock l (taken id (version (q.lock l)))

  abbrev pub taken_claims : Claims
  taken_claims = record q { lock = lock2 }

  calm : v.tx.hand.decided ≡ false
  calm = (m.number.blank can.0.undrawn.no_number).0

  now : version (q.lock l) ≡ u
  now = ap version was

  at2 : (i : ℕ) → ((i ≡ l) × (lock2 i ≡ taken id u)) ⊎ ((i ≢ l) × (lock2 i ≡ q.lock i))
  at2 i = ⊎_elim (λ s. inl (s.0, s.1 ∙ ap (λ (y : ℕ). taken id y) now)) (λ s. inr s) (at_change q.lock l (taken id (version (q.lock l))) i)

  same_version : (j : ℕ) → version (lock2 j) ≡ version (q.lock j)
  same_version j = ⊎_elim (λ s. ap version s.1 ∙ (ap version (sym was) ∙ ap (λ y. version (q.lock y)) (sym s.0))) (λ s. ap version s.1) (at2 j)

  on : (i j x : ℕ) → q.lock i ≡ writing j x → lock2 i ≡ writing j x
  on i j x e = ⊎_elim (λ s. let f : free u ≡ writing j x = sym was ∙ (ap q.lock (sym s.0) ∙ e) in absurd cc) (λ s. s.1 ∙ e) (at2 i)

  on_taken : (i j x : ℕ) → q.lock i ≡ taken j x → lock2 i ≡ taken j x
  on_taken i j x e = ⊎_elim (λ s. let f : free u ≡ taken j x = sym was ∙ (ap q.lock (sym s.0) ∙ e) in absurd cc) (λ s. s.1 ∙ e) (at2 i)

  back : (i j x : ℕ) → lock2 i ≡ writing j x → q.lock i ≡ writing j x
  back i j x e = ⊎_elim (λ s. let f : taken id u ≡ writing j x = sym s.1 ∙ e in absurd cc) (λ s. sym s.1 ∙ e) (at2 i)

  pub take_moves : Moves z id clock q clock taken_claims
  take_moves = lock_moves z id clock q lock2 (λ i. let e = same_version i in omega arith) (λ i is. inl (is.0, is.1, on i is.0 is.1 is.2)) (λ j i x other e. on_taken i j x e)
      (λ j i x other e. ⊎_elim (λ s. let f : taken id u ≡ taken j x = sym s.1 ∙ e in absurd (other cc)) (λ s. sym s.1 ∙ e) (at2 i)) (λ j i x other e. on i j x e) (λ j i x other e. back i j x e)

  shown_word : own_word v.part.thread ≡ 2 * thread id + 1
  shown_word = ap own_word thread_is ∙ ap (λ y. 2 * y + 1) (sym (seats.mine id t v.part (at_map part_of views id v at) thread_is).0)

  take_knows : Knows z taken_claims clock id v.part.thread (taking true l n v.tx)
  take_knows = record {
    owns = record {
      owns = λ i o e. ⊎_elim
          (λ s. (u, sym s.1 ∙ even, can.1.2, (λ y. rw (← s.0) (⊎_elim (λ r. r.1) (λ r. absurd (r.0 refl)) (at2 l))), (λ p. absurd (true≢false (sym p ∙ calm)))))
          (λ s. let r = m.owns.owns i o s.1 in (r.0, r.1, r.2, (λ y. ⊎_elim (λ w. absurd (s.0 (sym w.0))) (λ w. w.1 ∙ r.3 y) (at2 i)), (λ p. absurd (true≢false (sym p ∙ calm)))))
          (find_cons v.tx.owned l n i o e);
      has_taken = λ i x e. (
        calm,
        ⊎_elim
            (λ s. let f : taken id u ≡ taken id x = sym s.1 ∙ e in let r : u ≡ x = cc in rw (s.0, ← r, ← even) (find_head v.tx.owned l n))
            (λ s. find_tail v.tx.owned l n i (λ r. s.0 (sym r)) ∙ (m.owns.has_taken i x (sym s.1 ∙ e)).1) (at2 i),
      );
      has_writing = λ i x e. let s = m.owns.has_writing i x (back i id x e) in absurd (true≢false (sym s.0 ∙ calm));
      owner = λ i o e. (can.0.undrawn.is_open, (t, thread_is));
      inside = λ i o e. ⊎_elim (λ s. rw (← s.0) inside) (λ s. m.owns.inside i o s.1) (find_cons v.tx.owned l n i o e);
    };
    number = m.number;
    apart = m.apart;
    confirmed = record {
      snap = m.confirmed.snap;
      extended = λ s e. absurd (let f : None ≡ Some s = sym can.0.no_extension ∙ e in cc);
      valid = m.confirmed.valid;
    };
    look = record {
      looked = λ i y x e f. let a = m.look.looked i y x e f in let s = same_version i in omega arith;
      waits = λ i x e. absurd (let f : None ≡ Some (i, x) = e in cc);
    };
  }

  pub take_keeps : (w : View) → w.tx ≡ taking true l n v.tx → w.part ≡ v.part → w.draws ≡ v.draws → LocksKept z taken_claims thread clock (set locks l (own_word v.part.thread)) (set views id w)
  take_keeps w tx part draws =
      let word : ℕ = own_word v.part.thread in
      let b = k.owned in let hands : map hand_of (set views id w) ≡ map hand_of views = unmoved hand_of views id v w at (ap (λ (y : Transaction). y.hand) tx) in
      let sums = total_set draws_of views id v w at in
      together z q thread clock locks views k id v w at taken_claims thread clock (set locks l word)
      (rw hands record {
        shows = λ i lt. ⊎_elim
            (λ s. rw s.0 (get_or-set_same locks l word 0 (let r = k.numbers.sized in omega arith) ∙ (shown_word ∙ ap (word_of thread) (sym (ap lock2 (sym s.0) ∙ s.1)))))
            (λ s. get_or-set_other locks l i word 0 s.0 ∙ (b.shows i lt ∙ ap (word_of thread) (sym s.1))) (at2 i);
        upto = λ i. rw (same_version i) (b.upto i);
        covered = λ x i y lt f. let o = b.covered x i y (rw (same_version (lock_of z i)) at lt) f in (o.0, o.1, o.2, on (lock_of z i) o.0 o.1 o.3, o.4, o.5);
      })
      (rw hands record { waiting = λ x i y f. let o = k.undecided.waiting x i y f in (o.0, o.1, o.2, on_taken (lock_of z i) o.0 o.1 o.3, o.4, o.5, o.6) })
      (numbers_put z q.hist q.pending clock locks l word k.numbers)
      take_moves
      (rw (tx, part) take_knows)
      (let s = k.bounded in omega arith)
