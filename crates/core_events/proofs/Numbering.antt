-- A view gets a thread's number, or posts its number and closes its transaction.
use Rattle.std.proofs.Common.{◌≡◌, ◌≢◌, ℕ, ◌+◌, ◌*◌, ◌⊎◌, List, [], set, map, refl, sym, ap, ◌∙◌, inl, inr, ⊎_elim, arith}
use Rattle.std.specs.Prelude.{Some, None}
use Rattle.std.proofs.lemmas.Bool.{true≢false}
use mathlib.Core.Option.{some}
use lib.ListN.{get_elem?}
use Rattle.core_events.specs.Setups.{Setup, lock_of}
use Rattle.core_events.specs.Keyed.{find, change}
use Rattle.core_events.specs.Views.{Transaction, View}
use Rattle.core_events.specs.Events.{post, no_hand, dropped}
use Rattle.core_events.specs.Conditions.{Can}
use Rattle.core_events.specs.Ghosts.{Hold, free, taken, writing, word_of, Claims}
use Rattle.core_events.specs.KeptLocks.{hand_of, draws_of, Knows, LocksKept}
use Rattle.core_events.proofs.Lists.{unmoved, total_set, at_change}
use Rattle.core_events.proofs.Stays.{at_rest, together, new_hand, none_open, none_read}

word_case : (f g : ℕ → ℕ) (x : Hold) → ((j u : ℕ) → (x ≡ taken j u) ⊎ (x ≡ writing j u) → g j ≡ f j) → word_of f x ≡ word_of g x
word_case f g (free u) same = refl
word_case f g (taken j u) same = ap (λ (y : ℕ). 2 * y + 1) (sym (same j u (inl refl)))
word_case f g (writing j u) same = ap (λ (y : ℕ). 2 * y + 1) (sym (same j u (inr refl)))

module _ (z : Setup) (q : Claims) (thread : ℕ → ℕ) (clock : ℕ) (locks : List ℕ) (views : List View) (k : LocksKept z q thread clock locks views) (id : ℕ) (v : View) (at : get_elem? views id ≡ some v) where
  abbrev m : Knows z q clock id v.part.thread v.tx
  m = k.each id v at

  -- a view that owns no lock has none by what is known of locks
  pub not_mine : ((i o : ℕ) → find v.tx.owned i ≡ Some o → ⊥) → (i j u : ℕ) → (q.lock i ≡ taken j u) ⊎ (q.lock i ≡ writing j u) → j ≢ id
  not_mine nothing i j u e s = ⊎_elim (λ t. nothing i (2 * u) (m.owns.has_taken i u (rw s at t)).1) (λ t. nothing i (2 * u) (m.owns.has_writing i u (rw s at t)).1) e

  pub number_keeps : (w : View) (t : ℕ) → v.part.thread ≡ None → w.tx ≡ v.tx → w.draws ≡ v.draws → LocksKept z q (change thread id t) clock locks (set views id w)
  number_keeps w t none_yet tx draws =
      let nothing : (i o : ℕ) → find v.tx.owned i ≡ Some o → ⊥ = λ i o e. let r = (m.owns.owner i o e).1 in let f : None ≡ Some r.0 = sym none_yet ∙ r.1 in cc in
      let else_ : (j : ℕ) → j ≢ id → change thread id t j ≡ thread j = λ j o. ⊎_elim (λ s. absurd (o s.0)) (λ s. s.1) (at_change thread id t j) in
      let word : (i : ℕ) → word_of thread (q.lock i) ≡ word_of (change thread id t) (q.lock i) = λ i. word_case thread (change thread id t) (q.lock i) (λ j u e. else_ j (not_mine nothing i j u e)) in
      let hands : map hand_of (set views id w) ≡ map hand_of views = unmoved hand_of views id v w at (ap (λ (y : Transaction). y.hand) tx) in
      let sums = total_set draws_of views id v w at in
      together z q thread clock locks views k id v w at q (change thread id t) clock locks
      (rw hands record { shows = λ i lt. k.owned.shows i lt ∙ word i; upto = k.owned.upto; covered = k.owned.covered })
      (rw hands k.undecided)
      k.numbers (at_rest z id clock q)
      (rw tx record {
        owns = record {
          owns = m.owns.owns;
          has_taken = m.owns.has_taken;
          has_writing = m.owns.has_writing;
          owner = λ i o e. absurd (nothing i o e);
          inside = λ i o e. absurd (nothing i o e);
        };
        number = m.number;
        apart = m.apart;
        confirmed = m.confirmed;
        look = record {
          looked = m.look.looked;
          waits = λ i x e. let r = m.look.waits i x e in (r.0, r.1, ⊎_elim (λ f. inl f) (λ o. let y = o.1 in let f : None ≡ Some y.0 = sym none_yet ∙ y.1 in absurd cc) r.2);
        };
      })
      (let s = k.bounded in omega arith)

  pub post_keeps : (w : View) → Can z post v → w.tx ≡ record (dropped v.tx) { hand = no_hand } → w.draws ≡ v.draws → LocksKept z q thread clock locks (set views id w)
  post_keeps w can tx draws =
      let nothing : (i o : ℕ) → find v.tx.owned i ≡ Some o → ⊥ = λ i o e. let f : None ≡ Some o = rw can.1 at e in cc in
      let calm : q.pending v.tx.hand.number ≡ [] = ⊎_elim (λ e. (m.number.decided e).4) (λ e. (m.number.voided e).4) can.0 in
      let sums = total_set draws_of views id v w at in
      together z q thread clock locks views k id v w at q thread clock locks
      record {
        shows = k.owned.shows;
        upto = k.owned.upto;
        covered = λ n i x lt f. let o = k.owned.covered n i x lt f in ⊎_elim
            (λ t. absurd (not_mine nothing (lock_of z i) o.0 o.1 (inr o.3) t.0))
            (λ t. (o.0, o.1, o.2, o.3, t.1, o.5))
            (new_hand views id v w at o.0 o.2 o.4);
      }
      record {
        waiting = λ n i x f. let o = k.undecided.waiting n i x f in ⊎_elim
            (λ t. absurd (not_mine nothing (lock_of z i) o.0 o.1 (inl o.3) t.0))
            (λ t. (o.0, o.1, o.2, o.3, t.1, o.5, o.6))
            (new_hand views id v w at o.0 o.2 o.4);
      }
      k.numbers (at_rest z id clock q)
      (rw tx record {
        owns = record {
          owns = λ i o e. absurd (nothing i o e);
          has_taken = λ i u e. absurd (nothing i (2 * u) (m.owns.has_taken i u e).1);
          has_writing = λ i u e. absurd (nothing i (2 * u) (m.owns.has_writing i u e).1);
          owner = λ i o e. absurd (nothing i o e);
          inside = λ i o e. absurd (nothing i o e);
        };
        number = none_open _ _ _ _ _ _ _ _ _ refl refl refl;
        apart = record { apart = λ o. absurd (true≢false (sym o)) };
        confirmed = none_read _ _ _ _ _ refl refl refl;
        look = record { looked = m.look.looked; waits = λ i x e. absurd (let f : None ≡ Some (i, x) = e in cc) };
      })
      (let s = k.bounded in omega arith)
