-- A value is stored; and what no number over a writer's own wrote.
use Rattle.std.proofs.Common.{◌≡◌, ℕ, ◌<◌, ◌∷◌, true, List, set, map, refl, sym, ap, ◌∙◌, ⊎_elim, arith}
use Rattle.std.specs.Prelude.{Some}
use Rattle.std.proofs.lemmas.Bool.{true≢false}
use mathlib.Core.Option.{some}
use lib.ListN.{get_elem?}
use Rattle.dude_base.specs.Writes.{written}
use Rattle.core_events.specs.Setups.{Setup, lock_of}
use Rattle.core_events.specs.Keyed.{find}
use Rattle.core_events.specs.Views.{Hand, Transaction, View}
use Rattle.core_events.specs.Ghosts.{writing, version, Claims}
use Rattle.core_events.specs.KeptLocks.{hand_of, draws_of, Knows, LocksKept}
use Rattle.core_events.proofs.Lists.{total_set}
use Rattle.core_events.proofs.Stays.{at_rest, together, new_hand, owned_on}

module _ (z : Setup) (q : Claims) (thread : ℕ → ℕ) (clock : ℕ) (locks : List ℕ) (views : List View) (k : LocksKept z q thread clock locks views) (id : ℕ) (v : View) (at : get_elem? views id ≡ some v) where
  abbrev m : Knows z q clock id v.part.thread v.tx
  m = k.each id v at

  -- a number after the view's own wrote nothing under a lock that the view owns
  pub none_after : v.tx.hand.decided ≡ true → (l o : ℕ) → find v.tx.owned l ≡ Some o → (n i x : ℕ) → lock_of z i ≡ l → v.tx.hand.number < n → written (q.hist n) i ≡ Some x → ⊥
  none_after pos l o owned n i x under lt f =
      let r = m.owns.owns l o owned in let lock : q.lock (lock_of z i) ≡ writing id r.0 = ap q.lock under ∙ r.4 pos in
      let old : version (q.lock (lock_of z i)) ≡ r.0 = ap version lock in let s = (m.number.numbered (m.number.decided pos).0).0 in
      let c = k.owned.covered n i x (let le = r.2 in omega arith) f in
      let same : writing c.0 c.1 ≡ writing id r.0 = sym c.3 ∙ lock in let j : c.0 ≡ id = cc in
      let h : get_elem? (map hand_of views) id ≡ some c.2 = rw j at c.4 in
      ⊎_elim (λ a. let e : c.2.number ≡ v.tx.hand.number = ap (λ (y : Hand). y.number) a.1 in absurd (let e2 = c.5 in omega arith)) (λ a. absurd (a.0 refl)) (new_hand views id v v at id c.2 h)

  pub store_keeps : (w : View) (i : ℕ) → w.tx ≡ record v.tx { hand = record v.tx.hand { stored = i ∷ v.tx.hand.stored } } → w.part ≡ v.part → w.draws ≡ v.draws → v.tx.hand.decided ≡ true → LocksKept z q thread clock locks (set views id w)
  store_keeps w i tx part draws pos =
      let sums = total_set draws_of views id v w at in let dec = m.number.decided pos in
      let same : w.tx.hand.number ≡ v.tx.hand.number = ap (λ (y : Transaction). y.hand.number) tx in
      together z q thread clock locks views k id v w at q thread clock locks
      (owned_on z q.hist q.lock thread clock locks views id v w at same k.owned)
      record {
        waiting = λ y a x f. let o = k.undecided.waiting y a x f in ⊎_elim
            (λ t. (o.0, o.1, w.tx.hand, o.3, t.2, same ∙ (sym (ap (λ (h : Hand). h.number) t.1) ∙ o.5), o.6))
            (λ t. (o.0, o.1, o.2, o.3, t.1, o.5, o.6))
            (new_hand views id v w at o.0 o.2 o.4);
      }
      k.numbers (at_rest z id clock q)
      (rw (tx, part) record {
        owns = m.owns;
        number = record {
          numbered = m.number.numbered;
          blank = m.number.blank;
          undecided = λ f. absurd (true≢false (sym pos ∙ f.not_decided));
          decided = m.number.decided;
          voided = m.number.voided;
        };
        apart = m.apart;
        confirmed = record {
          snap = m.confirmed.snap;
          extended = m.confirmed.extended;
          valid = λ f. absurd (true≢false (sym pos ∙ f.not_decided));
        };
        look = record { looked = m.look.looked; waits = λ i x e. absurd (let p = (m.look.waits i x e).0.no_number in let r = dec.0 in omega arith) };
      })
      (let s = k.bounded in omega arith)
