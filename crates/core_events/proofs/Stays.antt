-- What a view knows of locks and reads outlasts the steps of the others.
use Rattle.std.proofs.Common.{◌≡◌, [], ◌≢◌, ℕ, ◌+◌, ◌<◌, ◌≤◌, ◌⊎◌, List, Bool, true, false, get_or, set, map, refl, sym, ap, ◌∙◌, subst, inl, inr, ⊎_elim, arith, length-set}
use Rattle.std.specs.Prelude.{Option, None, Some}
use Rattle.std.proofs.lemmas.Bool.{true≢false}
use Rattle.std.proofs.lemmas.List.{map-set}
use mathlib.Core.Option.{some, some-injective}
use mathlib.Core.Logic.{dite}
use native.Mathlib.Decide.{ℕ_discrete}
use lib.ListN.{get_elem?}
use Rattle.dude_base.specs.declared.limits.TheConstants.{MAX_NUMBER}
use Rattle.dude_base.specs.Writes.{written, IsWriteList}
use Rattle.core_events.specs.Setups.{Setup, lock_of}
use Rattle.core_events.specs.Keyed.{total}
use Rattle.core_events.specs.Views.{Hand, Transaction, View}
use Rattle.core_events.specs.Entries.{History}
use Rattle.core_events.specs.Ghosts.{Hold, taken, writing, version, IsWriting, Claims}
use Rattle.core_events.specs.Partings.{newcomer}
use Rattle.core_events.specs.KeptLocks.{hand_of, draws_of, LocksOwned, UndecidedExclusive, NumbersBounded, OpenNumber, ReadsConfirmed, Knows, LocksKept}
use Rattle.core_events.proofs.Lists.{there, at_set, set_here, set_else, at_map, unmoved, total_set}

-- no write is a list of writes
pub empty_list : IsWriteList []
empty_list = record { few = omega arith; distinct = λ i j d a b. absurd (omega arith) }

-- what a step of the view id may do to the clock and to what was claimed
pub record Moves (z : Setup) (id clock : ℕ) (q : Claims) (clock2 : ℕ) (r : Claims) : Type 0 where
  pub clock_up : clock ≤ clock2
  pub version_up : (k : ℕ) → version (q.lock k) ≤ version (r.lock k)
  pub writing_on : (k : ℕ) → IsWriting (q.lock k) → IsWriting (r.lock k) ⊎ (version (q.lock k) < version (r.lock k))
  pub taken_on : (j k u : ℕ) → j ≢ id → q.lock k ≡ taken j u → r.lock k ≡ taken j u
  pub taken_back : (j k u : ℕ) → j ≢ id → r.lock k ≡ taken j u → q.lock k ≡ taken j u
  pub owner_on : (j k u : ℕ) → j ≢ id → q.lock k ≡ writing j u → r.lock k ≡ writing j u
  pub owner_back : (j k u : ℕ) → j ≢ id → r.lock k ≡ writing j u → q.lock k ≡ writing j u
  -- the past of a word stays, or its lock is being written
  pub changed : (i : ℕ) → ((n : ℕ) → n ≤ clock → written (r.hist n) i ≡ written (q.hist n) i) ⊎ IsWriting (r.lock (lock_of z i))
  -- what no undecided number writes stays so
  pub silent : (n i : ℕ) → n ≤ clock → written (q.pending n) i ≡ None → (written (r.hist n) i ≡ written (q.hist n) i) × (written (r.pending n) i ≡ None)
  pub others : (n : ℕ) → n ≤ clock → q.who n ≢ id → (r.hist n ≡ q.hist n) × (r.pending n ≡ q.pending n) × (r.settled n ≡ q.settled n)
  pub who_past : (n : ℕ) → n ≤ clock → r.who n ≡ q.who n
  -- a number that was decided stays so, with its writes
  pub firm : (n : ℕ) → n ≤ clock → q.settled n ≡ true → (r.settled n ≡ true) × (r.hist n ≡ q.hist n)

-- a step that claims nothing
pub at_rest : (z : Setup) (id clock : ℕ) (q : Claims) → Moves z id clock q clock q
at_rest z id clock q = record {
  clock_up = omega arith;
  version_up = λ k. omega arith;
  writing_on = λ k is. inl is;
  taken_on = λ j k u o e. e;
  taken_back = λ j k u o e. e;
  owner_on = λ j k u o e. e;
  owner_back = λ j k u o e. e;
  changed = λ i. inl (λ n le. refl);
  silent = λ n i le e. (refl, e);
  others = λ n le o. (refl, refl, refl);
  who_past = λ n le. refl;
  firm = λ n le e. (e, refl);
}

-- a step that changes one lock alone
pub lock_moves : (z : Setup) (id clock : ℕ) (q : Claims) (lock2 : ℕ → Hold) → ((k : ℕ) → version (q.lock k) ≤ version (lock2 k)) → ((k : ℕ) → IsWriting (q.lock k) → IsWriting (lock2 k) ⊎ (version (q.lock k) < version (lock2 k)))
    → ((j k u : ℕ) → j ≢ id → q.lock k ≡ taken j u → lock2 k ≡ taken j u) → ((j k u : ℕ) → j ≢ id → lock2 k ≡ taken j u → q.lock k ≡ taken j u)
    → ((j k u : ℕ) → j ≢ id → q.lock k ≡ writing j u → lock2 k ≡ writing j u) → ((j k u : ℕ) → j ≢ id → lock2 k ≡ writing j u → q.lock k ≡ writing j u) → Moves z id clock q clock (record q { lock = lock2 })
lock_moves z id clock q lock2 up writing_on taken_on taken_back owner_on owner_back = record {
  clock_up = omega arith;
  version_up = up;
  changed = λ i. inl (λ n le. refl);
  silent = λ n i le e. (refl, e);
  writing_on = writing_on;
  taken_on = taken_on;
  taken_back = taken_back;
  owner_on = owner_on;
  owner_back = owner_back;
  others = λ n le o. (refl, refl, refl);
  who_past = λ n le. refl;
  firm = λ n le e. (e, refl);
}

-- a lock's word is put
pub numbers_put : (z : Setup) (hist pending : History) (clock : ℕ) (locks : List ℕ) (k n : ℕ) → NumbersBounded z hist pending clock locks → NumbersBounded z hist pending clock (set locks k n)
numbers_put z hist pending clock locks k n m = record {
  some_lock = m.some_lock;
  from = m.from;
  sized = length-set locks k n ∙ m.sized;
  later = m.later;
  before = m.before;
  inside = m.inside;
  lists = m.lists;
}

module _ (z : Setup) where
  pub stays : (id clock clock2 : ℕ) (q r : Claims) → Moves z id clock q clock2 r → (j : ℕ) (thread : Option ℕ) (x : Transaction) → j ≢ id → Knows z q clock j thread x → Knows z r clock2 j thread x
  stays id clock clock2 q r m j thread x other kn =
      let up = m.clock_up in
      let num = kn.number in
      let mine : (p : 0 < x.hand.number) → q.who x.hand.number ≢ id = λ p e. other (sym (num.numbered p).3 ∙ e) in
      let list_same = λ (p : 0 < x.hand.number). m.others x.hand.number (num.numbered p).1 (mine p) in
      record {
        owns = record {
          owns = λ k o e. let w = kn.owns.owns k o e in (w.0, w.1, w.2, (λ y. m.taken_on j k w.0 other (w.3 y)), (λ y. m.owner_on j k w.0 other (w.4 y)));
          has_taken = λ k u e. kn.owns.has_taken k u (m.taken_back j k u other e);
          has_writing = λ k u e. kn.owns.has_writing k u (m.owner_back j k u other e);
          owner = kn.owns.owner;
          inside = kn.owns.inside;
        };
        number = record {
          numbered = λ p. let n = num.numbered p in let le = n.1 in (n.0, omega arith, n.2, m.who_past x.hand.number n.1 ∙ n.3);
          blank = num.blank;
          undecided = λ f. let u = num.undecided f in let l = list_same f.number in (l.0 ∙ u.0, l.1 ∙ u.1, u.2, l.2 ∙ u.3);
          decided = λ f. let u = num.decided f in let l = list_same u.0 in (u.0, u.1, l.0 ∙ u.2, l.2 ∙ u.3, l.1 ∙ u.4);
          voided = λ f. let u = num.voided f in let l = list_same u.0 in (u.0, u.1, l.0 ∙ u.2, l.2 ∙ u.3, l.1 ∙ u.4);
        };
        apart = record { apart = λ o n le k d lt. (m.silent n (get_or x.reads k d).0 (let s = (kn.confirmed.snap o).1 in omega arith) (kn.apart.apart o n le k d lt)).1 };
        confirmed = record {
          snap = λ o. let s = kn.confirmed.snap o in (s.0, (let t = s.1 in omega arith));
          extended = λ s e. let y = kn.confirmed.extended s e in let le = y.4 in (y.0, y.1, y.2, y.3, omega arith, (λ i n c lt b. let u = y.5 i n c lt b in let w = m.silent n i (omega arith) u.1 in (w.0 ∙ u.0, w.1)));
          valid = λ f i n c lt lt2. let u = kn.confirmed.valid f i n c lt lt2 in let s = m.silent n i (let w = (num.numbered f.number).1 in omega arith) u.1 in (s.0 ∙ u.0, s.1);
        };
        look = record {
          looked = λ k y u e even. let a = kn.look.looked k y u e even in let b = m.version_up k in omega arith;
          waits = kn.look.waits;
        };
      }

-- the hands after a step of the view id
pub new_hand : (views : List View) (id : ℕ) (v w : View) → get_elem? views id ≡ some v → (j : ℕ) (h : Hand) → get_elem? (map hand_of views) j ≡ some h
    → ((j ≡ id) × (h ≡ v.tx.hand) × (get_elem? (map hand_of (set views id w)) j ≡ some w.tx.hand)) ⊎ ((j ≢ id) × (get_elem? (map hand_of (set views id w)) j ≡ some h))
new_hand views id v w at j h e = dite (ℕ_discrete j id)
    (λ same. let here : get_elem? (map hand_of views) id ≡ some h = rw (← same) e in
    inl (same, some-injective h v.tx.hand (sym here ∙ at_map hand_of views id v at), rw same (at_map hand_of (set views id w) id w (set_here views id w (there views id v at)))))
    (λ other. inr (other, rw (map-set hand_of views id w) (set_else (map hand_of views) id j w.tx.hand other ∙ e)))

-- where the number in a view's hand stays, each lock that covers a number still has its owner
pub owned_on : (z : Setup) (hist : History) (lock : ℕ → Hold) (thread : ℕ → ℕ) (clock : ℕ) (locks : List ℕ) (views : List View) (id : ℕ) (v w : View) → get_elem? views id ≡ some v → w.tx.hand.number ≡ v.tx.hand.number
    → LocksOwned z hist lock thread clock locks (map hand_of views) → LocksOwned z hist lock thread clock locks (map hand_of (set views id w))
owned_on z hist lock thread clock locks views id v w at same k = record {
  shows = k.shows;
  upto = k.upto;
  covered = λ x i y lt f. let o = k.covered x i y lt f in ⊎_elim
      (λ s. (o.0, o.1, w.tx.hand, o.3, s.2, same ∙ (sym (ap (λ (h : Hand). h.number) s.1) ∙ o.5)))
      (λ s. (o.0, o.1, o.2, o.3, s.1, o.5))
      (new_hand views id v w at o.0 o.2 o.4);
}

-- no number is open
pub none_open : (hist pending : History) (who : ℕ → ℕ) (settled : ℕ → Bool) (clock j : ℕ) (is_open : Bool) (snapshot : ℕ) (h : Hand) → h.number ≡ 0 → h.decided ≡ false → h.void ≡ false → OpenNumber hist pending who settled clock j is_open snapshot h
none_open hist pending who settled clock j is_open snapshot h none undecided sound = record {
  numbered = λ p. absurd (omega arith);
  blank = λ _. (undecided, sound);
  undecided = λ f. absurd (let p = f.number in omega arith);
  decided = λ f. absurd (true≢false (sym f ∙ undecided));
  voided = λ f. absurd (true≢false (sym f ∙ sound));
}

-- no transaction is open, and no number
pub none_read : (z : Setup) (hist pending : History) (clock : ℕ) (x : Transaction) → x.is_open ≡ false → x.extension ≡ None → x.hand.number ≡ 0 → ReadsConfirmed z hist pending clock x
none_read z hist pending clock x closed plain none = record {
  snap = λ o. absurd (true≢false (sym o ∙ closed));
  extended = λ s e. absurd (let f : None ≡ Some s = sym plain ∙ e in cc);
  valid = λ f. absurd (let p = f.number in omega arith);
}

-- a view that has done nothing, where no lock is its own
pub new_knows : (z : Setup) (q : Claims) (clock j : ℕ) → ((i u : ℕ) → q.lock i ≡ taken j u → ⊥) → ((i u : ℕ) → q.lock i ≡ writing j u → ⊥) → Knows z q clock j None (newcomer z 0 0).tx
new_knows z q clock j free calm = record {
  owns = record {
    owns = λ i o e. absurd (let f : None ≡ Some o = e in cc);
    has_taken = λ i u e. absurd (free i u e);
    has_writing = λ i u e. absurd (calm i u e);
    owner = λ i o e. absurd (let f : None ≡ Some o = e in cc);
    inside = λ i o e. absurd (let f : None ≡ Some o = e in cc);
  };
  number = none_open _ _ _ _ _ _ _ _ _ refl refl refl;
  apart = record { apart = λ e. absurd (true≢false (sym e)) };
  confirmed = none_read _ _ _ _ _ refl refl refl;
  look = record {
    looked = λ i y u e _. absurd (let f : None ≡ Some (i, y) = e in cc);
    waits = λ i x e. absurd (let f : None ≡ Some (i, x) = e in cc);
  };
}

pub my_hand : (views : List View) (id : ℕ) (v w : View) → get_elem? views id ≡ some v → get_elem? (map hand_of (set views id w)) id ≡ some w.tx.hand
my_hand views id v w at = at_map hand_of (set views id w) id w (set_here views id w (there views id v at))

module _ (z : Setup) (q : Claims) (thread : ℕ → ℕ) (clock : ℕ) (locks : List ℕ) (views : List View) (k : LocksKept z q thread clock locks views) (id : ℕ) (v w : View) (at : get_elem? views id ≡ some v) where
  pub together : (r : Claims) (thread2 : ℕ → ℕ) (clock2 : ℕ) (locks2 : List ℕ)
      → LocksOwned z r.hist r.lock thread2 clock2 locks2 (map hand_of (set views id w)) → UndecidedExclusive z r.pending r.lock (map hand_of (set views id w)) → NumbersBounded z r.hist r.pending clock2 locks2
      → Moves z id clock q clock2 r → Knows z r clock2 id w.part.thread w.tx → clock2 + total draws_of (set views id w) ≤ MAX_NUMBER
      → LocksKept z r thread2 clock2 locks2 (set views id w)
  together r thread2 clock2 locks2 owned undecided numbers moves mine bounded = record {
    owned = owned;
    undecided = undecided;
    numbers = numbers;
    each = λ j u e. ⊎_elim
        (λ t. subst (λ (y : View). Knows z r clock2 j y.part.thread y.tx) t.1 (rw t.0 mine))
        (λ t. stays z id clock clock2 q r moves j u.part.thread u.tx t.0 (k.each j u t.1))
        (at_set views id j w u e);
    seated = λ i j u e. let n = length-set views id w in dite (ℕ_discrete j id)
        (λ s. let p = there views id v at in omega arith)
        (λ o. let p = k.seated i j u (⊎_elim (λ t. inl (moves.taken_back j i u o t)) (λ t. inr (moves.owner_back j i u o t)) e) in omega arith);
    bounded = bounded;
  }

  -- a view changes, but for its hand and its draws
  pub alone : w.tx.hand ≡ v.tx.hand → w.draws ≡ v.draws → Knows z q clock id w.part.thread w.tx → LocksKept z q thread clock locks (set views id w)
  alone same draws mine =
      let hands : map hand_of (set views id w) ≡ map hand_of views = unmoved hand_of views id v w at same in
      let sums = total_set draws_of views id v w at in
      record {
        owned = rw hands k.owned;
        undecided = rw hands k.undecided;
        numbers = k.numbers;
        each = λ j u e. ⊎_elim (λ t. subst (λ (y : View). Knows z q clock j y.part.thread y.tx) t.1 (rw t.0 mine)) (λ t. k.each j u t.1) (at_set views id j w u e);
        seated = λ i j u e. let s = k.seated i j u e in let n = length-set views id w in omega arith;
        bounded = let b = k.bounded in omega arith;
      }
