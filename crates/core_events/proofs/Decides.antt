-- A number is decided.
use Rattle.std.proofs.Common.{◌≡◌, ◌≢◌, ℕ, ◌≤◌, ◌⊎◌, List, [], get_or, set, map, refl, sym, ap, ◌∙◌, inl, inr, ⊎_elim, eq-eqb, ne_eqb, arith, true}
use Rattle.std.specs.Prelude.{Some, None}
use Rattle.std.proofs.lemmas.Bool.{true≢false}
use mathlib.Core.Option.{some}
use mathlib.Core.Logic.{dite}
use native.Mathlib.Decide.{ℕ_discrete}
use lib.ListN.{get_elem?}
use Rattle.dude_base.specs.declared.write.Write.{Write}
use Rattle.dude_base.specs.Writes.{written}
use Rattle.core_events.specs.Setups.{Setup, lock_of}
use Rattle.core_events.specs.Keyed.{change}
use Rattle.core_events.specs.Views.{Hand, Transaction, View}
use Rattle.core_events.specs.Conditions.{IsUndecided}
use Rattle.core_events.specs.Ghosts.{Hold, free, taken, writing, version, word_of, promote, Claims}
use Rattle.core_events.specs.KeptLocks.{hand_of, draws_of, Knows, LocksKept}
use Rattle.core_events.proofs.Lists.{total_set, of_map, at_change}
use Rattle.core_events.proofs.Values.{either_way}
use Rattle.core_events.proofs.Stays.{empty_list, Moves, together, new_hand, my_hand}

pub promote_mine : (id u : ℕ) → promote id (taken id u) ≡ writing id u
promote_mine id u = rw (eq-eqb id id refl) refl

pub promote_other : (id j u : ℕ) → j ≢ id → promote id (taken j u) ≡ taken j u
promote_other id j u n = rw (ne_eqb j id n) refl

pub version_promote : (id : ℕ) (h : Hold) → version (promote id h) ≡ version h
version_promote id (free u) = refl
version_promote id (taken j u) = dite (ℕ_discrete j id) (λ e. rw (eq-eqb j id e) refl) (λ n. rw (ne_eqb j id n) refl)
version_promote id (writing j u) = refl

pub word_promote : (thread : ℕ → ℕ) (id : ℕ) (h : Hold) → word_of thread (promote id h) ≡ word_of thread h
word_promote thread id (free u) = refl
word_promote thread id (taken j u) = dite (ℕ_discrete j id) (λ e. rw (eq-eqb j id e) refl) (λ n. rw (ne_eqb j id n) refl)
word_promote thread id (writing j u) = refl

pub from_taken : (id j u : ℕ) (h : Hold) → promote id h ≡ taken j u → (h ≡ taken j u) × (j ≢ id)
from_taken id j u (free x) e = absurd cc
from_taken id j u (taken i x) e = dite (ℕ_discrete i id)
    (λ s. let r : writing i x ≡ taken j u = rw (eq-eqb i id s) at e in absurd cc)
    (λ n. let r : taken i x ≡ taken j u = rw (ne_eqb i id n) at e in let same : i ≡ j = cc in (r, rw (← same) n))
from_taken id j u (writing i x) e = absurd cc

pub from_writing : (id j u : ℕ) (h : Hold) → promote id h ≡ writing j u → (h ≡ writing j u) ⊎ ((j ≡ id) × (h ≡ taken id u))
from_writing id j u (free x) e = absurd cc
from_writing id j u (taken i x) e = dite (ℕ_discrete i id)
    (λ s. let r : writing i x ≡ writing j u = rw (eq-eqb i id s) at e in let a : i ≡ j = cc in let b : x ≡ u = cc in inr (sym a ∙ s, rw (s, b) refl))
    (λ n. let r : taken i x ≡ writing j u = rw (ne_eqb i id n) at e in absurd cc)
from_writing id j u (writing i x) e = inl e

module _ (z : Setup) (q : Claims) (thread : ℕ → ℕ) (clock : ℕ) (locks : List ℕ) (views : List View) (k : LocksKept z q thread clock locks views)
    (id : ℕ) (v : View) (at : get_elem? views id ≡ some v) (und : IsUndecided v.tx.hand) where
  abbrev m : Knows z q clock id v.part.thread v.tx
  m = k.each id v at

  abbrev n : ℕ
  n = v.tx.hand.number

  abbrev ws : List Write
  ws = v.tx.hand.writes

  abbrev pub decided_claims : Claims
  decided_claims = record q {
    hist = change q.hist v.tx.hand.number v.tx.hand.writes;
    pending = change q.pending v.tx.hand.number [];
    settled = change q.settled v.tx.hand.number true;
    lock = λ i. promote id (q.lock i);
  }

  pub hist_at : (x : ℕ) → ((x ≡ n) × (decided_claims.hist x ≡ ws)) ⊎ ((x ≢ n) × (decided_claims.hist x ≡ q.hist x))
  hist_at = at_change q.hist n ws

  pub pending_at : (x : ℕ) → ((x ≡ n) × (decided_claims.pending x ≡ [])) ⊎ ((x ≢ n) × (decided_claims.pending x ≡ q.pending x))
  pending_at = at_change q.pending n []

  pub was_empty : q.hist n ≡ []
  was_empty = (m.number.undecided und).0

  pub was_waiting : q.pending n ≡ ws
  was_waiting = (m.number.undecided und).1

  pub mine : (i u : ℕ) → q.lock i ≡ taken id u → decided_claims.lock i ≡ writing id u
  mine i u e = ap (promote id) e ∙ promote_mine id u

  pub on : (i j u : ℕ) → q.lock i ≡ writing j u → decided_claims.lock i ≡ writing j u
  on i j u e = ap (promote id) e

  pub owner_else : (i j u : ℕ) → q.lock i ≡ writing j u → j ≢ id
  owner_else i j u e s = true≢false (sym (m.owns.has_writing i u (rw s at e)).0 ∙ und.not_decided)

  -- whose number it is
  same_seat : (j : ℕ) (h : Hand) → get_elem? (map hand_of views) j ≡ some h → h.number ≡ n → j ≡ id
  same_seat j h e is =
      let u = of_map hand_of views j h e in let same : u.0.tx.hand.number ≡ n = ap (λ (y : Hand). y.number) u.2 ∙ is in
      let theirs = (k.each j u.0 u.1).number.numbered (let p = und.number in omega arith) in
      sym theirs.3 ∙ (ap q.who same ∙ (m.number.numbered und.number).3)

  -- a word that it writes is under a lock of the view
  pub writes_own : (i x : ℕ) → written ws i ≡ Some x → (u : ℕ) × (q.lock (lock_of z i) ≡ taken id u)
  writes_own i x f =
      let o = k.undecided.waiting n i x (rw was_waiting f) in let j : o.0 ≡ id = same_seat o.0 o.2 o.4 o.5 in
      (o.1, o.3 ∙ ap (λ (y : ℕ). taken y o.1) j)

  pub same_where : (i : ℕ) → written ws i ≡ None → (x : ℕ) → written (decided_claims.hist x) i ≡ written (q.hist x) i
  same_where i none_here x = ⊎_elim
      (λ t. ap (λ (l : List Write). written l i) t.1 ∙ (none_here ∙ sym (ap (λ (l : List Write). written l i) (ap q.hist t.0 ∙ was_empty))))
      (λ t. ap (λ (l : List Write). written l i) t.1) (hist_at x)

  pub decide_moves : Moves z id clock q clock decided_claims
  decide_moves = record {
    clock_up = omega arith;
    version_up = λ i. let e = version_promote id (q.lock i) in omega arith;
    writing_on = λ i is. inl (is.0, is.1, on i is.0 is.1 is.2);
    taken_on = λ j i x other e. ap (promote id) e ∙ promote_other id j x other;
    taken_back = λ j i x other e. (from_taken id j x (q.lock i) e).0;
    owner_on = λ j i x other e. on i j x e;
    owner_back = λ j i x other e. ⊎_elim (λ s. s) (λ s. absurd (other s.0)) (from_writing id j x (q.lock i) e);
    changed = λ i. ⊎_elim (λ none_here. inl (λ x le. same_where i none_here x)) (λ t. let o = writes_own i t.0 t.1 in inr (id, o.0, mine (lock_of z i) o.0 o.1)) (either_way (written ws i));
    silent = λ x i le e. (
      ⊎_elim
          (λ t. ap (λ (l : List Write). written l i) t.1 ∙ ((let s : written ws i ≡ None = ap (λ (l : List Write). written l i) (sym was_waiting ∙ ap q.pending (sym t.0)) ∙ e in s) ∙ sym (ap (λ (l : List Write). written l i) (ap q.hist t.0 ∙ was_empty))))
          (λ t. ap (λ (l : List Write). written l i) t.1) (hist_at x),
      ⊎_elim (λ t. ap (λ (l : List Write). written l i) t.1) (λ t. ap (λ (l : List Write). written l i) t.1 ∙ e) (pending_at x),
    );
    others = λ x le o. let other : x ≢ n = λ e. o (ap q.who e ∙ (m.number.numbered und.number).3) in
        (⊎_elim (λ t. absurd (other t.0)) (λ t. t.1) (hist_at x), ⊎_elim (λ t. absurd (other t.0)) (λ t. t.1) (pending_at x), ⊎_elim (λ t. absurd (other t.0)) (λ t. t.1) (at_change q.settled n true x));
    who_past = λ x le. refl;
    firm = λ x le e. let other : x ≢ n = λ same. true≢false (sym e ∙ (ap q.settled same ∙ (m.number.undecided und).3)) in
        (⊎_elim (λ t. absurd (other t.0)) (λ t. t.1 ∙ e) (at_change q.settled n true x), ⊎_elim (λ t. absurd (other t.0)) (λ t. t.1) (hist_at x));
  }

  decide_knows : Knows z decided_claims clock id v.part.thread (record v.tx { hand = record v.tx.hand { decided = true } })
  decide_knows =
      let num = m.number.numbered und.number in let u = m.number.undecided und in
      let below : (x : ℕ) → x ≤ v.tx.snapshot → x ≢ n = λ x le e. let s = num.0 in omega arith in
      record {
        owns = record {
          owns = λ i o e. let r = m.owns.owns i o e in (r.0, r.1, r.2, (λ y. absurd (true≢false y)), (λ p. mine i r.0 (r.3 und.not_decided)));
          has_taken = λ i x e. absurd ((from_taken id id x (q.lock i) e).1 refl);
          has_writing = λ i x e. ⊎_elim (λ s. absurd (owner_else i id x s refl)) (λ s. (refl, (m.owns.has_taken i x s.1).1)) (from_writing id id x (q.lock i) e);
          owner = m.owns.owner;
          inside = m.owns.inside;
        };
        number = record {
          numbered = λ p. num;
          blank = λ y. absurd (let p = und.number in omega arith);
          undecided = λ f. absurd (true≢false f.not_decided);
          decided = λ f. (und.number, und.not_void, ⊎_elim (λ t. t.1) (λ t. absurd (t.0 refl)) (hist_at n), ⊎_elim (λ t. t.1) (λ t. absurd (t.0 refl)) (at_change q.settled n true n), ⊎_elim (λ t. t.1) (λ t. absurd (t.0 refl)) (pending_at n));
          voided = λ f. absurd (true≢false (sym f ∙ und.not_void));
        };
        apart = record { apart = λ o x le j d lt. ap (λ (l : List Write). written l (get_or v.tx.reads j d).0) (⊎_elim (λ t. absurd (below x le t.0)) (λ t. t.1) (pending_at x)) ∙ m.apart.apart o x le j d lt };
        confirmed = record {
          snap = m.confirmed.snap;
          extended = λ s e. absurd (let p = (m.confirmed.extended s e).2 in let r = und.number in omega arith);
          valid = λ f. absurd (true≢false f.not_decided);
        };
        look = record {
          looked = λ i y x e even. let a = m.look.looked i y x e even in let b = version_promote id (q.lock i) in omega arith;
          waits = λ i x e. absurd (let p = (m.look.waits i x e).0.no_number in let r = und.number in omega arith);
        };
      }

  pub decide_keeps : (w : View) → w.tx ≡ record v.tx { hand = record v.tx.hand { decided = true } } → w.part ≡ v.part → w.draws ≡ v.draws → LocksKept z decided_claims thread clock locks (set views id w)
  decide_keeps w tx part draws =
      let b = k.numbers in let num = m.number.numbered und.number in
      let hand_on : (j : ℕ) (h : Hand) → j ≢ id → get_elem? (map hand_of views) j ≡ some h → get_elem? (map hand_of (set views id w)) j ≡ some h
      = λ j h o e. ⊎_elim (λ t. absurd (o t.0)) (λ t. t.1) (new_hand views id v w at j h e) in
      let mine_now : get_elem? (map hand_of (set views id w)) id ≡ some w.tx.hand = my_hand views id v w at in
      let same : w.tx.hand.number ≡ n = ap (λ (y : Transaction). y.hand.number) tx in
      let sums = total_set draws_of views id v w at in
      together z q thread clock locks views k id v w at decided_claims thread clock locks
      record {
        shows = λ i lt. k.owned.shows i lt ∙ sym (word_promote thread id (q.lock i));
        upto = λ i. let e = version_promote id (q.lock i) in let le = k.owned.upto i in omega arith;
        covered = λ x i y lt f. let e = version_promote id (q.lock (lock_of z i)) in ⊎_elim
            (λ t. let o = writes_own i y (rw t.1 at f) in (id, o.0, w.tx.hand, mine (lock_of z i) o.0 o.1, mine_now, same ∙ sym t.0))
            (λ t. let o = k.owned.covered x i y (omega arith) (rw t.1 at f) in (o.0, o.1, o.2, on (lock_of z i) o.0 o.1 o.3, hand_on o.0 o.2 (owner_else (lock_of z i) o.0 o.1 o.3) o.4, o.5))
            (hist_at x);
      }
      record {
        waiting = λ x i y f. ⊎_elim
            (λ t. absurd (let s : written [] i ≡ Some y = rw t.1 at f in cc))
            (λ t. let o = k.undecided.waiting x i y (rw t.1 at f) in let other : o.0 ≢ id = λ s. ⊎_elim (λ r. t.0 (sym o.5 ∙ ap (λ (h : Hand). h.number) r.1)) (λ r. r.0 s) (new_hand views id v v at o.0 o.2 o.4) in
            (o.0, o.1, o.2, ap (promote id) o.3 ∙ promote_other id o.0 o.1 other, hand_on o.0 o.2 other o.4, o.5, o.6))
            (pending_at x);
      }
      record {
        some_lock = b.some_lock;
        from = b.from;
        sized = b.sized;
        later = λ x lt. let other : x ≢ n = λ e. let le = num.1 in omega arith in
            (⊎_elim (λ t. absurd (other t.0)) (λ t. t.1 ∙ (b.later x lt).0) (hist_at x), ⊎_elim (λ t. absurd (other t.0)) (λ t. t.1 ∙ (b.later x lt).1) (pending_at x));
        before = λ x le. let other : x ≢ n = λ e. let s = (m.confirmed.snap num.2).0 in let lt = num.0 in omega arith in
            (⊎_elim (λ t. absurd (other t.0)) (λ t. t.1 ∙ (b.before x le).0) (hist_at x), ⊎_elim (λ t. absurd (other t.0)) (λ t. t.1 ∙ (b.before x le).1) (pending_at x));
        inside = λ x i y e. ⊎_elim
            (λ f. ⊎_elim (λ t. b.inside n i y (inr (rw was_waiting (rw t.1 at f)))) (λ t. b.inside x i y (inl (rw t.1 at f))) (hist_at x))
            (λ f. ⊎_elim (λ t. absurd (let s : written [] i ≡ Some y = rw t.1 at f in cc)) (λ t. b.inside x i y (inr (rw t.1 at f))) (pending_at x)) e;
        lists = λ x. (⊎_elim (λ t. rw (t.1, ← was_waiting) (b.lists n).1) (λ t. rw t.1 (b.lists x).0) (hist_at x), ⊎_elim (λ t. rw t.1 empty_list) (λ t. rw t.1 (b.lists x).1) (pending_at x));
      }
      decide_moves
      (rw (tx, part) decide_knows)
      (let b = k.bounded in omega arith)
