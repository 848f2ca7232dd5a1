-- A number is drawn, with its writes, undecided.
use Rattle.std.proofs.Common.{◌≡◌, ◌≢◌, ℕ, ◌+◌, ◌*◌, ◌<◌, ◌≤◌, List, get_or, set, map, refl, sym, ap, ◌∙◌, inl, inr, ⊎_elim, arith, false, All}
use Rattle.std.specs.Prelude.{Some, None}
use Rattle.std.proofs.lemmas.Bool.{true≢false}
use mathlib.Core.Option.{some}
use mathlib.Core.Logic.{dite}
use native.Mathlib.Decide.{dec_lt}
use lib.ListN.{get_elem?}
use Rattle.dude_base.specs.declared.limits.TheConstants.{PAGE}
use Rattle.dude_base.specs.declared.write.Write.{Write}
use Rattle.dude_base.specs.Writes.{written}
use Rattle.dude_base.proofs.WriteLists.{written_absent}
use Rattle.core_events.specs.Setups.{Setup, lock_of}
use Rattle.core_events.specs.Keyed.{change}
use Rattle.core_events.specs.Views.{About, Hand, View}
use Rattle.core_events.specs.Events.{draw, view_after}
use Rattle.core_events.specs.Conditions.{MayDraw}
use Rattle.core_events.specs.Ghosts.{writing, Claims}
use Rattle.core_events.specs.KeptLocks.{hand_of, draws_of, Knows, LocksKept}
use Rattle.core_events.proofs.Lists.{total_set, at_change}
use Rattle.core_events.proofs.Stays.{Moves, together, new_hand, my_hand}

-- a word that is written has a place that all places' property holds of
pub written_has : (P : ℕ → Type 0) (ws : List Write) (i x : ℕ) → All (λ w. P w.at) ws → written ws i ≡ Some x → (P i → ⊥) → ⊥
written_has P ws i x all e never =
    let absent : All (λ (w : Write). w.at ≢ i) ws = λ j d lt s. never (rw (← s) (all j d lt)) in
    let f : None ≡ Some x = sym (written_absent ws i absent) ∙ e in cc

module _ (z : Setup) (q : Claims) (thread : ℕ → ℕ) (clock : ℕ) (locks : List ℕ) (views : List View) (k : LocksKept z q thread clock locks views)
    (id : ℕ) (v : View) (at : get_elem? views id ≡ some v) (a : About) (ws : List Write) (can : MayDraw z ws v) where
  abbrev m : Knows z q clock id v.part.thread v.tx
  m = k.each id v at

  abbrev n : ℕ
  n = clock + 1

  abbrev w : View
  w = view_after z (draw a ws) v clock

  abbrev pub drawn_claims : Claims
  drawn_claims = record q { pending = change q.pending n ws; who = change q.who n id; settled = change q.settled n false }

  calm : v.tx.hand.decided ≡ false
  calm = (m.number.blank can.steady.undrawn.no_number).0

  past : (x : ℕ) → x ≤ clock → drawn_claims.pending x ≡ q.pending x
  past x le = ⊎_elim (λ s. absurd (let e = s.0 in omega arith)) (λ s. s.1) (at_change q.pending n ws x)

  settled_past : (x : ℕ) → x ≤ clock → drawn_claims.settled x ≡ q.settled x
  settled_past x le = ⊎_elim (λ s. absurd (let e = s.0 in omega arith)) (λ s. s.1) (at_change q.settled n false x)

  who_past : (x : ℕ) → x ≤ clock → drawn_claims.who x ≡ q.who x
  who_past x le = ⊎_elim (λ s. absurd (let e = s.0 in omega arith)) (λ s. s.1) (at_change q.who n id x)

  owner_else : (i j u : ℕ) → q.lock i ≡ writing j u → j ≢ id
  owner_else i j u e s = true≢false (sym (m.owns.has_writing i u (rw s at e)).0 ∙ calm)

  hand_on : (j : ℕ) (h : Hand) → j ≢ id → get_elem? (map hand_of views) j ≡ some h → get_elem? (map hand_of (set views id w)) j ≡ some h
  hand_on j h o e = ⊎_elim (λ s. absurd (o s.0)) (λ s. s.1) (new_hand views id v w at j h e)

  pub draw_moves : Moves z id clock q n drawn_claims
  draw_moves = record {
    clock_up = omega arith;
    version_up = λ i. omega arith;
    writing_on = λ i is. inl is;
    taken_on = λ j i x o e. e;
    taken_back = λ j i x o e. e;
    owner_on = λ j i x o e. e;
    owner_back = λ j i x o e. e;
    changed = λ i. inl (λ x le. refl);
    silent = λ x i le e. (refl, ap (λ (l : List Write). written l i) (past x le) ∙ e);
    others = λ x le o. (refl, past x le, settled_past x le);
    who_past = who_past;
    firm = λ x le e. (settled_past x le ∙ e, refl);
  }

  draw_knows : Knows z drawn_claims n id w.part.thread w.tx
  draw_knows =
      let opened = can.steady.undrawn.is_open in let snap = (m.confirmed.snap opened).1 in let low = (m.confirmed.snap opened).0 in
      record {
        owns = record {
          owns = λ i o e. let s = m.owns.owns i o e in (s.0, s.1, s.2, (λ y. s.3 calm), (λ p. absurd (true≢false (sym p))));
          has_taken = λ i x e. (refl, (m.owns.has_taken i x e).1);
          has_writing = λ i x e. absurd (true≢false (sym (m.owns.has_writing i x e).0 ∙ calm));
          owner = m.owns.owner;
          inside = m.owns.inside;
        };
        number = record {
          numbered = λ p. (omega arith, omega arith, opened, ⊎_elim (λ s. s.1) (λ s. absurd (s.0 refl)) (at_change q.who n id n));
          blank = λ y. absurd (omega arith);
          undecided = λ f. (
            (k.numbers.later n (omega arith)).0,
            ⊎_elim (λ s. s.1) (λ s. absurd (s.0 refl)) (at_change q.pending n ws n),
            refl,
            ⊎_elim (λ s. s.1) (λ s. absurd (s.0 refl)) (at_change q.settled n false n),
          );
          decided = λ f. absurd (true≢false (sym f));
          voided = λ f. absurd (true≢false (sym f));
        };
        apart = record { apart = λ o x le j d lt. ap (λ (l : List Write). written l (get_or v.tx.reads j d).0) (past x (omega arith)) ∙ m.apart.apart o x le j d lt };
        confirmed = record {
          snap = λ o. (low, omega arith);
          extended = λ s e. absurd (let f : None ≡ Some s = sym can.steady.no_extension ∙ e in cc);
          valid = λ f i x c2. absurd (true≢false (sym c2));
        };
        look = record { looked = m.look.looked; waits = λ i x e. absurd (let f : None ≡ Some (i, x) = e in cc) };
      }

  pub draw_keeps : LocksKept z drawn_claims thread n locks (set views id w)
  draw_keeps =
      let b = k.numbers in let sums = total_set draws_of views id v w at in let none_yet = can.steady.undrawn.no_number in
      together z q thread clock locks views k id v w at drawn_claims thread n locks
      record {
        shows = k.owned.shows;
        upto = λ i. let le = k.owned.upto i in omega arith;
        covered = λ x i y lt f. let o = k.owned.covered x i y lt f in (o.0, o.1, o.2, o.3, hand_on o.0 o.2 (owner_else (lock_of z i) o.0 o.1 o.3) o.4, o.5);
      }
      record {
        waiting = λ x i y f. ⊎_elim
            (λ s. let o = can.owned i y (rw s.1 at f) in let r = m.owns.owns (lock_of z i) o.0 o.1 in (id, r.0, w.tx.hand, r.3 calm, my_hand views id v w at, sym s.0, (let e = s.0 in omega arith)))
            (λ s. let o = k.undecided.waiting x i y (rw s.1 at f) in ⊎_elim
            (λ r. absurd (let e : v.tx.hand.number ≡ x = ap (λ (h : Hand). h.number) (sym r.1) ∙ o.5 in let p = o.6 in omega arith))
            (λ r. (o.0, o.1, o.2, o.3, r.1, o.5, o.6)) (new_hand views id v w at o.0 o.2 o.4))
            (at_change q.pending n ws x);
      }
      record {
        some_lock = b.some_lock;
        from = (let s = b.from in omega arith);
        sized = b.sized;
        later = λ x lt. ((b.later x (omega arith)).0, ⊎_elim (λ s. absurd (let e = s.0 in omega arith)) (λ s. s.1 ∙ (b.later x (omega arith)).1) (at_change q.pending n ws x));
        before = λ x le. ((b.before x le).0, ⊎_elim (λ s. absurd (let e = s.0 in let r = b.from in omega arith)) (λ s. s.1 ∙ (b.before x le).1) (at_change q.pending n ws x));
        inside = λ x i y e. ⊎_elim
            (λ f. b.inside x i y (inl f))
            (λ f. ⊎_elim
            (λ s. dite (dec_lt i (z.pages * PAGE)) (λ lt. lt) (λ over. absurd (written_has (λ (p : ℕ). p < z.pages * PAGE) ws i y can.inside (rw s.1 at f) over)))
            (λ s. b.inside x i y (inr (rw s.1 at f)))
            (at_change q.pending n ws x)) e;
        lists = λ x. ((b.lists x).0, ⊎_elim (λ s. rw s.1 can.list) (λ s. rw s.1 (b.lists x).1) (at_change q.pending n ws x));
      }
      draw_moves draw_knows
      (let s = k.bounded in let p = can.draw_left in omega arith)
