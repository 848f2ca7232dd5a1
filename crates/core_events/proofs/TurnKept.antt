-- The layer of the turn and of boxes is kept.
use Rattle.std.proofs.Common.{◌≡◌, ◌≢◌, ℕ, ◌+◌, ◌%◌, ◌<◌, ◌≤◌, ◌⊎◌, ◌==◌, Bool, true, false, List, [], ◌∷◌, ◌++◌, get_or, set, map, refl, sym, ap, ◌∙◌, subst, ⊎_elim, eq-eqb, ne_eqb, arith, length-set, get_or-set_other, mod-lt}
use Rattle.std.specs.Prelude.{Option, Some, None, max, if◌then◌else◌}
use Rattle.std.proofs.lemmas.Bool.{true≢false}
use Rattle.std.proofs.lemmas.List.{map-set, set-get_or}
use mathlib.Core.Option.{some, some-injective}
use mathlib.Core.Logic.{dite}
use native.Mathlib.Decide.{ℕ_discrete}
use lib.ListN.{get_elem?}
use Rattle.core_events.specs.Setups.{Setup, box_of}
use Rattle.core_events.specs.Keyed.{find, without, has, or_else}
use Rattle.core_events.specs.Views.{Transaction, Boxes, Turn, View}
use Rattle.core_events.specs.Words.{State, found}
use Rattle.core_events.specs.Events.{Event, number, extend, check, take, draw, see_box, post, take_turn, give_turn, see_full, empty_box, raise_durable, raise_reproduced, name, looked_word, next_box, is_good, all_checked, reaching, extending, validating, checking, taking, forgetting, turning, view_after}
use Rattle.core_events.specs.Conditions.{IsAllowed, after}
use Rattle.core_events.specs.Partings.{newcomer, left_of, both_of, spent, MaySplit, MayJoin, split, join}
use Rattle.core_events.specs.Ghosts.{Ghost}
use Rattle.core_events.specs.KeptThreads.{part_of}
use Rattle.core_events.specs.KeptTurn.{Holder, holder_of, TurnHeld, KnowsTurn, TurnKept}
use Rattle.core_events.specs.Layers.{ThreadsIn, LocksIn}
use Rattle.core_events.proofs.Lists.{at_set, at_snoc, set_here, set_else, there, at_map, of_map, unmoved, each_set, find_cons, find_gone, find_without}
use Rattle.core_events.proofs.Threads.{at_longer}
use Rattle.core_events.proofs.Boxes.{box_same, zero_stays}

-- ---- what a check and a taking leave of the number
pub checking_number : (z : Setup) (o : Option (ℕ × ℕ)) (s thread : Option ℕ) (k n : ℕ) (x : Transaction) → (checking z o s thread k n x).hand.number ≡ x.hand.number
checking_number z (Some p) s thread k n x = refl
checking_number z None (Some s) thread k n x = extended (is_good thread x.snapshot n)
  where
    extended : (b : Bool) → (extending z b s k x).hand.number ≡ x.hand.number
    extended true = reached (all_checked z (k ∷ x.checked) x.reads)
      where
        reached : (b : Bool) → (reaching b s (record x { checked = k ∷ x.checked })).hand.number ≡ x.hand.number
        reached true = refl
        reached false = refl
    extended false = refl
checking_number z None None thread k n x = validated (is_good thread x.snapshot n)
  where
    validated : (b : Bool) → (validating b k x).hand.number ≡ x.hand.number
    validated true = refl
    validated false = refl

pub taking_number : (b : Bool) (k n : ℕ) (x : Transaction) → (taking b k n x).hand.number ≡ x.hand.number
taking_number true k n x = refl
taking_number false k n x = refl

pub reaching_number : (b : Bool) (s : ℕ) (x : Transaction) → (reaching b s x).hand.number ≡ x.hand.number
reaching_number true s x = refl
reaching_number false s x = refl

-- a view that took the turn
abbrev pub won : View → View
won v = record v { paging = forgetting true v.paging; turn = turning true v.turn }

module _ (z : Setup) where
  -- a state whose words of this layer are as they were, and a view that knows as much of them
  turn_rest : (c d : State) (id : ℕ) (v w : View) → TurnKept z c → get_elem? c.views id ≡ some v → d.turn ≡ c.turn → d.durable ≡ c.durable → d.reproduced ≡ c.reproduced → d.boxes ≡ c.boxes → d.views ≡ set c.views id w
      → holder_of w ≡ holder_of v → c.clock ≤ d.clock → KnowsTurn z c.boxes c.durable w → TurnKept z d
  turn_rest c d id v w k at turn durable reproduced boxes views same up knows =
      let holders : map holder_of d.views ≡ map holder_of c.views = ap (map holder_of) views ∙ unmoved holder_of c.views id v w at same in
      record {
        turn = rw (holders, turn) k.turn;
        durable = record {
          from = rw reproduced k.durable.from;
          ordered = (let o = k.durable.ordered in omega arith);
          durable_from = rw durable k.durable.durable_from;
          drawn = (let o = k.durable.drawn in omega arith);
        };
        sized = rw boxes k.sized;
        some_box = k.some_box;
        each = λ j u e. rw (boxes, durable) (each_set (λ j u. KnowsTurn z c.boxes c.durable u) c.views id w knows (λ j u other at2. k.each j u at2) j u (rw (← views) e));
      }

  -- only one view has the turn
  pub one_holder : (g : Ghost) (c : State) → ThreadsIn z g c → TurnKept z c → (i j : ℕ) (u v : View) → get_elem? c.views i ≡ some u → get_elem? c.views j ≡ some v → u.turn.has_it ≡ true → v.turn.has_it ≡ true → i ≡ j
  one_holder g c s k i j u v at_u at_v hu hv =
      let a = k.turn.holds i (holder_of u) (at_map holder_of c.views i u at_u) hu in let b = k.turn.holds j (holder_of v) (at_map holder_of c.views j v at_v) hv in
      let mine = s.mine i a.0 u.part (at_map part_of c.views i u at_u) a.1 in let theirs = s.mine j b.0 v.part (at_map part_of c.views j v at_v) b.1 in
      let same : a.0 ≡ b.0 = (let e = a.2 in let f = b.2 in omega arith) in
      sym mine.1 ∙ (ap g.home same ∙ theirs.1)

  module _ (g : Ghost) (c : State) (s : ThreadsIn z g c) (k : TurnKept z c) (id : ℕ) (v : View) (at : get_elem? c.views id ≡ some v) where
    abbrev m : KnowsTurn z c.boxes c.durable v
    m = k.each id v at

    abbrev here : get_elem? (map holder_of c.views) id ≡ some (holder_of v)
    here = at_map holder_of c.views id v at

    -- the holders after the view became w: it is w's, or that of another view
    new_holder : (w : View) (j : ℕ) (h : Holder) → get_elem? (map holder_of (set c.views id w)) j ≡ some h → ((j ≡ id) × (holder_of w ≡ h)) ⊎ ((j ≢ id) × (get_elem? (map holder_of c.views) j ≡ some h))
    new_holder w j h e = at_set (map holder_of c.views) id j (holder_of w) h (rw (← map-set holder_of c.views id w) e)

    -- one that has the turn is not another's, where this view has it
    only_mine : v.turn.has_it ≡ true → (j : ℕ) (h : Holder) → j ≢ id → get_elem? (map holder_of c.views) j ≡ some h → h.has_it ≡ true → ⊥
    only_mine has j h other e his =
        let u = of_map holder_of c.views j h e in
        other (one_holder g c s k j id u.0 v u.1 at (ap (λ (y : Holder). y.has_it) u.2 ∙ his) has)

    -- a view without a thread's number gets one
    number_turn : (t : ℕ) → v.part.thread ≡ None → TurnHeld c.turn (map holder_of (set c.views id (view_after z number v t)))
    number_turn t none_yet =
        let no_turn : v.turn.has_it ≡ true → ⊥ = λ e. let a = k.turn.holds id (holder_of v) here e in let f : None ≡ Some a.0 = sym none_yet ∙ a.1 in cc in
        record {
          holds = λ j h e has. ⊎_elim (λ y. absurd (no_turn (ap (λ (x : Holder). x.has_it) y.1 ∙ has))) (λ y. k.turn.holds j h y.1 has) (new_holder (view_after z number v t) j h e);
          held = λ pos. let a = k.turn.held pos in
              let other : a.0 ≢ id = λ e. no_turn (ap (λ (x : Holder). x.has_it) (some-injective (holder_of v) a.1 (sym here ∙ (ap (get_elem? (map holder_of c.views)) (sym e) ∙ a.2))) ∙ a.3) in
              (a.0, a.1, rw (map-set holder_of c.views id (view_after z number v t)) (set_else (map holder_of c.views) id a.0 (holder_of (view_after z number v t)) other ∙ a.2), a.3);
        }

    -- the turn is taken, where the word was 0
    taken_turn : (w : View) (t : ℕ) → c.turn ≡ 0 → w.part.thread ≡ Some t → w.turn.has_it ≡ true → TurnHeld (t + 1) (map holder_of (set c.views id w))
    taken_turn w t zero_word thread has = record {
      holds = λ j h e his. ⊎_elim
          (λ y. (t, ap (λ (x : Holder). x.thread) (sym y.1) ∙ thread, refl))
          (λ y. absurd (let a = k.turn.holds j h y.1 his in let b = a.2 in omega arith))
          (new_holder w j h e);
      held = λ pos. (id, holder_of w, rw (map-set holder_of c.views id w) (set_here (map holder_of c.views) id (holder_of w) (there (map holder_of c.views) id (holder_of v) here)), has);
    }

    given_turn : (w : View) → v.turn.has_it ≡ true → w.turn.has_it ≡ false → TurnHeld 0 (map holder_of (set c.views id w))
    given_turn w had not_now = record {
      holds = λ j h e his. ⊎_elim
          (λ y. absurd (true≢false (sym (ap (λ (x : Holder). x.has_it) y.1 ∙ his) ∙ not_now)))
          (λ y. absurd (only_mine had j h y.0 y.1 his))
          (new_holder w j h e);
      held = λ pos. absurd (omega arith);
    }

    -- the holders stay
    same_turn : (w : View) → holder_of w ≡ holder_of v → TurnHeld c.turn (map holder_of (set c.views id w))
    same_turn w same = rw (unmoved holder_of c.views id v w at same) k.turn

    -- what the others know, where a box word changes: no other view saw that box empty, or it is 0 now; none keeps another number of it
    others_know : (boxes2 : List ℕ) (durable2 : ℕ) → c.durable ≤ durable2
        → ((j t p : ℕ) (u : View) → j ≢ id → get_elem? c.views j ≡ some u → u.part.thread ≡ Some t → p < z.boxes → get_or c.boxes (box_of z t p) 0 ≡ 0 → get_or boxes2 (box_of z t p) 0 ≡ 0)
        → ((j b n : ℕ) (u : View) → j ≢ id → get_elem? c.views j ≡ some u → u.turn.has_it ≡ true → get_or c.boxes b 0 ≡ n → 0 < n → get_or boxes2 b 0 ≡ n)
        → (j : ℕ) (u : View) → j ≢ id → get_elem? c.views j ≡ some u → KnowsTurn z boxes2 durable2 u
    others_know boxes2 durable2 up zeros full j u other at2 =
        let y = k.each j u at2 in record {
          seen = record {
            place = y.seen.place;
            empty = λ e. let a = y.seen.empty e in (a.0, a.1, zeros j a.0 u.box.next u other at2 a.1 y.seen.place a.2);
            drawn = y.seen.drawn;
            full_with = λ has b n e. let a = y.seen.full_with has b n e in (full j b n u other at2 has a.0 a.1, a.1);
          };
          raised = let r = y.raised in omega arith;
        }

  -- the box k gets another word
  post_turn : (g : Ghost) (c : State) (s : ThreadsIn z g c) (k : TurnKept z c) (id t : ℕ) (v w : View) → get_elem? c.views id ≡ some v → v.part.thread ≡ Some t → v.box.is_empty ≡ true → (n : ℕ)
      → holder_of w ≡ holder_of v → w.tx.hand.number ≡ 0 → w.box ≡ record { next = (v.box.next + 1) % z.boxes; is_empty = false } → w.turn ≡ v.turn
      → (d : State) → d.turn ≡ c.turn → d.durable ≡ c.durable → d.reproduced ≡ c.reproduced → d.boxes ≡ set c.boxes (next_box z v) n → d.views ≡ set c.views id w → c.clock ≤ d.clock → TurnKept z d
  post_turn g c s k id t v w at thread empty n same none_now box turn_same d turn durable reproduced boxes views up =
      let m = k.each id v at in let b : ℕ = next_box z v in
      let e0 = m.seen.empty empty in
      let t_is : e0.0 ≡ t = (let f : Some e0.0 ≡ Some t = sym e0.1 ∙ thread in cc) in
      let b_is : b ≡ box_of z t v.box.next = ap (λ (o : Option ℕ). box_of z (or_else o 0) v.box.next) thread in
      let was_zero : get_or c.boxes b 0 ≡ 0 = ap (λ (y : ℕ). get_or c.boxes y 0) (b_is ∙ ap (λ (y : ℕ). box_of z y v.box.next) (sym t_is)) ∙ e0.2 in
      let boxes2 : List ℕ = set c.boxes b n in
      let other_full : (a x : ℕ) → get_or c.boxes a 0 ≡ x → 0 < x → get_or boxes2 a 0 ≡ x = λ a x e pos. get_or-set_other c.boxes b a n 0 (λ f. absurd (let y : get_or c.boxes a 0 ≡ 0 = ap (λ (y : ℕ). get_or c.boxes y 0) f ∙ was_zero in omega arith)) ∙ e in
      let mine : KnowsTurn z boxes2 c.durable w = record {
        seen = record {
          place = rw box (mod-lt (v.box.next + 1) k.some_box);
          empty = λ e. absurd (true≢false (sym e ∙ ap (λ (y : Boxes). y.is_empty) box));
          drawn = λ pos. absurd (omega arith);
          full_with = λ has a x e. let y = m.seen.full_with (ap (λ (y : Turn). y.has_it) (sym turn_same) ∙ has) a x (ap (λ (y : Turn). find y.full a) (sym turn_same) ∙ e) in (other_full a x y.0 y.1, y.1);
        };
        raised = rw turn_same m.raised;
      } in
      record {
        turn = rw (ap (map holder_of) views, turn) (same_turn g c s k id v at w same);
        durable = record {
          from = rw reproduced k.durable.from;
          ordered = (let o = k.durable.ordered in omega arith);
          durable_from = rw durable k.durable.durable_from;
          drawn = (let o = k.durable.drawn in omega arith);
        };
        sized = rw boxes (length-set c.boxes b n ∙ k.sized);
        some_box = k.some_box;
        each = λ j u e. rw (boxes, durable) (each_set (λ j u. KnowsTurn z boxes2 c.durable u) c.views id w mine
            (others_know g c s k id v at boxes2 c.durable (omega arith)
            (λ j t2 p u other at2 th lp zero_there. get_or-set_other c.boxes b (box_of z t2 p) n 0 (λ f.
            let same_box = box_same z.boxes t2 t p v.box.next lp m.seen.place (f ∙ b_is) in
            let a1 = s.mine j t2 u.part (at_map part_of c.views j u at2) th in let a2 = s.mine id t v.part (at_map part_of c.views id v at) thread in
            other (sym a1.1 ∙ (ap g.home same_box.0 ∙ a2.1))) ∙ zero_there)
            (λ j a x u other at2 has e pos. other_full a x e pos))
            j u (rw (← views) e));
      }

  pub turn_keep : (e : Event) (c : State) (id : ℕ) (v : View) (g : Ghost) → ThreadsIn z g c → LocksIn z g c → TurnKept z c → IsAllowed z c id e v → TurnKept z (after z c id v e)
  turn_keep number c id v g s l0 k a =
      let w : View = view_after z number v c.threads in let m = k.each id v a.is_there in record {
        turn = number_turn g c s k id v a.is_there c.threads a.may.can;
        durable = record { from = k.durable.from; ordered = k.durable.ordered; durable_from = k.durable.durable_from; drawn = k.durable.drawn };
        sized = k.sized;
        some_box = k.some_box;
        each = each_set (λ j u. KnowsTurn z c.boxes c.durable u) c.views id w (record {
          seen = record {
            place = m.seen.place;
            empty = λ e. absurd (let y = m.seen.empty e in let none_yet : v.part.thread ≡ None = a.may.can in let f : None ≡ Some y.0 = sym none_yet ∙ y.1 in cc);
            drawn = m.seen.drawn;
            full_with = m.seen.full_with;
          };
          raised = m.raised;
        }) (λ j u other at2. k.each j u at2);
      }
  turn_keep extend c id v g s l0 k a =
      let m = k.each id v a.is_there in let same = reaching_number (all_checked z [] v.tx.reads) c.clock (record v.tx { checked = []; loaded = None }) in
      turn_rest c (after z c id v extend) id v (view_after z extend v c.clock) k a.is_there refl refl refl refl refl refl (omega arith)
      record { seen = rw same m.seen; raised = m.raised }
  turn_keep (check l) c id v g s l0 k a =
      let m = k.each id v a.is_there in let n : ℕ = get_or c.locks l 0 in
      turn_rest c (after z c id v (check l)) id v (view_after z (check l) v n) k a.is_there refl refl refl refl refl refl (omega arith)
      record { seen = rw (checking_number z v.tx.loaded v.tx.extension v.part.thread l n v.tx) m.seen; raised = m.raised }
  turn_keep (take l) c id v g s l0 k a =
      let m = k.each id v a.is_there in let n : ℕ = get_or c.locks l 0 in
      turn_rest c (after z c id v (take l)) id v (view_after z (take l) v n) k a.is_there refl refl refl refl refl refl (omega arith)
      record { seen = rw (taking_number (n == looked_word v.tx.look) l n v.tx) m.seen; raised = m.raised }
  turn_keep (draw b ws) c id v g s l0 k a =
      let m = k.each id v a.is_there in
      turn_rest c (after z c id v (draw b ws)) id v (view_after z (draw b ws) v c.clock) k a.is_there refl refl refl refl refl refl (omega arith)
      record { seen = record { place = m.seen.place; empty = m.seen.empty; drawn = λ pos. a.may.can.box; full_with = m.seen.full_with }; raised = m.raised }
  turn_keep see_box c id v g s l0 k a =
      let m = k.each id v a.is_there in let b : ℕ = next_box z v in let n : ℕ = get_or c.boxes b 0 in let t = a.may.threaded in
      let b_is : b ≡ box_of z t.0 v.box.next = ap (λ (o : Option ℕ). box_of z (or_else o 0) v.box.next) t.1 in
      turn_rest c (after z c id v see_box) id v (view_after z see_box v n) k a.is_there refl refl refl (set-get_or c.boxes b 0) refl refl (omega arith)
      record {
        seen = record {
          place = m.seen.place;
          empty = λ e. (t.0, t.1, dite (ℕ_discrete n 0) (λ hit. ap (λ (y : ℕ). get_or c.boxes y 0) (sym b_is) ∙ hit) (λ miss. absurd (true≢false (sym e ∙ ne_eqb n 0 miss))));
          drawn = λ pos. absurd (let none_drawn = a.may.can.no_number in omega arith);
          full_with = m.seen.full_with;
        };
        raised = m.raised;
      }
  turn_keep post c id v g s l0 k a =
      let m = k.each id v a.is_there in let t = a.may.threaded in
      post_turn g c s k id t.0 v (view_after z post v (found c (name z post v))) a.is_there t.1 (m.seen.drawn (⊎_elim (λ y. ((l0.each id v a.is_there).number.decided y).0) (λ y. ((l0.each id v a.is_there).number.voided y).0) a.may.can.0)) v.tx.hand.number refl refl refl refl (after z c id v post) refl refl refl refl refl (omega arith)
  turn_keep take_turn c id v g s l0 k a =
      let m = k.each id v a.is_there in let t = a.may.threaded in let n : ℕ = c.turn in
      dite (ℕ_discrete n 0)
      (λ hit. rw (eq-eqb n 0 hit) record {
        turn = subst (λ (y : ℕ). TurnHeld y (map holder_of (set c.views id (won v)))) (ap (λ (o : Option ℕ). or_else o 0 + 1) (sym t.1)) (taken_turn g c s k id v a.is_there (won v) t.0 hit t.1 refl);
        durable = record { from = k.durable.from; ordered = k.durable.ordered; durable_from = k.durable.durable_from; drawn = k.durable.drawn };
        sized = k.sized;
        some_box = k.some_box;
        each = each_set (λ j u. KnowsTurn z c.boxes c.durable u) c.views id (won v) (record {
          seen = record { place = m.seen.place; empty = m.seen.empty; drawn = m.seen.drawn; full_with = λ has b x e. absurd (let f : None ≡ Some x = e in cc) };
          raised = m.raised;
        }) (λ j u other at2. k.each j u at2);
      })
      (λ miss. rw (ne_eqb n 0 miss) (turn_rest c _ id v _ k a.is_there refl refl refl refl refl refl (omega arith) record { seen = m.seen; raised = m.raised }))
  turn_keep (give_turn failed) c id v g s l0 k a =
      let m = k.each id v a.is_there in let w : View = view_after z (give_turn failed) v c.turn in
      record {
        turn = given_turn g c s k id v a.is_there w a.may.can.0 refl;
        durable = record { from = k.durable.from; ordered = k.durable.ordered; durable_from = k.durable.durable_from; drawn = k.durable.drawn };
        sized = k.sized;
        some_box = k.some_box;
        each = each_set (λ j u. KnowsTurn z c.boxes c.durable u) c.views id w (record {
          seen = record { place = m.seen.place; empty = m.seen.empty; drawn = m.seen.drawn; full_with = λ has. absurd (true≢false (sym has)) };
          raised = m.raised;
        }) (λ j u other at2. k.each j u at2);
      }
  turn_keep (see_full t j) c id v g s l0 k a =
      let m = k.each id v a.is_there in let b : ℕ = box_of z t j in let n : ℕ = get_or c.boxes b 0 in
      turn_rest c (after z c id v (see_full t j)) id v (view_after z (see_full t j) v n) k a.is_there refl refl refl (set-get_or c.boxes b 0) refl refl (omega arith)
      record {
        seen = record {
          place = m.seen.place;
          empty = m.seen.empty;
          drawn = m.seen.drawn;
          full_with = λ has x y e. dite (ℕ_discrete n 0)
              (λ hit. m.seen.full_with has x y (let f : find (if n == 0 then v.turn.full else ((b, n) ∷ v.turn.full)) x ≡ Some y = e in let r = rw (eq-eqb n 0 hit) at f in r))
              (λ miss. ⊎_elim
              (λ o. (ap (λ (w : ℕ). get_or c.boxes w 0) (sym o.0) ∙ o.1, (let same = o.1 in omega arith)))
              (λ o. m.seen.full_with has x y o.1)
              (find_cons v.turn.full b n x y (let f : find (if n == 0 then v.turn.full else ((b, n) ∷ v.turn.full)) x ≡ Some y = e in let r = rw (ne_eqb n 0 miss) at f in r)));
        };
        raised = m.raised;
      }
  turn_keep (empty_box t j) c id v g s l0 k a =
      let m = k.each id v a.is_there in let b : ℕ = box_of z t j in let w : View = view_after z (empty_box t j) v (get_or c.boxes b 0) in let boxes2 : List ℕ = set c.boxes b 0 in
      record {
        turn = same_turn g c s k id v a.is_there w refl;
        durable = record { from = k.durable.from; ordered = k.durable.ordered; durable_from = k.durable.durable_from; drawn = k.durable.drawn };
        sized = length-set c.boxes b 0 ∙ k.sized;
        some_box = k.some_box;
        each = each_set (λ i u. KnowsTurn z boxes2 c.durable u) c.views id w (record {
          seen = record {
            place = m.seen.place;
            empty = λ e. let y = m.seen.empty e in (y.0, y.1, zero_stays c.boxes b (box_of z y.0 v.box.next) y.2);
            drawn = m.seen.drawn;
            full_with = λ has x y e.
                let other : x ≢ b = λ f. let r : find (without v.turn.full b) b ≡ Some y = rw f at e in let o : None ≡ Some y = sym (find_gone v.turn.full b) ∙ r in cc in
                let y2 = m.seen.full_with has x y (sym (find_without v.turn.full b x (λ f. other (sym f))) ∙ e) in
                (get_or-set_other c.boxes b x 0 0 other ∙ y2.0, y2.1);
          };
          raised = m.raised;
        })
            (others_know g c s k id v a.is_there boxes2 c.durable (omega arith)
            (λ i t2 p u other at2 th lp zero_there. zero_stays c.boxes b (box_of z t2 p) zero_there)
            (λ i x n u other at2 has e pos. absurd (other (one_holder g c s k i id u v at2 a.is_there has a.may.can))));
      }
  turn_keep (raise_durable x) c id v g s l0 k a =
      let m = k.each id v a.is_there in let w : View = view_after z (raise_durable x) v c.durable in let up = a.fits.0 in
      record {
        turn = same_turn g c s k id v a.is_there w refl;
        durable = record { from = k.durable.from; ordered = k.durable.ordered; durable_from = (let o = k.durable.durable_from in omega arith); drawn = a.fits.1 };
        sized = k.sized;
        some_box = k.some_box;
        each = each_set (λ i u. KnowsTurn z c.boxes x u) c.views id w (record {
          seen = record { place = m.seen.place; empty = m.seen.empty; drawn = m.seen.drawn; full_with = m.seen.full_with };
          raised = omega arith;
        }) (λ i u other at2. let y = k.each i u at2 in record { seen = y.seen; raised = let r = y.raised in omega arith });
      }
  turn_keep (raise_reproduced x) c id v g s l0 k a =
      let m = k.each id v a.is_there in let up = a.fits.0 in
      record {
        turn = same_turn g c s k id v a.is_there v refl;
        durable = record { from = (let o = k.durable.from in omega arith); ordered = a.fits.1; durable_from = k.durable.durable_from; drawn = k.durable.drawn };
        sized = k.sized;
        some_box = k.some_box;
        each = each_set (λ i u. KnowsTurn z c.boxes c.durable u) c.views id v m (λ i u other at2. k.each i u at2);
      }
  turn_keep e c id v g s l0 k a =
      let m = k.each id v a.is_there in
      turn_rest c (after z c id v e) id v (view_after z e v (found c (name z e v))) k a.is_there refl refl refl refl refl refl (omega arith) record { seen = m.seen; raised = m.raised }

  -- a view that has done nothing knows nothing of the turn
  fresh_knows : (boxes : List ℕ) (durable : ℕ) (u : View) → 0 < z.boxes → z.first ≤ durable → u.box ≡ record { next = 0; is_empty = false } → u.tx.hand.number ≡ 0 → u.turn.has_it ≡ false → u.turn.durable ≡ z.first → KnowsTurn z boxes durable u
  fresh_knows boxes durable u some_box from box none_drawn no_turn raised = record {
    seen = record {
      place = rw box some_box;
      empty = λ e. absurd (true≢false (sym e ∙ ap (λ (y : Boxes). y.is_empty) box));
      drawn = λ pos. absurd (omega arith);
      full_with = λ has. absurd (true≢false (sym has ∙ no_turn));
    };
    raised = omega arith;
  }

  map_snoc : (l : List View) (a : View) → map holder_of (l ++ a ∷ []) ≡ map holder_of l ++ holder_of a ∷ []
  map_snoc [] a = refl
  map_snoc (x ∷ xs) a = ap (λ (h : List Holder). holder_of x ∷ h) (map_snoc xs a)

  pub turn_split_keep : (c : State) (id draws : ℕ) (v : View) (g : Ghost) → ThreadsIn z g c → TurnKept z c → MaySplit c id v draws → TurnKept z (split z c id v draws)
  turn_split_keep c id draws v g s k may =
      let w = left_of draws v in let n = newcomer z 0 draws in let m = k.each id v may.is_there in let vs : List View = set c.views id w in
      let from : z.first ≤ c.durable = k.durable.durable_from in
      let holders : map holder_of (vs ++ n ∷ []) ≡ map holder_of c.views ++ holder_of n ∷ [] = map_snoc vs n ∙ ap (λ (l : List Holder). l ++ holder_of n ∷ []) (unmoved holder_of c.views id v w may.is_there refl) in
      record {
        turn = rw holders record {
          holds = λ j h e has. ⊎_elim (λ t. k.turn.holds j h t has) (λ t. absurd (true≢false (sym has ∙ ap (λ (y : Holder). y.has_it) (sym t.0)))) (at_snoc (map holder_of c.views) (holder_of n) h j e);
          held = λ pos. let a = k.turn.held pos in (a.0, a.1, at_longer (map holder_of c.views) (holder_of n ∷ []) a.0 a.1 a.2, a.3);
        };
        durable = record { from = k.durable.from; ordered = k.durable.ordered; durable_from = k.durable.durable_from; drawn = k.durable.drawn };
        sized = k.sized;
        some_box = k.some_box;
        each = λ j u e. ⊎_elim
            (λ t. each_set (λ i y. KnowsTurn z c.boxes c.durable y) c.views id w (record { seen = m.seen; raised = m.raised }) (λ i y other at2. k.each i y at2) j u t)
            (λ t. subst (λ (y : View). KnowsTurn z c.boxes c.durable y) t.0 (fresh_knows c.boxes c.durable n k.some_box from refl refl refl refl))
            (at_snoc vs n u j e);
      }

  max_below : (a b m : ℕ) → a ≤ m → b ≤ m → max a b ≤ m
  max_below a b m la lb = grind arith

  pub turn_join_keep : (c : State) (id other : ℕ) (v w : View) (g : Ghost) → ThreadsIn z g c → TurnKept z c → MayJoin c id v other w → TurnKept z (join z c id v other w)
  turn_join_keep c id other v w g s k may =
      let both = both_of v w in let gone = spent z in let m = k.each id v may.is_there in let m2 = k.each other w may.other_there in let vs : List View = set c.views id both in
      let from : z.first ≤ c.durable = k.durable.durable_from in
      let one : map holder_of vs ≡ map holder_of c.views = unmoved holder_of c.views id v both may.is_there refl in
      let two : map holder_of (set vs other gone) ≡ set (map holder_of c.views) other (holder_of gone) = map-set holder_of vs other gone ∙ ap (λ (l : List Holder). set l other (holder_of gone)) one in
      record {
        turn = rw two record {
          holds = λ j h e has. ⊎_elim (λ t. absurd (true≢false (sym has ∙ ap (λ (y : Holder). y.has_it) (sym t.1)))) (λ t. k.turn.holds j h t.1 has) (at_set (map holder_of c.views) other j (holder_of gone) h e);
          held = λ pos. let a = k.turn.held pos in
              let apart : a.0 ≢ other = λ e. let h = some-injective (holder_of w) a.1 (sym (at_map holder_of c.views other w may.other_there) ∙ (ap (get_elem? (map holder_of c.views)) (sym e) ∙ a.2)) in true≢false (sym (ap (λ (y : Holder). y.has_it) h ∙ a.3) ∙ may.no_turn) in
              (a.0, a.1, set_else (map holder_of c.views) other a.0 (holder_of gone) apart ∙ a.2, a.3);
        };
        durable = record { from = k.durable.from; ordered = k.durable.ordered; durable_from = k.durable.durable_from; drawn = k.durable.drawn };
        sized = k.sized;
        some_box = k.some_box;
        each = each_set (λ i y. KnowsTurn z c.boxes c.durable y) vs other gone (fresh_knows c.boxes c.durable gone k.some_box from refl refl refl refl)
            (λ j u apart at2. each_set (λ i y. KnowsTurn z c.boxes c.durable y) c.views id both (record { seen = m.seen; raised = max_below v.turn.durable w.turn.durable c.durable m.raised m2.raised }) (λ i y o at3. k.each i y at3) j u at2);
      }
