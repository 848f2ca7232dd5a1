-- The layer of order is kept.
use Rattle.std.proofs.Common.{◌≡◌, ◌≢◌, ℕ, ◌+◌, ◌<◌, ◌⊎◌, ◌==◌, List, [], get_or, set, refl, sym, ap, ◌∙◌, inl, inr, ⊎_elim, arith, subst, get_or-set_other, mod-eq_of_lt}
use Rattle.std.specs.Prelude.{Option, Some, None}
use Rattle.std.proofs.lemmas.List.{set-get_or}
use Rattle.std.proofs.Math.Nat.{mod_self}
use mathlib.Core.Option.{some}
use mathlib.Core.Logic.{dite}
use native.Mathlib.Decide.{dec_lt, ℕ_discrete}
use lib.ListN.{get_elem?}
use Rattle.core_events.specs.Setups.{Setup, box_of}
use Rattle.core_events.specs.Keyed.{or_else, change}
use Rattle.core_events.specs.Views.{View}
use Rattle.core_events.specs.Words.{State, found}
use Rattle.core_events.specs.Events.{Event, number, extend, check, take, draw, see_box, post, see_full, empty_box, name, looked_word, next_box, thread_of, place_behind, all_checked, view_after}
use Rattle.core_events.specs.Conditions.{IsAllowed, after}
use Rattle.core_events.specs.Partings.{newcomer, left_of, both_of, spent, MaySplit, MayJoin, split, join}
use Rattle.core_events.specs.Ghosts.{Ghost, ghost_after, ghost_joined}
use Rattle.core_events.specs.KeptThreads.{part_of}
use Rattle.core_events.specs.KeptNumbers.{NumbersKept}
use Rattle.core_events.specs.KeptTurn.{TurnKept}
use Rattle.core_events.specs.KeptOrder.{ComesBefore, BoxOrder, KnowsOrderOf, OrderKept}
use Rattle.core_events.specs.Layers.{ThreadsIn, LocksIn}
use Rattle.core_events.proofs.Lists.{at_snoc, at_map, each_set, at_change}
use Rattle.core_events.proofs.Boxes.{box_same, full_there, word_put, word_cleared}
use Rattle.core_events.proofs.TurnKept.{checking_number, taking_number, reaching_number}

-- the place behind another one: the next number, or the first place behind the last one
behind_cases : (z : Setup) (p : ℕ) → p < z.boxes → (place_behind z p ≡ p + 1) ⊎ ((place_behind z p ≡ 0) × (p + 1 ≡ z.boxes))
behind_cases z p inside = dite (dec_lt (p + 1) z.boxes)
    (λ lt. inl (mod-eq_of_lt lt))
    (λ ge. let same : p + 1 ≡ z.boxes = omega arith in inr (rw same (mod_self z.boxes), same))

-- ---- the way round the boxes
not_itself : (q i : ℕ) → ComesBefore q i i → ⊥
not_itself q i e = ⊎_elim (λ o. let le = o.0 in ⊎_elim (λ s. omega arith) (λ s. omega arith) o.1) (λ o. let lt = o.0 in omega arith) e

under : (p j : ℕ) → j ≢ p → j < p + 1 → j < p
under p j other lt = dite (dec_lt j p) (λ y. y) (λ n. absurd (other (omega arith)))

-- from the place behind p, nothing comes behind p
last_next : (p j : ℕ) → ComesBefore (p + 1) p j → ⊥
last_next p j e = ⊎_elim (λ o. let le = o.0 in omega arith) (λ o. let lt = o.0 in let low = o.1 in omega arith) e

last_first : (p j : ℕ) → j < p + 1 → ComesBefore 0 p j → ⊥
last_first p j inside e = ⊎_elim (λ o. ⊎_elim (λ s. omega arith) (λ s. omega arith) o.1) (λ o. let low = o.1 in omega arith) e

-- and the others come as they do from p
as_next : (p i j : ℕ) → j ≢ p → ComesBefore (p + 1) i j → ComesBefore p i j
as_next p i j other e = ⊎_elim
    (λ o. let le = o.0 in inl (omega arith, ⊎_elim (λ s. inl s) (λ s. inr (under p j other s)) o.1))
    (λ o. inr (o.0, under p j other o.1))
    e

as_first : (p i j : ℕ) → j ≢ p → j < p + 1 → ComesBefore 0 i j → ComesBefore p i j
as_first p i j other inside e = ⊎_elim
    (λ o. ⊎_elim (λ s. inr (s, under p j other inside)) (λ s. absurd (omega arith)) o.1)
    (λ o. absurd (let low = o.1 in omega arith))
    e

module _ (z : Setup) (p : ℕ) (inside : p < z.boxes) where
  last_behind : (j : ℕ) → j < z.boxes → ComesBefore (place_behind z p) p j → ⊥
  last_behind j lj e = ⊎_elim
      (λ r. last_next p j (subst (λ (q : ℕ). ComesBefore q p j) r e))
      (λ r. let b = r.1 in last_first p j (omega arith) (subst (λ (q : ℕ). ComesBefore q p j) r.0 e))
      (behind_cases z p inside)

  as_behind : (i j : ℕ) → j ≢ p → j < z.boxes → ComesBefore (place_behind z p) i j → ComesBefore p i j
  as_behind i j other lj e = ⊎_elim
      (λ r. as_next p i j other (subst (λ (q : ℕ). ComesBefore q i j) r e))
      (λ r. let b = r.1 in as_first p i j other (omega arith) (subst (λ (q : ℕ). ComesBefore q i j) r.0 e))
      (behind_cases z p inside)

module _ (z : Setup) where
  -- the record goes behind all others: round from the place behind its own, the numbers rise
  box_posted : (boxes : List ℕ) (t p n : ℕ) → p < z.boxes → BoxOrder z boxes t p → ((j : ℕ) → j < z.boxes → get_or boxes (box_of z t j) 0 < n) → BoxOrder z (set boxes (box_of z t p) n) t (place_behind z p)
  box_posted boxes t p n inside k over =
      let b : ℕ = box_of z t p in let boxes2 : List ℕ = set boxes b n in
      let other : (j : ℕ) → j < z.boxes → j ≢ p → get_or boxes2 (box_of z t j) 0 ≡ get_or boxes (box_of z t j) 0 = λ j lj apart. get_or-set_other boxes b (box_of z t j) n 0 (λ f. apart (box_same z.boxes t t j p lj inside f).1) in
      record {
        rising = λ i j li lj before pi pj. dite (ℕ_discrete i p)
            (λ e. absurd (last_behind z p inside j lj (subst (λ (y : ℕ). ComesBefore (place_behind z p) y j) e before)))
            (λ i_else. let same_i = other i li i_else in dite (ℕ_discrete j p)
            (λ e. let low = over i li in
            let at_b : get_or boxes2 (box_of z t j) 0 ≡ get_or boxes2 b 0 = ap (λ (y : ℕ). get_or boxes2 (box_of z t y) 0) e in
            ⊎_elim (λ put. omega arith) (λ gone. absurd (omega arith)) (word_put boxes b n))
            (λ j_else. let same_j = other j lj j_else in let r = k.rising i j li lj (as_behind z p inside i j j_else lj before) (omega arith) (omega arith) in omega arith));
      }

  -- where words become 0 or stay
  box_lowered : (boxes boxes2 : List ℕ) (t next : ℕ) → ((k : ℕ) → (get_or boxes2 k 0 ≡ 0) ⊎ (get_or boxes2 k 0 ≡ get_or boxes k 0)) → BoxOrder z boxes t next → BoxOrder z boxes2 t next
  box_lowered boxes boxes2 t next low k = record {
    rising = λ i j li lj before pi pj.
        let a : get_or boxes2 (box_of z t i) 0 ≡ get_or boxes (box_of z t i) 0 = ⊎_elim (λ gone. absurd (omega arith)) (λ s. s) (low (box_of z t i)) in
        let b : get_or boxes2 (box_of z t j) 0 ≡ get_or boxes (box_of z t j) 0 = ⊎_elim (λ gone. absurd (omega arith)) (λ s. s) (low (box_of z t j)) in
        let r = k.rising i j li lj before (omega arith) (omega arith) in omega arith;
  }

  box_other : (boxes : List ℕ) (t u p n next : ℕ) → t ≢ u → p < z.boxes → BoxOrder z boxes u next → BoxOrder z (set boxes (box_of z t p) n) u next
  box_other boxes t u p n next apart inside k =
      let same : (j : ℕ) → j < z.boxes → get_or (set boxes (box_of z t p) n) (box_of z u j) 0 ≡ get_or boxes (box_of z u j) 0 = λ j lj. get_or-set_other boxes (box_of z t p) (box_of z u j) n 0 (λ f. apart (sym (box_same z.boxes u t j p lj inside f).0)) in
      record {
        rising = λ i j li lj before pi pj. let a = same i li in let b = same j lj in let r = k.rising i j li lj before (omega arith) (omega arith) in omega arith;
      }

  -- a view that has done nothing
  fresh_order : (next : ℕ → ℕ) (boxes : List ℕ) (u : View) → u.part.thread ≡ None → u.box.next ≡ 0 → KnowsOrderOf z next boxes u
  fresh_order next boxes u none_yet first = record {
    at_place = λ t e. absurd (let f : None ≡ Some t = sym none_yet ∙ e in cc);
    at_first = λ e. first;
    over = λ t j e. absurd (let f : None ≡ Some t = sym none_yet ∙ e in cc);
  }

  -- the boxes are as they were, and the view knows as much of them
  order_rest : (g h : Ghost) (c d : State) (id : ℕ) (v w : View) → OrderKept z g c → get_elem? c.views id ≡ some v → h.next ≡ g.next → d.boxes ≡ c.boxes → d.threads ≡ c.threads → d.views ≡ set c.views id w
      → KnowsOrderOf z g.next c.boxes w → OrderKept z h d
  order_rest g h c d id v w k at next boxes threads views knows = record {
    rises = λ t. rw (next, boxes) (k.rises t);
    unborn = λ t le. rw next (k.unborn t (omega arith));
    each = λ j u e. rw (next, boxes) (each_set (λ j u. KnowsOrderOf z g.next c.boxes u) c.views id w knows (λ j u other at2. k.each j u at2) j u (rw (← views) e));
  }

  same_number : (next : ℕ → ℕ) (boxes : List ℕ) (v w : View) → KnowsOrderOf z next boxes v → w.part.thread ≡ v.part.thread → w.box.next ≡ v.box.next → w.tx.hand.number ≡ v.tx.hand.number → KnowsOrderOf z next boxes w
  same_number next boxes v w m thread place number_is = rw (thread, place, number_is) m

  module _ (c : State) (id : ℕ) (v : View) (g : Ghost) (s : ThreadsIn z g c) (l : LocksIn z g c) (y : TurnKept z c) (nu : NumbersKept z g c) (k : OrderKept z g c) where
    number_order : IsAllowed z c id number v → OrderKept z (ghost_after z g c id v number) (after z c id v number)
    number_order a =
        let none_yet : v.part.thread ≡ None = a.may.can in let m = k.each id v a.is_there in let seen = (y.each id v a.is_there).seen in record {
          rises = k.rises;
          unborn = λ t le. k.unborn t (omega arith);
          each = each_set (λ j u. KnowsOrderOf z g.next c.boxes u) c.views id (view_after z number v c.threads) (record {
            at_place = λ t e. let same : c.threads ≡ t = (let f : Some c.threads ≡ Some t = e in cc) in m.at_first none_yet ∙ sym (k.unborn t (omega arith));
            at_first = λ e. absurd (let f : Some c.threads ≡ None = e in cc);
            over = λ t j e lj pos. absurd (let x = seen.empty (seen.drawn pos) in let f : None ≡ Some x.0 = sym none_yet ∙ x.1 in cc);
          }) (λ j u other at2. k.each j u at2);
        }

    -- each number in a box was drawn
    upto_clock : (b : ℕ) → get_or c.boxes b 0 < c.clock + 1
    upto_clock b = dite (dec_lt 0 (get_or c.boxes b 0))
        (λ pos. let r = (nu.placed.of_boxes (get_or c.boxes b 0) b (full_there c.boxes b pos) pos).2 in omega arith)
        (λ none_there. omega arith)

    post_order : IsAllowed z c id post v → OrderKept z (ghost_after z g c id v post) (after z c id v post)
    post_order a =
        let t = a.may.threaded in let m = k.each id v a.is_there in let p : ℕ = v.box.next in let n : ℕ = v.tx.hand.number in let inside = (y.each id v a.is_there).seen.place in
        let hand = (l.each id v a.is_there).number in let pos : 0 < n = ⊎_elim (λ x. (hand.decided x).0) (λ x. (hand.voided x).0) a.may.can.0 in
        let t_is : thread_of v ≡ t.0 = ap (λ (o : Option ℕ). or_else o 0) t.1 in
        let mine = s.mine id t.0 v.part (at_map part_of c.views id v a.is_there) t.1 in
        let boxes2 : List ℕ = set c.boxes (box_of z t.0 p) n in let next2 : ℕ → ℕ = change g.next t.0 (place_behind z p) in
        let w : View = view_after z post v (found c (name z post v)) in
        let over : (j : ℕ) → j < z.boxes → get_or c.boxes (box_of z t.0 j) 0 < n = λ j lj. m.over t.0 j t.1 lj pos in
        let rises2 : (u : ℕ) → BoxOrder z boxes2 u (next2 u) = λ u. ⊎_elim
        (λ e. rw (e.1, e.0) (box_posted c.boxes t.0 p n inside (subst (BoxOrder z c.boxes t.0) (sym (m.at_place t.0 t.1)) (k.rises t.0)) over))
        (λ e. rw e.1 (box_other c.boxes t.0 u p n (g.next u) (λ f. e.0 (sym f)) inside (k.rises u)))
        (at_change g.next t.0 (place_behind z p) u) in
        let mine2 : KnowsOrderOf z next2 boxes2 w = record {
          at_place = λ u e. let same : u ≡ t.0 = (let f : Some u ≡ Some t.0 = sym e ∙ t.1 in cc) in ⊎_elim (λ x. sym x.1) (λ x. absurd (x.0 same)) (at_change g.next t.0 (place_behind z p) u);
          at_first = λ e. absurd (let f : None ≡ Some t.0 = sym e ∙ t.1 in cc);
          over = λ u j e lj low. absurd (omega arith);
        } in
        let theirs : (j : ℕ) (u : View) → j ≢ id → get_elem? c.views j ≡ some u → KnowsOrderOf z next2 boxes2 u = λ j u other at2.
        let o = k.each j u at2 in
        let apart : (t2 : ℕ) → u.part.thread ≡ Some t2 → t2 ≢ t.0 = λ t2 e f. other (sym (s.mine j t2 u.part (at_map part_of c.views j u at2) e).1 ∙ (ap g.home f ∙ mine.1)) in
        record {
          at_place = λ t2 e. o.at_place t2 e ∙ ⊎_elim (λ x. absurd (apart t2 e x.0)) (λ x. sym x.1) (at_change g.next t.0 (place_behind z p) t2);
          at_first = o.at_first;
          over = λ t2 i e li low. let same = get_or-set_other c.boxes (box_of z t.0 p) (box_of z t2 i) n 0 (λ f. apart t2 e (box_same z.boxes t2 t.0 i p li inside f).0) in
              let r = o.over t2 i e li low in omega arith;
        } in
        record {
          rises = λ u. rw t_is (rises2 u);
          unborn = λ u le. rw t_is (⊎_elim (λ x. absurd (let lt = mine.2 in let e = x.0 in omega arith)) (λ x. x.1 ∙ k.unborn u le) (at_change g.next t.0 (place_behind z p) u));
          each = λ j u e. rw t_is (each_set (λ j u. KnowsOrderOf z next2 boxes2 u) c.views id w mine2 theirs j u e);
        }

    empty_order : (t j : ℕ) → IsAllowed z c id (empty_box t j) v → OrderKept z (ghost_after z g c id v (empty_box t j)) (after z c id v (empty_box t j))
    empty_order t j a =
        let b : ℕ = box_of z t j in let boxes2 : List ℕ = set c.boxes b 0 in let w : View = view_after z (empty_box t j) v (get_or c.boxes b 0) in
        let lowered : (u : View) → KnowsOrderOf z g.next c.boxes u → KnowsOrderOf z g.next boxes2 u = λ u o. record {
          at_place = o.at_place;
          at_first = o.at_first;
          over = λ t2 i e li pos. let r = o.over t2 i e li pos in ⊎_elim (λ gone. omega arith) (λ same. omega arith) (word_cleared c.boxes b (box_of z t2 i));
        } in
        record {
          rises = λ u. box_lowered c.boxes boxes2 u (g.next u) (word_cleared c.boxes b) (k.rises u);
          unborn = k.unborn;
          each = each_set (λ j u. KnowsOrderOf z g.next boxes2 u) c.views id w (lowered w (k.each id v a.is_there)) (λ j u other at2. lowered u (k.each j u at2));
        }

  pub order_keep : (e : Event) (c : State) (id : ℕ) (v : View) (g : Ghost) → ThreadsIn z g c → LocksIn z g c → TurnKept z c → NumbersKept z g c → OrderKept z g c → IsAllowed z c id e v → OrderKept z (ghost_after z g c id v e) (after z c id v e)
  order_keep number c id v g s l y nu k a = number_order c id v g s l y nu k a
  order_keep post c id v g s l y nu k a = post_order c id v g s l y nu k a
  order_keep (empty_box t j) c id v g s l y nu k a = empty_order c id v g s l y nu k t j a
  order_keep (draw b ws) c id v g s l y nu k a =
      let m = k.each id v a.is_there in
      order_rest g (ghost_after z g c id v (draw b ws)) c (after z c id v (draw b ws)) id v (view_after z (draw b ws) v c.clock) k a.is_there refl refl refl refl
      record { at_place = m.at_place; at_first = m.at_first; over = λ t j e lj pos. upto_clock c id v g s l y nu k (box_of z t j) }
  order_keep extend c id v g s l y nu k a =
      order_rest g (ghost_after z g c id v extend) c (after z c id v extend) id v (view_after z extend v c.clock) k a.is_there refl refl refl refl
      (same_number g.next c.boxes v (view_after z extend v c.clock) (k.each id v a.is_there) refl refl (reaching_number (all_checked z [] v.tx.reads) c.clock (record v.tx { checked = []; loaded = None })))
  order_keep (check q) c id v g s l y nu k a =
      let n : ℕ = get_or c.locks q 0 in
      order_rest g (ghost_after z g c id v (check q)) c (after z c id v (check q)) id v (view_after z (check q) v n) k a.is_there refl refl refl refl
      (same_number g.next c.boxes v (view_after z (check q) v n) (k.each id v a.is_there) refl refl (checking_number z v.tx.loaded v.tx.extension v.part.thread q n v.tx))
  order_keep (take q) c id v g s l y nu k a =
      let n : ℕ = get_or c.locks q 0 in
      order_rest g (ghost_after z g c id v (take q)) c (after z c id v (take q)) id v (view_after z (take q) v n) k a.is_there refl refl refl refl
      (same_number g.next c.boxes v (view_after z (take q) v n) (k.each id v a.is_there) refl refl (taking_number (n == looked_word v.tx.look) q n v.tx))
  order_keep see_box c id v g s l y nu k a =
      let n : ℕ = get_or c.boxes (next_box z v) 0 in
      order_rest g (ghost_after z g c id v see_box) c (after z c id v see_box) id v (view_after z see_box v n) k a.is_there refl (set-get_or c.boxes (next_box z v) 0) refl refl (k.each id v a.is_there)
  order_keep (see_full t j) c id v g s l y nu k a =
      let n : ℕ = get_or c.boxes (box_of z t j) 0 in
      order_rest g (ghost_after z g c id v (see_full t j)) c (after z c id v (see_full t j)) id v (view_after z (see_full t j) v n) k a.is_there refl (set-get_or c.boxes (box_of z t j) 0) refl refl (k.each id v a.is_there)
  order_keep e c id v g s l y nu k a =
      order_rest g (ghost_after z g c id v e) c (after z c id v e) id v (view_after z e v (found c (name z e v))) k a.is_there refl refl refl refl (k.each id v a.is_there)

  pub order_split_keep : (c : State) (id draws : ℕ) (v : View) (g : Ghost) → OrderKept z g c → MaySplit c id v draws → OrderKept z g (split z c id v draws)
  order_split_keep c id draws v g k may =
      let w = left_of draws v in let n = newcomer z 0 draws in let vs : List View = set c.views id w in record {
        rises = k.rises;
        unborn = k.unborn;
        each = λ j u e. ⊎_elim
            (λ t. each_set (λ i y. KnowsOrderOf z g.next c.boxes y) c.views id w (k.each id v may.is_there) (λ i y other at2. k.each i y at2) j u t)
            (λ t. subst (λ (y : View). KnowsOrderOf z g.next c.boxes y) t.0 (fresh_order g.next c.boxes n refl refl))
            (at_snoc vs n u j e);
      }

  pub order_join_keep : (c : State) (id other : ℕ) (v w : View) (g : Ghost) → OrderKept z g c → MayJoin c id v other w → OrderKept z (ghost_joined g id other) (join z c id v other w)
  order_join_keep c id other v w g k may =
      let both = both_of v w in let gone = spent z in let vs : List View = set c.views id both in record {
        rises = k.rises;
        unborn = k.unborn;
        each = each_set (λ i y. KnowsOrderOf z g.next c.boxes y) vs other gone (fresh_order g.next c.boxes gone refl refl)
            (λ j u apart at2. each_set (λ i y. KnowsOrderOf z g.next c.boxes y) c.views id both (k.each id v may.is_there) (λ i y o at3. k.each i y at3) j u at2);
      }
