-- The log stands after every event on words.
use Rattle.std.proofs.Common.{◌≡◌, ◌≢◌, ◌==◌, ℕ, ◌<◌, ◌≤◌, ◌⊎◌, [], get_or, set, map, refl, sym, ap, ◌∙◌, subst, inr, ⊎_elim, arith}
use Rattle.std.specs.Prelude.{Option, Some, None}
use Rattle.std.specs.List.{Contains}
use Rattle.std.proofs.lemmas.List.{map-set, set-get_or}
use mathlib.Core.Option.{some}
use lib.ListN.{get_elem?}
use Rattle.dude_base.specs.Records.{RedoRecord}
use Rattle.redo_record.specs.LogState.{LogState}
use Rattle.redo_record.specs.Waiting.{Waiting}
use Rattle.core_events.specs.Setups.{Setup, box_of}
use Rattle.core_events.specs.Views.{View}
use Rattle.core_events.specs.Words.{State, found}
use Rattle.core_events.specs.Events.{Event, number, extend, check, take, draw, see_box, post, see_full, empty_box, name, looked_word, next_box, all_checked, view_after}
use Rattle.core_events.specs.Conditions.{IsAllowed, after, no_record}
use Rattle.core_events.specs.Ghosts.{Ghost, ghost_after}
use Rattle.core_events.specs.KeptNumbers.{numbers_of}
use Rattle.core_events.specs.Kept.{LayersKept}
use Rattle.core_events.proofs.Lists.{at_set, at_map, unmoved, eq_of}
use Rattle.core_events.proofs.Threads.{or_cases}
use Rattle.core_events.proofs.Boxes.{box_same}
use Rattle.core_events.proofs.TurnKept.{checking_number, taking_number, reaching_number}
use Rattle.core_medium.specs.KeptLog.{IsOnMedium, IsPosted, IsOverRing, Drawer, drawer_of, WaitsWith, LogStands, LogIn}
use Rattle.core_medium.specs.HistoryLaws.{EmptiesPersisted}
use Rattle.core_medium.proofs.LogOn.{stands_drawn, stands_hist}
use Rattle.core_medium.proofs.Posted.{full_record, posted_upto, post_box, history_on, posted_on}

abbrev drawer : Option ℕ → ℕ → Drawer
drawer t n = record { thread = t; number = n }

module _ (z : Setup) (g : Ghost) (c : State) (l : LogState) (k : LayersKept z g c) (s : LogIn z g c l) (who : ℕ) (v : View) where
  -- waiting bundles, where posted numbers stay posted
  waits_on : (e : Event) → IsAllowed z c who e v → (w : Waiting) → Contains l.waiting w → WaitsWith z g.claims.hist (after z c who v e).boxes (numbers_of (after z c who v e).persisted) w
  waits_on e a w is =
      let o = s.waits w is in let over = o.over in
      record { over = o.over; posted = λ n cov. posted_on z g c k who v e a n (let low = cov.low in omega arith) (o.posted n cov); writes = o.writes }

  -- the new drawers: that of the view, or an old one of another
  drawer_cases : (u : View) (i : ℕ) (r : Drawer) → get_elem? (map drawer_of (set c.views who u)) i ≡ some r → ((i ≡ who) × (drawer_of u ≡ r)) ⊎ ((i ≢ who) × (get_elem? (map drawer_of c.views) i ≡ some r))
  drawer_cases u i r e = at_set (map drawer_of c.views) who i (drawer_of u) r (rw (← map-set drawer_of c.views who u) e)

  -- ---- a record is put into a box
  post_stands : IsAllowed z c who post v → LogIn z (ghost_after z g c who v post) (after z c who v post) l
  post_stands a =
      let p = post_box z g c k who v a in let n : ℕ = v.tx.hand.number in let b : ℕ = next_box z v in let w : View = view_after z post v (found c (name z post v)) in
      let mine = s.drawn who p.thread (drawer_of v) (at_map drawer_of c.views who v a.is_there) p.thread_is p.drew in
      let from = s.from in
      record {
        from = s.from;
        home = s.home;
        marked = λ m lt le. posted_on z g c k who v post a m (omega arith) (s.marked m lt le);
        waits = waits_on post a;
        left_on = s.left_on;
        boxed = λ t j m lt lj e pos. ⊎_elim
            (λ hit. let same = box_same z.boxes t p.thread j v.box.next lj p.place (hit.0 ∙ p.box_is) in
            inr (λ x is ring. let o = mine x is (ring ∙ same.0) in let m_is = hit.1 in omega arith))
            (λ miss. s.boxed t j m lt lj miss.1 pos)
            (at_set c.boxes b (box_of z t j) n m e);
        drawn = λ i t r e th pos. ⊎_elim
            (λ hit. absurd (let none_now : 0 ≡ r.number = ap (λ (y : Drawer). y.number) hit.1 in omega arith))
            (λ miss. s.drawn i t r miss.1 th pos)
            (drawer_cases w i r e);
      }

  -- ---- a record leaves its box
  empty_stands : (t j : ℕ) → IsAllowed z c who (empty_box t j) v → IsOnMedium l (get_or c.boxes (box_of z t j) 0) → LogIn z (ghost_after z g c who v (empty_box t j)) (after z c who v (empty_box t j)) l
  empty_stands t j a there =
      let b : ℕ = box_of z t j in let w : View = view_after z (empty_box t j) v (get_or c.boxes b 0) in let from = s.from in
      let number_is : (get_or c.records b no_record).number ≡ get_or c.boxes b 0 = ap (λ (r : RedoRecord). r.number) (full_record z g c k t j a.may.named.0 a.may.named.1 a.fits) in
      record {
        from = s.from;
        home = s.home;
        marked = λ m lt le. posted_on z g c k who v (empty_box t j) a m (omega arith) (s.marked m lt le);
        waits = waits_on (empty_box t j) a;
        left_on = λ m e. ⊎_elim
            (λ hit. let is : (get_or c.records b no_record).number ≡ m = eq_of (get_or c.records b no_record).number m hit in subst (IsOnMedium l) (sym number_is ∙ is) there)
            (λ old. s.left_on m old)
            (or_cases ((get_or c.records b no_record).number == m) _ e);
        boxed = λ t2 j2 m lt lj e pos. ⊎_elim (λ hit. absurd (let zero_is = hit.1 in omega arith)) (λ miss. s.boxed t2 j2 m lt lj miss.1 pos) (at_set c.boxes b (box_of z t2 j2) 0 m e);
        drawn = λ i t2 r e th pos. s.drawn i t2 r (rw (← unmoved drawer_of c.views who v w a.is_there refl) e) th pos;
      }

  -- ---- the view draws, or gets a thread's number
  -- the drawers, where one view is another
  drawn_with : (u : View) → ((t : ℕ) → u.part.thread ≡ Some t → 0 < u.tx.hand.number → IsOverRing l t u.tx.hand.number)
      → LogStands z g.claims.hist c.boxes (numbers_of c.persisted) (map drawer_of (set c.views who u)) l
  drawn_with u mine =
      stands_drawn z g.claims.hist c.boxes (numbers_of c.persisted) (map drawer_of c.views) (map drawer_of (set c.views who u)) l s (λ i t r e th pos. ⊎_elim
      (λ hit. subst (λ (y : Drawer). IsOverRing l t y.number) hit.1
      (mine t (ap (λ (y : Drawer). y.thread) hit.1 ∙ th) (let is : u.tx.hand.number ≡ r.number = ap (λ (y : Drawer). y.number) hit.1 in omega arith)))
      (λ miss. s.drawn i t r miss.1 th pos)
      (drawer_cases u i r e))

  -- ---- boxes, records and drawers stay
  log_rest : (g2 : Ghost) (c2 : State) → ((n : ℕ) → (n ≤ z.first) ⊎ IsPosted c.boxes (numbers_of c.persisted) n → g2.claims.hist n ≡ g.claims.hist n)
      → c2.boxes ≡ c.boxes → c2.persisted ≡ c.persisted → map drawer_of c2.views ≡ map drawer_of c.views → LogIn z g2 c2 l
  log_rest g2 c2 same boxes persisted drawers =
      rw (boxes, persisted, drawers) (stands_hist z g.claims.hist g2.claims.hist c.boxes (numbers_of c.persisted) (map drawer_of c.views) l s same)

  rest : (e : Event) → IsAllowed z c who e v → (after z c who v e).boxes ≡ c.boxes → (after z c who v e).persisted ≡ c.persisted
      → drawer_of (view_after z e v (found c (name z e v))) ≡ drawer_of v → LogIn z (ghost_after z g c who v e) (after z c who v e) l
  rest e a boxes persisted same =
      log_rest (ghost_after z g c who v e) (after z c who v e) (history_on z g c k who v e a) boxes persisted (unmoved drawer_of c.views who v (view_after z e v (found c (name z e v))) a.is_there same)

  pub log_keep : (e : Event) → IsAllowed z c who e v → EmptiesPersisted z e c l → LogIn z (ghost_after z g c who v e) (after z c who v e) l
  log_keep post a on = post_stands a
  log_keep (empty_box t j) a on = empty_stands t j a on
  log_keep (draw b ws) a on =
      drawn_with (view_after z (draw b ws) v c.clock) (λ t th pos x is ring.
      let low = (s.waits x is).over in
      let o = posted_upto z g c k x.redo.last ((s.waits x is).posted x.redo.last (record { low = omega arith; high = omega arith })) in omega arith)
  log_keep number a on =
      drawn_with (view_after z number v c.threads) (λ t th pos. absurd (
      let m = k.turn.each who v a.is_there in let seen = m.seen.empty (m.seen.drawn pos) in let none_yet : v.part.thread ≡ None = a.may.can in
      let f : None ≡ Some seen.0 = sym none_yet ∙ seen.1 in cc))
  log_keep see_box a on = rest see_box a (set-get_or c.boxes (next_box z v) 0) refl refl
  log_keep (see_full t j) a on = rest (see_full t j) a (set-get_or c.boxes (box_of z t j) 0) refl refl
  log_keep extend a on = rest extend a refl refl (ap (drawer v.part.thread) (reaching_number (all_checked z [] v.tx.reads) c.clock (record v.tx { checked = []; loaded = None })))
  log_keep (check n) a on = rest (check n) a refl refl (ap (drawer v.part.thread) (checking_number z v.tx.loaded v.tx.extension v.part.thread n (get_or c.locks n 0) v.tx))
  log_keep (take n) a on = rest (take n) a refl refl (ap (drawer v.part.thread) (taking_number (get_or c.locks n 0 == looked_word v.tx.look) n (get_or c.locks n 0) v.tx))
  log_keep e a on = rest e a refl refl refl
