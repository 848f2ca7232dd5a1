-- The layer of pages is kept.
use Rattle.std.proofs.Common.{◌≡◌, ◌≢◌, ℕ, zero, suc, ◌+◌, ◌*◌, ◌<◌, ◌≤◌, ◌==◌, Bool, true, false, List, [], ◌∷◌, ◌++◌, length, get_or, set, map, refl, sym, ap, ◌∙◌, subst, inl, inr, ⊎_elim, eq-eqb, ne_eqb, arith, length-set, get_or-set_same, get_or-set_other}
use Rattle.std.specs.Prelude.{Option, Some, None, max}
use Rattle.std.proofs.lemmas.Bool.{true≢false}
use Rattle.std.proofs.lemmas.List.{map-set, set-get_or}
use mathlib.Core.Option.{some, some-injective}
use mathlib.Core.Logic.{dite}
use native.Mathlib.Decide.{ℕ_discrete}
use lib.ListN.{get_elem?}
use Rattle.dude_base.specs.declared.limits.TheConstants.{PAGE}
use Rattle.dude_base.specs.declared.write.Write.{Write}
use Rattle.dude_base.specs.Writes.{written}
use Rattle.core_events.specs.Setups.{Setup, page_of, cell_of, entry_with, frame_in, without_pins}
use Rattle.core_events.specs.Keyed.{find, without, has, or_else, change, total}
use Rattle.core_events.specs.Views.{Transaction, View}
use Rattle.core_events.specs.Words.{State, found}
use Rattle.core_events.specs.Events.{Event, number, begin, extend, load, check, finish, take, draw, decide, store, see_box, post, take_turn, give_turn, entry, pin, unpin, touch, load_touch, evict, fill, show, name, looked_word, kept_entry, pinned_frame, is_good, all_checked, reaching, extending, validating, checking, taking, replacing, view_after}
use Rattle.core_events.specs.Conditions.{Keeps, IsAllowed, after}
use Rattle.core_events.specs.Partings.{newcomer, left_of, both_of, spent, MaySplit, MayJoin, split, join}
use Rattle.core_events.specs.Ghosts.{Ghost, ghost_after, claims_after, ghost_joined}
use Rattle.core_events.specs.KeptPages.{PinsCounted, Pinner, pins_of, pinner_of, pins_at, entry_word, PinsKept, TurnPages, KnowsPages, PagesKept}
use Rattle.core_events.specs.KeptTurn.{TurnKept}
use Rattle.core_events.specs.Layers.{ThreadsIn, LocksIn}
use Rattle.core_events.proofs.Lists.{eq_of, at_snoc, set_else, at_map, unmoved, each_set, find_without, at_change}
use Rattle.core_events.proofs.Threads.{or_cases, at_longer, total_snoc}
use Rattle.core_events.proofs.TurnKept.{checking_number, taking_number, reaching_number, one_holder, won}
use Rattle.core_events.proofs.Filled.{frame_of_entry, entry_positive, bare_entry, entry_none, entry_some}
use Rattle.core_events.proofs.Pages.{few_pins, pin_counted, unpin_counted, entry_counted, absent_unpinned, uncounted_unpinned, touched_still, saw_entry, saw_touch, filled_more, page_left, page_shown, touch_raised, nothing_kept}

-- ---- what is said of pins stays where a transaction reads
module _ (touches : List ℕ) (thread : Option ℕ) (pins : List (ℕ × ℕ)) (touched : List ℕ) where
  abbrev PinsOf : Transaction → Type 0
  PinsOf x = PinsKept touches thread x.is_open x.hand pins touched

  reaching_pins : (b : Bool) (s : ℕ) (x : Transaction) → PinsOf x → PinsOf (reaching b s x)
  reaching_pins true s x m = m
  reaching_pins false s x m = m

  taking_pins : (b : Bool) (k n : ℕ) (x : Transaction) → PinsOf x → PinsOf (taking b k n x)
  taking_pins true k n x m = m
  taking_pins false k n x m = m

  extending_pins : (z : Setup) (b : Bool) (s k : ℕ) (x : Transaction) → PinsOf x → PinsOf (extending z b s k x)
  extending_pins z true s k x m = reaching_pins (all_checked z (k ∷ x.checked) x.reads) s (record x { checked = k ∷ x.checked }) m
  extending_pins z false s k x m = m

  validating_pins : (b : Bool) (k : ℕ) (x : Transaction) → PinsOf x → PinsOf (validating b k x)
  validating_pins true k x m = m
  validating_pins false k x m = record { pinner = m.pinner; written_pinned = λ u. absurd (true≢false u.not_void); touches_made = m.touches_made }

  checking_pins : (z : Setup) (o : Option (ℕ × ℕ)) (s t : Option ℕ) (k n : ℕ) (x : Transaction) → PinsOf x → PinsOf (checking z o s t k n x)
  checking_pins z (Some p) s t k n x m = m
  checking_pins z None (Some s) t k n x m = extending_pins z (is_good t x.snapshot n) s k x m
  checking_pins z None None t k n x m = validating_pins (is_good t x.snapshot n) k x m

module _ (z : Setup) where
  -- words of this layer as they were, and a view with the same pins and the same number
  pages_rest : (g h : Ghost) (c d : State) (id : ℕ) (v w : View) → PagesKept z g c → get_elem? c.views id ≡ some v → h.frame ≡ g.frame → h.claims.hist ≡ g.claims.hist → d.entries ≡ c.entries → d.touches ≡ c.touches → length d.cells ≡ length c.cells
      → d.views ≡ set c.views id w → w.paging.pins ≡ v.paging.pins → w.tx.hand.number ≡ v.tx.hand.number → KnowsPages z g.frame c.touches w → PagesKept z h d
  pages_rest g h c d id v w k at frame hist entries touches cells views pins same knows =
      let pinners : map pinner_of (set c.views id w) ≡ map pinner_of c.views = unmoved pinner_of c.views id v w at (rw (pins, same) refl) in
      record {
        pins = rw (frame, entries, views, unmoved pins_of c.views id v w at pins) k.pins;
        touches = rw (hist, touches, views, pinners) k.touches;
        frames = record { sized = cells ∙ k.frames.sized; inside = rw frame k.frames.inside; one_each = rw frame k.frames.one_each };
        each = λ j u e. rw (frame, touches) (each_set (λ j u. KnowsPages z g.frame c.touches u) c.views id w knows (λ j u other at2. k.each j u at2) j u (rw (← views) e));
        few = k.few;
      }

  more_pins : (p f : ℕ) (pins : List (ℕ × ℕ)) (r : ℕ) → Keeps pins r → Keeps ((p, f) ∷ pins) r
  more_pins p f pins r h = dite (ℕ_discrete p r) (λ e. (f, rw (eq-eqb p r e) refl)) (λ n. (h.0, rw (ne_eqb p r n) h.1))

  was_decided : (b : Bool) {d : Bool} → d ≡ b → (x : Bool) {y : Bool} → y ≡ x → (d ≡ false → y ≡ false → ⊥) → (y ≡ true → ⊥) → d ≡ true
  was_decided true e x f undecided void = e
  was_decided false e true f undecided void = absurd (void f)
  was_decided false e false f undecided void = absurd (undecided e f)

  positive : (n : ℕ) → (n ≡ 0 → ⊥) → 0 < n
  positive zero no_zero = absurd (no_zero refl)
  positive (suc n) no_zero = omega arith

  max_left : (a b : ℕ) → a ≤ max a b
  max_left a b = grind arith

  max_right : (a b : ℕ) → b ≤ max a b
  max_right a b = grind arith

  -- a page whose entry is one without pins has none
  evicted_unpinned : (g : Ghost) (c : State) → ThreadsIn z g c → PagesKept z g c → (p : ℕ) → p < z.pages → (e : ℕ) → get_or c.entries p 0 ≡ without_pins e → (j : ℕ) (ps : List (ℕ × ℕ)) → get_elem? (map pins_of c.views) j ≡ some ps → find ps p ≡ None
  evicted_unpinned g c s k p inside e hit = by_frame (g.frame p) refl
    where
      by_frame : (o : Option ℕ) → g.frame p ≡ o → (j : ℕ) (ps : List (ℕ × ℕ)) → get_elem? (map pins_of c.views) j ≡ some ps → find ps p ≡ None
      by_frame None is = absent_unpinned z g.frame c.entries (map pins_of c.views) k.pins p is
      by_frame (Some f) is =
          let sum : ℕ = total (pins_at p) (map pins_of c.views) in
          let word : get_or c.entries p 0 ≡ entry_with f sum = k.pins.counted p inside ∙ ap (λ (o : Option ℕ). entry_word o sum) is in
          uncounted_unpinned z (map pins_of c.views) p (bare_entry f sum e (few_pins z g c s k p) (sym word ∙ hit))

  -- the view with the turn moves the page p, which has no pin, out of its frame or into one that no page has
  moved_page : (g : Ghost) (c : State) → ThreadsIn z g c → TurnKept z c → PagesKept z g c → (id : ℕ) (v w : View) → get_elem? c.views id ≡ some v → v.turn.has_it ≡ true → (p : ℕ) (o : Option ℕ) → p < z.pages
      → ((j : ℕ) (ps : List (ℕ × ℕ)) → get_elem? (map pins_of c.views) j ≡ some ps → find ps p ≡ None) → ((f : ℕ) → o ≡ Some f → ((q : ℕ) → g.frame q ≢ Some f) × (f < z.frames))
      → w.paging.pins ≡ v.paging.pins → w.tx.hand.number ≡ v.tx.hand.number → w.turn.has_it ≡ v.turn.has_it → PinsKept c.touches w.part.thread w.tx.is_open w.tx.hand w.paging.pins w.paging.touched
      → (w.turn.has_it ≡ true → TurnPages z (change g.frame p o) c.touches w.paging.entries w.turn.touches w.turn.filled)
      → PagesKept z (record g { frame = change g.frame p o }) (record c { entries = set c.entries p (entry_word o 0); views = set c.views id w })
  moved_page g c s t k id v w at has p o inside no_pin free pins same turn mine pages =
      let changed = at_change g.frame p o in
      record {
        pins = rw (unmoved pins_of c.views id v w at pins) (entry_counted z g.frame c.entries (map pins_of c.views) k.pins p o inside no_pin);
        touches = rw (unmoved pinner_of c.views id v w at (rw (pins, same) refl)) k.touches;
        frames = record {
          sized = k.frames.sized;
          inside = λ q f e. ⊎_elim (λ y. (rw y.0 inside, (free f (sym y.1 ∙ e)).1)) (λ y. k.frames.inside q f (sym y.1 ∙ e)) (changed q);
          one_each = λ q r f e e2. ⊎_elim
              (λ y. ⊎_elim (λ x. y.0 ∙ sym x.0) (λ x. absurd ((free f (sym y.1 ∙ e)).0 r (sym x.1 ∙ e2))) (changed r))
              (λ y. ⊎_elim (λ x. absurd ((free f (sym x.1 ∙ e2)).0 q (sym y.1 ∙ e))) (λ x. k.frames.one_each q r f (sym y.1 ∙ e) (sym x.1 ∙ e2)) (changed r))
              (changed q);
        };
        each = each_set (λ j u. KnowsPages z (change g.frame p o) c.touches u) c.views id w (record { pins = mine; turn = pages })
            (λ j u other at2. let q = k.each j u at2 in record { pins = q.pins; turn = λ has2. absurd (other (one_holder z g c s t j id u v at2 at has2 has)) });
        few = k.few;
      }

  pub pages_keep : (e : Event) (c : State) (id : ℕ) (v : View) (g : Ghost) → ThreadsIn z g c → LocksIn z g c → TurnKept z c → PagesKept z g c → IsAllowed z c id e v → PagesKept z (ghost_after z g c id v e) (after z c id v e)
  pages_keep number c id v g s l t k a =
      let m = k.each id v a.is_there in
      pages_rest g (ghost_after z g c id v number) c (after z c id v number) id v (view_after z number v c.threads) k a.is_there refl refl refl refl refl refl refl refl
      record {
        pins = record { pinner = λ p f e. ((m.pins.pinner p f e).0, (c.threads, refl)); written_pinned = m.pins.written_pinned; touches_made = m.pins.touches_made };
        turn = m.turn;
      }
  pages_keep begin c id v g s l t k a =
      let m = k.each id v a.is_there in
      pages_rest g (ghost_after z g c id v begin) c (after z c id v begin) id v (view_after z begin v c.clock) k a.is_there refl refl refl refl refl refl refl refl
      record {
        pins = record { pinner = λ p f e. (refl, (m.pins.pinner p f e).1); written_pinned = m.pins.written_pinned; touches_made = m.pins.touches_made };
        turn = m.turn;
      }
  pages_keep extend c id v g s l t k a =
      let m = k.each id v a.is_there in let b = all_checked z [] v.tx.reads in
      pages_rest g (ghost_after z g c id v extend) c (after z c id v extend) id v (view_after z extend v c.clock) k a.is_there refl refl refl refl refl refl refl (reaching_number b c.clock (record v.tx { checked = []; loaded = None }))
      record { pins = reaching_pins c.touches v.part.thread v.paging.pins v.paging.touched b c.clock (record v.tx { checked = []; loaded = None }) m.pins; turn = m.turn }
  pages_keep (load i) c id v g s l t k a =
      let m = k.each id v a.is_there in let cell : ℕ = cell_of (pinned_frame v (page_of i)) i in
      pages_rest g (ghost_after z g c id v (load i)) c (after z c id v (load i)) id v (view_after z (load i) v (found c (name z (load i) v))) k a.is_there refl refl refl refl (length-set c.cells cell _) refl refl refl
      record { pins = m.pins; turn = m.turn }
  pages_keep (check i) c id v g s l t k a =
      let m = k.each id v a.is_there in let n : ℕ = get_or c.locks i 0 in
      pages_rest g (ghost_after z g c id v (check i)) c (after z c id v (check i)) id v (view_after z (check i) v n) k a.is_there refl refl refl refl refl refl refl (checking_number z v.tx.loaded v.tx.extension v.part.thread i n v.tx)
      record { pins = checking_pins c.touches v.part.thread v.paging.pins v.paging.touched z v.tx.loaded v.tx.extension v.part.thread i n v.tx m.pins; turn = m.turn }
  pages_keep (finish b) c id v g s l t k a =
      let m = k.each id v a.is_there in let none_pinned : v.paging.pins ≡ [] = a.may.can.2 in
      pages_rest g (ghost_after z g c id v (finish b)) c (after z c id v (finish b)) id v (view_after z (finish b) v c.threads) k a.is_there refl refl refl refl refl refl refl refl
      record {
        pins = record { pinner = λ p f e. absurd (let o : None ≡ Some f = rw none_pinned at e in cc); written_pinned = m.pins.written_pinned; touches_made = m.pins.touches_made };
        turn = m.turn;
      }
  pages_keep (take i) c id v g s l t k a =
      let m = k.each id v a.is_there in let n : ℕ = get_or c.locks i 0 in let b = n == looked_word v.tx.look in
      pages_rest g (ghost_after z g c id v (take i)) c (after z c id v (take i)) id v (view_after z (take i) v n) k a.is_there refl refl refl refl refl refl refl (taking_number b i n v.tx)
      record { pins = taking_pins c.touches v.part.thread v.paging.pins v.paging.touched b i n v.tx m.pins; turn = m.turn }
  pages_keep (draw b ws) c id v g s l t k a =
      let m = k.each id v a.is_there in let may = a.may.can in let none_drawn = may.steady.undrawn.no_number in let w : View = view_after z (draw b ws) v c.clock in
      let calm = ((l.each id v a.is_there).number.blank none_drawn).0 in
      record {
        pins = rw (unmoved pins_of c.views id v w a.is_there refl) k.pins;
        touches = touched_still z g.claims.hist g.claims.hist c.touches c.touches c.views k.touches id v w a.is_there refl (λ p. omega arith) (λ n i x f. inl f)
            (λ n i x f is held. absurd (let h : g.claims.hist n ≡ [] = (l.numbers.before n (omega arith)).0 in let o : written [] i ≡ Some x = rw h at f in cc));
        frames = k.frames;
        each = each_set (λ j u. KnowsPages z g.frame c.touches u) c.views id w (record {
          pins = record {
            pinner = m.pins.pinner;
            written_pinned = λ u i x f. may.pinned i x f;
            touches_made = λ p h. absurd (true≢false (sym (m.pins.touches_made p h).0 ∙ calm));
          };
          turn = m.turn;
        }) (λ j u other at2. k.each j u at2);
        few = k.few;
      }
  pages_keep decide c id v g s l t k a =
      let m = k.each id v a.is_there in let und = a.may.can.0 in let w : View = view_after z decide v (found c (name z decide v)) in
      record {
        pins = rw (unmoved pins_of c.views id v w a.is_there refl) k.pins;
        touches = touched_still z g.claims.hist (claims_after z g.claims c id v decide).hist c.touches c.touches c.views k.touches id v w a.is_there refl (λ p. omega arith)
            (λ n i x f. ⊎_elim (λ y. inr (sym y.0, m.pins.written_pinned und i x (rw y.1 at f))) (λ y. inl (rw y.1 at f)) (at_change g.claims.hist v.tx.hand.number v.tx.hand.writes n))
            (λ n i x f is held. inr (is, held));
        frames = k.frames;
        each = each_set (λ j u. KnowsPages z g.frame c.touches u) c.views id w (record {
          pins = record {
            pinner = m.pins.pinner;
            written_pinned = λ u. absurd (true≢false u.not_decided);
            touches_made = λ p h. absurd (true≢false (sym (m.pins.touches_made p h).0 ∙ und.not_decided));
          };
          turn = m.turn;
        }) (λ j u other at2. k.each j u at2);
        few = k.few;
      }
  pages_keep (store i) c id v g s l t k a =
      let m = k.each id v a.is_there in let cell : ℕ = cell_of (pinned_frame v (page_of i)) i in
      pages_rest g (ghost_after z g c id v (store i)) c (after z c id v (store i)) id v (view_after z (store i) v (found c (name z (store i) v))) k a.is_there refl refl refl refl (length-set c.cells cell _) refl refl refl
      record {
        pins = record { pinner = m.pins.pinner; written_pinned = λ u. absurd (true≢false (sym a.may.can.0 ∙ u.not_decided)); touches_made = m.pins.touches_made };
        turn = m.turn;
      }
  pages_keep see_box c id v g s l t k a =
      let m = k.each id v a.is_there in let none_pinned : v.paging.pins ≡ [] = a.may.can.no_pin in
      pages_rest g (ghost_after z g c id v see_box) c (after z c id v see_box) id v (view_after z see_box v (found c (name z see_box v))) k a.is_there refl refl refl refl refl refl refl refl
      record {
        pins = record { pinner = λ p f e. absurd (let o : None ≡ Some f = rw none_pinned at e in cc); written_pinned = m.pins.written_pinned; touches_made = m.pins.touches_made };
        turn = m.turn;
      }
  pages_keep post c id v g s l t k a =
      let m = k.each id v a.is_there in let none_pinned : v.paging.pins ≡ [] = a.may.can.2 in let w : View = view_after z post v (found c (name z post v)) in
      record {
        pins = rw (unmoved pins_of c.views id v w a.is_there refl) k.pins;
        touches = touched_still z g.claims.hist g.claims.hist c.touches c.touches c.views k.touches id v w a.is_there refl (λ p. omega arith) (λ n i x f. inl f)
            (λ n i x f is held. absurd (let o : None ≡ Some held.0 = rw none_pinned at held.1 in cc));
        frames = k.frames;
        each = each_set (λ j u. KnowsPages z g.frame c.touches u) c.views id w (record {
          pins = record {
            pinner = λ p f e. absurd (let o : None ≡ Some f = rw none_pinned at e in cc);
            written_pinned = λ u. absurd (let p = u.number in omega arith);
            touches_made = λ p h. absurd (true≢false (sym h));
          };
          turn = m.turn;
        }) (λ j u other at2. k.each j u at2);
        few = k.few;
      }
  pages_keep take_turn c id v g s l t k a =
      let m = k.each id v a.is_there in let n : ℕ = c.turn in
      dite (ℕ_discrete n 0)
      (λ hit. rw (eq-eqb n 0 hit) (pages_rest g g c (record c { turn = or_else v.part.thread 0 + 1; views = set c.views id (won v) }) id v (won v) k a.is_there refl refl refl refl refl refl refl refl
      record { pins = m.pins; turn = λ has. nothing_kept z g.frame c.touches }))
      (λ miss. rw (ne_eqb n 0 miss) (pages_rest g g c _ id v _ k a.is_there refl refl refl refl refl refl refl refl record { pins = m.pins; turn = m.turn }))
  pages_keep (give_turn failed) c id v g s l t k a =
      let m = k.each id v a.is_there in
      pages_rest g (ghost_after z g c id v (give_turn failed)) c (after z c id v (give_turn failed)) id v (view_after z (give_turn failed) v c.turn) k a.is_there refl refl refl refl refl refl refl refl
      record { pins = m.pins; turn = λ has. absurd (true≢false (sym has)) }
  pages_keep (entry p) c id v g s l t k a =
      let m = k.each id v a.is_there in let n : ℕ = get_or c.entries p 0 in
      pages_rest g (ghost_after z g c id v (entry p)) c (after z c id v (entry p)) id v (view_after z (entry p) v n) k a.is_there refl refl (set-get_or c.entries p 0) refl refl refl refl refl
      record {
        pins = m.pins;
        turn = λ has. saw_entry z g.frame c.touches v.paging.entries v.turn.touches v.turn.filled (m.turn has) p n (λ e. entry_none (g.frame p) _ (sym (k.pins.counted p a.may.named) ∙ e));
      }
  pages_keep (load_touch p) c id v g s l t k a =
      let m = k.each id v a.is_there in let n : ℕ = get_or c.touches p 0 in
      pages_rest g (ghost_after z g c id v (load_touch p)) c (after z c id v (load_touch p)) id v (view_after z (load_touch p) v n) k a.is_there refl refl refl (set-get_or c.touches p 0) refl refl refl refl
      record {
        pins = m.pins;
        turn = λ has. saw_touch z g.frame c.touches v.paging.entries v.turn.touches v.turn.filled (m.turn has) p ((m.turn has).absent p a.may.can.1);
      }
  pages_keep (fill p f i x) c id v g s l t k a =
      let m = k.each id v a.is_there in let cell : ℕ = cell_of f i in
      pages_rest g (ghost_after z g c id v (fill p f i x)) c (after z c id v (fill p f i x)) id v (view_after z (fill p f i x) v (get_or c.cells cell 0)) k a.is_there refl refl refl refl (length-set c.cells cell x) refl refl refl
      record {
        pins = m.pins;
        turn = λ has. filled_more z g.frame c.touches v.paging.entries v.turn.touches v.turn.filled (m.turn has) p f i a.may.can.1 ((m.turn has).touches_with p a.may.can.2.0 a.may.can.2.1).0
            (λ q e. let inside = (k.frames.inside q f e).0 in let pins = few_pins z g c s k q in
            let is : get_or c.entries q 0 ≡ entry_with f (total (pins_at q) (map pins_of c.views)) = k.pins.counted q inside ∙ ap (λ (o : Option ℕ). entry_word o (total (pins_at q) (map pins_of c.views))) e in
            a.fits.0 q inside (let pos = entry_positive f (total (pins_at q) (map pins_of c.views)) in omega arith) (ap frame_in is ∙ frame_of_entry f (total (pins_at q) (map pins_of c.views)) pins))
            a.may.named.2 a.may.named.1;
      }
  pages_keep (pin p) c id v g s l t k a =
      let m = k.each id v a.is_there in let n : ℕ = get_or c.entries p 0 in let can = a.may.can in
      let e0 : ℕ = can.1.0 in let kept_is : kept_entry v p ≡ e0 = ap (λ (o : Option ℕ). or_else o 0) can.1.1 in
      dite (ℕ_discrete n (kept_entry v p))
      (λ hit. let pos : 0 < entry_word (g.frame p) (total (pins_at p) (map pins_of c.views)) = (let y = can.1.2 in let q : n ≡ e0 = hit ∙ kept_is in let r = k.pins.counted p a.may.named in omega arith) in
      let some_frame = entry_some (g.frame p) _ pos in let f : ℕ = some_frame.0 in
      let is : n ≡ entry_with f (total (pins_at p) (map pins_of c.views)) = k.pins.counted p a.may.named ∙ ap (λ (o : Option ℕ). entry_word o (total (pins_at p) (map pins_of c.views))) some_frame.1 in
      let frame_is : frame_in n ≡ f = ap frame_in is ∙ frame_of_entry f _ (few_pins z g c s k p) in
      let w : View = record v { paging = record v.paging { pins = (p, frame_in n) ∷ v.paging.pins } } in
      let pinned : g.frame p ≡ Some (frame_in n) = some_frame.1 ∙ ap Some (sym frame_is) in
      rw (eq-eqb n (kept_entry v p) hit) record {
        pins = subst (λ (b : ℕ). PinsCounted z g.frame (set c.entries p (b + 1)) (map pins_of (set c.views id w))) hit (pin_counted z g.frame c.entries c.views k.pins id v a.is_there w p (frame_in n) pinned can.2 refl a.may.named);
        touches = touched_still z g.claims.hist g.claims.hist c.touches c.touches c.views k.touches id v w a.is_there refl (λ r. omega arith) (λ y i x h. inl h) (λ y i x h same held. inr (same, more_pins p (frame_in n) v.paging.pins (page_of i) held));
        frames = k.frames;
        each = each_set (λ j u. KnowsPages z g.frame c.touches u) c.views id w (record {
          pins = record {
            pinner = λ r h e. (can.0, a.may.threaded);
            written_pinned = λ u i x h. more_pins p (frame_in n) v.paging.pins (page_of i) (m.pins.written_pinned u i x h);
            touches_made = m.pins.touches_made;
          };
          turn = λ has. absurd (true≢false (sym has ∙ can.3));
        }) (λ j u other at2. k.each j u at2);
        few = k.few;
      })
      (λ miss. rw (ne_eqb n (kept_entry v p) miss, set-get_or c.entries p 0) (pages_rest g g c _ id v _ k a.is_there refl refl refl refl refl refl refl refl record { pins = m.pins; turn = λ has. absurd (true≢false (sym has ∙ can.3)) }))
  pages_keep (unpin p) c id v g s l t k a =
      let m = k.each id v a.is_there in let can = a.may.can in let w : View = view_after z (unpin p) v (get_or c.entries p 0) in
      let num = (l.each id v a.is_there).number in
      -- where the number wrote to the page, its touch is made
      let made : (n i x : ℕ) → written (g.claims.hist n) i ≡ Some x → v.tx.hand.number ≡ n → page_of i ≡ p → n ≤ get_or c.touches p 0 = λ n i x f same here.
      let mine : written (g.claims.hist v.tx.hand.number) i ≡ Some x = ap (λ (y : ℕ). written (g.claims.hist y) i) same ∙ f in
      let none_written : g.claims.hist v.tx.hand.number ≡ [] → ⊥ = λ e. let o : written [] i ≡ Some x = ap (λ (y : List Write). written y i) (sym e) ∙ mine in cc in
      let dec : v.tx.hand.decided ≡ true = was_decided v.tx.hand.decided refl v.tx.hand.void refl
      (λ c1 c2. none_written (num.undecided (record { number = positive v.tx.hand.number (λ e. none_written (l.numbers.before v.tx.hand.number (omega arith)).0); not_decided = c1; not_void = c2 })).0)
      (λ c1. none_written (num.voided c1).2) in
      let writes : written v.tx.hand.writes i ≡ Some x = ap (λ (y : List Write). written y i) (sym (num.decided dec).2) ∙ mine in
      let done = can.2.each i x dec writes here in
      let le = (m.pins.touches_made p done.1).1 in omega arith in
      record {
        pins = unpin_counted z g.frame c.entries c.views k.pins id v a.is_there w p can.0.0 can.0.1 refl a.may.named;
        touches = touched_still z g.claims.hist g.claims.hist c.touches c.touches c.views k.touches id v w a.is_there refl (λ r. omega arith) (λ y i x h. inl h)
            (λ n i x f same held. dite (ℕ_discrete (page_of i) p)
            (λ here. inl (rw here (made n i x f same here)))
            (λ there. inr (same, (held.0, find_without v.paging.pins p (page_of i) (λ e. there (sym e)) ∙ held.1))));
        frames = k.frames;
        each = each_set (λ j u. KnowsPages z g.frame c.touches u) c.views id w (record {
          pins = record {
            pinner = λ r h e. m.pins.pinner p can.0.0 can.0.1;
            written_pinned = λ u. absurd (can.1 (record { number = u.number; not_decided = u.not_decided; not_void = u.not_void }));
            touches_made = m.pins.touches_made;
          };
          turn = m.turn;
        }) (λ j u other at2. k.each j u at2);
        few = k.few;
      }
  pages_keep (touch p) c id v g s l t k a =
      let m = k.each id v a.is_there in let can = a.may.can in let n : ℕ = get_or c.touches p 0 in let y : ℕ = max n v.tx.hand.number in let w : View = view_after z (touch p) v n in
      let is : g.frame p ≡ Some can.2.0 = k.pins.pinned id p can.2.0 (pins_of v) (at_map pins_of c.views id v a.is_there) can.2.1 in
      let inside : p < length c.touches = (let size = k.touches.sized in let q = a.may.named in omega arith) in
      let here : get_or (set c.touches p y) p 0 ≡ y = get_or-set_same c.touches p y 0 inside in
      let up : (r : ℕ) → get_or c.touches r 0 ≤ get_or (set c.touches p y) r 0 = λ r. dite (ℕ_discrete r p)
      (λ hit. rw (hit, here) (max_left n v.tx.hand.number))
      (λ miss. let e = get_or-set_other c.touches p r y 0 miss in omega arith) in
      record {
        pins = rw (unmoved pins_of c.views id v w a.is_there refl) k.pins;
        touches = touched_still z g.claims.hist g.claims.hist c.touches (set c.touches p y) c.views k.touches id v w a.is_there (length-set c.touches p y) up (λ n i x h. inl h) (λ n i x h same held. inr (same, held));
        frames = k.frames;
        each = each_set (λ j u. KnowsPages z g.frame (set c.touches p y) u) c.views id w (record {
          pins = record {
            pinner = m.pins.pinner;
            written_pinned = m.pins.written_pinned;
            touches_made = λ r h. ⊎_elim
                (λ e. let same : p ≡ r = eq_of p r e in (can.0, rw (← same, here) (max_right n v.tx.hand.number)))
                (λ e. let q = m.pins.touches_made r e in let u = up r in let le = q.1 in (q.0, omega arith))
                (or_cases (p == r) (has v.paging.touched r) h);
          };
          turn = λ has. touch_raised z g.frame c.touches v.paging.entries v.turn.touches v.turn.filled (m.turn has) p y can.2.0 is;
        }) (λ j u other at2. let q = k.each j u at2 in record {
          pins = record {
            pinner = q.pins.pinner;
            written_pinned = q.pins.written_pinned;
            touches_made = λ r h. let b = q.pins.touches_made r h in let x = up r in let le = b.1 in (b.0, omega arith);
          };
          turn = λ has. touch_raised z g.frame c.touches u.paging.entries u.turn.touches u.turn.filled (q.turn has) p y can.2.0 is;
        });
        few = k.few;
      }
  pages_keep (evict p) c id v g s l t k a =
      let m = k.each id v a.is_there in let can = a.may.can in let n : ℕ = get_or c.entries p 0 in let e0 : ℕ = kept_entry v p in
      dite (ℕ_discrete n (without_pins e0))
      (λ hit. let no_pin : (j : ℕ) (ps : List (ℕ × ℕ)) → get_elem? (map pins_of c.views) j ≡ some ps → find ps p ≡ None = evicted_unpinned g c s k p a.may.named e0 hit in
      let w : View = record v { paging = record v.paging { entries = (p, 0) ∷ v.paging.entries }; turn = record v.turn { touches = without v.turn.touches p; filled = (replacing true p v.turn).filled } } in
      rw (eq-eqb n (without_pins e0) hit) (moved_page g c s t k id v w a.is_there can.0 p None a.may.named no_pin (λ f e. absurd (let o : None ≡ Some f = e in cc)) refl refl refl m.pins
      (λ has. page_left z g.frame c.touches v.paging.entries v.turn.touches v.turn.filled (m.turn can.0) p)))
      (λ miss. rw (ne_eqb n (without_pins e0) miss, set-get_or c.entries p 0) (pages_rest g g c _ id v _ k a.is_there refl refl refl refl refl refl refl refl
      record { pins = m.pins; turn = λ has. saw_entry z g.frame c.touches v.paging.entries v.turn.touches v.turn.filled (m.turn can.0) p n (λ e. entry_none (g.frame p) _ (sym (k.pins.counted p a.may.named) ∙ e)) }))
  pages_keep (show p f) c id v g s l t k a =
      let m = k.each id v a.is_there in let can = a.may.can in let pages = m.turn can.0 in
      let i : ℕ = p * PAGE in let of_page : page_of i ≡ p = omega arith in
      let filled = can.1 i of_page in let was = pages.filled_absent i f filled in
      let none_there : g.frame p ≡ None = subst (λ (y : ℕ). g.frame y ≡ None) of_page was.0 in
      let w : View = view_after z (show p f) v (get_or c.entries p 0) in
      moved_page g c s t k id v w a.is_there can.0 p (Some f) a.may.named.0 (absent_unpinned z g.frame c.entries (map pins_of c.views) k.pins p none_there) (λ h e. let same : f ≡ h = cc in (rw (← same) was.1, rw (← same) a.may.named.1)) refl refl refl m.pins
      (λ has. page_shown z g.frame c.touches v.paging.entries v.turn.touches v.turn.filled pages p f i of_page filled)
  pages_keep e c id v g s l t k a =
      let m = k.each id v a.is_there in
      pages_rest g (ghost_after z g c id v e) c (after z c id v e) id v (view_after z e v (found c (name z e v))) k a.is_there refl refl refl refl refl refl refl refl record { pins = m.pins; turn = m.turn }

  -- a view that has done nothing knows nothing of pages
  fresh_knows : (frame : ℕ → Option ℕ) (touches : List ℕ) (u : View) → u.paging.pins ≡ [] → u.paging.touched ≡ [] → u.tx.hand.number ≡ 0 → u.turn.has_it ≡ false → KnowsPages z frame touches u
  fresh_knows frame touches u pins touched none_drawn no_turn = record {
    pins = record {
      pinner = λ p f e. absurd (let o : None ≡ Some f = rw pins at e in cc);
      written_pinned = λ x. absurd (let p = x.number in omega arith);
      touches_made = λ p h. absurd (true≢false (sym (rw touched at h)));
    };
    turn = λ has. absurd (true≢false (sym has ∙ no_turn));
  }

  pins_snoc : (l : List View) (a : View) → map pins_of (l ++ a ∷ []) ≡ map pins_of l ++ pins_of a ∷ []
  pins_snoc [] a = refl
  pins_snoc (x ∷ xs) a = ap (λ (h : List (List (ℕ × ℕ))). pins_of x ∷ h) (pins_snoc xs a)

  pinners_snoc : (l : List View) (a : View) → map pinner_of (l ++ a ∷ []) ≡ map pinner_of l ++ pinner_of a ∷ []
  pinners_snoc [] a = refl
  pinners_snoc (x ∷ xs) a = ap (λ (h : List Pinner). pinner_of x ∷ h) (pinners_snoc xs a)

  pub pages_split_keep : (c : State) (id draws : ℕ) (v : View) (g : Ghost) → PagesKept z g c → MaySplit c id v draws → PagesKept z g (split z c id v draws)
  pages_split_keep c id draws v g k may =
      let w = left_of draws v in let n = newcomer z 0 draws in let vs : List View = set c.views id w in let m = k.each id v may.is_there in
      let pins : map pins_of (vs ++ n ∷ []) ≡ map pins_of c.views ++ [] ∷ [] = pins_snoc vs n ∙ ap (λ (l : List (List (ℕ × ℕ))). l ++ [] ∷ []) (unmoved pins_of c.views id v w may.is_there refl) in
      let pinners : map pinner_of (vs ++ n ∷ []) ≡ map pinner_of c.views ++ pinner_of n ∷ [] = pinners_snoc vs n ∙ ap (λ (l : List Pinner). l ++ pinner_of n ∷ []) (unmoved pinner_of c.views id v w may.is_there refl) in
      record {
        pins = rw pins record {
          sized = k.pins.sized;
          counted = λ p lt. k.pins.counted p lt ∙ ap (entry_word (g.frame p)) (let s = total_snoc (pins_at p) (map pins_of c.views) [] in omega arith);
          pinned = λ j p f ps e found. ⊎_elim (λ t. k.pins.pinned j p f ps t found) (λ t. absurd (let o : None ≡ Some f = ap (λ (l : List (ℕ × ℕ)). find l p) t.0 ∙ found in cc)) (at_snoc (map pins_of c.views) [] ps j e);
        };
        touches = rw pinners record {
          sized = k.touches.sized;
          touched = λ x i y f. ⊎_elim (λ t. inl t) (λ t. inr (t.0, t.1, at_longer (map pinner_of c.views) (pinner_of n ∷ []) t.0 t.1 t.2, t.3, t.4)) (k.touches.touched x i y f);
        };
        frames = k.frames;
        each = λ j u e. ⊎_elim
            (λ t. each_set (λ i y. KnowsPages z g.frame c.touches y) c.views id w (record { pins = m.pins; turn = m.turn }) (λ i y other at2. k.each i y at2) j u t)
            (λ t. subst (λ (y : View). KnowsPages z g.frame c.touches y) t.0 (fresh_knows g.frame c.touches n refl refl refl refl))
            (at_snoc vs n u j e);
        few = k.few;
      }

  pub pages_join_keep : (c : State) (id other : ℕ) (v w : View) (g : Ghost) → PagesKept z g c → MayJoin c id v other w → PagesKept z (ghost_joined g id other) (join z c id v other w)
  pages_join_keep c id other v w g k may =
      let both = both_of v w in let gone = spent z in let vs : List View = set c.views id both in let m = k.each id v may.is_there in
      let no_pin : w.paging.pins ≡ [] = may.other_idle.no_pin in
      let pins : map pins_of (set vs other gone) ≡ map pins_of c.views = map-set pins_of vs other gone ∙ (ap (λ (l : List (List (ℕ × ℕ))). set l other []) (unmoved pins_of c.views id v both may.is_there refl)
      ∙ (sym (map-set pins_of c.views other gone) ∙ unmoved pins_of c.views other w gone may.other_there (sym no_pin))) in
      let one : map pinner_of vs ≡ map pinner_of c.views = unmoved pinner_of c.views id v both may.is_there refl in
      record {
        pins = rw pins k.pins;
        touches = rw (map-set pinner_of vs other gone, one) record {
          sized = k.touches.sized;
          touched = λ x i y f. ⊎_elim (λ t. inl t)
              (λ t. let apart : t.0 ≢ other = λ e. let same : pinner_of w ≡ t.1 = some-injective (pinner_of w) t.1 (sym (at_map pinner_of c.views other w may.other_there) ∙ (ap (get_elem? (map pinner_of c.views)) (sym e) ∙ t.2)) in
              let o : None ≡ Some t.4.0 = (let h : find w.paging.pins (page_of i) ≡ Some t.4.0 = ap (λ (r : Pinner). find r.pins (page_of i)) same ∙ t.4.1 in rw no_pin at h) in cc in
              inr (t.0, t.1, set_else (map pinner_of c.views) other t.0 (pinner_of gone) apart ∙ t.2, t.3, t.4))
              (k.touches.touched x i y f);
        };
        frames = k.frames;
        each = each_set (λ i y. KnowsPages z g.frame c.touches y) vs other gone (fresh_knows g.frame c.touches gone refl refl refl refl)
            (λ j u apart at2. each_set (λ i y. KnowsPages z g.frame c.touches y) c.views id both (record { pins = m.pins; turn = m.turn }) (λ i y o at3. k.each i y at3) j u at2);
        few = k.few;
      }
