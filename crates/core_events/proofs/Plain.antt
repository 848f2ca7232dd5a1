-- The kept state says these things of the words and the views alone.
use Rattle.std.proofs.Common.{◌≡◌, ℕ, ◌+◌, ◌*◌, ◌<◌, ◌⊎◌, Bool, true, false, List, get_or, map, refl, sym, ap, ◌∙◌, inl, inr, ⊎_elim, arith}
use Rattle.std.specs.Prelude.{Option, Some, None}
use Rattle.dude_base.specs.declared.write.Write.{Write}
use Rattle.dude_base.specs.Writes.{written}
use Rattle.core_events.specs.Setups.{Setup, lock_of, page_of, cell_of, entry_with, frame_in, ENTRY}
use Rattle.core_events.specs.Keyed.{find, has, total}
use Rattle.core_events.specs.Views.{Hand, View}
use Rattle.core_events.specs.Words.{State}
use Rattle.core_events.specs.Entries.{value_at, all_entries}
use Rattle.core_events.specs.Events.{show}
use Rattle.core_events.specs.Conditions.{Owns, IsAllowed, after}
use Rattle.core_events.specs.Ghosts.{ghost_after, Hold, free, taken, writing, version, word_of, Ghost}
use Rattle.core_events.specs.KeptThreads.{part_of}
use Rattle.core_events.specs.KeptLocks.{hand_of}
use Rattle.core_events.specs.KeptTurn.{Holder, holder_of}
use Rattle.core_events.specs.KeptPages.{pins_of, pins_at, entry_word}
use Rattle.core_events.specs.Kept.{LayersKept, Kept}
use Rattle.core_events.specs.Plain.{IsView, PlainLocks, PlainUndecided, PlainPages, PlainValues, PlainTurn, PlainOrder, IsPlain}
use Rattle.core_events.proofs.Lists.{at_map, of_map, view_there}
use Rattle.core_events.proofs.Values.{even_version, odd_owner}
use Rattle.core_events.proofs.Filled.{frame_of_entry, entry_positive}
use Rattle.core_events.proofs.Pages.{few_pins}
use Rattle.core_events.proofs.EntriesKept.{entries_keep}
use Rattle.core_events.proofs.EntriesAll.{writes_are, value_is}

-- an entry with so many pins says its frame and its pins
entry_same : (f g i j : ℕ) → i < ENTRY → j < ENTRY → entry_with f i ≡ entry_with g j → (f ≡ g) × (i ≡ j)
entry_same f g i j li lj e = let a : frame_in (entry_with f i) ≡ f = frame_of_entry f i li in let b : frame_in (entry_with g j) ≡ g = frame_of_entry g j lj in
    let same : f ≡ g = sym a ∙ (ap frame_in e ∙ b) in (same, omega arith)

module _ (z : Setup) (c : State) (k : Kept z c) where
  abbrev l : LayersKept z k.ghost_is c
  l = k.layers

  abbrev g : Ghost
  g = k.ghost_is

  -- the hold of a lock that a view owns
  hold_of : (n j : ℕ) (v : View) → IsView c j v → Owns v n → (b : Bool) → v.tx.hand.decided ≡ b → (u : ℕ) × ((g.claims.lock n ≡ taken j u) ⊎ (g.claims.lock n ≡ writing j u))
  hold_of n j v at o true is = let r = (l.locks.each j v at).owns.owns n o.0 o.1 in (r.0, inr (r.4 is))
  hold_of n j v at o false is = let r = (l.locks.each j v at).owns.owns n o.0 o.1 in (r.0, inl (r.3 is))

  owner_there : (n j u : ℕ) → (g.claims.lock n ≡ taken j u) ⊎ (g.claims.lock n ≡ writing j u) → (v : View) × IsView c j v × Owns v n × ((t : ℕ) × (v.part.thread ≡ Some t))
  owner_there n j u e =
      let w = view_there c.views j (l.locks.seated n j u e) in let m = (l.locks.each j w.0 w.1).owns in
      let held : (p : ℕ) × (find w.0.tx.owned n ≡ Some p) = ⊎_elim (λ x. (2 * u, (m.has_taken n u x).1)) (λ x. (2 * u, (m.has_writing n u x).1)) e in
      (w.0, w.1, held, (m.owner n held.0 held.1).1)

  word_there : (n j u : ℕ) → (g.claims.lock n ≡ taken j u) ⊎ (g.claims.lock n ≡ writing j u) → word_of g.thread (g.claims.lock n) ≡ 2 * g.thread j + 1
  word_there n j u e = ⊎_elim (λ x. ap (word_of g.thread) x) (λ x. ap (word_of g.thread) x) e

  same_owner : (h : Hold) (i j u w : ℕ) → (h ≡ taken i u) ⊎ (h ≡ writing i u) → (h ≡ taken j w) ⊎ (h ≡ writing j w) → i ≡ j
  same_owner h i j u w a b = ⊎_elim
      (λ x. ⊎_elim (λ y. let f : taken i u ≡ taken j w = sym x ∙ y in cc) (λ y. let f : taken i u ≡ writing j w = sym x ∙ y in absurd cc) b)
      (λ x. ⊎_elim (λ y. let f : writing i u ≡ taken j w = sym x ∙ y in absurd cc) (λ y. let f : writing i u ≡ writing j w = sym x ∙ y in cc) b) a

  locks_plain : PlainLocks z c
  locks_plain = record {
    owned = λ n t inside word.
        let o = odd_owner g.thread (g.claims.lock n) t (sym (l.locks.owned.shows n inside) ∙ word) in
        let w = owner_there n o.0 o.1 o.2 in
        let m = (l.threads.mine o.0 w.3.0 w.0.part (at_map part_of c.views o.0 w.0 w.1) w.3.1).0 in
        (o.0, w.0, w.1, w.3.1 ∙ ap Some (sym m ∙ o.3), w.2);
    shows = λ n j v at o.
        let h = hold_of n j v at o v.tx.hand.decided refl in let m = (l.locks.each j v at).owns in
        let t = (m.owner n o.0 o.1).1 in
        (t.0, t.1, l.locks.owned.shows n (m.inside n o.0 o.1) ∙ (word_there n j h.0 h.1 ∙ ap (λ (y : ℕ). 2 * y + 1) (l.threads.mine j t.0 v.part (at_map part_of c.views j v at) t.1).0));
    one_owner = λ n i j u v at_u at_v ou ov. let a = hold_of n i u at_u ou u.tx.hand.decided refl in let b = hold_of n j v at_v ov v.tx.hand.decided refl in same_owner (g.claims.lock n) i j a.0 b.0 a.1 b.1;
    version = λ n u inside word. let h = even_version g.thread (g.claims.lock n) u (sym (l.locks.owned.shows n inside) ∙ word) in let e : version (g.claims.lock n) ≡ u = ap version h in let a = l.locks.owned.upto n in omega arith;
    none_over = λ n u m i x inside word lt under f.
        let h = even_version g.thread (g.claims.lock n) u (sym (l.locks.owned.shows n inside) ∙ word) in
        let lock : g.claims.lock (lock_of z i) ≡ free u = ap g.claims.lock under ∙ h in let e : version (g.claims.lock (lock_of z i)) ≡ u = ap version lock in
        let o = l.locks.owned.covered m i x (omega arith) (ap (λ (ws : List Write). written ws i) (sym (writes_are z g c l.entries m)) ∙ f) in
        let y : free u ≡ writing o.0 o.1 = sym lock ∙ o.3 in cc;
  }

  undecided_plain : PlainUndecided z c
  undecided_plain = record {
    owns = λ j i x v at und f.
        let m = l.locks.each j v at in let p = (l.pages.each j v at).pins.written_pinned und i x f in
        let o = l.locks.undecided.waiting v.tx.hand.number i x (ap (λ (ws : List Write). written ws i) (m.number.undecided und).1 ∙ f) in
        let u = of_map hand_of c.views o.0 o.2 o.4 in
        let same : u.0.tx.hand.number ≡ v.tx.hand.number = ap (λ (y : Hand). y.number) u.2 ∙ o.5 in
        let theirs = (l.locks.each o.0 u.0 u.1).number.numbered (let q = o.6 in omega arith) in
        let j_is : o.0 ≡ j = sym theirs.3 ∙ (ap g.claims.who same ∙ (m.number.numbered und.number).3) in
        ((2 * o.1, (m.owns.has_taken (lock_of z i) o.1 (o.3 ∙ ap (λ (y : ℕ). taken y o.1) j_is)).1), p);
  }

  -- the frame that an entry with so many pins names
  framed : (p f pins : ℕ) → p < z.pages → pins < ENTRY → get_or c.entries p 0 ≡ entry_with f pins → (o : Option ℕ) → g.frame p ≡ o → (g.frame p ≡ Some f) × (pins ≡ total (pins_at p) (map pins_of c.views))
  framed p f pins inside few word None is =
      absurd (let a : get_or c.entries p 0 ≡ 0 = l.pages.pins.counted p inside ∙ ap (λ (o : Option ℕ). entry_word o (total (pins_at p) (map pins_of c.views))) is in let b = entry_positive f pins in omega arith)
  framed p f pins inside few word (Some h) is =
      let a : get_or c.entries p 0 ≡ entry_with h (total (pins_at p) (map pins_of c.views)) = l.pages.pins.counted p inside ∙ ap (λ (o : Option ℕ). entry_word o (total (pins_at p) (map pins_of c.views))) is in
      let same = entry_same f h pins (total (pins_at p) (map pins_of c.views)) few (few_pins z g c l.threads l.pages p) (sym word ∙ a) in
      (is ∙ ap Some (sym same.0), same.1)

  pages_plain : PlainPages z c
  pages_plain = record {
    absent = λ p j v inside word at pins.
        let is = l.pages.pins.pinned j p pins.0 (pins_of v) (at_map pins_of c.views j v at) pins.1 in
        let a : get_or c.entries p 0 ≡ entry_with pins.0 (total (pins_at p) (map pins_of c.views)) = l.pages.pins.counted p inside ∙ ap (λ (o : Option ℕ). entry_word o (total (pins_at p) (map pins_of c.views))) is in
        let b = entry_positive pins.0 (total (pins_at p) (map pins_of c.views)) in omega arith;
    counted = λ p f pins inside few word. let a = framed p f pins inside few word (g.frame p) refl in (a.1, (l.pages.frames.inside p f a.0).1);
    one_frame = λ p q f i j lp lq li lj wp wq. l.pages.frames.one_each p q f (framed p f i lp li wp (g.frame p) refl).0 (framed q f j lq lj wq (g.frame q) refl).0;
  }

  turn_plain : PlainTurn c
  turn_plain = record {
    holds = λ j v at has. l.turn.turn.holds j (holder_of v) (at_map holder_of c.views j v at) has;
    held = λ t e.
        let h = l.turn.turn.held (omega arith) in let u = of_map holder_of c.views h.0 h.1 h.2 in
        let has : u.0.turn.has_it ≡ true = ap (λ (y : Holder). y.has_it) u.2 ∙ h.3 in
        let a = l.turn.turn.holds h.0 (holder_of u.0) (at_map holder_of c.views h.0 u.0 u.1) has in
        let same : a.0 ≡ t = (let b = a.2 in omega arith) in
        (h.0, u.0, u.1, a.1 ∙ ap Some same, has);
  }

  values_plain : z.is_told ≡ true → PlainValues z c
  values_plain told =
      let y = k.values told in record {
        reads = λ j v at opened n d lt. (y.reads j v at).read opened n d lt ∙ sym (value_is z g c l.entries v.tx.snapshot (get_or v.tx.reads n d).0);
        shown = λ i f pins inside few word.
            let p : page_of i < z.pages = omega arith in
            ⊎_elim
            (λ s. inl (s ∙ sym (value_is z g c l.entries c.clock i)))
            (λ s. let u = of_map hand_of c.views s.0 s.2 s.5 in let m = (l.locks.each s.0 u.0 u.1).owns in let own = m.has_writing (lock_of z i) s.1 s.4 in
            inr (s.0, s.3, u.0, u.1, (2 * s.1, own.1), own.0, ap (λ (h : Hand). written h.writes i) u.2 ∙ s.6, ap (λ (h : Hand). has h.stored i) u.2 ∙ s.7))
            (y.shown.shown i f inside (framed (page_of i) f pins p few word (g.frame (page_of i)) refl).0);
      }

  order_plain : PlainOrder z c
  order_plain = record {
    over = λ i t j v at. (l.order.each i v at).over t j;
    rises = λ t. (g.next t, l.order.rises t, (λ i v at. (l.order.each i v at).at_place t));
  }

  pub plain : IsPlain z c
  plain = record { locks = locks_plain; undecided = undecided_plain; pages = pages_plain; turn = turn_plain; order = order_plain; values = values_plain }

  -- each word of a page that is shown is the value at the clock
  pub page_shows : z.is_told ≡ true → (who p f : ℕ) (v : View) (a : IsAllowed z c who (show p f) v) (i : ℕ) → page_of i ≡ p
      → get_or c.cells (cell_of f i) 0 ≡ value_at z.opening (all_entries (after z c who v (show p f)).views) c.clock i
  page_shows told who p f v a i of_page =
      ((k.values told).filled who v a.is_there a.may.can.0).filled_with i f (a.may.can.1 i of_page)
      ∙ sym (value_is z (ghost_after z g c who v (show p f)) (after z c who v (show p f)) (entries_keep z (show p f) c who v g l.threads l.locks l.entries a) c.clock i)
