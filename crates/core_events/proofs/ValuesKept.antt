-- The layer of values is kept.
use Rattle.std.proofs.Common.{◌≡◌, ◌≢◌, ℕ, ◌+◌, ◌-◌, ◌*◌, ◌%◌, ◌<◌, ◌≤◌, ◌==◌, Bool, true, false, List, [], ◌∷◌, ◌++◌, length, get_or, set, map, refl, sym, ap, ◌∙◌, subst, inl, inr, ⊎_elim, ne_eqb, arith, get_or-set_same, get_or-set_other, All, div-add-mod', mod-lt}
use Rattle.std.specs.Prelude.{Option, Some, None, if◌then◌else◌}
use Rattle.std.proofs.lemmas.Bool.{true≢false}
use Rattle.std.proofs.lemmas.List.{map-set, set-get_or}
use Rattle.std.proofs.lemmas.List.Elements.{All-append}
use mathlib.Core.Option.{some, some-injective}
use mathlib.Core.Logic.{dite}
use native.Mathlib.Decide.{ℕ_discrete}
use lib.ListN.{get_elem?}
use Rattle.dude_base.specs.declared.limits.TheConstants.{PAGE}
use Rattle.dude_base.specs.declared.write.Write.{Write}
use Rattle.dude_base.specs.Writes.{written}
use Rattle.core_events.specs.Setups.{Setup, lock_of, page_of, cell_of, without_pins}
use Rattle.core_events.specs.Keyed.{find, has, or_else, change}
use Rattle.core_events.specs.Views.{Hand, Transaction, View}
use Rattle.core_events.specs.Words.{State, found}
use Rattle.core_events.specs.Entries.{value, value_at, all_entries}
use Rattle.core_events.specs.Events.{Event, number, begin, extend, look, load, check, finish, take, draw, decide, store, release, restore, see_box, post, take_turn, give_turn, evict, fill, show, name, looked_word, own_word, kept_entry, pinned_frame, all_checked, unfilled, taking, turning, read_entry, write_entry, no_hand, view_after}
use Rattle.core_events.specs.Conditions.{IsAllowed, IsFilled, after}
use Rattle.core_events.specs.Partings.{newcomer, left_of, both_of, spent, MaySplit, MayJoin, split, join}
use Rattle.core_events.specs.Ghosts.{ghost_joined, writing, Ghost, claims_after, frame_after, ghost_after}
use Rattle.core_events.specs.KeptLocks.{hand_of}
use Rattle.core_events.specs.KeptEntries.{EntriesKept}
use Rattle.core_events.specs.KeptNumbers.{NumbersKept}
use Rattle.core_events.specs.KeptTurn.{TurnKept}
use Rattle.core_events.specs.KeptPages.{pins_of, pinner_of, PagesKept}
use Rattle.core_events.specs.KeptValues.{ShownWords, ReadValues, FilledWords, EntryReads, ValuesKept}
use Rattle.core_events.specs.Layers.{ThreadsIn, LocksIn}
use Rattle.core_events.proofs.Lists.{there, set_here, set_else, at_snoc, at_map, of_map, unmoved, each_set, all_one, find_gone, find_without, at_change}
use Rattle.core_events.proofs.Values.{value_same, value_still, value_last, value_next, either_way}
use Rattle.core_events.proofs.Stays.{Moves, new_hand, my_hand}
use Rattle.core_events.proofs.Decides.{mine, writes_own, same_where}
use Rattle.core_events.proofs.Stores.{none_after}
use Rattle.core_events.proofs.Releases.{on_other, owner_of_l}
use Rattle.core_events.proofs.LocksKept.{moves, reaching_hand}
use Rattle.core_events.proofs.Threads.{at_longer}
use Rattle.core_events.proofs.TurnKept.{one_holder}
use Rattle.core_events.proofs.Filled.{unfilled_in, refilled_in}
use Rattle.core_events.proofs.PagesKept.{pages_keep}
use Rattle.core_events.proofs.ValuesStay.{Unstored, shown_on, absent_value, read_on, reads_on, entries_on}
use Rattle.core_events.proofs.ValuesRead.{load_reads, extend_reads, check_reads}
use Rattle.core_events.proofs.EntriesAll.{value_is}

-- a frame word is of one home word alone
cell_same : (f g i k : ℕ) → cell_of f i ≡ cell_of g k → (f ≡ g) × (i % PAGE ≡ k % PAGE)
cell_same f g i k e = let a = mod-lt i {m = PAGE} (omega arith) in let b = mod-lt k {m = PAGE} (omega arith) in (omega arith, omega arith)

word_same : (i k : ℕ) → page_of i ≡ page_of k → i % PAGE ≡ k % PAGE → i ≡ k
word_same i k p o = omega (arith, div-add-mod' i PAGE, div-add-mod' k PAGE)

module _ (z : Setup) where
  -- ---- one event of the view id, which becomes w
  module _ (e : Event) (c : State) (id : ℕ) (v : View) (g : Ghost) (s : ThreadsIn z g c) (l : LocksIn z g c) (o : EntriesKept z g c) (t : TurnKept z c) (k : PagesKept z g c) (a : IsAllowed z c id e v) (y : ValuesKept z g c) where
    abbrev d : State
    d = after z c id v e

    abbrev h : Ghost
    h = ghost_after z g c id v e

    mv : Moves z id c.clock g.claims d.clock h.claims
    mv = moves z e c id v g s l a

    values_by : (w : View) → d.views ≡ set c.views id w → ShownWords z h.claims.hist h.claims.lock h.frame d.clock d.cells (map hand_of (set c.views id w)) → ReadValues z h.claims.hist h.claims.lock w.part.thread w.tx
        → (w.turn.has_it ≡ true → FilledWords z h.claims.hist d.clock d.cells w.turn.filled) → ((j : ℕ) (u : View) → j ≢ id → get_elem? c.views j ≡ some u → u.turn.has_it ≡ true → FilledWords z h.claims.hist d.clock d.cells u.turn.filled)
        → All (EntryReads z h.claims.hist) w.entries → ValuesKept z h d
    values_by w views shown reads filled others entries = record {
      shown = rw views shown;
      reads = λ j u at. each_set (λ j u. ReadValues z h.claims.hist h.claims.lock u.part.thread u.tx) c.views id w reads (λ j u other at2. reads_on z c g id d.clock h.claims mv l o y j u at2 other) j u (rw (← views) at);
      filled = λ j u at. each_set (λ j u. u.turn.has_it ≡ true → FilledWords z h.claims.hist d.clock d.cells u.turn.filled) c.views id w filled others j u (rw (← views) at);
      entries = λ j u at. each_set (λ j u. All (EntryReads z h.claims.hist) u.entries) c.views id w entries (λ j u other at2. entries_on z c g id d.clock h.claims mv l o y j u at2) j u (rw (← views) at);
    }

    -- words that were filled, where their cells are as they were
    filled_same : (j : ℕ) (u : View) → get_elem? c.views j ≡ some u → u.turn.has_it ≡ true → (fs : List (ℕ × ℕ)) → ((i f : ℕ) → IsFilled fs i f → IsFilled u.turn.filled i f)
        → ((i f : ℕ) → IsFilled fs i f → get_or d.cells (cell_of f i) 0 ≡ get_or c.cells (cell_of f i) 0) → FilledWords z h.claims.hist d.clock d.cells fs
    filled_same j u at has fs sub cells = record {
      filled_with = λ i f e2. let absent = ((k.each j u at).turn has).filled_absent i f (sub i f e2) in
          cells i f e2 ∙ ((y.filled j u at has).filled_with i f (sub i f e2) ∙ sym (absent_value z e c id v g l k a i absent.0));
    }

    my_entries : All (EntryReads z h.claims.hist) v.entries
    my_entries = entries_on z c g id d.clock h.claims mv l o y id v a.is_there

    my_read : v.tx.is_open ≡ true → All (λ p. p.1 ≡ value z.opening h.claims.hist v.tx.snapshot p.0) v.tx.reads
    my_read = read_on z c g id d.clock h.claims mv l o y id v a.is_there

    -- a view that waits for no value
    settled_reads : (th : Option ℕ) (x : Transaction) → x.is_open ≡ v.tx.is_open → x.snapshot ≡ v.tx.snapshot → x.reads ≡ v.tx.reads → x.loaded ≡ None → ReadValues z h.claims.hist h.claims.lock th x
    settled_reads th x opened snapshot reads loaded = record {
      read = λ e2. rw (reads, snapshot) (my_read (sym opened ∙ e2));
      waits = λ i b e2. absurd (let f : None ≡ Some (i, b) = sym loaded ∙ e2 in cc);
    }

    -- words that are still to be stored by others
    unstored_on : (w : View) → ((i j u : ℕ) → g.claims.lock i ≡ writing j u → j ≢ id) → (i : ℕ) → Unstored z g.claims.lock (map hand_of c.views) i → Unstored z h.claims.lock (map hand_of (set c.views id w)) i
    unstored_on w not_mine i u =
        let other = not_mine (lock_of z i) u.0 u.1 u.4 in
        (u.0, u.1, u.2, u.3, mv.owner_on u.0 (lock_of z i) u.1 other u.4, ⊎_elim (λ x. absurd (other x.0)) (λ x. x.1) (new_hand c.views id v w a.is_there u.0 u.2 u.5), u.6, u.7)

    -- a view whose number isn't decided has no word to store
    calm_else : v.tx.hand.decided ≡ false → (i j u : ℕ) → g.claims.lock i ≡ writing j u → j ≢ id
    calm_else calm i j u e2 same = true≢false (sym ((l.each id v a.is_there).owns.has_writing i u (rw same at e2)).0 ∙ calm)

    -- nor has one that owns no lock
    free_else : v.tx.owned ≡ [] → (i j u : ℕ) → g.claims.lock i ≡ writing j u → j ≢ id
    free_else none_owned i j u e2 same = let f : find [] i ≡ Some (2 * u) = rw none_owned at ((l.each id v a.is_there).owns.has_writing i u (rw same at e2)).1 in let o2 : None ≡ Some (2 * u) = f in cc

  same_sub : (fs : List (ℕ × ℕ)) (i f : ℕ) → IsFilled fs i f → IsFilled fs i f
  same_sub fs i f e = e

  -- the value that is filled in is the one at the clock
  fill_value : (c : State) (g : Ghost) → LocksIn z g c → EntriesKept z g c → TurnKept z c → PagesKept z g c → (p i x : ℕ) → page_of i ≡ p → g.frame p ≡ None → get_or c.touches p 0 ≤ c.reproduced
      → x ≡ value_at z.opening (all_entries c.views) c.reproduced i → x ≡ value z.opening g.claims.hist c.clock i
  fill_value c g l o t k p i x of_page absent old is =
      let below : c.reproduced ≤ c.clock = t.durable.ordered in
      is ∙ (value_is z g c o c.reproduced i ∙ sym (value_still z.opening g.claims.hist c.reproduced c.clock i below
      (λ n lt le w f. ⊎_elim
      (λ b. absurd (let e : get_or c.touches (page_of i) 0 ≡ get_or c.touches p 0 = ap (λ (r : ℕ). get_or c.touches r 0) of_page in omega arith))
      (λ b. let u = of_map pinner_of c.views b.0 b.1 b.2 in
      let held : find u.0.paging.pins (page_of i) ≡ Some b.4.0 = ap (λ r. find r.pins (page_of i)) u.2 ∙ b.4.1 in
      let some_frame = k.pins.pinned b.0 (page_of i) b.4.0 (pins_of u.0) (at_map pins_of c.views b.0 u.0 u.1) held in
      let e : None ≡ Some b.4.0 = sym absent ∙ (ap g.frame (sym of_page) ∙ some_frame) in cc)
      (k.touches.touched n i w f))))

  no_value : (q : Option (ℕ × ℕ)) {r : Option (ℕ × ℕ)} → r ≡ q → ((p : ℕ × ℕ) → r ≡ Some p → ⊥) → r ≡ None
  no_value None e never = e
  no_value (Some p) e never = absurd (never p e)

  taking_open : (b : Bool) (n word : ℕ) (x : Transaction) → (taking b n word x).is_open ≡ x.is_open
  taking_open true n word x = refl
  taking_open false n word x = refl

  taking_snapshot : (b : Bool) (n word : ℕ) (x : Transaction) → (taking b n word x).snapshot ≡ x.snapshot
  taking_snapshot true n word x = refl
  taking_snapshot false n word x = refl

  taking_reads : (b : Bool) (n word : ℕ) (x : Transaction) → (taking b n word x).reads ≡ x.reads
  taking_reads true n word x = refl
  taking_reads false n word x = refl

  taking_loaded : (b : Bool) (n word : ℕ) (x : Transaction) → (taking b n word x).loaded ≡ None
  taking_loaded true n word x = refl
  taking_loaded false n word x = refl

  taking_hand : (b : Bool) (n word : ℕ) (x : Transaction) → (taking b n word x).hand ≡ x.hand
  taking_hand true n word x = refl
  taking_hand false n word x = refl

  -- ---- the words that are shown, where a hand or a lock changes
  -- a view that checks hasn't decided
  calm_check : (n : ℕ) (c : State) (id : ℕ) (v : View) (g : Ghost) → LocksIn z g c → IsAllowed z c id (check n) v → v.tx.hand.decided ≡ false
  calm_check n c id v g l a =
      let m = l.each id v a.is_there in ⊎_elim
      (λ p. (m.number.blank (m.look.waits p.0 p.1 p.2).0.no_number).0)
      (λ p. ⊎_elim (λ q. (m.number.blank (m.confirmed.extended q.0 q.1).2).0) (λ q. q.1.not_decided) p.why)
      a.may.can

  calm_restore : (n : ℕ) (c : State) (id : ℕ) (v : View) (g : Ghost) → LocksIn z g c → IsAllowed z c id (restore n) v → v.tx.hand.decided ≡ false
  calm_restore n c id v g l a = let m = l.each id v a.is_there in ⊎_elim (λ e. (m.number.voided e).1) (λ e. (m.number.blank e).0) a.may.can.1

  decide_shown : (c : State) (id : ℕ) (v : View) (g : Ghost) (s : ThreadsIn z g c) (l : LocksIn z g c) (o : EntriesKept z g c) (t : TurnKept z c) (k : PagesKept z g c) (a : IsAllowed z c id decide v) (y : ValuesKept z g c)
      → ShownWords z (claims_after z g.claims c id v decide).hist (claims_after z g.claims c id v decide).lock g.frame c.clock c.cells (map hand_of (set c.views id (view_after z decide v (found c (name z decide v)))))
  decide_shown c id v g s l o t k a y =
      let w : View = view_after z decide v (found c (name z decide v)) in let und = a.may.can.0 in let m = l.each id v a.is_there in record {
        shown = λ i f lt e. ⊎_elim
            (λ not_written. ⊎_elim
            (λ q. inl (q ∙ sym (value_same z.opening g.claims.hist (claims_after z g.claims c id v decide).hist c.clock i (λ x le. same_where z g.claims g.thread c.clock c.locks c.views l id v a.is_there und i not_written x))))
            (λ q. inr (unstored_on decide c id v g s l o t k a y w (calm_else decide c id v g s l o t k a y und.not_decided) i q))
            (y.shown.shown i f lt e))
            (λ written_with. let own = writes_own z g.claims g.thread c.clock c.locks c.views l id v a.is_there und i written_with.0 written_with.1 in
            inr (id, own.0, w.tx.hand, written_with.0, mine z g.claims g.thread c.clock c.locks c.views l id v a.is_there und (lock_of z i) own.0 own.1, my_hand c.views id v w a.is_there, written_with.1, ap (λ (q : List ℕ). has q i) (m.number.undecided und).2))
            (either_way (written v.tx.hand.writes i));
      }

  store_shown : (i : ℕ) (c : State) (id : ℕ) (v : View) (g : Ghost) (s : ThreadsIn z g c) (l : LocksIn z g c) (o : EntriesKept z g c) (t : TurnKept z c) (k : PagesKept z g c) (a : IsAllowed z c id (store i) v) (y : ValuesKept z g c)
      → ShownWords z g.claims.hist g.claims.lock g.frame c.clock (after z c id v (store i)).cells (map hand_of (set c.views id (view_after z (store i) v (found c (name z (store i) v)))))
  store_shown i c id v g s l o t k a y =
      let can = a.may.can in let f0 : ℕ = pinned_frame v (page_of i) in let cell : ℕ = cell_of f0 i in let w : View = view_after z (store i) v (get_or c.cells cell 0) in let m = l.each id v a.is_there in let dec = m.number.decided can.0 in
      let x : ℕ = can.1.0 in let n : ℕ = v.tx.hand.number in
      let stored : or_else (written v.tx.hand.writes i) (get_or c.cells cell 0) ≡ x = ap (λ (q : Option ℕ). or_else q (get_or c.cells cell 0)) can.1.1 in
      let is : g.frame (page_of i) ≡ Some f0 = k.pins.pinned id (page_of i) can.3.0 (pins_of v) (at_map pins_of c.views id v a.is_there) can.3.1 ∙ ap Some (sym (ap (λ (q : Option ℕ). or_else q 0) can.3.1)) in
      let inside : cell < length c.cells = (let size = k.frames.sized in let small = (k.frames.inside (page_of i) f0 is).1 in let off = mod-lt i {m = PAGE} (omega arith) in omega arith) in
      let here : value z.opening g.claims.hist c.clock i ≡ x = value_last z.opening g.claims.hist n c.clock i x dec.0 (m.number.numbered dec.0).1 (rw dec.2 can.1.1)
      (λ b lt le q f. none_after z g.claims g.thread c.clock c.locks c.views l id v a.is_there can.0 (lock_of z i) can.2.0 can.2.1 b i q refl lt f) in
      rw stored record {
        shown = λ j f lt e. dite (ℕ_discrete j i)
            (λ same. let f_is : f ≡ f0 = (let q : Some f ≡ Some f0 = sym e ∙ (ap (λ (b : ℕ). g.frame (page_of b)) same ∙ is) in cc) in
            inl (rw (same, f_is) (get_or-set_same c.cells cell x 0 inside ∙ sym here)))
            (λ other. let apart : cell_of f j ≢ cell = λ q. let b = cell_same f f0 j i q in
            other (word_same j i (k.frames.one_each (page_of j) (page_of i) f0 (e ∙ ap Some b.0) is) b.1) in
            ⊎_elim
            (λ q. inl (get_or-set_other c.cells cell (cell_of f j) x 0 apart ∙ q))
            (λ q. inr (⊎_elim
            (λ p. (
              q.0,
              q.1,
              w.tx.hand,
              q.3,
              q.4,
              p.2,
              ap (λ (b : Hand). written b.writes j) (sym p.1) ∙ q.6,
              (let b : has v.tx.hand.stored j ≡ false = ap (λ (b : Hand). has b.stored j) (sym p.1) ∙ q.7 in rw (ne_eqb i j (λ e2. other (sym e2)), b) refl),
            ))
            (λ p. (q.0, q.1, q.2, q.3, q.4, p.1, q.6, q.7))
            (new_hand c.views id v w a.is_there q.0 q.2 q.5)))
            (y.shown.shown j f lt e));
      }

  release_shown : (n : ℕ) (c : State) (id : ℕ) (v : View) (g : Ghost) (l : LocksIn z g c) (a : IsAllowed z c id (release n) v) (y : ValuesKept z g c)
      → ShownWords z g.claims.hist (claims_after z g.claims c id v (release n)).lock g.frame c.clock c.cells (map hand_of (set c.views id (view_after z (release n) v (get_or c.locks n 0))))
  release_shown n c id v g l a y =
      let w : View = view_after z (release n) v (get_or c.locks n 0) in let can = a.may.can in
      rw (unmoved hand_of c.views id v w a.is_there refl)
      (shown_on z g.claims.hist g.claims.hist g.claims.lock (claims_after z g.claims c id v (release n)).lock g.frame g.frame c.clock c.clock c.cells c.cells (map hand_of c.views) (map hand_of c.views) y.shown (λ i f lt e. (e, refl, refl))
      (λ i u. dite (ℕ_discrete (lock_of z i) n)
      (λ same. let lock : g.claims.lock n ≡ writing u.0 u.1 = ap g.claims.lock (sym same) ∙ u.4 in
      let j = owner_of_l z g.claims g.thread c.clock c.locks c.views l id v a.is_there n a.may.named can u.0 u.1 lock in
      let hand_is : v.tx.hand ≡ u.2 = some-injective v.tx.hand u.2 (sym (at_map hand_of c.views id v a.is_there) ∙ (ap (get_elem? (map hand_of c.views)) (sym j) ∙ u.5)) in
      absurd (true≢false (sym (can.2 i u.3 (ap (λ (b : Hand). written b.writes i) hand_is ∙ u.6) same) ∙ (ap (λ (b : Hand). has b.stored i) hand_is ∙ u.7))))
      (λ other. (u.0, u.1, u.2, u.3, on_other z g.claims g.thread c.clock c.locks c.views l id v a.is_there n a.may.named can (lock_of z i) other ∙ u.4, u.5, u.6, u.7))))

  turn_filled : (made : Bool) (c : State) (g : Ghost) (v : View) → v.turn.has_it ≡ false → (turning made v.turn).has_it ≡ true → FilledWords z g.claims.hist c.clock c.cells (turning made v.turn).filled
  turn_filled true c g v no_turn has = record { filled_with = λ i f e. absurd e }
  turn_filled false c g v no_turn has = absurd (true≢false (sym has ∙ no_turn))

  evicted_frame : (made : Bool) (frame : ℕ → Option ℕ) (p q f : ℕ) → (if made then change frame p None else frame) q ≡ Some f → frame q ≡ Some f
  evicted_frame true frame p q f e = ⊎_elim (λ t. let o : None ≡ Some f = sym t.1 ∙ e in absurd cc) (λ t. sym t.1 ∙ e) (at_change frame p None q)
  evicted_frame false frame p q f e = e

  unfilled_if : (made : Bool) (p : ℕ) (fs : List (ℕ × ℕ)) (i f : ℕ) → IsFilled (if made then unfilled p fs else fs) i f → IsFilled fs i f
  unfilled_if true p fs i f e = (unfilled_in p fs i f e).0
  unfilled_if false p fs i f e = e

  pub values_keep : (e : Event) (c : State) (id : ℕ) (v : View) (g : Ghost) → ThreadsIn z g c → LocksIn z g c → EntriesKept z g c → NumbersKept z g c → TurnKept z c → PagesKept z g c → z.is_told ≡ true → IsAllowed z c id e v → ValuesKept z g c → ValuesKept z (ghost_after z g c id v e) (after z c id v e)
  values_keep number c id v g s l o nu t k told a y =
      let w : View = view_after z number v c.threads in let m = l.each id v a.is_there in let none_yet : v.part.thread ≡ None = a.may.can in
      values_by number c id v g s l o t k a y w refl (rw (unmoved hand_of c.views id v w a.is_there refl) y.shown)
      record {
        read = (y.reads id v a.is_there).read;
        waits = λ i x e. let w0 = m.look.waits i x e in ⊎_elim (λ q. inl q) (λ q. ⊎_elim (λ r. inr (inl r))
            (λ r. absurd (⊎_elim
            (λ u. let same : 2 * u.0 ≡ own_word v.part.thread = (let f : Some (lock_of z i, 2 * u.0) ≡ Some (lock_of z i, own_word v.part.thread) = sym u.1 ∙ r.0 in let p : (lock_of z i, 2 * u.0) ≡ (lock_of z i, own_word v.part.thread) = cc in ap (λ (b : ℕ × ℕ). b.1) p) in omega arith)
            (λ u. let th = u.1 in let f : None ≡ Some th.0 = sym none_yet ∙ th.1 in cc) w0.2)) q) ((y.reads id v a.is_there).waits i x e);
      }
      (λ has. filled_same number c id v g s l o t k a y id v a.is_there has v.turn.filled (same_sub v.turn.filled) (λ i f e. refl))
      (λ j u other at has. filled_same number c id v g s l o t k a y j u at has u.turn.filled (same_sub u.turn.filled) (λ i f e. refl))
      (my_entries number c id v g s l o t k a y)
  values_keep begin c id v g s l o nu t k told a y =
      let w : View = view_after z begin v c.clock in
      values_by begin c id v g s l o t k a y w refl (rw (unmoved hand_of c.views id v w a.is_there refl) y.shown)
      record { read = λ _ j b lt. absurd (omega arith); waits = λ i x e. absurd (let f : None ≡ Some (i, x) = e in cc) }
      (λ has. filled_same begin c id v g s l o t k a y id v a.is_there has v.turn.filled (same_sub v.turn.filled) (λ i f e. refl))
      (λ j u other at has. filled_same begin c id v g s l o t k a y j u at has u.turn.filled (same_sub u.turn.filled) (λ i f e. refl))
      (my_entries begin c id v g s l o t k a y)
  values_keep extend c id v g s l o nu t k told a y =
      let w : View = view_after z extend v c.clock in let th = a.may.threaded in
      values_by extend c id v g s l o t k a y w refl (rw (unmoved hand_of c.views id v w a.is_there (reaching_hand (all_checked z [] v.tx.reads) c.clock (record v.tx { checked = []; loaded = None }))) y.shown)
      (extend_reads z c g s l y id th.0 v a.is_there th.1 a.may.can.is_open)
      (λ has. filled_same extend c id v g s l o t k a y id v a.is_there has v.turn.filled (same_sub v.turn.filled) (λ i f e. refl))
      (λ j u other at has. filled_same extend c id v g s l o t k a y j u at has u.turn.filled (same_sub u.turn.filled) (λ i f e. refl))
      (my_entries extend c id v g s l o t k a y)
  values_keep (look n) c id v g s l o nu t k told a y =
      let e0 = look n in let w : View = view_after z e0 v (get_or c.locks n 0) in
      values_by e0 c id v g s l o t k a y w refl (rw (unmoved hand_of c.views id v w a.is_there refl) y.shown)
      (settled_reads e0 c id v g s l o t k a y v.part.thread w.tx refl refl refl refl)
      (λ has. filled_same e0 c id v g s l o t k a y id v a.is_there has v.turn.filled (same_sub v.turn.filled) (λ i f e. refl))
      (λ j u other at has. filled_same e0 c id v g s l o t k a y j u at has u.turn.filled (same_sub u.turn.filled) (λ i f e. refl))
      (my_entries e0 c id v g s l o t k a y)
  values_keep (load i) c id v g s l o nu t k told a y =
      let e0 = load i in let can = a.may.can in let th = a.may.threaded in let cell : ℕ = cell_of (pinned_frame v (page_of i)) i in let w : View = view_after z e0 v (get_or c.cells cell 0) in
      let f : ℕ = can.2.0 in let f_is : pinned_frame v (page_of i) ≡ f = ap (λ (q : Option ℕ). or_else q 0) can.2.1 in
      let is : g.frame (page_of i) ≡ Some (pinned_frame v (page_of i)) = k.pins.pinned id (page_of i) f (pins_of v) (at_map pins_of c.views id v a.is_there) can.2.1 ∙ ap Some (sym f_is) in
      let cells : set c.cells cell (get_or c.cells cell 0) ≡ c.cells = set-get_or c.cells cell 0 in
      values_by e0 c id v g s l o t k a y w refl (rw (unmoved hand_of c.views id v w a.is_there refl, cells) y.shown)
      (load_reads z c g s l y id th.0 v a.is_there th.1 i (pinned_frame v (page_of i)) a.may.named is can.0 can.1.0 can.1.1 can.1.2)
      (λ has. filled_same e0 c id v g s l o t k a y id v a.is_there has v.turn.filled (same_sub v.turn.filled) (λ i f e. ap (λ (q : List ℕ). get_or q (cell_of f i) 0) cells))
      (λ j u other at has. filled_same e0 c id v g s l o t k a y j u at has u.turn.filled (same_sub u.turn.filled) (λ i f e. ap (λ (q : List ℕ). get_or q (cell_of f i) 0) cells))
      (my_entries e0 c id v g s l o t k a y)
  values_keep (check n) c id v g s l o nu t k told a y =
      let e0 = check n in let th = a.may.threaded in let w : View = view_after z e0 v (get_or c.locks n 0) in
      values_by e0 c id v g s l o t k a y w refl
      (shown_on z g.claims.hist g.claims.hist g.claims.lock g.claims.lock g.frame g.frame c.clock c.clock c.cells c.cells (map hand_of c.views) (map hand_of (set c.views id w)) y.shown (λ i f lt e. (e, refl, refl))
      (unstored_on e0 c id v g s l o t k a y w (calm_else e0 c id v g s l o t k a y (calm_check n c id v g l a))))
      (check_reads z c g s l y id th.0 v a.is_there th.1 n a.may.named (λ p e. ⊎_elim (λ b. let same : (b.0, b.1) ≡ p = (let f : Some (b.0, b.1) ≡ Some p = sym b.2 ∙ e in cc) in b.3 ∙ ap (λ (r : ℕ × ℕ). lock_of z r.0) same) (λ b. let f : None ≡ Some p = sym b.no_value ∙ e in absurd cc) a.may.can))
      (λ has. filled_same e0 c id v g s l o t k a y id v a.is_there has v.turn.filled (same_sub v.turn.filled) (λ i f e. refl))
      (λ j u other at has. filled_same e0 c id v g s l o t k a y j u at has u.turn.filled (same_sub u.turn.filled) (λ i f e. refl))
      (my_entries e0 c id v g s l o t k a y)
  values_keep (finish b) c id v g s l o nu t k told a y =
      let e0 = finish b in let w : View = view_after z e0 v c.threads in let steady = a.may.can.0 in
      values_by e0 c id v g s l o t k a y w refl (rw (unmoved hand_of c.views id v w a.is_there refl) y.shown)
      record { read = λ q. absurd (true≢false (sym q)); waits = λ i x e. absurd (let f : None ≡ Some (i, x) = e in cc) }
      (λ has. filled_same e0 c id v g s l o t k a y id v a.is_there has v.turn.filled (same_sub v.turn.filled) (λ i f e. refl))
      (λ j u other at has. filled_same e0 c id v g s l o t k a y j u at has u.turn.filled (same_sub u.turn.filled) (λ i f e. refl))
      (All-append (EntryReads z g.claims.hist) v.entries (read_entry b v ∷ []) (my_entries e0 c id v g s l o t k a y) (all_one (EntryReads z g.claims.hist) (read_entry b v) record { read = (y.reads id v a.is_there).read steady.undrawn.is_open }))
  values_keep (take n) c id v g s l o nu t k told a y =
      let e0 = take n in let word : ℕ = get_or c.locks n 0 in let w : View = view_after z e0 v word in let made = word == looked_word v.tx.look in
      let calm = ((l.each id v a.is_there).number.blank a.may.can.0.undrawn.no_number).0 in
      values_by e0 c id v g s l o t k a y w refl
      (shown_on z g.claims.hist g.claims.hist g.claims.lock (claims_after z g.claims c id v e0).lock g.frame g.frame c.clock c.clock c.cells c.cells (map hand_of c.views) (map hand_of (set c.views id w)) y.shown
      (λ i f lt e. (e, refl, refl)) (unstored_on e0 c id v g s l o t k a y w (calm_else e0 c id v g s l o t k a y calm)))
      (settled_reads e0 c id v g s l o t k a y v.part.thread w.tx (taking_open made n word v.tx) (taking_snapshot made n word v.tx) (taking_reads made n word v.tx) (taking_loaded made n word v.tx))
      (λ has. filled_same e0 c id v g s l o t k a y id v a.is_there has v.turn.filled (same_sub v.turn.filled) (λ i f e. refl))
      (λ j u other at has. filled_same e0 c id v g s l o t k a y j u at has u.turn.filled (same_sub u.turn.filled) (λ i f e. refl))
      (my_entries e0 c id v g s l o t k a y)
  values_keep (draw b ws) c id v g s l o nu t k told a y =
      let e0 = draw b ws in let w : View = view_after z e0 v c.clock in let n = c.clock + 1 in
      let calm = ((l.each id v a.is_there).number.blank a.may.can.steady.undrawn.no_number).0 in
      values_by e0 c id v g s l o t k a y w refl
      (shown_on z g.claims.hist g.claims.hist g.claims.lock g.claims.lock g.frame g.frame c.clock n c.cells c.cells (map hand_of c.views) (map hand_of (set c.views id w)) y.shown
      (λ i f lt e. (e, refl, value_next z.opening g.claims.hist c.clock i ∙ ap (λ (q : List Write). or_else (written q i) (value z.opening g.claims.hist c.clock i)) (l.numbers.later n (omega arith)).0))
      (unstored_on e0 c id v g s l o t k a y w (calm_else e0 c id v g s l o t k a y calm)))
      (settled_reads e0 c id v g s l o t k a y v.part.thread w.tx refl refl refl refl)
      (λ has. filled_same e0 c id v g s l o t k a y id v a.is_there has v.turn.filled (same_sub v.turn.filled) (λ i f e. refl))
      (λ j u other at has. filled_same e0 c id v g s l o t k a y j u at has u.turn.filled (same_sub u.turn.filled) (λ i f e. refl))
      (my_entries e0 c id v g s l o t k a y)
  values_keep decide c id v g s l o nu t k told a y =
      let e0 = decide in let w : View = view_after z e0 v (found c (name z e0 v)) in let und = a.may.can.0 in let m = l.each id v a.is_there in
      let num = m.number.numbered und.number in
      let r = claims_after z g.claims c id v e0 in
      values_by e0 c id v g s l o t k a y w refl (decide_shown c id v g s l o t k a y)
      (settled_reads e0 c id v g s l o t k a y v.part.thread w.tx refl refl refl (no_value v.tx.loaded refl (λ p e. absurd (let q = (m.look.waits p.0 p.1 e).0.no_number in let n = und.number in omega arith))))
      (λ has. filled_same e0 c id v g s l o t k a y id v a.is_there has v.turn.filled (same_sub v.turn.filled) (λ i f e. refl))
      (λ j u other at has. filled_same e0 c id v g s l o t k a y j u at has u.turn.filled (same_sub u.turn.filled) (λ i f e. refl))
      (All-append (EntryReads z r.hist) v.entries (write_entry v ∷ []) (my_entries e0 c id v g s l o t k a y) (all_one (EntryReads z r.hist) (write_entry v) record {
        read = λ j b lt. let i : ℕ = (get_or v.tx.reads j b).0 in
            my_read e0 c id v g s l o t k a y num.2 j b lt
            ∙ sym (value_still z.opening r.hist v.tx.snapshot (v.tx.hand.number - 1) i (let q = num.0 in omega arith)
            (λ x lo hi u f. let silent = m.confirmed.valid und i x (a.may.can.1 j b lt) lo (omega arith) in
            let still = ((mv e0 c id v g s l o t k a y).silent x i (let q = num.1 in omega arith) silent.1).0 in
            let e : None ≡ Some u = sym silent.0 ∙ (sym still ∙ f) in cc));
      }))
  values_keep (store i) c id v g s l o nu t k told a y =
      let e0 = store i in let can = a.may.can in let f0 : ℕ = pinned_frame v (page_of i) in let cell : ℕ = cell_of f0 i in let w : View = view_after z e0 v (get_or c.cells cell 0) in let m = l.each id v a.is_there in let dec = m.number.decided can.0 in
      let x : ℕ = or_else (written v.tx.hand.writes i) (get_or c.cells cell 0) in
      let is : g.frame (page_of i) ≡ Some f0 = k.pins.pinned id (page_of i) can.3.0 (pins_of v) (at_map pins_of c.views id v a.is_there) can.3.1 ∙ ap Some (sym (ap (λ (q : Option ℕ). or_else q 0) can.3.1)) in
      let other_cell : (j f : ℕ) → ((f ≡ f0) → j % PAGE ≡ i % PAGE → ⊥) → get_or (set c.cells cell x) (cell_of f j) 0 ≡ get_or c.cells (cell_of f j) 0 = λ j f no_same. get_or-set_other c.cells cell (cell_of f j) x 0 (λ e. let q = cell_same f f0 j i e in no_same q.0 q.1) in
      values_by e0 c id v g s l o t k a y w refl (store_shown i c id v g s l o t k a y)
      (settled_reads e0 c id v g s l o t k a y v.part.thread w.tx refl refl refl (no_value v.tx.loaded refl (λ p e. absurd (let q = (m.look.waits p.0 p.1 e).0.no_number in let n = dec.0 in omega arith))))
      (λ has. filled_same e0 c id v g s l o t k a y id v a.is_there has v.turn.filled (same_sub v.turn.filled) (λ j f e. other_cell j f (λ same off. (((k.each id v a.is_there).turn has).filled_absent j f e).1 (page_of i) (is ∙ ap Some (sym same)))))
      (λ j u other at has. filled_same e0 c id v g s l o t k a y j u at has u.turn.filled (same_sub u.turn.filled) (λ b f e. other_cell b f (λ same off. (((k.each j u at).turn has).filled_absent b f e).1 (page_of i) (is ∙ ap Some (sym same)))))
      (my_entries e0 c id v g s l o t k a y)
  values_keep (release n) c id v g s l o nu t k told a y =
      let e0 = release n in let w : View = view_after z e0 v (get_or c.locks n 0) in let m = l.each id v a.is_there in let pos = (m.number.decided a.may.can.0).0 in
      values_by e0 c id v g s l o t k a y w refl (release_shown n c id v g l a y)
      (settled_reads e0 c id v g s l o t k a y v.part.thread w.tx refl refl refl (no_value v.tx.loaded refl (λ p e. absurd (let q = (m.look.waits p.0 p.1 e).0.no_number in omega arith))))
      (λ has. filled_same e0 c id v g s l o t k a y id v a.is_there has v.turn.filled (same_sub v.turn.filled) (λ i f e. refl))
      (λ j u other at has. filled_same e0 c id v g s l o t k a y j u at has u.turn.filled (same_sub u.turn.filled) (λ i f e. refl))
      (my_entries e0 c id v g s l o t k a y)
  values_keep (restore n) c id v g s l o nu t k told a y =
      let e0 = restore n in let w : View = view_after z e0 v (get_or c.locks n 0) in let m = l.each id v a.is_there in let moved = mv e0 c id v g s l o t k a y in
      values_by e0 c id v g s l o t k a y w refl
      (shown_on z g.claims.hist g.claims.hist g.claims.lock (claims_after z g.claims c id v e0).lock g.frame g.frame c.clock c.clock c.cells c.cells (map hand_of c.views) (map hand_of (set c.views id w)) y.shown (λ i f lt e. (e, refl, refl))
      (unstored_on e0 c id v g s l o t k a y w (calm_else e0 c id v g s l o t k a y (calm_restore n c id v g l a))))
      record {
        read = my_read e0 c id v g s l o t k a y;
        waits = λ i x e. ⊎_elim (λ q. inl q)
            (λ q. inr (⊎_elim
            (λ r. inl (r.0, r.1, (let up = moved.version_up (lock_of z i) in let below = m.look.looked (lock_of z i) (2 * r.0) r.0 r.1 refl in ⊎_elim (λ is. ⊎_elim (λ b. inl b) (λ lt. inr (omega arith)) (moved.writing_on (lock_of z i) is)) (λ lt. inr (omega arith)) r.2)))
            (λ r. inr (r.0, dite (ℕ_discrete n (lock_of z i)) (λ same. rw same (find_gone v.tx.owned (lock_of z i))) (λ other. find_without v.tx.owned n (lock_of z i) other ∙ r.1)))
            q)) ((y.reads id v a.is_there).waits i x e);
      }
      (λ has. filled_same e0 c id v g s l o t k a y id v a.is_there has v.turn.filled (same_sub v.turn.filled) (λ i f e. refl))
      (λ j u other at has. filled_same e0 c id v g s l o t k a y j u at has u.turn.filled (same_sub u.turn.filled) (λ i f e. refl))
      (my_entries e0 c id v g s l o t k a y)
  values_keep see_box c id v g s l o nu t k told a y =
      let e0 = see_box in let w : View = view_after z e0 v (found c (name z e0 v)) in
      values_by e0 c id v g s l o t k a y w refl (rw (unmoved hand_of c.views id v w a.is_there refl) y.shown)
      record { read = λ q. absurd (true≢false (sym q)); waits = λ i x e. absurd (let f : None ≡ Some (i, x) = e in cc) }
      (λ has. filled_same e0 c id v g s l o t k a y id v a.is_there has v.turn.filled (same_sub v.turn.filled) (λ i f e. refl))
      (λ j u other at has. filled_same e0 c id v g s l o t k a y j u at has u.turn.filled (same_sub u.turn.filled) (λ i f e. refl))
      (my_entries e0 c id v g s l o t k a y)
  values_keep post c id v g s l o nu t k told a y =
      let e0 = post in let w : View = view_after z e0 v (found c (name z e0 v)) in
      values_by e0 c id v g s l o t k a y w refl
      (shown_on z g.claims.hist g.claims.hist g.claims.lock g.claims.lock g.frame g.frame c.clock c.clock c.cells c.cells (map hand_of c.views) (map hand_of (set c.views id w)) y.shown (λ i f lt e. (e, refl, refl))
      (unstored_on e0 c id v g s l o t k a y w (free_else e0 c id v g s l o t k a y a.may.can.1)))
      record { read = λ q. absurd (true≢false (sym q)); waits = λ i x e. absurd (let f : None ≡ Some (i, x) = e in cc) }
      (λ has. filled_same e0 c id v g s l o t k a y id v a.is_there has v.turn.filled (same_sub v.turn.filled) (λ i f e. refl))
      (λ j u other at has. filled_same e0 c id v g s l o t k a y j u at has u.turn.filled (same_sub u.turn.filled) (λ i f e. refl))
      (my_entries e0 c id v g s l o t k a y)
  values_keep take_turn c id v g s l o nu t k told a y =
      let e0 = take_turn in let w : View = view_after z e0 v c.turn in
      values_by e0 c id v g s l o t k a y w refl (rw (unmoved hand_of c.views id v w a.is_there refl) y.shown)
      record { read = (y.reads id v a.is_there).read; waits = (y.reads id v a.is_there).waits }
      (turn_filled (c.turn == 0) c g v a.may.can.0)
      (λ j u other at has. filled_same e0 c id v g s l o t k a y j u at has u.turn.filled (same_sub u.turn.filled) (λ i f e. refl))
      (my_entries e0 c id v g s l o t k a y)
  values_keep (evict p) c id v g s l o nu t k told a y =
      let e0 = evict p in let n : ℕ = get_or c.entries p 0 in let made = n == without_pins (kept_entry v p) in let w : View = view_after z e0 v n in
      values_by e0 c id v g s l o t k a y w refl
      (rw (unmoved hand_of c.views id v w a.is_there refl) (shown_on z g.claims.hist g.claims.hist g.claims.lock g.claims.lock g.frame (frame_after g.frame c v e0) c.clock c.clock c.cells c.cells (map hand_of c.views) (map hand_of c.views) y.shown
      (λ i f lt e. (evicted_frame made g.frame p (page_of i) f e, refl, refl)) (λ i u. u)))
      record { read = (y.reads id v a.is_there).read; waits = (y.reads id v a.is_there).waits }
      (λ has. filled_same e0 c id v g s l o t k a y id v a.is_there a.may.can.0 w.turn.filled (λ i f e. unfilled_if made p v.turn.filled i f e) (λ i f e. refl))
      (λ j u other at has. filled_same e0 c id v g s l o t k a y j u at has u.turn.filled (same_sub u.turn.filled) (λ i f e. refl))
      (my_entries e0 c id v g s l o t k a y)
  values_keep (fill p f i x) c id v g s l o nu t k told a y =
      let e0 = fill p f i x in let can = a.may.can in let cell : ℕ = cell_of f i in let w : View = view_after z e0 v (get_or c.cells cell 0) in let pages = (k.each id v a.is_there).turn can.0 in
      let absent = (pages.touches_with p can.2.0 can.2.1).0 in
      let old : get_or c.touches p 0 ≤ c.reproduced = (let b = (pages.touches_with p can.2.0 can.2.1).1 in let q = a.fits.1 can.2.0 can.2.1 in omega arith) in
      let value_now = fill_value c g l o t k p i x can.1 absent old (a.fits.2 told) in
      let knows = (pages_keep z e0 c id v g s l t k a).each id w (set_here c.views id w (there c.views id v a.is_there)) in let after_pages = knows.turn can.0 in
      let no_page = (after_pages.filled_absent i f (inl (refl, refl))).1 in
      let inside : cell < length c.cells = (let size = k.frames.sized in let small = a.may.named.1 in let off = mod-lt i {m = PAGE} (omega arith) in omega arith) in
      values_by e0 c id v g s l o t k a y w refl
      (rw (unmoved hand_of c.views id v w a.is_there refl) (shown_on z g.claims.hist g.claims.hist g.claims.lock g.claims.lock g.frame g.frame c.clock c.clock c.cells (set c.cells cell x) (map hand_of c.views) (map hand_of c.views) y.shown
      (λ j b lt e. (e, get_or-set_other c.cells cell (cell_of b j) x 0 (λ q. let r = cell_same b f j i q in no_page (page_of j) (e ∙ ap Some r.0)), refl)) (λ j u. u)))
      record { read = (y.reads id v a.is_there).read; waits = (y.reads id v a.is_there).waits }
      (λ has. record {
        filled_with = λ j b e. dite (ℕ_discrete j i)
            (λ same_word. dite (ℕ_discrete b f)
            (λ same_frame. rw (same_word, same_frame) (get_or-set_same c.cells cell x 0 inside ∙ value_now))
            (λ other. get_or-set_other c.cells cell (cell_of b j) x 0 (λ q. other (cell_same b f j i q).0) ∙ (y.filled id v a.is_there can.0).filled_with j b (⊎_elim (λ q. absurd (other (sym q.1))) (λ q. (refilled_in p f v.turn.filled j b q).0) e)))
            (λ other. get_or-set_other c.cells cell (cell_of b j) x 0 (λ q. let r = cell_same b f j i q in other (word_same j i (after_pages.filled_one j i f (subst (λ (u : ℕ). IsFilled w.turn.filled j u) r.0 e) (inl (refl, refl))) r.1))
            ∙ (y.filled id v a.is_there can.0).filled_with j b (⊎_elim (λ q. absurd (other (sym q.0))) (λ q. (refilled_in p f v.turn.filled j b q).0) e));
      })
      (λ j u other at has. absurd (other (one_holder z g c s t j id u v at a.is_there has can.0)))
      (my_entries e0 c id v g s l o t k a y)
  values_keep (show p f) c id v g s l o nu t k told a y =
      let e0 = show p f in let can = a.may.can in let w : View = view_after z e0 v (get_or c.entries p 0) in
      values_by e0 c id v g s l o t k a y w refl
      (rw (unmoved hand_of c.views id v w a.is_there refl) record {
        shown = λ i b lt e. ⊎_elim
            (λ q. let f_is : f ≡ b = (let r : Some f ≡ Some b = sym q.1 ∙ e in cc) in inl (rw (← f_is) ((y.filled id v a.is_there can.0).filled_with i f (can.1 i q.0))))
            (λ q. y.shown.shown i b lt (sym q.1 ∙ e))
            (at_change g.frame p (Some f) (page_of i));
      })
      record { read = (y.reads id v a.is_there).read; waits = (y.reads id v a.is_there).waits }
      (λ has. filled_same e0 c id v g s l o t k a y id v a.is_there can.0 w.turn.filled (λ i b e. (unfilled_in p v.turn.filled i b e).0) (λ i b e. refl))
      (λ j u other at has. filled_same e0 c id v g s l o t k a y j u at has u.turn.filled (same_sub u.turn.filled) (λ i b e. refl))
      (my_entries e0 c id v g s l o t k a y)
  values_keep (give_turn failed) c id v g s l o nu t k told a y =
      let e0 = give_turn failed in let w : View = view_after z e0 v c.turn in
      values_by e0 c id v g s l o t k a y w refl (rw (unmoved hand_of c.views id v w a.is_there refl) y.shown)
      record { read = (y.reads id v a.is_there).read; waits = (y.reads id v a.is_there).waits }
      (λ has. absurd (true≢false (sym has)))
      (λ j u other at has. filled_same e0 c id v g s l o t k a y j u at has u.turn.filled (same_sub u.turn.filled) (λ i f e. refl))
      (my_entries e0 c id v g s l o t k a y)
  values_keep e c id v g s l o nu t k told a y =
      let w : View = view_after z e v (found c (name z e v)) in
      values_by e c id v g s l o t k a y w refl (rw (unmoved hand_of c.views id v w a.is_there refl) y.shown)
      record { read = (y.reads id v a.is_there).read; waits = (y.reads id v a.is_there).waits }
      (λ has. filled_same e c id v g s l o t k a y id v a.is_there has v.turn.filled (same_sub v.turn.filled) (λ i f e. refl))
      (λ j u other at has. filled_same e c id v g s l o t k a y j u at has u.turn.filled (same_sub u.turn.filled) (λ i f e. refl))
      (my_entries e c id v g s l o t k a y)

  -- ---- a split, and a join of views
  map_snoc : (l : List View) (a : View) → map hand_of (l ++ a ∷ []) ≡ map hand_of l ++ hand_of a ∷ []
  map_snoc [] a = refl
  map_snoc (x ∷ xs) a = ap (λ (h : List Hand). x.tx.hand ∷ h) (map_snoc xs a)

  fresh_reads : (g : Ghost) (u : View) → u.tx.is_open ≡ false → u.tx.loaded ≡ None → ReadValues z g.claims.hist g.claims.lock u.part.thread u.tx
  fresh_reads g u shut loaded = record {
    read = λ q. absurd (true≢false (sym q ∙ shut));
    waits = λ i x e. absurd (let f : None ≡ Some (i, x) = sym loaded ∙ e in cc);
  }

  no_entries : (g : Ghost) → All (EntryReads z g.claims.hist) []
  no_entries g j b lt = absurd (omega arith)

  pub values_split_keep : (c : State) (id draws : ℕ) (v : View) (g : Ghost) → ValuesKept z g c → MaySplit c id v draws → ValuesKept z g (split z c id v draws)
  values_split_keep c id draws v g y may =
      let w = left_of draws v in let n = newcomer z 0 draws in let vs : List View = set c.views id w in
      let hands : map hand_of (vs ++ n ∷ []) ≡ map hand_of c.views ++ no_hand ∷ [] = map_snoc vs n ∙ ap (λ (l : List Hand). l ++ no_hand ∷ []) (unmoved hand_of c.views id v w may.is_there refl) in
      record {
        shown = rw hands (shown_on z g.claims.hist g.claims.hist g.claims.lock g.claims.lock g.frame g.frame c.clock c.clock c.cells c.cells (map hand_of c.views) (map hand_of c.views ++ no_hand ∷ []) y.shown (λ i f lt e. (e, refl, refl))
            (λ i u. (u.0, u.1, u.2, u.3, u.4, at_longer (map hand_of c.views) (no_hand ∷ []) u.0 u.2 u.5, u.6, u.7)));
        reads = λ j u e. ⊎_elim
            (λ t. each_set (λ i x. ReadValues z g.claims.hist g.claims.lock x.part.thread x.tx) c.views id w (y.reads id v may.is_there) (λ i x other at2. y.reads i x at2) j u t)
            (λ t. subst (λ (x : View). ReadValues z g.claims.hist g.claims.lock x.part.thread x.tx) t.0 (fresh_reads g n refl refl))
            (at_snoc vs n u j e);
        filled = λ j u e. ⊎_elim
            (λ t. each_set (λ i x. x.turn.has_it ≡ true → FilledWords z g.claims.hist c.clock c.cells x.turn.filled) c.views id w (y.filled id v may.is_there) (λ i x other at2. y.filled i x at2) j u t)
            (λ t has. absurd (true≢false (sym has ∙ ap (λ (x : View). x.turn.has_it) (sym t.0))))
            (at_snoc vs n u j e);
        entries = λ j u e. ⊎_elim
            (λ t. each_set (λ i x. All (EntryReads z g.claims.hist) x.entries) c.views id w (y.entries id v may.is_there) (λ i x other at2. y.entries i x at2) j u t)
            (λ t. subst (λ (x : View). All (EntryReads z g.claims.hist) x.entries) t.0 (no_entries g))
            (at_snoc vs n u j e);
      }

  pub values_join_keep : (c : State) (id other : ℕ) (v w : View) (g : Ghost) → LocksIn z g c → ValuesKept z g c → MayJoin c id v other w → ValuesKept z (ghost_joined g id other) (join z c id v other w)
  values_join_keep c id other v w g l y may =
      let both = both_of v w in let gone = spent z in let vs : List View = set c.views id both in
      let hands : map hand_of (set vs other gone) ≡ set (map hand_of c.views) other no_hand = map-set hand_of vs other gone ∙ ap (λ (q : List Hand). set q other no_hand) (unmoved hand_of c.views id v both may.is_there refl) in
      let none_owned : (i u : ℕ) → g.claims.lock i ≡ writing other u → ⊥ = λ i u e. let f : find [] i ≡ Some (2 * u) = rw may.other_idle.no_lock at ((l.each other w may.other_there).owns.has_writing i u e).1 in let q : None ≡ Some (2 * u) = f in cc in
      record {
        shown = rw hands (shown_on z g.claims.hist g.claims.hist g.claims.lock g.claims.lock g.frame g.frame c.clock c.clock c.cells c.cells (map hand_of c.views) (set (map hand_of c.views) other no_hand) y.shown (λ i f lt e. (e, refl, refl))
            (λ i u. (u.0, u.1, u.2, u.3, u.4, set_else (map hand_of c.views) other u.0 no_hand (λ e. none_owned (lock_of z i) u.1 (u.4 ∙ ap (λ (q : ℕ). writing q u.1) e)) ∙ u.5, u.6, u.7)));
        reads = each_set (λ i x. ReadValues z g.claims.hist g.claims.lock x.part.thread x.tx) vs other gone (fresh_reads g gone refl refl)
            (λ j u apart at2. each_set (λ i x. ReadValues z g.claims.hist g.claims.lock x.part.thread x.tx) c.views id both (y.reads id v may.is_there) (λ i x o at3. y.reads i x at3) j u at2);
        filled = each_set (λ i x. x.turn.has_it ≡ true → FilledWords z g.claims.hist c.clock c.cells x.turn.filled) vs other gone (λ has. absurd (true≢false (sym has)))
            (λ j u apart at2. each_set (λ i x. x.turn.has_it ≡ true → FilledWords z g.claims.hist c.clock c.cells x.turn.filled) c.views id both (y.filled id v may.is_there) (λ i x o at3. y.filled i x at3) j u at2);
        entries = each_set (λ i x. All (EntryReads z g.claims.hist) x.entries) vs other gone (no_entries g)
            (λ j u apart at2. each_set (λ i x. All (EntryReads z g.claims.hist) x.entries) c.views id both (All-append (EntryReads z g.claims.hist) v.entries w.entries (y.entries id v may.is_there) (y.entries other w may.other_there)) (λ i x o at3. y.entries i x at3) j u at2);
      }
