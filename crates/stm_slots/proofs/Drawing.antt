-- A number is drawn, and with it the slot of its thread's next box goes out; it is posted, and its record comes into that slot.
use Rattle.std.proofs.Common.{◌≡◌, ◌≢◌, ℕ, ◌+◌, ◌%◌, ◌<◌, ◌≤◌, true, false, List, length, get_or, set, refl, sym, ap, ◌∙◌, subst, inl, inr, ⊎_elim, arith, length-set}
use Rattle.std.specs.Prelude.{Some, None}
use Rattle.std.specs.List.{Contains}
use mathlib.Core.Option.{Option as Maybe, none, some, some-injective}
use mathlib.Core.Logic.{dite}
use native.Mathlib.Decide.{ℕ_discrete}
use lib.ListN.{get_elem?}
use Rattle.dude_base.specs.Records.{RedoBundle, RedoRecord}
use Rattle.pmem_trait.specs.Sights.{Sight}
use Rattle.pmem_trait.specs.declared.medium.Medium.{Ghosts}
use Rattle.back_store.specs.Back.{waiting_of_ring}
use Rattle.core_events.specs.Setups.{Setup, box_of}
use Rattle.core_events.specs.Events.{place_behind}
use Rattle.core_events.specs.Keyed.{change}
use Rattle.core_events.proofs.Boxes.{box_same, box_inside, read_there}
use Rattle.core_events.proofs.Lists.{there, at_set, set_here, set_else, at_change}
use Rattle.stm_slots.specs.Records.{HasRecord, writes_in}
use Rattle.stm_slots.specs.Beside.{Hands, Beside}
use Rattle.stm_slots.specs.Stage.{Owner, Stage}
use Rattle.stm_slots.specs.Queues.{back_slot, place_at, word_at, IsQueue, OwnsQueue}
use Rattle.stm_slots.specs.Lists.{IsBoxed, ListsKept}
use Rattle.stm_slots.specs.Opening.{setup_of}
use Rattle.stm_slots.specs.Rule.{BoxSlots, SlotsKeptBy}
use Rattle.stm_slots.specs.declared.slot.Slot.{Slot}
use Rattle.stm_slots.specs.declared.slot.Slot.TheVariants.{Empty, Record}
use Rattle.stm_slots.specs.declared.opening.Opening.{Opening}
use Rattle.stm_slots.proofs.Listing.{lists_moved, lists_owned}
use Rattle.stm_slots.proofs.Wording.{mapped_on, held_on}
use Rattle.stm_slots.proofs.Queueing.{place_more, not_all, queue_longer, queue_beside, word_beside}

module _ {M : Type 0} {ghosts : Ghosts M} (sight : M → Sight) (o : Opening M ghosts) where
  abbrev z : Setup
  z = setup_of sight o

  abbrev Slots : Type 0
  Slots = List (Maybe (Slot M ghosts))

  -- a thread's view, beside the rule; no other view has the thread
  module _ (s : Stage) (xs : List Beside) (homes : Slots) (hands : Hands) (k : SlotsKeptBy sight o s xs homes hands) (long : length s.boxes ≡ back_slot z) (id t : ℕ) (v : Owner) (at_v : get_elem? s.owners id ≡ some v)
      (of_v : v.thread ≡ Some t) (inside : t < z.threads) (only : (j : ℕ) (p : Owner) → get_elem? s.owners j ≡ some p → p.thread ≡ Some t → j ≡ id) (near : (j : ℕ) (p : Owner) → get_elem? s.owners j ≡ some p → p.next < z.boxes) where
    abbrev box : ℕ
    box = box_of z t v.next

    box_below : box < back_slot z
    box_below = box_inside z.boxes t z.threads v.next inside (near id v at_v)

    -- another view's box is another
    other_box : (j u : ℕ) (p : Owner) → get_elem? s.owners j ≡ some p → j ≢ id → p.thread ≡ Some u → box_of z u p.next ≢ box
    other_box j u p at other of_u e = other (only j p at (of_u ∙ ap (λ (d : ℕ). Some d) (box_same z.boxes u t p.next v.next (near j p at) (near id v at_v) e).0))

    -- the box of the view's thread
    same_thread : (u : ℕ) → v.thread ≡ Some u → u ≡ t
    same_thread u e = let q : Some u ≡ Some t = sym e ∙ of_v in (let r : u ≡ t = cc in r)

    is_v : (j : ℕ) (p : Owner) → get_elem? s.owners j ≡ some p → j ≡ id → p ≡ v
    is_v j p at e = some-injective p v (sym at ∙ (ap (get_elem? s.owners) e ∙ at_v))

    -- faults are as before, where the view's owner changes in something else
    faults_in : (w : Owner) → w.met_fault ≡ v.met_fault → (j : ℕ) (p : Owner) → get_elem? (set s.owners id w) j ≡ some p → p.met_fault ≡ true → hands.lists.state.dead ≡ true
    faults_in w same j p at met = ⊎_elim
        (λ e. k.lists.fault id v at_v (sym same ∙ (ap (λ (a : Owner). a.met_fault) e.1 ∙ met)))
        (λ e. k.lists.fault j p e.1 met)
        (at_set s.owners id j w p at)

    not_back : back_slot z ≢ box
    not_back e = let lt = box_below in omega arith

    -- ---- a number is drawn
    module _ (n : ℕ) (no_number : v.number ≡ 0) (empty : get_elem? s.boxes box ≡ some 0) (over : (i : ℕ) → get_or s.boxes i 0 < n)
        (newest : hands.lists.state.dead ≡ false → (q : RedoBundle) → Contains (waiting_of_ring hands.lists.state t) q → q.last < n) where
      abbrev w : Owner
      w = record v { number = n }

      abbrev s1 : Stage
      s1 = record s { owners = set s.owners id w }

      pos : 0 < n
      pos = let lt = over 0 in omega arith

      at_w : get_elem? s1.owners id ≡ some w
      at_w = set_here s.owners id w (there s.owners id v at_v)

      -- the box has nothing in its slot
      pub was_empty : get_elem? homes box ≡ some (some Empty)
      was_empty = ⊎_elim (λ e. e)
          (λ h. absurd (let j = h.0 in let p = h.2 in dite (ℕ_discrete j id)
          (λ e. let q = h.4 in let num = ap (λ (a : Owner). a.number) (is_v j p h.3 e) in omega arith)
          (λ other. other_box j h.1 p h.3 other h.5 (sym h.6))))
          (k.boxes.free box empty)

      drawn_boxes : BoxSlots sight z s1 hands.boxes (set homes box none)
      drawn_boxes = record {
        full = λ i m at pos_m. ⊎_elim inl (λ r. inr (r.0, r.1, set_else homes box i none (λ e. let zero_m : 0 ≡ m = some-injective 0 m (sym empty ∙ (ap (get_elem? s.boxes) (sym e) ∙ at)) in omega arith) ∙ r.2)) (k.boxes.full i m at pos_m);
        hand = λ i r among. let h = k.boxes.hand i r among in (h.0, h.1, h.2, set_else homes box i none (λ e. let zero_r : 0 ≡ r.number = some-injective 0 r.number (sym empty ∙ (ap (get_elem? s.boxes) (sym e) ∙ h.0.0)) in let p = h.1 in omega arith) ∙ h.3);
        free = λ i at. dite (ℕ_discrete i box)
            (λ e. inr (id, t, w, at_w, pos, of_v, e))
            (λ other. ⊎_elim (λ e. inl (set_else homes box i none other ∙ e))
            (λ h. let j = h.0 in let p = h.2 in dite (ℕ_discrete j id)
            (λ e. absurd (let q = h.4 in let num = ap (λ (a : Owner). a.number) (is_v j p h.3 e) in omega arith))
            (λ apart. inr (j, h.1, p, set_else s.owners id j w apart ∙ h.3, h.4, h.5, h.6)))
            (k.boxes.free i at));
        opened = λ j p at pos_p. ⊎_elim
            (λ e. (t, ap (λ (a : Owner). a.thread) (sym e.1) ∙ of_v, subst (λ (a : Owner). get_elem? s.boxes (box_of z t a.next) ≡ some 0) e.1 empty, subst (λ (a : Owner). get_elem? (set homes box none) (box_of z t a.next) ≡ some none) e.1 (set_here homes box none (let l = k.sized in let lt = box_below in omega arith))))
            (λ e. let h = k.boxes.opened j p e.1 pos_p in (h.0, h.1, h.2, set_else homes box (box_of z h.0 p.next) none (other_box j h.0 p e.1 e.0 h.1) ∙ h.3))
            (at_set s.owners id j w p at);
      }

      pub drawn : SlotsKeptBy sight o s1 xs (set homes box none) hands
      drawn = record {
        sized = length-set homes box none ∙ k.sized;
        seats = k.seats ∙ sym (length-set s.owners id w);
        count = k.count;
        queues = record {
          wide = k.queues.wide;
          each = k.queues.each;
          owners = λ j p at. ⊎_elim
              (λ e. let q = k.queues.owners id v at_v in subst (OwnsQueue z s.boxes hands.next k.count) e.1 (record { behind = q.behind; over = λ u i of_u pos_u lt. over (box_of z u (place_at z (get_or hands.next u 0) i)); newcomer = q.newcomer }))
              (λ e. k.queues.owners j p e.1)
              (at_set s.owners id j w p at);
          unused = k.queues.unused;
        };
        lists = lists_owned z s s1 hands.lists hands.boxes k.lists k.lists.durable k.lists.reproduced
            (faults_in w refl)
            (λ alive j u p q at of_u pos_p among. ⊎_elim
            (λ e. let u_is = same_thread u (ap (λ (a : Owner). a.thread) e.1 ∙ of_u) in let num = ap (λ (a : Owner). a.number) e.1 in let lt = newest alive q (subst (λ (d : ℕ). Contains (waiting_of_ring hands.lists.state d) q) u_is among) in omega arith)
            (λ e. (k.lists.ordered alive).opened j u p q e.1 of_u pos_p among)
            (at_set s.owners id j w p at));
        pages = mapped_on z s s1 hands.map k.pages;
        boxes = drawn_boxes;
        shown = k.shown;
        home = λ e. let h = k.home e in (h.0, h.1, set_else homes box (back_slot z) none not_back ∙ h.2);
        held = held_on sight o s xs homes hands k id v w at_v refl;
      }

    -- ---- its record is posted
    module _ (r : RedoRecord) (number : v.number ≡ r.number) (pos : 0 < r.number) (as_many : length s.records ≡ length s.boxes) (drawn_thread : t < s.threads) (not_handed : HasRecord hands.lists.records r.number → ⊥) (some_numbers : (n : ℕ) → HasRecord hands.lists.records n → 0 < n) where
      abbrev next_place : ℕ
      next_place = place_behind z v.next

      abbrev w2 : Owner
      w2 = record v { number = 0; next = next_place }

      abbrev s2 : Stage
      s2 = record s { boxes = set s.boxes box r.number; records = set s.records box r; owners = set s.owners id w2 }

      abbrev count2 : ℕ → ℕ
      count2 = change k.count t (k.count t + 1)

      abbrev place : ℕ
      place = get_or hands.next t 0

      pos_v : 0 < v.number
      pos_v = omega arith

      open_box : (get_elem? s.boxes box ≡ some 0) × (get_elem? homes box ≡ some none)
      open_box = let h = k.boxes.opened id v at_v pos_v in let same = ap (λ u. box_of z u v.next) (same_thread h.0 h.1) in (subst (λ i. get_elem? s.boxes i ≡ some 0) same h.2, subst (λ i. get_elem? homes i ≡ some none) same h.3)

      queue : IsQueue z s.boxes t place (k.count t)
      queue = k.queues.each t inside

      behind : v.next ≡ place_at z place (k.count t)
      behind = (k.queues.owners id v at_v).behind t of_v

      end_is : box ≡ box_of z t (place_at z place (k.count t))
      end_is = ap (box_of z t) behind

      empty_word : get_or s.boxes (box_of z t (place_at z place (k.count t))) 0 ≡ 0
      empty_word = ap (λ i. get_or s.boxes i 0) (sym end_is) ∙ read_there s.boxes box 0 open_box.0

      greatest : (i : ℕ) → i < k.count t → word_at z s.boxes t place i < r.number
      greatest i lt = let h = (k.queues.owners id v at_v).over t i of_v pos_v lt in omega arith

      room : k.count t < z.boxes
      room = not_all z s.boxes t place (k.count t) r.number inside long queue empty_word pos greatest

      -- the place behind the last one
      next_is : next_place ≡ place_at z place (k.count t + 1)
      next_is = ap (λ p. (p + 1) % z.boxes) behind ∙ place_more z place (k.count t) queue.start room

      boxes_are : s2.boxes ≡ set s.boxes (box_of z t (place_at z place (k.count t))) r.number
      boxes_are = ap (λ i. set s.boxes i r.number) end_is

      at_t : count2 t ≡ k.count t + 1
      at_t = ⊎_elim (λ h. h.1) (λ n. absurd (n.0 refl)) (at_change k.count t (k.count t + 1) t)

      -- the queues of the threads
      posted_queue : (u : ℕ) → u < z.threads → IsQueue z s2.boxes u (get_or hands.next u 0) (count2 u)
      posted_queue u lu = ⊎_elim
          (λ e. subst (λ (d : ℕ). IsQueue z s2.boxes d (get_or hands.next d 0) (count2 d)) (sym e.0) (rw (at_t, boxes_are) (queue_longer z s.boxes t place (k.count t) r.number inside long queue empty_word pos greatest)))
          (λ n. rw (n.1, boxes_are) (queue_beside z s.boxes t place (k.count t) r.number inside long queue empty_word pos greatest u (get_or hands.next u 0) (k.count u) n.0 (k.queues.each u lu)))
          (at_change k.count t (k.count t + 1) u)

      -- a word of another thread's queue
      beside : (u i : ℕ) → u ≢ t → u < z.threads → i ≤ z.boxes → word_at z s2.boxes u (get_or hands.next u 0) i ≡ word_at z s.boxes u (get_or hands.next u 0) i
      beside u i other lu le = ap (λ bs. word_at z bs u (get_or hands.next u 0) i) boxes_are ∙ word_beside z s.boxes t place (k.count t) r.number inside long queue empty_word pos greatest u (get_or hands.next u 0) i other (k.queues.each u lu).start le

      posted_owners : (of_thread : (j u : ℕ) (p : Owner) → get_elem? s.owners j ≡ some p → p.thread ≡ Some u → u < z.threads) → (j : ℕ) (p : Owner) → get_elem? s2.owners j ≡ some p → OwnsQueue z s2.boxes hands.next count2 p
      posted_owners of_thread j p at = ⊎_elim
          (λ e. subst (OwnsQueue z s2.boxes hands.next count2) e.1 (record {
            behind = λ u of_u. let same = same_thread u of_u in next_is ∙ (ap (place_at z place) (sym at_t) ∙ ap (λ (d : ℕ). place_at z (get_or hands.next d 0) (count2 d)) (sym same));
            over = λ u i of_u pos_u lt. absurd (omega arith);
            newcomer = λ none. absurd (no_thread (sym of_v ∙ none));
          }))
          (λ e. let q = k.queues.owners j p e.1 in record {
            behind = λ u of_u. q.behind u of_u ∙ ap (place_at z (get_or hands.next u 0)) (sym (count_else u (λ same. e.0 (only j p e.1 (of_u ∙ ap (λ (d : ℕ). Some d) same)))));
            over = λ u i of_u pos_u lt. let other : u ≢ t = (λ same. e.0 (only j p e.1 (of_u ∙ ap (λ (d : ℕ). Some d) same))) in
                let c = count_else u other in let few = (k.queues.each u (of_thread j u p e.1 of_u)).few in let old = q.over u i of_u pos_u (omega arith) in let w = beside u i other (of_thread j u p e.1 of_u) (omega arith) in omega arith;
            newcomer = q.newcomer;
          })
          (at_set s.owners id j w2 p at)
        where
          no_thread : Some t ≡ None → ⊥
          no_thread e = cc

          count_else : (u : ℕ) → u ≢ t → count2 u ≡ k.count u
          count_else u other = ⊎_elim (λ h. absurd (other h.0)) (λ n. n.1) (at_change k.count t (k.count t + 1) u)

      inside_boxes : box < length s.boxes
      inside_boxes = there s.boxes box 0 open_box.0

      is_boxed : IsBoxed s2 box r
      is_boxed = (set_here s.boxes box r.number inside_boxes, set_here s.records box r (let n = as_many in let lt = inside_boxes in omega arith))

      -- another box is as it was
      still_boxed : (i : ℕ) (q : RedoRecord) → i ≢ box → IsBoxed s i q → IsBoxed s2 i q
      still_boxed i q other b = (set_else s.boxes box i r.number other ∙ b.0, set_else s.records box i r other ∙ b.1)

      not_here : (i m : ℕ) → get_elem? s.boxes i ≡ some m → 0 < m → i ≢ box
      not_here i m at pos_m e = let zero_m : 0 ≡ m = some-injective 0 m (sym open_box.0 ∙ (ap (get_elem? s.boxes) (sym e) ∙ at)) in absurd (omega arith)

      posted_lists : ListsKept z s2 hands.lists hands.boxes
      posted_lists = lists_moved z s s2 hands.lists hands.boxes hands.boxes k.lists k.lists.durable k.lists.reproduced (faults_in w2 refl) k.lists.persisted
          (λ n has. ⊎_elim inl (λ b. inr (b.0, still_boxed b.0 (record { number = n; writes = writes_in hands.lists.records n }) (not_here b.0 n b.1.0 (some_numbers n has)) b.1)) (k.lists.handed n has))
          (λ alive i m at pos_m has. ⊎_elim
          (λ e. absurd (not_handed (subst (HasRecord hands.lists.records) (sym e.1) has)))
          (λ e. k.lists.in_hand alive i m e.1 pos_m has)
          (at_set s.boxes box i r.number m at))
          (λ alive. let w = k.lists.ordered alive in record {
            boxed = λ u j m q lu lj at pos_m lacks among. ⊎_elim
                (λ e. let same = (box_same z.boxes u t j v.next lj (near id v at_v) e.0).0 in let lt = w.opened id t v q at_v of_v pos_v (subst (λ (d : ℕ). Contains (waiting_of_ring hands.lists.state d) q) same among) in let is = e.1 in omega arith)
                (λ e. w.boxed u j m q lu lj e.1 pos_m lacks among)
                (at_set s.boxes box (box_of z u j) r.number m at);
            opened = λ j u p q at of_u pos_p among. ⊎_elim (λ e. absurd (let n = ap (λ (a : Owner). a.number) e.1 in omega arith)) (λ e. w.opened j u p q e.1 of_u pos_p among) (at_set s.owners id j w2 p at);
          })

      posted_boxes : BoxSlots sight z s2 hands.boxes (set homes box (some (Record r)))
      posted_boxes = record {
        full = λ i m at pos_m. ⊎_elim
            (λ e. inr (r, subst (λ (d : ℕ). IsBoxed s2 d r) (sym e.0) is_boxed, subst (λ (d : ℕ). get_elem? (set homes box (some (Record r))) d ≡ some (some (Record r))) (sym e.0) (set_here homes box (some (Record r)) (let l = k.sized in let lt = box_below in omega arith))))
            (λ e. ⊎_elim inl (λ q. inr (q.0, still_boxed i q.0 e.0 q.1, set_else homes box i (some (Record r)) e.0 ∙ q.2)) (k.boxes.full i m e.1 pos_m))
            (at_set s.boxes box i r.number m at);
        hand = λ i q among. let h = k.boxes.hand i q among in let other = not_here i q.number h.0.0 h.1 in (still_boxed i q other h.0, h.1, h.2, set_else homes box i (some (Record r)) other ∙ h.3);
        free = λ i at. ⊎_elim
            (λ e. absurd (let zero_r = e.1 in omega arith))
            (λ e. ⊎_elim (λ f. inl (set_else homes box i (some (Record r)) e.0 ∙ f))
            (λ h. let j = h.0 in let p = h.2 in dite (ℕ_discrete j id)
            (λ same. absurd (let pv = is_v j p h.3 same in let of_u : v.thread ≡ Some h.1 = ap (λ (a : Owner). a.thread) (sym pv) ∙ h.5 in e.0 (h.6 ∙ (ap (λ b. box_of z h.1 b) (ap (λ (a : Owner). a.next) pv) ∙ ap (λ u. box_of z u v.next) (same_thread h.1 of_u)))))
            (λ apart. inr (j, h.1, p, set_else s.owners id j w2 apart ∙ h.3, h.4, h.5, h.6)))
            (k.boxes.free i e.1))
            (at_set s.boxes box i r.number 0 at);
        opened = λ j p at pos_p. ⊎_elim
            (λ e. absurd (let n = ap (λ (a : Owner). a.number) e.1 in omega arith))
            (λ e. let h = k.boxes.opened j p e.1 pos_p in let other = other_box j h.0 p e.1 e.0 h.1 in
            (h.0, h.1, set_else s.boxes box (box_of z h.0 p.next) r.number other ∙ h.2, set_else homes box (box_of z h.0 p.next) (some (Record r)) other ∙ h.3))
            (at_set s.owners id j w2 p at);
      }

      pub posted : ((j u : ℕ) (p : Owner) → get_elem? s.owners j ≡ some p → p.thread ≡ Some u → u < z.threads) → SlotsKeptBy sight o s2 xs (set homes box (some (Record r))) hands
      posted of_thread = record {
        sized = length-set homes box (some (Record r)) ∙ k.sized;
        seats = k.seats ∙ sym (length-set s.owners id w2);
        count = count2;
        queues = record {
          wide = k.queues.wide;
          each = posted_queue;
          owners = posted_owners of_thread;
          unused = λ u le. let old = k.queues.unused u le in (old.0, ⊎_elim (λ h. absurd (let lt = drawn_thread in let e = h.0 in omega arith)) (λ n. n.1 ∙ old.1) (at_change k.count t (k.count t + 1) u));
        };
        lists = posted_lists;
        pages = mapped_on z s s2 hands.map k.pages;
        boxes = posted_boxes;
        shown = k.shown;
        home = λ e. let h = k.home e in (h.0, h.1, set_else homes box (back_slot z) (some (Record r)) not_back ∙ h.2);
        held = held_on sight o s xs homes hands k id v w2 at_v refl;
      }
