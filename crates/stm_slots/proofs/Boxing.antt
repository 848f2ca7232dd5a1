-- The holder of the turn takes the record of a box, puts it back, or empties the box; and its lists follow the calls of the back.
use Rattle.std.proofs.Common.{◌≡◌, ◌≢◌, ℕ, ◌+◌, ◌-◌, ◌*◌, ◌<◌, ◌≤◌, ◌⊎◌, true, false, List, ◌∷◌, length, get_or, set, refl, sym, ap, ◌∙◌, subst, inl, inr, ⊎_elim, arith, length-set, get_or-set_same, get_or-set_other}
use Rattle.std.specs.Prelude.{Some}
use Rattle.std.specs.List.{Contains}
use Rattle.std.proofs.lemmas.Bool.{true≢false}
use Rattle.std.proofs.lemmas.List.Elements.{All-cons}
use mathlib.Core.Option.{Option as Maybe, none, some, some-injective}
use mathlib.Core.Logic.{dite}
use native.Mathlib.Decide.{ℕ_discrete, dec_lt}
use lib.ListN.{get_elem?}
use Rattle.dude_base.specs.Records.{Covers, RedoBundle, RedoRecord, first_of}
use Rattle.pmem_trait.specs.Sights.{Sight}
use Rattle.pmem_trait.specs.declared.medium.Medium.{Ghosts}
use Rattle.core_events.specs.Setups.{Setup, box_of}
use Rattle.core_events.specs.Conditions.{no_record}
use Rattle.core_events.specs.Keyed.{change}
use Rattle.core_events.proofs.Threads.{not_true}
use Rattle.core_events.proofs.Lists.{there, at_set, set_here, set_else, at_change}
use Rattle.core_events.proofs.Boxes.{read_there}
use Rattle.stm_slots.specs.KnownLists.{BackLists}
use Rattle.stm_slots.specs.Records.{HasRecord, LacksRecord, writes_in}
use Rattle.stm_slots.proofs.JoinedRecords.{has_here, has_more, has_behind, has_either_list, writes_front, writes_behind, not_both, lacks_from}
use Rattle.stm_slots.specs.Beside.{Hands, Beside}
use Rattle.stm_slots.specs.Stage.{Owner, Stage}
use Rattle.stm_slots.specs.Queues.{back_slot, place_at, word_at, IsQueue, Queued}
use Rattle.stm_slots.specs.Lists.{IsBoxed, ListsKept}
use Rattle.stm_slots.specs.Turns.{IsTaken, IsHanded, Follows, Leaves}
use Rattle.stm_slots.specs.Opening.{setup_of}
use Rattle.stm_slots.specs.Rule.{SlotsKeptBy}
use Rattle.stm_slots.specs.declared.slot.Slot.{Slot}
use Rattle.stm_slots.specs.declared.slot.Slot.TheVariants.{Empty, Record}
use Rattle.stm_slots.specs.declared.opening.Opening.{Opening}
use Rattle.stm_slots.proofs.Listing.{lists_moved, lists_taken}
use Rattle.stm_slots.proofs.Wording.{mapped_on, held_by}
use Rattle.stm_slots.proofs.Taken.{contains_here, contains_more, contains_either}
use Rattle.stm_slots.proofs.Queueing.{place_on, place_here, way_to, queue_left, queue_other, word_left, word_other}

module _ {M : Type 0} {ghosts : Ghosts M} (sight : M → Sight) (o : Opening M ghosts) where
  abbrev z : Setup
  z = setup_of sight o

  abbrev Slots : Type 0
  Slots = List (Maybe (Slot M ghosts))

  -- each number stands in one box at most
  abbrev Once : Stage → Type 0
  Once s = (i k n : ℕ) → get_elem? s.boxes i ≡ some n → get_elem? s.boxes k ≡ some n → 0 < n → i ≡ k

  -- the open number of a view is in no box, and wasn't persisted
  abbrev OpenApart : Stage → Type 0
  OpenApart s = (j : ℕ) (p : Owner) → get_elem? s.owners j ≡ some p → 0 < p.number → ((i : ℕ) → get_elem? s.boxes i ≡ some p.number → ⊥) × (HasRecord s.persisted p.number → ⊥)

  module _ (s : Stage) (xs : List Beside) (homes : Slots) (hands : Hands) (k : SlotsKeptBy sight o s xs homes hands) (long : length s.boxes ≡ back_slot z) (id : ℕ) (v : Owner) (x : Beside) (at_v : get_elem? s.owners id ≡ some v) (at_x : get_elem? xs id ≡ some x)
      (alone : (j : ℕ) (p : Owner) → get_elem? s.owners j ≡ some p → p.has_turn ≡ true → j ≡ id) (turn : 0 < s.turn) where
    -- ---- the lists follow the calls of the back
    module _ (of_thread : (j u : ℕ) (p : Owner) → get_elem? s.owners j ≡ some p → p.thread ≡ Some u → u < z.threads) (once : Once s) (apart : OpenApart s) (m : BackLists) (f : Follows z hands.next hands.boxes hands.lists m) where
      abbrev l : BackLists
      l = hands.lists

      was_live : m.state.dead ≡ false → l.state.dead ≡ false
      was_live alive = not_true l.state.dead (λ e. true≢false (sym (f.dead e) ∙ alive))

      -- what waits in a ring begins with a record of its thread, which stands in the thread's queue
      module _ (t n : ℕ) (h : IsHanded z hands.next hands.boxes m.records t n) where
        abbrev place : ℕ
        place = get_or hands.next t 0

        queue : IsQueue z s.boxes t place (k.count t)
        queue = k.queues.each t h.taken_is.inside

        -- the word of a box of the queue whose record was taken
        word_of_taken : (i : ℕ) (r : RedoRecord) → IsTaken z hands.next hands.boxes t i r → (word_at z s.boxes t place i ≡ r.number) × (0 < r.number)
        word_of_taken i r is = let d = k.boxes.hand (box_of z t (place_at z place i)) r is.among in (read_there s.boxes (box_of z t (place_at z place i)) r.number d.0.0, d.1)

        near : h.i < k.count t
        near = dite (dec_lt h.i (k.count t)) (λ lt. lt) (λ ge. absurd (let e = queue.free h.i (omega arith) h.taken_is.near in let w = word_of_taken h.i h.r h.taken_is in let word = w.0 in let pos = w.1 in omega arith))

        word_here : word_at z s.boxes t place h.i ≡ n
        word_here = (word_of_taken h.i h.r h.taken_is).0 ∙ h.number

        -- another number of the thread's boxes that wasn't handed over is greater
        boxed_behind : (j x : ℕ) → j < z.boxes → get_elem? s.boxes (box_of z t j) ≡ some x → 0 < x → LacksRecord m.records x → n < x
        boxed_behind j x lj at pos lacks =
            let way = way_to z place j queue.start lj in let i = way.0 in
            let word : word_at z s.boxes t place i ≡ x = ap (λ p. get_or s.boxes (box_of z t p) 0) way.2 ∙ read_there s.boxes (box_of z t j) x at in
            dite (dec_lt h.i i)
            (λ over. dite (dec_lt i (k.count t))
            (λ below. let up = queue.rising h.i i over below in let w = word_here in omega arith)
            (λ above. absurd (let e = queue.free i (omega arith) way.1 in omega arith)))
            (λ upto. absurd (let p = h.upto i (omega arith) in let is : p.0.number ≡ x = sym (word_of_taken i p.0 p.1).0 ∙ word in not_both m.records x (subst (HasRecord m.records) is p.2) lacks))

        open_behind : (j : ℕ) (p : Owner) → get_elem? s.owners j ≡ some p → p.thread ≡ Some t → 0 < p.number → n < p.number
        open_behind j p at of_t pos = let w = word_here in let lt = (k.queues.owners j p at).over t h.i of_t pos near in omega arith

      -- a number that was handed over before isn't a new one
      not_new : (n : ℕ) → HasRecord l.records n → LacksRecord f.more n
      not_new n has = lacks_from f.more n (λ h. not_both l.records n has (f.new.lacks n h))

      had : (n : ℕ) → HasRecord l.records n → HasRecord m.records n
      had n h = subst (λ rs. HasRecord rs n) (sym f.records) (has_behind f.more l.records n h)

      either : (n : ℕ) → HasRecord m.records n → HasRecord f.more n ⊎ HasRecord l.records n
      either n h = has_either_list f.more l.records n (subst (λ rs. HasRecord rs n) f.records h)

      lacked : (n : ℕ) → LacksRecord m.records n → LacksRecord l.records n
      lacked n lacks = lacks_from l.records n (λ h. not_both m.records n (had n h) lacks)

      old_writes : (n : ℕ) → HasRecord l.records n → writes_in m.records n ≡ writes_in l.records n
      old_writes n h = ap (λ rs. writes_in rs n) f.records ∙ writes_behind f.more l.records n (not_new n h)

      new_writes : (n : ℕ) → HasRecord f.more n → writes_in m.records n ≡ writes_in f.more n
      new_writes n h = ap (λ rs. writes_in rs n) f.records ∙ writes_front f.more l.records n h

      -- the open number of a view wasn't handed over
      not_open : (j : ℕ) (p : Owner) → get_elem? s.owners j ≡ some p → 0 < p.number → HasRecord m.records p.number → ⊥
      not_open j p at pos has =
          let n : ℕ = p.number in let a = apart j p at pos in ⊎_elim
          (λ new. let b = f.among n new in a.0 b.0 (k.boxes.hand b.0 (record { number = n; writes = writes_in f.more n }) b.1).0.0)
          (λ old. ⊎_elim a.1 (λ b. a.0 b.0 b.1.0) (k.lists.handed n old))
          (either n has)

      -- a number that is over the first one of what was handed over, and wasn't handed over itself, is over the last one
      over_last : (b : RedoBundle) (n : ℕ) → ((i : ℕ) → Covers b i → HasRecord m.records i) → first_of b < n → (HasRecord m.records n → ⊥) → b.last < n
      over_last b n covered lt lacks = dite (dec_lt b.last n) (λ up. up) (λ low. absurd (lacks (covered n (record { low = omega arith; high = omega arith }))))

      pub followed_lists : ListsKept z s m hands.boxes
      followed_lists = record {
        lawful = f.lawful;
        rings = subst (λ (n : ℕ). z.threads ≤ n) (sym (ap (λ u. u.rings) f.sizes)) k.lists.rings;
        pages = ap (λ u. u.pages) f.sizes ∙ k.lists.pages;
        durable = (let a = k.lists.durable in let b = f.durable in omega arith);
        reproduced = (let a = k.lists.reproduced in let b = f.reproduced in omega arith);
        fault = λ j p at met. f.dead (k.lists.fault j p at met);
        persisted = λ j d lt. let p = k.lists.persisted j d lt in let n = (get_or s.persisted j d).number in (had n p.0, old_writes n p.0 ∙ p.1);
        handed = λ n has. ⊎_elim
            (λ new. let a = f.among n new in inr (a.0, subst (λ ws. IsBoxed s a.0 (record { number = n; writes = ws })) (sym (new_writes n new)) (k.boxes.hand a.0 (record { number = n; writes = writes_in f.more n }) a.1).0))
            (λ old. ⊎_elim inl (λ b. inr (b.0, subst (λ ws. IsBoxed s b.0 (record { number = n; writes = ws })) (sym (old_writes n old)) b.1)) (k.lists.handed n old))
            (either n has);
        in_hand = λ alive j n at pos has. ⊎_elim
            (λ new. let a = f.among n new in let r : RedoRecord = record { number = n; writes = writes_in f.more n } in
            let same : j ≡ a.0 = once j a.0 n at (k.boxes.hand a.0 r a.1).0.0 pos in (r, subst (λ (d : ℕ). Contains hands.boxes (d, r)) (sym same) a.1))
            (λ old. k.lists.in_hand (was_live alive) j n at pos old)
            (either n has);
        ordered = λ alive. let w = k.lists.ordered (was_live alive) in record {
          boxed = λ u j n q lt lj at pos lacks among. ⊎_elim
              (λ old. w.boxed u j n q lt lj at pos (lacked n lacks) old)
              (λ new. over_last q n new.covered (boxed_behind u (first_of q) new.begins j n lj at pos lacks) (λ has. not_both m.records n has lacks))
              (f.waiting alive u q lt among);
          opened = λ j u p q at of_u pos among. ⊎_elim (λ old. w.opened j u p q at of_u pos old) (λ new. over_last q p.number new.covered (open_behind u (first_of q) new.begins j p at of_u pos) (not_open j p at pos)) (f.waiting alive u q (of_thread j u p at of_u) among);
        };
      }

      pub followed : SlotsKeptBy sight o s (set xs id (record x { turn = Some (record hands { lists = m }) })) homes (record hands { lists = m })
      followed = let y : Beside = record x { turn = Some (record hands { lists = m }) } in record {
        sized = k.sized;
        seats = length-set xs id y ∙ k.seats;
        lists = followed_lists;
        count = k.count;
        queues = k.queues;
        pages = k.pages;
        boxes = k.boxes;
        shown = k.shown;
        home = λ e. absurd (omega arith);
        held = held_by sight o xs id x at_x s.owners alone (record hands { lists = m });
      }

    -- ---- a record is taken out of its box
    pub seen : (n i : ℕ) → ((q : RedoRecord) → Contains hands.boxes (i, q) → ⊥) → get_elem? s.boxes i ≡ some n → 0 < n
        → (r : RedoRecord) × (r.number ≡ n) × IsBoxed s i r × (get_elem? homes i ≡ some (some (Record r))) × SlotsKeptBy sight o s (set xs id (record x { turn = Some (record hands { boxes = (i, r) ∷ hands.boxes }) })) (set homes i none) (record hands { boxes = (i, r) ∷ hands.boxes })
    seen n i no_box at pos = ⊎_elim
        (λ t. absurd (no_box t.0 t.1))
        (λ t. let r = t.0 in let boxed = t.1 in let is : r.number ≡ n = some-injective r.number n (sym boxed.0 ∙ at) in
        let y : Beside = record x { turn = Some (record hands { boxes = (i, r) ∷ hands.boxes }) } in let inside : i < back_slot z = (let lt = there s.boxes i n at in omega arith) in (
          r,
          is,
          boxed,
          t.2,
          record {
            sized = length-set homes i none ∙ k.sized;
            seats = length-set xs id y ∙ k.seats;
            count = k.count;
            queues = k.queues;
            lists = lists_taken z s hands.lists hands.boxes ((i, r) ∷ hands.boxes) k.lists (λ alive j m at_m pos_m has. let q = k.lists.in_hand alive j m at_m pos_m has in (q.0, contains_more (i, r) hands.boxes (j, q.0) q.1));
            pages = k.pages;
            boxes = record {
              full = λ j m at_m pos_m. dite (ℕ_discrete j i)
                  (λ e. inl (r, subst (λ (a : ℕ). Contains ((i, r) ∷ hands.boxes) (a, r)) (sym e) (contains_here (i, r) hands.boxes)))
                  (λ other. ⊎_elim
                  (λ q. inl (q.0, contains_more (i, r) hands.boxes (j, q.0) q.1))
                  (λ q. inr (q.0, q.1, set_else homes i j none other ∙ q.2))
                  (k.boxes.full j m at_m pos_m));
              hand = λ j q among. ⊎_elim
                  (λ e. let a : i ≡ j = ap (λ (p : ℕ × RedoRecord). p.0) e in let b : r ≡ q = ap (λ (p : ℕ × RedoRecord). p.1) e in
                  (subst (λ (d : RedoRecord). IsBoxed s j d) b (subst (λ (d : ℕ). IsBoxed s d r) a boxed), (let c : r.number ≡ q.number = ap (λ (d : RedoRecord). d.number) b in omega arith), (let lt = inside in omega arith), subst (λ (d : ℕ). get_elem? (set homes i none) d ≡ some none) a (set_here homes i none (let l = k.sized in omega arith))))
                  (λ old. let d = k.boxes.hand j q old in let other : j ≢ i = (λ e. no_box q (subst (λ (b : ℕ). Contains hands.boxes (b, q)) e old)) in (d.0, d.1, d.2, set_else homes i j none other ∙ d.3))
                  (contains_either (i, r) hands.boxes (j, q) among);
              free = λ j at_m. let other : j ≢ i = (λ e. let zero_n : 0 ≡ n = some-injective 0 n (sym at_m ∙ (ap (get_elem? s.boxes) e ∙ at)) in omega arith) in
                  ⊎_elim (λ e. inl (set_else homes i j none other ∙ e)) inr (k.boxes.free j at_m);
              opened = λ j p at_p pos_p. let q = k.boxes.opened j p at_p pos_p in
                  let other : box_of z q.0 p.next ≢ i = (λ e. let zero_n : 0 ≡ n = some-injective 0 n (sym q.2 ∙ (ap (get_elem? s.boxes) e ∙ at)) in omega arith) in
                  (q.0, q.1, q.2, set_else homes i (box_of z q.0 p.next) none other ∙ q.3);
            };
            shown = k.shown;
            home = λ e. absurd (omega arith);
            held = held_by sight o xs id x at_x s.owners alone (record hands { boxes = (i, r) ∷ hands.boxes });
          },
        ))
        (k.boxes.full i n at pos)

    -- ---- it is put back, where it wasn't handed over, or the back is dead
    pub put_back : (i : ℕ) (r : RedoRecord) (left : List (ℕ × RedoRecord)) → Contains hands.boxes (i, r) → Leaves hands.boxes i left → (hands.lists.state.dead ≡ false → LacksRecord hands.lists.records r.number)
        → SlotsKeptBy sight o s (set xs id (record x { turn = Some (record hands { boxes = left }) })) (set homes i (some (Record r))) (record hands { boxes = left })
    put_back i r left has_box leaves lacks =
        let y : Beside = record x { turn = Some (record hands { boxes = left }) } in let h = k.boxes.hand i r has_box in
        record {
          sized = length-set homes i (some (Record r)) ∙ k.sized;
          seats = length-set xs id y ∙ k.seats;
          count = k.count;
          queues = k.queues;
          lists = lists_taken z s hands.lists hands.boxes left k.lists (λ alive j m at_m pos_m has. let q = k.lists.in_hand alive j m at_m pos_m has in ⊎_elim
              (λ a. absurd (let m_is : m ≡ r.number = some-injective m r.number (sym at_m ∙ (ap (get_elem? s.boxes) a ∙ h.0.0)) in not_both hands.lists.records r.number (subst (HasRecord hands.lists.records) m_is has) (lacks alive)))
              (λ stays. (q.0, stays))
              (leaves.stays j q.0 q.1));
          pages = k.pages;
          boxes = record {
            full = λ j m at_m pos_m. dite (ℕ_discrete j i)
                (λ e. inr (r, subst (λ (d : ℕ). IsBoxed s d r) (sym e) h.0, subst (λ (d : ℕ). get_elem? (set homes i (some (Record r))) d ≡ some (some (Record r))) (sym e) (set_here homes i (some (Record r)) (let l = k.sized in let lt = h.2 in omega arith))))
                (λ other. ⊎_elim
                (λ q. ⊎_elim (λ e. absurd (other e)) (λ stays. inl (q.0, stays)) (leaves.stays j q.0 q.1))
                (λ q. inr (q.0, q.1, set_else homes i j (some (Record r)) other ∙ q.2))
                (k.boxes.full j m at_m pos_m));
            hand = λ j q among. let w = leaves.was j q among in let d = k.boxes.hand j q w.0 in (d.0, d.1, d.2, set_else homes i j (some (Record r)) w.1 ∙ d.3);
            free = λ j at_m. let other : j ≢ i = (λ e. let zero_n : 0 ≡ r.number = some-injective 0 r.number (sym at_m ∙ (ap (get_elem? s.boxes) e ∙ h.0.0)) in let pos = h.1 in omega arith) in
                ⊎_elim (λ e. inl (set_else homes i j (some (Record r)) other ∙ e)) inr (k.boxes.free j at_m);
            opened = λ j p at_p pos_p. let q = k.boxes.opened j p at_p pos_p in
                let other : box_of z q.0 p.next ≢ i = (λ e. let zero_n : 0 ≡ r.number = some-injective 0 r.number (sym q.2 ∙ (ap (get_elem? s.boxes) e ∙ h.0.0)) in let pos = h.1 in omega arith) in
                (q.0, q.1, q.2, set_else homes i (box_of z q.0 p.next) (some (Record r)) other ∙ q.3);
          };
          shown = k.shown;
          home = λ e. absurd (omega arith);
          held = held_by sight o xs id x at_x s.owners alone (record hands { boxes = left });
        }

    -- ---- its box is emptied, where it was handed over
    module _ (t : ℕ) (r : RedoRecord) (inside : t < z.threads) (of_thread : (j u : ℕ) (p : Owner) → get_elem? s.owners j ≡ some p → p.thread ≡ Some u → u < z.threads) (once : Once s)
        (left : List (ℕ × RedoRecord)) (has_box : Contains hands.boxes (box_of z t (get_or hands.next t 0), r)) (leaves : Leaves hands.boxes (box_of z t (get_or hands.next t 0)) left) (handed : HasRecord hands.lists.records r.number) (writes : writes_in hands.lists.records r.number ≡ r.writes) where
      abbrev front_place : ℕ
      front_place = get_or hands.next t 0

      abbrev front_box : ℕ
      front_box = box_of z t front_place

      abbrev next2 : List ℕ
      next2 = set hands.next t (place_at z front_place 1)

      abbrev hands2 : Hands
      hands2 = record hands { next = next2; boxes = left }

      abbrev s2 : Stage
      s2 = record s { boxes = set s.boxes front_box 0; records = set s.records front_box no_record; persisted = r ∷ s.persisted }

      abbrev count2 : ℕ → ℕ
      count2 = change k.count t (k.count t - 1)

      front_hand : IsBoxed s front_box r × (0 < r.number) × (front_box < back_slot z) × (get_elem? homes front_box ≡ some none)
      front_hand = k.boxes.hand front_box r has_box

      front_queue : IsQueue z s.boxes t front_place (k.count t)
      front_queue = k.queues.each t inside

      front_word : get_or s.boxes front_box 0 ≡ r.number
      front_word = read_there s.boxes front_box r.number front_hand.0.0

      front_full : 0 < k.count t
      front_full = dite (dec_lt 0 (k.count t)) (λ h. h) (λ n. absurd (
          let none_full : word_at z s.boxes t front_place 0 ≡ 0 = front_queue.free 0 (omega arith) (let start = front_queue.start in omega arith) in
          let here : word_at z s.boxes t front_place 0 ≡ get_or s.boxes front_box 0 = ap (λ p. get_or s.boxes (box_of z t p) 0) (place_here z front_place front_queue.start) in let pos = front_hand.1 in let f = front_word in omega arith))

      next_here : get_or next2 t 0 ≡ place_at z front_place 1
      next_here = get_or-set_same hands.next t (place_at z front_place 1) 0 (let w = k.queues.wide in omega arith)

      next_else : (u : ℕ) → u ≢ t → get_or next2 u 0 ≡ get_or hands.next u 0
      next_else u n = get_or-set_other hands.next t u (place_at z front_place 1) 0 n

      all_boxes : length s.boxes ≡ z.threads * z.boxes
      all_boxes = long

      queues2 : Queued z s2 next2 count2
      queues2 = record {
        wide = (let w = k.queues.wide in let l = length-set hands.next t (place_at z front_place 1) in omega arith);
        each = λ u lu. ⊎_elim
            (λ e. subst (λ (d : ℕ). IsQueue z s2.boxes d (get_or next2 d 0) (count2 d)) (sym e.0) (rw (next_here, at_t) (queue_left z s.boxes t front_place (k.count t) inside all_boxes front_queue front_full)))
            (λ n. rw (next_else u n.0, n.1) (queue_other z s.boxes t front_place (k.count t) inside all_boxes front_queue front_full u (get_or hands.next u 0) (k.count u) n.0 (k.queues.each u lu)))
            (at_change k.count t (k.count t - 1) u);
        owners = λ j p at_p. let w = k.queues.owners j p at_p in record {
          behind = λ u e. ⊎_elim
              (λ h. let of_t : p.thread ≡ Some t = e ∙ ap (λ (d : ℕ). Some d) h.0 in let few2 = front_queue.few in
              w.behind t of_t ∙ (ap (place_at z front_place) (let q = front_full in let e2 : k.count t ≡ (k.count t - 1) + 1 = omega arith in e2) ∙ (sym (place_on z front_place (k.count t - 1) front_queue.start (let q = front_full in omega arith))
              ∙ (ap (λ (d : ℕ). place_at z d (k.count t - 1)) (sym next_here) ∙ (ap (place_at z (get_or next2 t 0)) (sym at_t) ∙ ap (λ (d : ℕ). place_at z (get_or next2 d 0) (count2 d)) (sym h.0)))))
              )
              (λ n. w.behind u e ∙ (ap (λ (d : ℕ). place_at z d (k.count u)) (sym (next_else u n.0)) ∙ ap (place_at z (get_or next2 u 0)) (sym n.1)))
              (at_change k.count t (k.count t - 1) u);
          over = λ u m e pos lt. ⊎_elim
              (λ h. let of_t : p.thread ≡ Some t = e ∙ ap (λ (d : ℕ). Some d) h.0 in let few2 = front_queue.few in let small : m + 1 < k.count t = (let c : count2 u ≡ k.count t - 1 = h.1 in omega arith) in
              let old = w.over t (m + 1) of_t pos small in
              let same : word_at z s2.boxes u (get_or next2 u 0) m ≡ word_at z s.boxes t front_place (m + 1) = ap (λ (d : ℕ). word_at z s2.boxes d (get_or next2 d 0) m) h.0 ∙ (ap (λ (d : ℕ). word_at z s2.boxes t d m) next_here ∙ word_left z s.boxes t front_place (k.count t) inside all_boxes front_queue front_full m (omega arith)) in omega arith)
              (λ n. let lu = of_thread j u p at_p e in let wide_u = (k.queues.each u lu).few in let small : m < k.count u = (let c : count2 u ≡ k.count u = n.1 in omega arith) in
              let old = w.over u m e pos small in
              let same : word_at z s2.boxes u (get_or next2 u 0) m ≡ word_at z s.boxes u (get_or hands.next u 0) m = ap (λ (d : ℕ). word_at z s2.boxes u d m) (next_else u n.0) ∙ word_other z s.boxes t front_place (k.count t) inside all_boxes front_queue front_full u (get_or hands.next u 0) m n.0 (k.queues.each u lu).start (omega arith) in omega arith)
              (at_change k.count t (k.count t - 1) u);
          newcomer = w.newcomer;
        };
        unused = λ u le. let old = k.queues.unused u le in let other : u ≢ t = (λ e. let c : k.count u ≡ k.count t = ap k.count e in let q = front_full in let none_full = old.1 in omega arith) in
            (next_else u other ∙ old.0, ⊎_elim (λ h. absurd (other h.0)) (λ n. n.1 ∙ old.1) (at_change k.count t (k.count t - 1) u));
      }
        where
          at_t : count2 t ≡ k.count t - 1
          at_t = ⊎_elim (λ h. h.1) (λ n. absurd (n.0 refl)) (at_change k.count t (k.count t - 1) t)

      -- another box is as it was
      box_else : (m n : ℕ) → get_elem? s2.boxes m ≡ some n → 0 < n → (m ≢ front_box) × (get_elem? s.boxes m ≡ some n)
      box_else m n at pos = ⊎_elim (λ e. absurd (let zero_n : 0 ≡ n = e.1 in omega arith)) (λ e. e) (at_set s.boxes front_box m 0 n at)

      still_boxed : (m : ℕ) (q : RedoRecord) → m ≢ front_box → IsBoxed s m q → IsBoxed s2 m q
      still_boxed m q other b = (set_else s.boxes front_box m 0 other ∙ b.0, set_else s.records front_box m no_record other ∙ b.1)

      lists2 : ListsKept z s2 hands.lists left
      lists2 = lists_moved z s s2 hands.lists hands.boxes left k.lists k.lists.durable k.lists.reproduced k.lists.fault
          (All-cons (λ (q : RedoRecord). HasRecord hands.lists.records q.number × (writes_in hands.lists.records q.number ≡ q.writes)) r s.persisted (handed, writes) k.lists.persisted)
          (λ n has. dite (ℕ_discrete n r.number)
          (λ e. inl (subst (HasRecord (r ∷ s.persisted)) (sym e) (has_here r s.persisted)))
          (λ other. ⊎_elim
          (λ p. inl (has_more r s.persisted n p))
          (λ b. inr (b.0, still_boxed b.0 (record { number = n; writes = writes_in hands.lists.records n }) (λ e. other (some-injective n r.number (sym b.1.0 ∙ (ap (get_elem? s.boxes) e ∙ front_hand.0.0)))) b.1))
          (k.lists.handed n has)))
          (λ alive m n at pos has. let b = box_else m n at pos in let q = k.lists.in_hand alive m n b.1 pos has in ⊎_elim (λ e. absurd (b.0 e)) (λ stays. (q.0, stays)) (leaves.stays m q.0 q.1))
          (λ alive. let w = k.lists.ordered alive in record {
            boxed = λ u j n q lu lj at pos lacks among. w.boxed u j n q lu lj (box_else (box_of z u j) n at pos).1 pos lacks among;
            opened = w.opened;
          })

      pub emptied : SlotsKeptBy sight o s2 (set xs id (record x { turn = Some hands2 })) (set homes front_box (some Empty)) hands2
      emptied =
          let y : Beside = record x { turn = Some hands2 } in record {
            sized = length-set homes front_box (some Empty) ∙ k.sized;
            seats = length-set xs id y ∙ k.seats;
            count = count2;
            queues = queues2;
            lists = lists2;
            pages = mapped_on z s s2 hands.map k.pages;
            boxes = record {
              full = λ m n at pos. let b = box_else m n at pos in ⊎_elim
                  (λ q. ⊎_elim (λ e. absurd (b.0 e)) (λ stays. inl (q.0, stays)) (leaves.stays m q.0 q.1))
                  (λ q. inr (q.0, still_boxed m q.0 b.0 q.1, set_else homes front_box m (some Empty) b.0 ∙ q.2))
                  (k.boxes.full m n b.1 pos);
              hand = λ m q among. let w = leaves.was m q among in let d = k.boxes.hand m q w.0 in (still_boxed m q w.1 d.0, d.1, d.2, set_else homes front_box m (some Empty) w.1 ∙ d.3);
              free = λ m at. dite (ℕ_discrete m front_box)
                  (λ e. inl (subst (λ (d : ℕ). get_elem? (set homes front_box (some Empty)) d ≡ some (some Empty)) (sym e) (set_here homes front_box (some Empty) (let l = k.sized in let lt = front_hand.2 in omega arith))))
                  (λ other. ⊎_elim
                  (λ e. inl (set_else homes front_box m (some Empty) other ∙ e))
                  inr
                  (k.boxes.free m (sym (set_else s.boxes front_box m 0 other) ∙ at)));
              opened = λ j p at_p pos_p. let q = k.boxes.opened j p at_p pos_p in
                  let other : box_of z q.0 p.next ≢ front_box = (λ e. let zero_n : 0 ≡ r.number = some-injective 0 r.number (sym q.2 ∙ (ap (get_elem? s.boxes) e ∙ front_hand.0.0)) in let pos = front_hand.1 in omega arith) in
                  (q.0, q.1, set_else s.boxes front_box (box_of z q.0 p.next) 0 other ∙ q.2, set_else homes front_box (box_of z q.0 p.next) (some Empty) other ∙ q.3);
            };
            shown = k.shown;
            home = λ e. absurd (omega arith);
            held = held_by sight o xs id x at_x s.owners alone hands2;
          }
