-- A draw takes the slot of its thread's next box, and a post gives it with the record: as acts, with which the rule of the slots is kept.
use Rattle.std.proofs.Common.{◌≡◌, ℕ, ◌+◌, ◌<◌, ◌≤◌, false, List, [], ◌∷◌, All, length, map, get_or, set, refl, sym, ap, ◌∙◌, subst, ⊎_elim, arith}
use Rattle.std.specs.Prelude.{Some}
use Rattle.std.specs.List.{Contains}
use Rattle.std.proofs.lemmas.Bool.{false≢true}
use Rattle.std.proofs.lemmas.List.{map-set}
use Rattle.std.proofs.lemmas.List.Elements.{All-head, All-tail}
use mathlib.Core.Option.{Option as Maybe, none, some}
use mathlib.Core.Logic.{dite}
use native.Mathlib.Decide.{dec_lt}
use lib.ListN.{get_elem?}
use Rattle.dude_base.specs.declared.write.Write.{Write}
use Rattle.dude_base.specs.Records.{RedoBundle, RedoRecord}
use Rattle.pmem_trait.specs.Sights.{Sight}
use Rattle.pmem_trait.specs.declared.medium.Medium.{Ghosts}
use Rattle.back_store.proofs.WaitingLanes.{waits_of_ring}
use Rattle.back_store.specs.Back.{waiting_of_ring}
use Rattle.atomic_table.specs.Table.{takes, gives, homes_after, carried_after}
use Rattle.core_events.specs.Setups.{Setup, box_of}
use Rattle.core_events.specs.Views.{View, About}
use Rattle.core_events.specs.Words.{State}
use Rattle.core_events.specs.Events.{draw, post, view_after, next_box, place_behind}
use Rattle.core_events.specs.Conditions.{after, record_of}
use Rattle.core_events.specs.Keyed.{or_else}
use Rattle.core_events.specs.Ghosts.{in_view, in_box, behind_boxes}
use Rattle.core_events.specs.Kept.{Kept}
use Rattle.core_events.specs.KeptThreads.{part_of}
use Rattle.core_events.specs.KeptNumbers.{number_of}
use Rattle.core_events.proofs.Boxes.{box_inside, there_read, full_there}
use Rattle.core_events.proofs.Lists.{at_map, of_map, set_again}
use Rattle.core_table.specs.Rules.{Acts}
use Rattle.stm_slots.specs.KnownLists.{BackLists}
use Rattle.stm_slots.specs.Records.{HasRecord}
use Rattle.stm_slots.proofs.JoinedRecords.{has_either}
use Rattle.stm_slots.specs.Beside.{Beside}
use Rattle.stm_slots.specs.Stage.{Owner, Stage, owner_of, stage_of}
use Rattle.stm_slots.specs.Lists.{ListsKept}
use Rattle.stm_slots.specs.Opening.{setup_of}
use Rattle.stm_slots.specs.Rule.{SlotsKept, SlotsKeptBy}
use Rattle.stm_slots.specs.Turns.{Seated, Moved}
use Rattle.stm_slots.specs.declared.slot.Slot.{Slot}
use Rattle.stm_slots.specs.declared.slot.Slot.TheVariants.{Empty, Record}
use Rattle.stm_slots.specs.declared.opening.Opening.{Opening}
use Rattle.stm_slots.proofs.Staged.{boxes_sized, of_thread}
use Rattle.stm_slots.proofs.Drawing.{was_empty, drawn, posted}

-- records that are all over a number have numbers over it
over_first : (first : ℕ) (rs : List RedoRecord) → All (λ r. first < r.number) rs → (n : ℕ) → HasRecord rs n → first < n
over_first first [] all n has = absurd (false≢true has)
over_first first (r ∷ rs) all n has = ⊎_elim (λ e. let h = All-head (λ (q : RedoRecord). first < q.number) r rs all in omega arith) (over_first first rs (All-tail (λ (q : RedoRecord). first < q.number) r rs all) n) (has_either r rs n has)

-- ---- what a kept state says
module _ (z : Setup) (c : State) (k : Kept z c) (id t : ℕ) (v : View) (at : get_elem? c.views id ≡ some v) (of_v : v.part.thread ≡ Some t) where
  abbrev owners : List Owner
  owners = map owner_of c.views

  -- the threads word is over the thread's number
  pub drawn_thread : t < c.threads
  drawn_thread = (k.layers.threads.mine id t v.part (at_map part_of c.views id v at) of_v).2

  -- no other view has the thread
  pub only : (j : ℕ) (p : Owner) → get_elem? owners j ≡ some p → p.thread ≡ Some t → j ≡ id
  only j p at_p of_p =
      let u = of_map owner_of c.views j p at_p in
      let theirs = k.layers.threads.mine j t u.0.part (at_map part_of c.views j u.0 u.1) (ap (λ (a : Owner). a.thread) u.2 ∙ of_p) in
      sym theirs.1 ∙ (k.layers.threads.mine id t v.part (at_map part_of c.views id v at) of_v).1

  pub near : (j : ℕ) (p : Owner) → get_elem? owners j ≡ some p → p.next < z.boxes
  near j p at_p = let u = of_map owner_of c.views j p at_p in let lt = (k.layers.turn.each j u.0 u.1).seen.place in let e = ap (λ (a : Owner). a.next) u.2 in omega arith

  -- no box has a number over the clock
  pub upto_clock : (i : ℕ) → get_or c.boxes i 0 ≤ c.clock
  upto_clock i = dite (dec_lt 0 (get_or c.boxes i 0)) (λ pos. (k.layers.numbers.placed.of_boxes (get_or c.boxes i 0) i (full_there c.boxes i pos) pos).2) (λ ge. omega arith)

  -- what waits in a ring ends with a number up to the clock
  pub waits_upto : (l : BackLists) (taken : List (ℕ × RedoRecord)) → ListsKept z (stage_of c) l taken → l.state.dead ≡ false → (q : RedoBundle) → Contains (waiting_of_ring l.state t) q → q.last ≤ c.clock
  waits_upto l taken lists alive q among =
      let has = ((lists.lawful.live alive).waits (record { ring = t; redo = q }) (waits_of_ring l.state.log.lanes t q among)).has q.last (record { low = omega arith; high = omega arith }) in
      ⊎_elim
      (λ old. (k.layers.numbers.placed.of_persisted q.last old).2)
      (λ b. dite (dec_lt 0 q.last) (λ pos. (k.layers.numbers.placed.of_boxes q.last b.0 b.1.0 pos).2) (λ ge. omega arith))
      (lists.handed q.last has)

  -- the open number of a view wasn't handed over
  pub open_lacks : (l : BackLists) (taken : List (ℕ × RedoRecord)) → ListsKept z (stage_of c) l taken → 0 < v.tx.hand.number → HasRecord l.records v.tx.hand.number → ⊥
  open_lacks l taken lists pos has =
      let n : ℕ = v.tx.hand.number in let mine = (k.layers.numbers.placed.of_views n id (at_map number_of c.views id v at) pos).0 in
      ⊎_elim
      (λ old. let p : in_view id ≡ behind_boxes = sym mine ∙ (k.layers.numbers.placed.of_persisted n old).0 in cc)
      (λ b. let p : in_view id ≡ in_box b.0 = sym mine ∙ (k.layers.numbers.placed.of_boxes n b.0 b.1.0 pos).0 in cc)
      (lists.handed n has)

module _ {M : Type 0} {ghosts : Ghosts M} (sight : M → Sight) (o : Opening M ghosts) where
  abbrev z : Setup
  z = setup_of sight o

  abbrev fact : State → List Beside → List (Maybe (Slot M ghosts)) → Type 0
  fact c xs homes = SlotsKept sight o (stage_of c) xs homes

  module _ (id t : ℕ) (me : Seated M ghosts) (of_me : me.0.view.part.thread ≡ Some t) (inside : t < z.threads) where
    abbrev v : View
    v = me.0.view

    abbrev box : ℕ
    box = box_of z t v.box.next

    pub draw_acts : (a : About) (ws : List Write) → Acts fact z (draw a ws) id me (Moved sight o (draw a ws) ((box, Empty) ∷ me.1) me)
    draw_acts a ws c xs homes k allowed at f =
        let s = stage_of c in let kept = f.kept in let u : Owner = owner_of v in let at_v = allowed.is_there in let at_u = at_map owner_of c.views id v at_v in let can = allowed.may.can in
        let next : v.box.next < z.boxes = near z c k id t v at_v of_me id u at_u in
        let seen = (k.layers.turn.each id v at_v).seen.empty can.box in
        let word : get_or c.boxes box 0 ≡ 0 = ap (λ d. get_or c.boxes (box_of z d v.box.next) 0) (same_thread seen.0 seen.1) ∙ seen.2 in
        let empty : get_elem? c.boxes box ≡ some 0 = there_read c.boxes box (let all = boxes_sized z c k in let lt = box_inside z.boxes t z.threads v.box.next inside next in omega arith) ∙ ap (λ n. some n) word in
        let over : (i : ℕ) → get_or c.boxes i 0 < c.clock + 1 = (λ i. let le = upto_clock z c k id t v at_v of_me i in omega arith) in
        let newest : f.hands.lists.state.dead ≡ false → (q : RedoBundle) → Contains (waiting_of_ring f.hands.lists.state t) q → q.last < c.clock + 1 = (λ alive q among. let le = waits_upto z c k id t v at_v of_me f.hands.lists f.hands.boxes kept.lists alive q among in omega arith) in
        let same : stage_of (after z c id v (draw a ws)) ≡ record s { owners = set s.owners id (record u { number = c.clock + 1 }) } = ap (λ os. record s { owners = os }) (map-set owner_of c.views id (view_after z (draw a ws) v c.clock)) in (
          takes box Empty,
          me.0.beside,
          was_empty sight o s xs homes f.hands kept (boxes_sized z c k) id t u at_u of_me inside (only z c k id t v at_v of_me) (near z c k id t v at_v of_me) (c.clock + 1) can.steady.undrawn.no_number empty over newest,
          record {
            hands = f.hands;
            kept = subst (λ ys. SlotsKeptBy sight o (stage_of (after z c id v (draw a ws))) ys (set homes box none) f.hands) (sym (set_again xs id me.0.beside at)) (subst (λ st. SlotsKeptBy sight o st xs (set homes box none) f.hands) (sym same)
                (drawn sight o s xs homes f.hands kept (boxes_sized z c k) id t u at_u of_me inside (only z c k id t v at_v of_me) (near z c k id t v at_v of_me) (c.clock + 1) can.steady.undrawn.no_number empty over newest));
          },
          (λ told. record { told = told; view = refl; beside = refl; made = refl; slots = refl }),
        )
      where
        same_thread : (d : ℕ) → v.part.thread ≡ Some d → t ≡ d
        same_thread d e = let q : Some t ≡ Some d = sym of_me ∙ e in (let r : t ≡ d = cc in r)

    pub post_acts : (rest_slots : List (ℕ × Slot M ghosts)) → me.1 ≡ (box, Record (record_of v.tx.hand)) ∷ rest_slots → 0 < v.tx.hand.number → Acts fact z post id me (Moved sight o post rest_slots me)
    post_acts rest_slots slots pos c xs homes k allowed at f =
        let s = stage_of c in let kept = f.kept in let u : Owner = owner_of v in let at_v = allowed.is_there in let at_u = at_map owner_of c.views id v at_v in
        let r : RedoRecord = record_of v.tx.hand in
        let box_is : next_box z v ≡ box = ap (λ d. box_of z (or_else d 0) v.box.next) of_me in
        let gone : Stage = record s { boxes = set s.boxes box r.number; records = set s.records box r; owners = set s.owners id (record u { number = 0; next = place_behind z v.box.next }) } in
        let same : stage_of (after z c id v post) ≡ gone =
        ap (λ i. record s { boxes = set s.boxes i r.number; records = set s.records i r; owners = map owner_of (set c.views id (view_after z post v (get_or c.boxes i 0))) }) box_is
        ∙ ap (λ os. record s { boxes = set s.boxes box r.number; records = set s.records box r; owners = os }) (map-set owner_of c.views id (view_after z post v (get_or c.boxes box 0))) in
        let as_many : length c.records ≡ length c.boxes = k.layers.numbers.records.as_many in
        let done = posted sight o s xs homes f.hands kept (boxes_sized z c k) id t u at_u of_me inside (only z c k id t v at_v of_me) (near z c k id t v at_v of_me) r refl pos as_many (drawn_thread z c k id t v at_v of_me)
        (open_lacks z c k id t v at_v of_me f.hands.lists f.hands.boxes kept.lists pos) (λ n has. let lt = over_first z.first f.hands.lists.records kept.lists.lawful.over n has in omega arith) (of_thread z c k) in (
          gives,
          me.0.beside,
          tt,
          record {
            hands = f.hands;
            kept = subst (λ st. SlotsKeptBy sight o st (set xs id me.0.beside) (homes_after homes me.1 gives) f.hands) (sym same)
                (subst (λ cs. SlotsKeptBy sight o gone (set xs id me.0.beside) (homes_after homes cs gives) f.hands) (sym slots)
                (subst (λ ys. SlotsKeptBy sight o gone ys (set homes box (some (Record r))) f.hands) (sym (set_again xs id me.0.beside at)) done));
          },
          (λ told. record { told = told; view = refl; beside = refl; made = refl; slots = ap (λ (cs : List (ℕ × Slot M ghosts)). carried_after cs gives) slots }),
        )
