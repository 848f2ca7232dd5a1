-- What the seat with the turn has after each of its steps.
use Rattle.std.proofs.Common.{◌≡◌, ◌≢◌, ℕ, ◌<◌, ◌≤◌, false, List, [], ◌∷◌, length, get_or, set, refl, sym, ap, ◌∙◌, subst, inl, inr, ⊎_elim, eq-eqb, ne_eqb, arith, length-set}
use Rattle.std.specs.Prelude.{Option, Some, None, MatchBool}
use Rattle.std.proofs.lemmas.Bool.{true≢false}
use Rattle.dude_base.specs.Records.{RedoRecord}
use Rattle.pmem_trait.specs.Sights.{Sight}
use Rattle.pmem_trait.specs.declared.medium.Medium.{Ghosts}
use Rattle.atomic_table.specs.Table.{Me, rest, turned}
use Rattle.atomic_table.specs.declared.shared.Seat.{Seat}
use Rattle.back_store.specs.BackView.{state_of}
use Rattle.core_events.specs.Setups.{Setup, box_of}
use Rattle.core_events.specs.Views.{View}
use Rattle.core_events.specs.Keyed.{has}
use Rattle.core_events.specs.Events.{Event, take_turn, see_full, empty_box, raise_durable, raise_reproduced, view_after}
use Rattle.core_events.specs.Conditions.{HasThread, May}
use Rattle.core_table.specs.Rules.{Acts, Foreseen}
use Rattle.stm_slots.specs.QuietSteps.{fact_of}
use Rattle.core_events.specs.Telling.{IsTold, IsSeated}
use Rattle.core_table.specs.Known.{Known}
use Rattle.core_table.specs.Layout.{TableSight}
use Rattle.core_table.specs.Steps.{BelongsTo, MayAct}
use Rattle.stm_slots.specs.KnownLists.{lists}
use Rattle.stm_slots.specs.Records.{HasRecord, writes_in}
use Rattle.stm_slots.specs.Beside.{Hands, Beside}
use Rattle.stm_slots.specs.Queues.{back_slot, place_at}
use Rattle.stm_slots.specs.Lists.{IsSettled}
use Rattle.stm_slots.specs.Opening.{setup_of}
use Rattle.stm_slots.specs.Turns.{Seated, Took, SawRecord}
use Rattle.std.specs.List.{Contains}
use Rattle.std.proofs.Common.{◌++◌, ◌==◌, Bool, true, eqb-true}
use Rattle.std.proofs.lemmas.List.Elements.{Contains-append_left, Contains-push, Contains-push_cases}
use Rattle.stm_slots.specs.KnownLists.{BackLists}
use Rattle.stm_slots.specs.Records.{LacksRecord}
use Rattle.stm_slots.proofs.Taken.{contains_here, contains_more, contains_either, contains_none, leaves_last}
use Rattle.stm_slots.specs.Turns.{Leaves}
use Rattle.stm_turns.specs.Holding.{Held, IsHeld, IsInHand, box_held, boxes_held, hands_of, slots_out, Holding}
use Rattle.stm_turns.proofs.HeldRecords.{box_in, boxes_push, but_last_push, held_of, leaves_first, places_after}
use Rattle.stm_turns.specs.Told.{HasGrown, Went, WentHanded, WentLacking, SawFront, SawNext, Raised, boxes_in, but_last}
use Rattle.stm_turns.specs.Turns.{Advanced, HasTaken, HasShown, HandedBelow, raised_view, settled_view, InTurn, FrontRecord, Stepped}
use Rattle.stm_turns.specs.Bundles.{HasEmptied, HasFound, HasPutBack, IsLetting, MayEmpty, MayEmptyFirst, MayPutBack, slots_let}
use Rattle.stm_turns.specs.Gathered.{AreFronts}
use Rattle.stm_slots.specs.declared.home.Home.{Home as TheHome}
use Rattle.stm_slots.specs.declared.slot.Slot.{Slot}
use Rattle.stm_slots.specs.declared.slot.Slot.TheVariants.{Empty, Record, Home}
use Rattle.stm_slots.specs.declared.opening.Opening.{Opening}
use Rattle.stm_slots.proofs.Queueing.{place_inside}
use Rattle.stm_turns.proofs.Holdings.{took_holding, went_holding, holding_on, put_acts, empty_acts_on, empty_fits, laid_in, front_of}

-- the slot that was taken last goes behind the others of an equal seat
pub turned_me : {S V : Type 0} (m mid w : Me S V) → mid ≡ m → w ≡ (mid.0, turned mid.1) → w ≡ (m.0, turned m.1)
turned_me {S} {V} m mid w same is = is ∙ ap (λ (a : Me S V). (a.0, turned a.1)) same

-- a slot that is in front is one
pub same_front : {S : Type 0} (c l1 l2 : List (ℕ × S)) (k j : ℕ) (a b : S) → c ≡ (k, a) ∷ l1 → c ≡ (j, b) ∷ l2 → a ≡ b
same_front {S} c l1 l2 k j a b e1 e2 = let e : (k, a) ∷ l1 ≡ (j, b) ∷ l2 = sym e1 ∙ e2 in let p : (k, a) ≡ (j, b) = cc in ap (λ (x : ℕ × S). x.1) p

module _ {M : Type 0} {ghosts : Ghosts M} where
  pub same_home : (c l1 l2 : List (ℕ × Slot M ghosts)) (k j : ℕ) (a b : TheHome M ghosts) → c ≡ (k, Home a) ∷ l1 → c ≡ (j, Home b) ∷ l2 → a ≡ b
  same_home c l1 l2 k j a b e1 e2 = let q : Home a ≡ Home b = same_front c l1 l2 k j (Home a) (Home b) e1 e2 in cc

  pub same_record : (c l1 l2 : List (ℕ × Slot M ghosts)) (k j : ℕ) (a b : RedoRecord) → c ≡ (k, Record a) ∷ l1 → c ≡ (j, Record b) ∷ l2 → a ≡ b
  same_record c l1 l2 k j a b e1 e2 = let q : Record a ≡ Record b = same_front c l1 l2 k j (Record a) (Record b) e1 e2 in cc

  -- one that has a back isn't empty, and has no record
  pub home_or_empty : (h : TheHome M ghosts) → Home h ≡ Empty → ⊥
  home_or_empty h e = cc

  pub home_or_record : (h : TheHome M ghosts) (r : RedoRecord) → Home h ≡ Record r → ⊥
  home_or_record h r e = cc

module _ {M : Type 0} {ghosts : Ghosts M} (sight : M → Sight) (t : TableSight (Opening M ghosts)) where
  abbrev z : Setup
  z = setup_of sight t.key

  abbrev TurnSeat : Type 0
  TurnSeat = Seat (Slot M ghosts) (Known Beside)

  -- the seat's view is another one, that is seated
  pub belongs_on : (old new : TurnSeat) → BelongsTo t old → t.setup ≡ z → new.table_id ≡ old.table_id → IsSeated z new.me.0.view → BelongsTo t new
  belongs_on old new b setup same seated = record { table = same ∙ b.table; small = b.small; seated = rw setup seated }

  -- the same is known of the seat with other slots
  pub laid_belongs : (old new : TurnSeat) → BelongsTo t old → new.table_id ≡ old.table_id → new.me.0 ≡ old.me.0 → BelongsTo t new
  laid_belongs old new b table same = record { table = table ∙ b.table; small = b.small; seated = subst (λ (k : Known Beside). IsSeated t.setup k.view) (sym same) b.seated }

  -- the seat with the turn may make a step
  pub may_in_turn : (seat : TurnSeat) (h : TheHome M ghosts) (hand : List Held) → BelongsTo t seat → t.setup ≡ z → Holding sight t.key seat.me.0 h hand
      → (e : Event) → May z e seat.me.0.view → (then : ℕ → Seated M ghosts → Type 0) → Acts (fact_of sight t.key) z e seat.id seat.me then → MayAct (fact_of sight) t e seat then
  may_in_turn seat h hand belongs setup i e may then acts = record { seat = belongs; may = rw setup may; acts = rw setup acts }

  pub took_turn : (old mid new : TurnSeat) (n slot : ℕ) (h : TheHome M ghosts) → BelongsTo t old → t.setup ≡ z → old.me.0.view.part.is_spent ≡ false → HasThread old.me.0.view → old.me.1 ≡ []
      → mid.table_id ≡ old.table_id → IsTold z take_turn old.me.0.view n → n ≡ 0 → (took : Took sight t.key old.me mid.me) → slot ≡ back_slot z
      → new.table_id ≡ mid.table_id → new.me ≡ (mid.me.0, (slot, Empty) ∷ rest mid.me.1) → mid.me.1 ≡ (slot, Home h) ∷ rest mid.me.1 → InTurn sight t new h []
  took_turn old mid new n slot h b setup live thread bare table told zero took is_slot table2 me was =
      let same : took.home ≡ h = same_home mid.me.1 old.me.1 (rest mid.me.1) (back_slot z) slot took.home h took.slots was in
      let k_is : mid.me.0 ≡ new.me.0 = sym (ap (λ (a : Seated M ghosts). a.0) me) in
      let seated : IsSeated z mid.me.0.view = subst (IsSeated z) (sym took.view) (subst (λ (d : ℕ). IsSeated z (view_after z take_turn old.me.0.view d)) zero told.after) in
      subst (λ a. InTurn sight t new a []) same (record {
        belongs = belongs_on old new b setup (table2 ∙ table) (subst (λ (a : Known Beside). IsSeated z a.view) k_is seated);
        setup = setup;
        holding = subst (λ (a : Known Beside). Holding sight t.key a took.home []) k_is (took_holding sight t.key old.me mid.me took live thread);
        slots = laid_in mid.me new.me slot (back_slot z) Empty (Home took.home) old.me.1 me took.slots is_slot ∙ ap (λ (l : List (ℕ × Slot M ghosts)). (back_slot z, Empty) ∷ l) bare;
        same = refl;
        in_hand = λ p among. absurd (contains_none p among);
      })

  pub has_taken : (old mid new : TurnSeat) (n slot : ℕ) (h : TheHome M ghosts) → BelongsTo t old → t.setup ≡ z → old.me.0.view.part.is_spent ≡ false → HasThread old.me.0.view → old.me.1 ≡ []
      → mid.table_id ≡ old.table_id → IsTold z take_turn old.me.0.view n → n ≡ 0 → (took : Took sight t.key old.me mid.me) → slot ≡ back_slot z
      → new.table_id ≡ mid.table_id → new.me ≡ (mid.me.0, (slot, Empty) ∷ rest mid.me.1) → mid.me.1 ≡ (slot, Home h) ∷ rest mid.me.1 → HasTaken sight t old new h
  has_taken old mid new n slot h b setup live thread bare table told zero took is_slot table2 me was =
      let same : took.home ≡ h = same_home mid.me.1 old.me.1 (rest mid.me.1) (back_slot z) slot took.home h took.slots was in record {
        is_after = ap (λ (a : Seated M ghosts). a.0.view) me ∙ took.view;
        in_turn = took_turn old mid new n slot h b setup live thread bare table told zero took is_slot table2 me was;
        settled = subst (λ (a : TheHome M ghosts). IsSettled (state_of a.back)) same (subst IsSettled (sym took.is.state) took.is.settled);
      }

  some_hands : (a b : Hands) → Some a ≡ Some b → a ≡ b
  some_hands a b e = cc

  -- what was handed over stays so
  pub handed_on : (old new : TurnSeat) (before after : Hands) → old.me.0.beside.turn ≡ Some before → new.me.0.beside.turn ≡ Some after → HasGrown old.me.0.beside.turn after.lists.records → new.me.0.view.drawn ≡ old.me.0.view.drawn
      → (n : Option ℕ) → HandedBelow old.me.0 n → HandedBelow new.me.0 n
  handed_on old new before after was is grown drawn n handed hs e m has_it =
      let same : after ≡ hs = some_hands after hs (sym is ∙ e) in
      ⊎_elim (λ h. inl (subst (λ (a : Hands). HasRecord a.lists.records m) same (grown before was m h))) inr (handed before was m (ap (λ (ds : List ℕ). has ds m) (sym drawn) ∙ has_it))

  -- a step of the holder
  module _ (old new : TurnSeat) (h h2 : TheHome M ghosts) (hand hand2 : List Held) (e : Event) (left : List (ℕ × Slot M ghosts)) (n : ℕ) (belongs : BelongsTo t old) (setup : t.setup ≡ z) (i : Holding sight t.key old.me.0 h hand)
      (went : Went sight t.key e h2 (boxes_held z hand2) left old.me n new.me) (back : h2.back ≡ h.back) (part : (view_after z e old.me.0.view n).part ≡ old.me.0.view.part) (has_it : (view_after z e old.me.0.view n).turn.has_it ≡ old.me.0.view.turn.has_it) where
    went_inside : ((u : ℕ) → u < z.threads → get_or h2.next u 0 < z.boxes) → z.threads ≤ length h2.next → new.table_id ≡ old.table_id → left ≡ slots_out sight z hand2 → IsInHand z (lists (state_of h2.back) went.records) hand2 → InTurn sight t new h2 hand2
    went_inside places wide table slots in_hand = record {
      belongs = belongs_on old new belongs setup table went.seated;
      setup = setup;
      holding = went_holding sight t.key old.me h hand i h2 hand2 e left n new.me went back part has_it places wide;
      slots = went.slots ∙ slots;
      same = refl;
      in_hand = in_hand;
    }

    went_handed : (view_after z e old.me.0.view n).drawn ≡ old.me.0.view.drawn → (m : Option ℕ) → HandedBelow old.me.0 m → HandedBelow new.me.0 m
    went_handed drawn = handed_on old new (record (hands_of sight h i.records i.shown (boxes_held z hand)) { lists = i.stale }) (hands_of sight h2 went.records went.shown (boxes_held z hand2)) i.hands went.beside went.grown
        (ap (λ (v : View). v.drawn) went.view ∙ drawn)

    pub went_turn : settled_view (view_after z e old.me.0.view n) ≡ settled_view old.me.0.view → ((u : ℕ) → u < z.threads → get_or h2.next u 0 < z.boxes) → z.threads ≤ length h2.next → new.table_id ≡ old.table_id → new.id ≡ old.id
        → left ≡ slots_out sight z hand2 → IsInHand z (lists (state_of h2.back) went.records) hand2 → Stepped sight t old new h2 hand2
    went_turn settled places wide table id slots in_hand = record {
      id = id;
      turn = went_inside places wide table slots in_hand;
      view = ap settled_view went.view ∙ settled;
      handed = went_handed (ap (λ (v : View). v.drawn) settled);
    }

  -- what is known of no record
  none_in_hand : (l : BackLists) → IsInHand z l []
  none_in_hand l p among = absurd (contains_none p among)

  -- ---- the front box of a thread is looked at
  module _ (old mid : TurnSeat) (n thread : ℕ) (h : TheHome M ghosts) (i : InTurn sight t old h []) (table : mid.table_id ≡ old.table_id) (id : mid.id ≡ old.id) (saw : SawFront sight t.key thread h old.me n mid.me) where
    abbrev look : Event
    look = see_full thread (get_or h.next thread 0)

    abbrev looked : (new : TurnSeat) (boxes : List (ℕ × RedoRecord)) → mid.me.0.beside.turn ≡ Some (hands_of sight h saw.records saw.shown boxes) → new.me.0 ≡ mid.me.0 → Went sight t.key look h boxes new.me.1 old.me n new.me
    looked new boxes beside same = record {
      records = saw.records;
      shown = saw.shown;
      seated = subst (λ (k : Known Beside). IsSeated z k.view) (sym same) (subst (IsSeated z) (sym saw.saw.view) saw.saw.told.after);
      view = ap (λ (k : Known Beside). k.view) same ∙ saw.saw.view;
      beside = ap (λ (k : Known Beside). k.beside.turn) same ∙ beside;
      slots = refl;
      known = saw.known;
      grown = saw.grown;
    }

    pub saw_none : n ≡ 0 → Stepped sight t old mid h []
    saw_none zero =
        let what : (mid.me.0.beside ≡ record old.me.0.beside { turn = Some (hands_of sight h saw.records saw.shown []) }) × (mid.me.1 ≡ old.me.1) = rw (eq-eqb n 0 zero) at saw.saw.what in
        went_turn old mid h h [] [] look mid.me.1 n i.belongs i.setup i.holding (looked mid [] (ap (λ (b : Beside). b.turn) what.0) refl) refl refl refl refl i.holding.places i.holding.wide table id (what.1 ∙ i.slots) (none_in_hand (lists (state_of h.back) saw.records))

    abbrev some_record : n ≢ 0 → SawRecord sight t.key thread (get_or h.next thread 0) (hands_of sight h saw.records saw.shown []) old.me n mid.me
    some_record some = rw (ne_eqb n 0 some) at saw.saw.what

    pub saw_front : (some : n ≢ 0) (slot : ℕ) → slot ≡ box_of z thread (get_or h.next thread 0) → FrontRecord mid.me.1 slot
    saw_front some slot is_slot = let s = some_record some in (s.redo, front_of mid.me.1 old.me.1 slot (Record s.redo) (s.slots ∙ ap (λ k. (k, Record s.redo) ∷ old.me.1) (sym is_slot)))

    abbrev found : RedoRecord → Held
    found r = record { thread = thread; place = get_or h.next thread 0; redo = r }

    pub saw_some : (some : n ≢ 0) (slot : ℕ) (new : TurnSeat) (r : RedoRecord) → thread < z.threads → new.table_id ≡ mid.table_id → new.id ≡ mid.id
        → new.me ≡ (mid.me.0, turned mid.me.1) → mid.me.1 ≡ (slot, Record r) ∷ rest mid.me.1 → Stepped sight t old new h (found r ∷ [])
    saw_some some slot new r inside table2 id2 me was =
        let s = some_record some in let k : ℕ = box_of z thread (get_or h.next thread 0) in
        let same : s.redo ≡ r = same_record mid.me.1 old.me.1 (rest mid.me.1) k slot s.redo r s.slots was in
        let out : new.me.1 ≡ turned ((k, Record s.redo) ∷ old.me.1) = ap (λ (a : Seated M ghosts). a.1) me ∙ ap turned s.slots in
        subst (λ (a : RedoRecord). Stepped sight t old new h (found a ∷ [])) same
        (went_turn old new h h [] (found s.redo ∷ []) look new.me.1 n i.belongs i.setup i.holding
        (looked new ((k, s.redo) ∷ []) (ap (λ (b : Beside). b.turn) s.beside) (ap (λ (a : Seated M ghosts). a.0) me)) refl refl refl refl i.holding.places i.holding.wide (table2 ∙ table) (id2 ∙ id)
        (out ∙ ap (λ (l : List (ℕ × Slot M ghosts)). turned ((k, Record s.redo) ∷ l)) i.slots)
        (λ p among. ⊎_elim (λ e. subst (IsHeld z (lists (state_of h.back) saw.records)) e (record { inside = inside; near = i.holding.places thread inside; may = s.may })) (λ none_left. absurd (contains_none p none_left)) (contains_either (found s.redo) [] p among)))

    -- the own thread, which has no open number
    pub saw_drawn_none : n ≡ 0 → old.me.0.view.part.thread ≡ Some thread → old.me.0.view.tx.hand.number ≡ 0 → HandedBelow mid.me.0 None
    saw_drawn_none zero mine idle hs e m has_it =
        let what : (mid.me.0.beside ≡ record old.me.0.beside { turn = Some (hands_of sight h saw.records saw.shown []) }) × (mid.me.1 ≡ old.me.1) = rw (eq-eqb n 0 zero) at saw.saw.what in
        let same : hands_of sight h saw.records saw.shown [] ≡ hs = some_hands (hands_of sight h saw.records saw.shown []) hs (sym (ap (λ (b : Beside). b.turn) what.0) ∙ e) in
        ⊎_elim (λ a. inl (subst (λ (b : Hands). HasRecord b.lists.records m) same a)) (λ b. let pos = b.0 in absurd (omega arith)) (saw.drawn mine idle m (ap (λ (v : View). has v.drawn m) (sym saw.saw.view) ∙ has_it))

    pub saw_drawn_some : (some : n ≢ 0) (slot : ℕ) (new : TurnSeat) (r : RedoRecord) → new.me.0 ≡ mid.me.0 → mid.me.1 ≡ (slot, Record r) ∷ rest mid.me.1
        → old.me.0.view.part.thread ≡ Some thread → old.me.0.view.tx.hand.number ≡ 0 → HandedBelow new.me.0 (Some r.number)
    saw_drawn_some some slot new r k_is was mine idle hs e m has_it =
        let s = some_record some in let k : ℕ = box_of z thread (get_or h.next thread 0) in
        let r_is : s.redo ≡ r = same_record mid.me.1 old.me.1 (rest mid.me.1) k slot s.redo r s.slots was in
        let same : hands_of sight h saw.records saw.shown ((k, s.redo) ∷ []) ≡ hs = some_hands (hands_of sight h saw.records saw.shown ((k, s.redo) ∷ [])) hs (sym (ap (λ (a : Known Beside). a.beside.turn) k_is ∙ ap (λ (b : Beside). b.turn) s.beside) ∙ e) in
        ⊎_elim (λ a. inl (subst (λ (b : Hands). HasRecord b.lists.records m) same a)) (λ b. inr (let up = b.1 in let is = s.number in let num = ap (λ (a : RedoRecord). a.number) r_is in omega arith))
        (saw.drawn mine idle m (ap (λ (v : View). has v.drawn m) (sym saw.saw.view) ∙ (ap (λ (a : Known Beside). has a.view.drawn m) (sym k_is) ∙ has_it)))

  -- ---- steps behind one another
  pub laid_turn : (old mid new : TurnSeat) (h2 : TheHome M ghosts) (hand2 : List Held) → mid.me.0 ≡ old.me.0 → mid.id ≡ old.id → Stepped sight t mid new h2 hand2 → Stepped sight t old new h2 hand2
  laid_turn old mid new h2 hand2 same id s = record {
    id = s.id ∙ id;
    turn = s.turn;
    view = s.view ∙ ap (λ (k : Known Beside). settled_view k.view) same;
    handed = λ n before. s.handed n (subst (λ (k : Known Beside). HandedBelow k n) (sym same) before);
  }

  pub then_turn : (old mid new : TurnSeat) (h h2 : TheHome M ghosts) (hand hand2 : List Held) → Stepped sight t old mid h hand → Stepped sight t mid new h2 hand2 → Stepped sight t old new h2 hand2
  then_turn old mid new h h2 hand hand2 a b = record { id = b.id ∙ a.id; turn = b.turn; view = b.view ∙ a.view; handed = λ n before. b.handed n (a.handed n before) }

  pub same_turn : (old : TurnSeat) (h : TheHome M ghosts) (hand : List Held) → InTurn sight t old h hand → Stepped sight t old old h hand
  same_turn old h hand i = record { id = refl; turn = i; view = refl; handed = λ n before. before }

  -- steps that leave the durable number
  pub advanced : (n : ℕ) (old new : TurnSeat) (h : TheHome M ghosts) (hand : List Held) → Stepped sight t old new h hand → Advanced sight t n n old new h hand
  advanced n old new h hand s =
      let durable = ap (λ (v : View). v.turn.durable) s.view in
      record { id = s.id; turn = s.turn; view = ap raised_view s.view; durable = record { rises = omega arith; tells = λ is. durable ∙ is }; handed = s.handed }

  pub then_advanced : (a b c : ℕ) (old mid new : TurnSeat) (h h2 : TheHome M ghosts) (hand hand2 : List Held) → Advanced sight t a b old mid h hand → Advanced sight t b c mid new h2 hand2 → Advanced sight t a c old new h2 hand2
  then_advanced a b c old mid new h h2 hand hand2 x y = record {
    id = y.id ∙ x.id;
    turn = y.turn;
    view = y.view ∙ x.view;
    durable = record { rises = (let l = x.durable.rises in let m = y.durable.rises in omega arith); tells = λ is. y.durable.tells (x.durable.tells is) };
    handed = λ n before. y.handed n (x.handed n before);
  }

  -- ---- a word is raised, or a box looked at
  abbrev with_box : (old new : TurnSeat) (h : TheHome M ghosts) (e : Event) (n : ℕ) (box box2 : List (ℕ × RedoRecord)) → (w : Went sight t.key e h box old.me.1 old.me n new.me) → box ≡ box2 → Went sight t.key e h box2 old.me.1 old.me n new.me
  with_box old new h e n box box2 w b = record { records = w.records; shown = w.shown; seated = w.seated; view = w.view; beside = w.beside ∙ ap (λ c. Some (hands_of sight h w.records w.shown c)) b; slots = w.slots; known = w.known; grown = w.grown }

  -- the hands that a seat keeps
  abbrev kept_hands : (old : TurnSeat) (h : TheHome M ghosts) (hand : List Held) → InTurn sight t old h hand → Hands
  kept_hands old h hand i = record (hands_of sight h i.holding.records i.holding.shown (boxes_held z hand)) { lists = i.holding.stale }

  pub raised_turn : (old new : TurnSeat) (h : TheHome M ghosts) (e : Event) (n : ℕ) (raised : Raised sight t.key e h old.me n new.me) → (view_after z e old.me.0.view n).part ≡ old.me.0.view.part → (view_after z e old.me.0.view n).turn.has_it ≡ old.me.0.view.turn.has_it → settled_view (view_after z e old.me.0.view n) ≡ settled_view old.me.0.view
      → new.table_id ≡ old.table_id → new.id ≡ old.id → (hand : List Held) → InTurn sight t old h hand → Stepped sight t old new h hand
  raised_turn old new h e n raised part has_it settled table id hand i =
      let boxed : boxes_in old.me.0.beside.turn ≡ boxes_held z hand = ap boxes_in i.holding.hands in
      let records : i.holding.records ≡ raised.went.records = sym i.same ∙ raised.same (kept_hands old h hand i) i.holding.hands in
      went_turn old new h h hand hand e old.me.1 n i.belongs i.setup i.holding (with_box old new h e n (boxes_in old.me.0.beside.turn) (boxes_held z hand) raised.went boxed) refl part has_it settled i.holding.places i.holding.wide table id i.slots (subst (λ rs. IsInHand z (lists (state_of h.back) rs) hand) records i.in_hand)

  -- the durable word was raised
  pub advanced_turn : (old new : TurnSeat) (h : TheHome M ghosts) (n : ℕ) (raised : Raised sight t.key (raise_durable n) h old.me 0 new.me) → new.table_id ≡ old.table_id → new.id ≡ old.id → (before : ℕ) (hand : List Held) → InTurn sight t old h hand → Advanced sight t before n old new h hand
  advanced_turn old new h n raised table id before hand i =
      let e : Event = raise_durable n in
      let boxed : boxes_in old.me.0.beside.turn ≡ boxes_held z hand = ap boxes_in i.holding.hands in
      let records : i.holding.records ≡ raised.went.records = sym i.same ∙ raised.same (kept_hands old h hand i) i.holding.hands in
      let went : Went sight t.key e h (boxes_held z hand) old.me.1 old.me 0 new.me = with_box old new h e 0 (boxes_in old.me.0.beside.turn) (boxes_held z hand) raised.went boxed in
      let is : new.me.0.view.turn.durable ≡ n = ap (λ (v : View). v.turn.durable) raised.went.view in
      record {
        id = id;
        turn = went_inside old new h h hand hand e old.me.1 0 i.belongs i.setup i.holding went refl refl refl i.holding.places i.holding.wide table i.slots (subst (λ rs. IsInHand z (lists (state_of h.back) rs) hand) records i.in_hand);
        view = ap raised_view raised.went.view;
        durable = record { rises = (let l = raised.rises in omega arith); tells = λ same. is };
        handed = went_handed old new h h hand hand e old.me.1 0 i.belongs i.setup i.holding went refl refl refl refl;
      }

  -- the reproduced word, where it was raised
  pub raised_shown : (old new : TurnSeat) (h : TheHome M ghosts) (n : ℕ) → Raised sight t.key (raise_reproduced n) h old.me 0 new.me → HasShown new n
  raised_shown old new h n raised hs e =
      let same : hands_of sight h raised.went.records raised.went.shown (boxes_in old.me.0.beside.turn) ≡ hs = some_hands (hands_of sight h raised.went.records raised.went.shown (boxes_in old.me.0.beside.turn)) hs (sym raised.went.beside ∙ e) in
      sym (ap (λ (a : Hands). a.shown) same) ∙ raised.raised

  -- ---- a box is looked at for a number
  not_picked : (A B : Type 0) (b : Bool) → b ≡ false → MatchBool b A B → B
  not_picked A B true e what = absurd (true≢false e)
  not_picked A B false e what = what

  picked : (A B : Type 0) (b : Bool) → b ≡ true → MatchBool b A B → A
  picked A B true e what = what
  picked A B false e what = absurd (true≢false (sym e))

  module _ (old new : TurnSeat) (n thread place number : ℕ) (h : TheHome M ghosts) (table : new.table_id ≡ old.table_id) (id : new.id ≡ old.id) (saw : SawNext sight t.key thread place number h old.me n new.me) (hand : List Held) (i : InTurn sight t old h hand) where
    abbrev looks : Event
    looks = see_full thread place

    boxed_now : boxes_in old.me.0.beside.turn ≡ boxes_held z hand
    boxed_now = ap boxes_in i.holding.hands

    same_records : i.holding.records ≡ saw.records
    same_records = sym i.same ∙ saw.same (kept_hands old h hand i) i.holding.hands

    abbrev went_looking : (boxes : List (ℕ × RedoRecord)) → new.me.0.beside.turn ≡ Some (hands_of sight h saw.records saw.shown boxes) → Went sight t.key looks h boxes new.me.1 old.me n new.me
    went_looking boxes beside = record {
      records = saw.records;
      shown = saw.shown;
      seated = subst (IsSeated z) (sym saw.saw.view) saw.saw.told.after;
      view = saw.saw.view;
      beside = beside;
      slots = refl;
      known = saw.known;
      grown = saw.grown;
    }

    pub looked_missed : (n == number) ≡ false → Stepped sight t old new h hand
    looked_missed e =
        let what = not_picked _ _ (n == number) e saw.saw.what in
        went_turn old new h h hand hand looks new.me.1 n i.belongs i.setup i.holding
        (went_looking (boxes_held z hand) (ap (λ (b : Beside). b.turn) what.0 ∙ ap (λ bs. Some (hands_of sight h saw.records saw.shown bs)) boxed_now))
        refl refl refl refl i.holding.places i.holding.wide table id (what.1 ∙ i.slots) (subst (λ rs. IsInHand z (lists (state_of h.back) rs) hand) same_records i.in_hand)

    pub looked_found : (n == number) ≡ true → thread < z.threads → place < z.boxes → HasFound sight t old new h hand thread place number
    looked_found e inside near =
        let what = picked _ _ (n == number) e saw.saw.what in let s = what.0 in
        let p : Held = record { thread = thread; place = place; redo = s.redo } in let more : List Held = hand ++ p ∷ [] in
        let boxes : boxes_held z more ≡ (box_held z p, s.redo) ∷ boxes_in old.me.0.beside.turn = boxes_push z hand p ∙ ap (λ bs. (box_held z p, s.redo) ∷ bs) (sym boxed_now) in
        let went : Went sight t.key looks h (boxes_held z more) new.me.1 old.me n new.me = went_looking (boxes_held z more) (ap (λ (b : Beside). b.turn) s.beside ∙ ap (λ bs. Some (hands_of sight h saw.records saw.shown bs)) (sym boxes)) in
        let view = ap settled_view saw.saw.view in
        record {
          redo = s.redo;
          number_is = sym s.number ∙ eqb-true n number e;
          id = id;
          belongs = belongs_on old new i.belongs i.setup table (subst (IsSeated z) (sym saw.saw.view) saw.saw.told.after);
          setup = i.setup;
          holding = went_holding sight t.key old.me h hand i.holding h more looks new.me.1 n new.me went refl refl refl i.holding.places i.holding.wide;
          slots = s.slots ∙ ap (λ l. (box_held z p, Record s.redo) ∷ l) i.slots;
          same = refl;
          in_hand = λ q among. ⊎_elim
              (λ was. subst (λ rs. IsHeld z (lists (state_of h.back) rs) q) same_records (i.in_hand q was))
              (λ is. subst (IsHeld z (lists (state_of h.back) saw.records)) is (record { inside = inside; near = near; may = s.may }))
              (Contains-push_cases hand p q among);
          apart = λ q among. what.1 q (subst (λ bs. Contains bs (box_held z p, q)) (sym boxed_now) among);
          view = view;
          handed = handed_on old new (kept_hands old h hand i) (hands_of sight h saw.records saw.shown (boxes_held z more)) i.holding.hands went.beside saw.grown (ap (λ (v : View). v.drawn) view);
        }

  -- ---- the record that was found may go back
  module _ (before old : TurnSeat) (thread place number : ℕ) (h : TheHome M ghosts) (hand : List Held) (f : HasFound sight t before old h hand thread place number) where
    abbrev one : Held
    one = record { thread = thread; place = place; redo = f.redo }

    one_held : IsHeld z (lists (state_of h.back) f.holding.records) one
    one_held = f.in_hand one (Contains-push hand one)

    pub found_inside : thread < z.threads
    found_inside = one_held.inside

    pub found_near : place < z.boxes
    found_near = one_held.near

    boxes_found : rest (boxes_in old.me.0.beside.turn) ≡ boxes_held z hand
    boxes_found = ap (λ turn. rest (boxes_in turn)) f.holding.hands ∙ ap (λ (bs : List (ℕ × RedoRecord)). rest bs) (boxes_push z hand one)

    abbrev goes : Event
    goes = see_full thread place

    pub may_put_last : MayAct (fact_of sight) t goes old (WentLacking sight t.key goes h (rest (boxes_in old.me.0.beside.turn)) (rest old.me.1) old.me)
    may_put_last =
        let all : List Held = hand ++ one ∷ [] in
        let leaves : Leaves (boxes_held z all) (box_held z one) (rest (boxes_in old.me.0.beside.turn)) = subst (λ bs. Leaves (boxes_held z all) (box_held z one) bs) (sym boxes_found) (subst (λ bs. Leaves bs (box_held z one) (boxes_held z hand)) (sym (boxes_push z hand one)) (leaves_last (box_held z one) f.redo (boxes_held z hand) f.apart)) in
        may_in_turn old h all f.belongs f.setup f.holding goes (record { live = f.holding.live; threaded = f.holding.thread; named = (found_inside, found_near); can = f.holding.turn }) (WentLacking sight t.key goes h (rest (boxes_in old.me.0.beside.turn)) (rest old.me.1) old.me)
        (put_acts sight t.key old.me h all f.holding one (rest (boxes_in old.me.0.beside.turn)) (box_in z all one (Contains-push hand one)) leaves old.id (rest old.me.1)
        (f.slots ∙ ap (λ (l : List (ℕ × Slot M ghosts)). (box_held z one, Record f.redo) ∷ l) (sym (ap (λ (l : List (ℕ × Slot M ghosts)). rest l) f.slots)))
        (λ alive k r among. let q = held_of z all k r among in subst (λ (a : RedoRecord). LacksRecord f.holding.records a.number) q.3 ((f.in_hand q.0 q.1).may.lacks alive)))

  -- ---- and goes back
  module _ (before old new : TurnSeat) (n thread place number : ℕ) (h : TheHome M ghosts) (hand : List Held) (f : HasFound sight t before old h hand thread place number) where
    abbrev last : Held
    last = record { thread = thread; place = place; redo = f.redo }

    pub boxes_of_found : rest (boxes_in old.me.0.beside.turn) ≡ boxes_held z hand
    boxes_of_found = ap (λ turn. rest (boxes_in turn)) f.holding.hands ∙ ap (λ (bs : List (ℕ × RedoRecord)). rest bs) (boxes_push z hand last)

    pub put_last_turn : WentLacking sight t.key (see_full thread place) h (rest (boxes_in old.me.0.beside.turn)) (rest old.me.1) old.me n new.me → new.table_id ≡ old.table_id → new.id ≡ old.id → Stepped sight t before new h hand
    put_last_turn w table id =
        let went : WentLacking sight t.key (see_full thread place) h (boxes_held z hand) (rest old.me.1) old.me n new.me = subst (λ bs. WentLacking sight t.key (see_full thread place) h bs (rest old.me.1) old.me n new.me) boxes_of_found w in
        let s = went_turn old new h h (hand ++ last ∷ []) hand (see_full thread place) (rest old.me.1) n f.belongs f.setup f.holding went.went refl refl refl refl f.holding.places f.holding.wide table id
        (ap (λ (l : List (ℕ × Slot M ghosts)). rest l) f.slots)
        (λ p among. let held = f.in_hand p (Contains-append_left hand (last ∷ []) p among) in let may = held.may in record {
          inside = held.inside;
          near = held.near;
          may = record { list = may.list; home = may.home; over = may.over; small = may.small; lacks = λ alive. went.lacks alive (box_held z p) p.redo (box_in z hand p among); newest = may.newest };
        }) in
        record { id = s.id ∙ f.id; turn = s.turn; view = s.view ∙ f.view; handed = λ m below. s.handed m (f.handed m below) }

  -- ---- records go
  -- where the first record goes, the others are left
  module _ (old : TurnSeat) (h : TheHome M ghosts) (p : Held) (left : List Held) where
    abbrev all : List Held
    all = p ∷ left

    boxes_but_last : (k : Known Beside) → Holding sight t.key k h all → but_last (boxes_in k.beside.turn) ≡ boxes_held z left
    boxes_but_last k i = ap (λ turn. but_last (boxes_in turn)) i.hands ∙ but_last_push (boxes_held z left) (box_held z p, p.redo)

    abbrev pub letting_on : (slots : List (ℕ × Slot M ghosts)) → IsLetting sight t old h all slots → (h2 : TheHome M ghosts) (new : TurnSeat) → BelongsTo t new → Holding sight t.key new.me.0 h2 left → (slots2 : List (ℕ × Slot M ghosts)) → new.me.1 ≡ slots2 → IsLetting sight t new h2 left slots2
    letting_on slots i h2 new belongs holding slots2 is = record {
      belongs = belongs;
      setup = i.setup;
      holding = holding;
      slots_are = is;
      near = λ q among. i.near q (contains_more p left q among);
      apart = i.apart.1;
    }

    -- ---- its box is emptied
    pub emptied_on : (mid new : TurnSeat) (h2 : TheHome M ghosts) → MayEmpty sight t old h all (slots_let sight t all) → mid.me.0 ≡ old.me.0 → mid.id ≡ old.id → mid.table_id ≡ old.table_id → rest mid.me.1 ≡ slots_let sight t left → h2.back ≡ h.back → h2.next ≡ set h.next p.thread (place_at z p.place 1)
        → WentHanded sight t.key (empty_box p.thread p.place) h2 (but_last (boxes_in mid.me.0.beside.turn)) (rest mid.me.1) mid.me 0 new.me → new.table_id ≡ mid.table_id → new.id ≡ mid.id → HasEmptied sight t 1 old new h2 left
    emptied_on mid new h2 may same id table left_slots back next w table2 id2 =
        let i = may.letting.holding in let k : Holding sight t.key mid.me.0 h all = holding_on sight t.key old.me.0 mid.me.0 h all same i in
        let went : WentHanded sight t.key (empty_box p.thread p.place) h2 (boxes_held z left) (rest mid.me.1) mid.me 0 new.me = subst (λ bs. WentHanded sight t.key (empty_box p.thread p.place) h2 bs (rest mid.me.1) mid.me 0 new.me) (boxes_but_last mid.me.0 k) w in
        let front = may.fronts in let after : ℕ = place_at z p.place 1 in
        let near : p.place < z.boxes = may.letting.near p (contains_here p left) in
        let below : after < z.boxes = place_inside z p.place 1 near (omega arith) in
        let places = places_after z h.next p.thread after (let wide = i.wide in let lt = front.0 in omega arith) below i.places in
        let wide : z.threads ≤ length h2.next = subst (λ (l : List ℕ). z.threads ≤ length l) (sym next) (let w0 = i.wide in let e = length-set h.next p.thread after in omega arith) in
        let holding = went_holding sight t.key mid.me h all k h2 left (empty_box p.thread p.place) (rest mid.me.1) 0 new.me went.went back refl refl (subst (λ (l : List ℕ). (u : ℕ) → u < z.threads → get_or l u 0 < z.boxes) (sym next) places) wide in
        let view : settled_view new.me.0.view ≡ settled_view old.me.0.view = ap settled_view went.went.view ∙ ap (λ (a : Known Beside). settled_view a.view) same in
        record {
          went = record {
            id = id2 ∙ id;
            view = view;
            handed = λ m before. handed_on mid new (record (hands_of sight h k.records k.shown (boxes_held z all)) { lists = k.stale }) (hands_of sight h2 went.went.records went.went.shown (boxes_held z left)) k.hands went.went.beside went.went.grown
                (ap (λ (v : View). v.drawn) (ap settled_view went.went.view)) m (subst (λ (a : Known Beside). HandedBelow a m) (sym same) before);
          };
          may = record {
            letting = letting_on (slots_let sight t all) may.letting h2 new (belongs_on old new may.letting.belongs may.letting.setup (table2 ∙ table) went.went.seated) holding (slots_let sight t left) (went.went.slots ∙ left_slots);
            ahead = may.ahead;
            fronts = subst (λ (l : List ℕ). AreFronts z l left may.ahead) (sym next) front.2;
            handed = λ q among. went.handed (box_held z q) q.redo (box_in z left q among);
          };
          fresh = λ some. refl;
        }

    -- ---- it is put back
    pub put_on : (new : TurnSeat) (places : List ℕ) (n : ℕ) → MayPutBack sight t old h places all (slots_let sight t all) → WentLacking sight t.key (see_full p.thread p.place) h (but_last (boxes_in old.me.0.beside.turn)) (rest old.me.1) old.me n new.me
        → new.table_id ≡ old.table_id → new.id ≡ old.id → HasPutBack sight t 1 old new h (set places p.thread (place_at z p.place 1)) left
    put_on new places n may w table id =
        let i = may.letting.holding in
        let went : WentLacking sight t.key (see_full p.thread p.place) h (boxes_held z left) (rest old.me.1) old.me n new.me = subst (λ bs. WentLacking sight t.key (see_full p.thread p.place) h bs (rest old.me.1) old.me n new.me) (boxes_but_last old.me.0 i) w in
        let holding = went_holding sight t.key old.me h all i h left (see_full p.thread p.place) (rest old.me.1) n new.me went.went refl refl refl i.places i.wide in
        record {
          went = record {
            id = id;
            view = ap settled_view went.went.view;
            handed = handed_on old new (record (hands_of sight h i.records i.shown (boxes_held z all)) { lists = i.stale }) (hands_of sight h went.went.records went.went.shown (boxes_held z left)) i.hands went.went.beside went.went.grown (ap (λ (v : View). v.drawn) (ap settled_view went.went.view));
          };
          may = record {
            letting = letting_on (slots_let sight t all) may.letting h new (belongs_on old new may.letting.belongs may.letting.setup table went.went.seated) holding (slots_let sight t left) (went.went.slots ∙ ap (λ (l : List (ℕ × Slot M ghosts)). rest l) may.letting.slots_are);
            ahead = may.ahead;
            fronts = may.fronts.2;
            lacks = λ alive q among. went.lacks alive (box_held z q) q.redo (box_in z left q among);
          };
          fresh = λ some. refl;
        }

  -- The record that was taken first is from this place of the thread, and may be put back
  pub record MayPutFirst (seat : TurnSeat) (h : TheHome M ghosts) (thread place : ℕ) : Type 0 where
    pub first : Held
    pub left : List Held
    pub places : List ℕ
    pub may : MayPutBack sight t seat h places (first ∷ left) (slots_let sight t (first ∷ left))
    pub thread_is : first.thread ≡ thread
    pub place_is : first.place ≡ place

  -- it is a step of the turn
  pub may_put_first : (old : TurnSeat) (h : TheHome M ghosts) (thread place : ℕ) → (q : MayPutFirst old h thread place)
      → MayAct (fact_of sight) t (see_full thread place) old (WentLacking sight t.key (see_full thread place) h (but_last (boxes_in old.me.0.beside.turn)) (rest old.me.1) old.me)
  may_put_first old h thread place q =
      let p = q.first in let all : List Held = p ∷ q.left in let i = q.may.letting.holding in
      let bs : List (ℕ × RedoRecord) = but_last (boxes_in old.me.0.beside.turn) in
      let left_is : bs ≡ boxes_held z q.left = boxes_but_last old h p q.left old.me.0 i in
      let near = q.may.letting.near p (contains_here p q.left) in
      let slots : old.me.1 ≡ (box_held z p, Record p.redo) ∷ rest old.me.1 = front_of old.me.1 (slots_let sight t q.left) (box_held z p) (Record p.redo) q.may.letting.slots_are in
      subst (λ (j : ℕ). MayAct (fact_of sight) t (see_full thread j) old (WentLacking sight t.key (see_full thread j) h bs (rest old.me.1) old.me)) q.place_is
      (subst (λ (u : ℕ). MayAct (fact_of sight) t (see_full u p.place) old (WentLacking sight t.key (see_full u p.place) h bs (rest old.me.1) old.me)) q.thread_is
      (may_in_turn old h all q.may.letting.belongs q.may.letting.setup i (see_full p.thread p.place) (record { live = i.live; threaded = i.thread; named = (q.may.fronts.0, near); can = i.turn }) (WentLacking sight t.key (see_full p.thread p.place) h bs (rest old.me.1) old.me)
      (put_acts sight t.key old.me h all i p bs (box_in z all p (contains_here p q.left)) (subst (λ l. Leaves (boxes_held z all) (box_held z p) l) (sym left_is) (leaves_first z p q.left q.may.letting.apart)) old.id (rest old.me.1) slots
      (λ alive k r among. let h2 = held_of z all k r among in subst (λ (a : RedoRecord). LacksRecord i.records a.number) h2.3 (q.may.lacks alive h2.0 h2.1)))))

  pub puts_first : (old : TurnSeat) (h : TheHome M ghosts) (p : Held) (left : List Held) (thread place : ℕ) (new : TurnSeat) (places : List ℕ) (n : ℕ) → MayPutBack sight t old h places (p ∷ left) (slots_let sight t (p ∷ left)) → p.thread ≡ thread → p.place ≡ place
      → WentLacking sight t.key (see_full thread place) h (but_last (boxes_in old.me.0.beside.turn)) (rest old.me.1) old.me n new.me → new.table_id ≡ old.table_id → new.id ≡ old.id → HasPutBack sight t 1 old new h (set places thread (place_at z place 1)) left
  puts_first old h p left thread place new places n may thread_is place_is w table id =
      let bs : List (ℕ × RedoRecord) = but_last (boxes_in old.me.0.beside.turn) in
      let w1 : WentLacking sight t.key (see_full p.thread p.place) h bs (rest old.me.1) old.me n new.me = subst (λ (u : ℕ). WentLacking sight t.key (see_full u p.place) h bs (rest old.me.1) old.me n new.me) (sym thread_is)
      (subst (λ (j : ℕ). WentLacking sight t.key (see_full thread j) h bs (rest old.me.1) old.me n new.me) (sym place_is) w) in
      subst (λ (j : ℕ). HasPutBack sight t 1 old new h (set places thread (place_at z j 1)) left) place_is
      (subst (λ (u : ℕ). HasPutBack sight t 1 old new h (set places u (place_at z p.place 1)) left) thread_is
      (put_on old h p left new places n may w1 table id))

  -- ---- the box of the record that was taken first may be emptied
  module _ (old : TurnSeat) (h : TheHome M ghosts) (thread : ℕ) (q : MayEmptyFirst sight t old h thread) where
    abbrev front : ℕ
    front = get_or h.next thread 0

    abbrev those : List Held
    those = q.first ∷ q.left

    front_is : q.first.place ≡ front
    front_is = q.may.fronts.1 ∙ ap (λ (u : ℕ). get_or h.next u 0) q.thread_is

    same_box : box_held z q.first ≡ box_of z thread front
    same_box = ap (λ (u : ℕ). box_of z u q.first.place) q.thread_is ∙ ap (box_of z thread) front_is

    pub thread_inside : thread < z.threads
    thread_inside = subst (λ (u : ℕ). u < z.threads) q.thread_is q.may.fronts.0

    pub front_near : front < z.boxes
    front_near = q.may.letting.holding.places thread thread_inside

    pub first_front : (slot : ℕ) → slot ≡ box_of z thread front → FrontRecord old.me.1 slot
    first_front slot is_slot = (q.first.redo, front_of old.me.1 (slots_let sight t q.left) slot (Record q.first.redo) (q.may.letting.slots_are ∙ ap (λ k. (k, Record q.first.redo) ∷ slots_let sight t q.left) (same_box ∙ sym is_slot)))

    module _ (mid : TurnSeat) (slot : ℕ) (is_slot : slot ≡ box_of z thread front) (me : mid.me ≡ (old.me.0, (slot, Empty) ∷ rest old.me.1)) where
      abbrev held_mid : Holding sight t.key mid.me.0 h those
      held_mid = holding_on sight t.key old.me.0 mid.me.0 h those (ap (λ (a : Seated M ghosts). a.0) me) q.may.letting.holding

      pub may_empty_first : mid.table_id ≡ old.table_id → (h2 : TheHome M ghosts) → h.back ≡ h2.back → h.pager ≡ h2.pager → set h.next thread (place_at z front 1) ≡ h2.next
          → MayAct (fact_of sight) t (empty_box thread front) mid (λ n. WentHanded sight t.key (empty_box thread front) h2 (but_last (boxes_in mid.me.0.beside.turn)) (rest mid.me.1) mid.me 0)
      may_empty_first table h2 back pager nexts =
          let p = q.first in let i = held_mid in let k_is = ap (λ (a : Seated M ghosts). a.0) me in
          let bs : List (ℕ × RedoRecord) = but_last (boxes_in mid.me.0.beside.turn) in
          let left_is : bs ≡ boxes_held z q.left = boxes_but_last old h p q.left mid.me.0 i in
          let slots : mid.me.1 ≡ (box_of z thread front, Empty) ∷ rest mid.me.1 = front_of mid.me.1 (rest old.me.1) (box_of z thread front) Empty (ap (λ (a : Seated M ghosts). a.1) me ∙ ap (λ k. (k, Empty) ∷ rest old.me.1) is_slot) in
          let place : p.place ≡ get_or h.next p.thread 0 = q.may.fronts.1 in
          may_in_turn mid h those (laid_belongs old mid q.may.letting.belongs table k_is) q.may.letting.setup i (empty_box thread front) (record { live = i.live; threaded = i.thread; named = (thread_inside, front_near); can = i.turn })
          (λ n. WentHanded sight t.key (empty_box thread front) h2 bs (rest mid.me.1) mid.me 0)
          (subst (λ (u : ℕ). set h.next u (place_at z (get_or h.next u 0) 1) ≡ h2.next → mid.me.1 ≡ (box_of z u (get_or h.next u 0), Empty) ∷ rest mid.me.1
          → Acts (fact_of sight t.key) z (empty_box u (get_or h.next u 0)) mid.id mid.me (λ n. WentHanded sight t.key (empty_box u (get_or h.next u 0)) h2 bs (rest mid.me.1) mid.me 0)) q.thread_is
          (λ nexts2 slots2. empty_acts_on sight t.key mid.me h those i p bs (box_in z those p (contains_here p q.left)) (subst (λ l. Leaves (boxes_held z those) (box_held z p) l) (sym left_is) (leaves_first z p q.left q.may.letting.apart)) mid.id (rest mid.me.1) h2 q.may.fronts.0 place back pager nexts2 slots2
          (λ k r among. let a = held_of z those k r among in subst (λ (b : RedoRecord). HasRecord i.records b.number × (writes_in i.records b.number ≡ b.writes)) a.3 (q.may.handed a.0 a.1)))
          nexts slots)

      pub fits_first : Foreseen (fact_of sight t.key) z (empty_box thread front) mid.id mid.me.0
      fits_first = subst (λ (u : ℕ). Foreseen (fact_of sight t.key) z (empty_box u (get_or h.next u 0)) mid.id mid.me.0) q.thread_is (empty_fits sight t.key mid.me h those held_mid mid.id q.first (contains_here q.first q.left) q.may.fronts.1)

  pub empties_first : (old : TurnSeat) (h : TheHome M ghosts) (p : Held) (left : List Held) (thread : ℕ) → (may : MayEmpty sight t old h (p ∷ left) (slots_let sight t (p ∷ left))) → p.thread ≡ thread → (mid new : TurnSeat) (slot : ℕ) → mid.me ≡ (old.me.0, (slot, Empty) ∷ rest old.me.1) → mid.table_id ≡ old.table_id → mid.id ≡ old.id
      → (h2 : TheHome M ghosts) → h2.back ≡ h.back → h2.next ≡ set h.next thread (place_at z (get_or h.next thread 0) 1)
      → WentHanded sight t.key (empty_box thread (get_or h.next thread 0)) h2 (but_last (boxes_in mid.me.0.beside.turn)) (rest mid.me.1) mid.me 0 new.me → new.table_id ≡ mid.table_id → new.id ≡ mid.id → HasEmptied sight t 1 old new h2 left
  empties_first old h p left thread may thread_is mid new slot me table id h2 back next w table2 id2 =
      let bs : List (ℕ × RedoRecord) = but_last (boxes_in mid.me.0.beside.turn) in let place = may.fronts.1 in
      let w1 : WentHanded sight t.key (empty_box p.thread p.place) h2 bs (rest mid.me.1) mid.me 0 new.me = subst (λ (j : ℕ). WentHanded sight t.key (empty_box p.thread j) h2 bs (rest mid.me.1) mid.me 0 new.me) (sym place)
      (subst (λ (u : ℕ). WentHanded sight t.key (empty_box u (get_or h.next u 0)) h2 bs (rest mid.me.1) mid.me 0 new.me) (sym thread_is) w) in
      let next1 : h2.next ≡ set h.next p.thread (place_at z p.place 1) = next ∙ (ap (λ (u : ℕ). set h.next u (place_at z (get_or h.next u 0) 1)) (sym thread_is) ∙ ap (λ (j : ℕ). set h.next p.thread (place_at z j 1)) (sym place)) in
      emptied_on old h p left mid new h2 may (ap (λ (a : Seated M ghosts). a.0) me) id table
      (ap (λ (a : Seated M ghosts). rest a.1) me ∙ ap (λ (l : List (ℕ × Slot M ghosts)). rest l) may.letting.slots_are) back next1 w1 table2 id2
