-- The turn is taken with what is in the back's slot, and given back.
use Rattle.std.proofs.Common.{◌≡◌, ℕ, ◌<◌, ◌≤◌, Bool, true, false, List, length, set, refl, sym, ap, ◌∙◌, subst, inl, inr, ⊎_elim, arith, length-set}
use Rattle.std.specs.Prelude.{Some, None}
use Rattle.std.proofs.lemmas.Bool.{true≢false}
use mathlib.Core.Option.{Option as Maybe, none, some, some-injective}
use mathlib.Core.Logic.{dite}
use native.Mathlib.Decide.{ℕ_discrete}
use lib.ListN.{get_elem?}
use Rattle.dude_base.specs.Records.{RedoRecord}
use Rattle.pmem_trait.specs.Sights.{Sight}
use Rattle.pmem_trait.specs.declared.medium.Medium.{Ghosts}
use Rattle.core_events.specs.Setups.{Setup, box_of}
use Rattle.core_events.proofs.Lists.{there, at_set, set_here, set_else}
use Rattle.stm_slots.specs.Beside.{Hands, Beside}
use Rattle.stm_slots.specs.Stage.{Owner, Stage}
use Rattle.stm_slots.specs.Queues.{back_slot}
use Rattle.stm_slots.specs.Lists.{ListsKept}
use Rattle.stm_slots.specs.Opening.{setup_of}
use Rattle.stm_slots.specs.Rule.{IsHome, BoxSlots, SlotsKeptBy}
use Rattle.stm_slots.specs.declared.home.Home.{Home as TheHome}
use Rattle.stm_slots.specs.declared.slot.Slot.{Slot}
use Rattle.stm_slots.specs.declared.slot.Slot.TheVariants.{Home}
use Rattle.stm_slots.specs.declared.opening.Opening.{Opening}
use Rattle.stm_slots.proofs.Alike.{IsAlike, alike_set, queued_alike}
use Rattle.stm_slots.proofs.Listing.{lists_alike}
use Rattle.stm_slots.proofs.Wording.{mapped_on, reworded, reworded_by}

module _ {M : Type 0} {ghosts : Ghosts M} (sight : M → Sight) (o : Opening M ghosts) where
  abbrev z : Setup
  z = setup_of sight o

  abbrev Slots : Type 0
  Slots = List (Maybe (Slot M ghosts))

  -- the slots of boxes, where the back's one changes, and a view in the turn alone
  boxes_alike : (s : Stage) (out : List (ℕ × RedoRecord)) (homes : Slots) (b : Maybe (Slot M ghosts)) (id : ℕ) (v w : Owner) → length s.boxes ≡ back_slot z
      → get_elem? s.owners id ≡ some v → IsAlike w v → BoxSlots sight z s out homes → (turn durable reproduced : ℕ) (entries : List ℕ)
      → BoxSlots sight z (record s { owners = set s.owners id w; turn = turn; durable = durable; reproduced = reproduced; entries = entries }) out (set homes (back_slot z) b)
  boxes_alike s box homes b id v w long at_v same k turn durable reproduced entries = record {
    full = λ i n at pos. ⊎_elim inl (λ r. inr (r.0, r.1, set_else homes (back_slot z) i b (λ e. let lt = there s.boxes i n at in omega arith) ∙ r.2)) (k.full i n at pos);
    hand = λ i r among. let h = k.hand i r among in (h.0, h.1, h.2, set_else homes (back_slot z) i b (λ e2. let lt = h.2 in omega arith) ∙ h.3);
    free = λ i at. ⊎_elim
        (λ e. inl (set_else homes (back_slot z) i b (λ e2. let lt = there s.boxes i 0 at in omega arith) ∙ e))
        (λ t. inr (moved i t.0 t.1 t.2 t.3 t.4 t.5 t.6))
        (k.free i at);
    opened = λ j p at_p pos. let r = alike_set s.owners id v w at_v same j p at_p in let like = r.2 in let number = like.number in let t = k.opened j r.0 r.1 (let h : 0 < r.0.number = omega arith in h) in
        let next = ap (λ n. box_of z t.0 n) (sym r.2.next) in
        (t.0, r.2.thread ∙ t.1, subst (λ n. get_elem? s.boxes n ≡ some 0) next t.2, set_else homes (back_slot z) (box_of z t.0 p.next) b (λ e. let lt = there s.boxes (box_of z t.0 r.0.next) 0 t.2 in let is : box_of z t.0 r.0.next ≡ box_of z t.0 p.next = next in omega arith) ∙ subst (λ n. get_elem? homes n ≡ some none) next t.3);
  }
    where
      moved : (i j t : ℕ) (p : Owner) → get_elem? s.owners j ≡ some p → 0 < p.number → p.thread ≡ Some t → i ≡ box_of z t p.next
          → (j2 : ℕ) × (t2 : ℕ) × (p2 : Owner) × (get_elem? (set s.owners id w) j2 ≡ some p2) × (0 < p2.number) × (p2.thread ≡ Some t2) × (i ≡ box_of z t2 p2.next)
      moved i j t p at_p pos of_t is = dite (ℕ_discrete j id)
          (λ e. let pv : p ≡ v = some-injective p v (sym at_p ∙ (ap (get_elem? s.owners) e ∙ at_v)) in let n = ap (λ (a : Owner). a.number) pv in let m = same.number in (
            id,
            t,
            w,
            set_here s.owners id w (there s.owners id v at_v),
            (let h : 0 < w.number = omega arith in h),
            same.thread ∙ (ap (λ (a : Owner). a.thread) (sym pv) ∙ of_t),
            is ∙ ap (λ n. box_of z t n) (ap (λ (a : Owner). a.next) pv ∙ sym same.next),
          ))
          (λ n. (j, t, p, set_else s.owners id j w n ∙ at_p, pos, of_t, is))

  module _ (s : Stage) (xs : List Beside) (homes : Slots) (hands : Hands) (k : SlotsKeptBy sight o s xs homes hands) (long : length s.boxes ≡ back_slot z) (id : ℕ) (v : Owner) (x : Beside) (at_v : get_elem? s.owners id ≡ some v) (at_x : get_elem? xs id ≡ some x) where
    abbrev took : Owner
    took = record v { has_turn = true }

    abbrev holding : Beside
    holding = record x { turn = Some hands }

    -- where nobody has the turn
    pub taken : (turn : ℕ) → 0 < turn → ((j : ℕ) (p : Owner) → get_elem? s.owners j ≡ some p → p.has_turn ≡ true → ⊥)
        → SlotsKeptBy sight o (record s { turn = turn; owners = set s.owners id took }) (set xs id holding) (set homes (back_slot z) none) hands
    taken turn pos nobody = let same : IsAlike took v = record { thread = refl; number = refl; next = refl } in record {
      sized = length-set homes (back_slot z) none ∙ k.sized;
      seats = length-set xs id holding ∙ (k.seats ∙ sym (length-set s.owners id took));
      count = k.count;
      queues = queued_alike z s (set s.owners id took) hands.next k.count (alike_set s.owners id v took at_v same) k.queues turn s.durable s.reproduced s.entries;
      lists = lists_alike z s (set s.owners id took) hands.lists hands.boxes (alike_set s.owners id v took at_v same) (λ j p e met. ⊎_elim (λ t. k.lists.fault id v at_v (ap (λ (a : Owner). a.met_fault) t.1 ∙ met)) (λ t. k.lists.fault j p t.1 met) (at_set s.owners id j took p e)) k.lists turn s.durable s.reproduced s.entries k.lists.durable k.lists.reproduced;
      pages = mapped_on z s (record s { turn = turn; owners = set s.owners id took }) hands.map k.pages;
      boxes = boxes_alike s hands.boxes homes none id v took long at_v same k.boxes turn s.durable s.reproduced s.entries;
      shown = k.shown;
      home = λ e. absurd (omega arith);
      held = λ j p u at_p at_u has. ⊎_elim
          (λ t. let there_x = set_here xs id holding (there xs id x at_x) in ap (λ (a : Beside). a.turn) (sym (some-injective holding u (sym there_x ∙ (ap (get_elem? (set xs id holding)) (sym t.0) ∙ at_u)))))
          (λ t. absurd (nobody j p t.1 has))
          (at_set s.owners id j took p at_p);
    }

    -- the holder gives it, with what its slot then has
    pub given : (after : Hands) (h : TheHome M ghosts) (failed met : Bool) → ListsKept z s after.lists after.boxes → after.next ≡ hands.next → after.map ≡ hands.map → after.boxes ≡ hands.boxes → after.shown ≡ hands.shown
        → IsHome sight o h after → (met ≡ true → after.lists.state.dead ≡ true) → ((j : ℕ) (p : Owner) → get_elem? s.owners j ≡ some p → p.has_turn ≡ true → j ≡ id)
        → SlotsKeptBy sight o (record s { turn = 0; owners = set s.owners id (record v { has_turn = false; met_fault = met }) }) (set xs id (record x { turn = None })) (set homes (back_slot z) (some (Home h))) after
    given after h failed met lists next map boxes shown is fault alone =
        let gave : Owner = record v { has_turn = false; met_fault = met } in let free : Beside = record x { turn = None } in
        let same : IsAlike gave v = record { thread = refl; number = refl; next = refl } in record {
          sized = length-set homes (back_slot z) (some (Home h)) ∙ k.sized;
          seats = length-set xs id free ∙ (k.seats ∙ sym (length-set s.owners id gave));
          count = k.count;
          queues = rw next (queued_alike z s (set s.owners id gave) hands.next k.count (alike_set s.owners id v gave at_v same) k.queues 0 s.durable s.reproduced s.entries);
          lists = lists_alike z s (set s.owners id gave) after.lists after.boxes (alike_set s.owners id v gave at_v same) (λ j p e m. ⊎_elim (λ t. fault (ap (λ (a : Owner). a.met_fault) t.1 ∙ m)) (λ t. lists.fault j p t.1 m) (at_set s.owners id j gave p e)) lists 0 s.durable s.reproduced s.entries lists.durable lists.reproduced;
          pages = rw map (mapped_on z s (record s { turn = 0; owners = set s.owners id gave }) hands.map k.pages);
          boxes = rw boxes (boxes_alike s hands.boxes homes (some (Home h)) id v gave long at_v same k.boxes 0 s.durable s.reproduced s.entries);
          shown = k.shown ∙ sym shown;
          home = λ e. (h, is, set_here homes (back_slot z) (some (Home h)) (let n = k.sized in omega arith));
          held = λ j p u at_p at_u has. ⊎_elim
              (λ t. absurd (true≢false (sym has ∙ sym (ap (λ (a : Owner). a.has_turn) t.1))))
              (λ t. absurd (t.0 (alone j p t.1 has)))
              (at_set s.owners id j gave p at_p);
        }

    -- ---- the durable or the reproduced word is raised
    pub raised_durable : (d : ℕ) → d ≤ hands.lists.state.log.durable → SlotsKeptBy sight o (record s { durable = d }) xs homes hands
    raised_durable d le = reworded sight o s xs homes hands k (record s { durable = d }) xs hands le k.lists.reproduced k.shown (mapped_on z s (record s { durable = d }) hands.map k.pages) refl k.home k.held

    pub raised_reproduced : (d : ℕ) → d ≤ hands.lists.state.log.reproduced → 0 < s.turn → ((j : ℕ) (p : Owner) → get_elem? s.owners j ≡ some p → p.has_turn ≡ true → j ≡ id) → SlotsKeptBy sight o (record s { reproduced = d }) (set xs id (record x { turn = Some (record hands { shown = d }) })) homes (record hands { shown = d })
    raised_reproduced d le turn alone = reworded_by sight o s xs homes hands k (record s { reproduced = d }) (record hands { shown = d }) k.lists.durable le refl (mapped_on z s (record s { reproduced = d }) hands.map k.pages) id x at_x alone turn
