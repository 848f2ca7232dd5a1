-- The record of the next number is taken, or left in its box.
use Rattle.std.proofs.Common.{◌≡◌, ℕ, ◌+◌, ◌<◌, ◌≤◌, [], ◌∷◌, ◌++◌, length, get_or, refl, sym, ap, ◌∙◌, subst, arith}
use Rattle.std.proofs.lemmas.List.Elements.{Contains-push}
use Rattle.dude_base.specs.declared.limits.TheConstants.{MAX_SPAN}
use Rattle.dude_base.specs.Records.{RedoRecord}
use Rattle.pmem_trait.specs.Sights.{Sight}
use Rattle.pmem_trait.specs.declared.medium.Medium.{Ghosts}
use Rattle.back_store.specs.BackView.{state_of}
use Rattle.atomic_table.specs.Table.{rest, turned}
use Rattle.atomic_table.specs.declared.shared.Seat.{Seat}
use Rattle.core_events.specs.Setups.{Setup, box_of}
use Rattle.core_table.specs.Known.{Known}
use Rattle.core_table.specs.Layout.{TableSight}
use Rattle.stm_slots.specs.KnownLists.{lists}
use Rattle.stm_slots.specs.Beside.{Beside}
use Rattle.stm_slots.specs.Opening.{setup_of}
use Rattle.stm_slots.specs.Queues.{back_slot}
use Rattle.stm_slots.specs.Turns.{Seated}
use Rattle.stm_slots.specs.declared.home.Home.{Home as TheHome}
use Rattle.stm_slots.specs.declared.slot.Slot.{Slot}
use Rattle.stm_slots.specs.declared.slot.Slot.TheVariants.{Empty, Record}
use Rattle.stm_slots.specs.declared.opening.Opening.{Opening}
use Rattle.stm_turns.specs.Bundles.{HasFound, HasLast, InTurnWith, MayLook, SteppedWith}
use Rattle.stm_turns.specs.Gathered.{BeginsAlike, IsGathered, TakesNext}
use Rattle.stm_turns.specs.Holding.{Held, box_held, slots_out}
use Rattle.stm_turns.specs.Turns.{FrontRecord, HandedBelow, Stepped, SteppedOn, settled_view}
use Rattle.stm_turns.specs.declared.gathering.Gathering.{Gathering}
use Rattle.stm_turns.proofs.Gatherings.{gathered_next, others_than_next}
use Rattle.stm_turns.proofs.HeldRecords.{fronts_inside, slots_push}
use Rattle.stm_turns.proofs.Holdings.{front_of, holding_on}
use Rattle.stm_turns.proofs.Seats.{laid_belongs, same_record}

pub alike : (g : Gathering) → BeginsAlike g g
alike g = record { ring = refl; first = refl }

pub alike_then : (f g h : Gathering) → BeginsAlike f g → BeginsAlike g h → BeginsAlike f h
alike_then f g h a b = record { ring = b.ring ∙ a.ring; first = b.first ∙ a.first }

module _ {M : Type 0} {ghosts : Ghosts M} (sight : M → Sight) (t : TableSight (Opening M ghosts)) where
  abbrev z : Setup
  z = setup_of sight t.key

  abbrev TurnSeat : Type 0
  TurnSeat = Seat (Slot M ghosts) (Known Beside)

  module _ (old : TurnSeat) (h : TheHome M ghosts) (g : Gathering) (w : InTurnWith sight t old h g) where
    -- each thread has a place ahead
    pub ahead_wide : z.threads ≤ length g.ahead
    ahead_wide = (fronts_inside z h.next w.hand g.ahead w.turn.holding.wide w.turn.holding.places w.gathered.fronts).0

    -- the places ahead are ones that there are
    pub ahead_inside : (u : ℕ) → u < z.threads → get_or g.ahead u 0 < z.boxes
    ahead_inside = (fronts_inside z h.next w.hand g.ahead w.turn.holding.wide w.turn.holding.places w.gathered.fronts).1

    pub may_look : (thread : ℕ) → thread < z.threads → MayLook sight t old h thread (get_or g.ahead thread 0) (g.bundle.last + 1)
    may_look thread inside = record {
      hand = w.hand;
      turn = w.turn;
      inside = inside;
      near = ahead_inside thread inside;
      some = omega arith;
      others = others_than_next z w.hand g.ring g.bundle w.gathered.joined;
    }

    -- steps that leave the records in hand, and the back's slot
    pub looked_with : (new : TurnSeat) → SteppedOn sight t old new h h → SteppedWith sight t old new h g
    looked_with new step = record { hand = w.hand; step = step w.hand w.turn; gathered = w.gathered }

    pub put_with : (new : TurnSeat) → Stepped sight t old new h w.hand → SteppedWith sight t old new h g
    put_with new step = record { hand = w.hand; step = step; gathered = w.gathered }

    -- ---- the record was found
    module _ (thread place number : ℕ) (mid : TurnSeat) (f : HasFound sight t old mid h w.hand thread place number) where
      pub found_front : (slot : ℕ) → slot ≡ box_of z thread place → FrontRecord mid.me.1 slot
      found_front slot is = (f.redo, front_of mid.me.1 (slots_out sight z w.hand) slot (Record f.redo) (f.slots ∙ ap (λ k. (k, Record f.redo) ∷ slots_out sight z w.hand) (sym is)))

      -- an equal seat
      pub found_on : (new : TurnSeat) → new.table_id ≡ mid.table_id → new.id ≡ mid.id → new.me ≡ mid.me → HasFound sight t old new h w.hand thread place number
      found_on new table id me = let same = ap (λ (a : Seated M ghosts). a.0) me in record {
        redo = f.redo;
        number_is = f.number_is;
        id = id ∙ f.id;
        belongs = laid_belongs sight t mid new f.belongs table same;
        setup = f.setup;
        holding = holding_on sight t.key mid.me.0 new.me.0 h (w.hand ++ record { thread = thread; place = place; redo = f.redo } ∷ []) same f.holding;
        slots = ap (λ (a : Seated M ghosts). a.1) me ∙ f.slots;
        same = f.same;
        in_hand = f.in_hand;
        apart = f.apart;
        view = ap (λ (k : Known Beside). settled_view k.view) same ∙ f.view;
        handed = λ n below. subst (λ (k : Known Beside). HandedBelow k n) (sym same) (f.handed n below);
      }

      pub last_of : HasLast sight t mid h thread place
      last_of = record { before = old; hand = w.hand; number = number; found = f }

      -- its slot goes behind the others
      keeps_found : (new : TurnSeat) → new.table_id ≡ mid.table_id → new.id ≡ mid.id → new.me ≡ (mid.me.0, turned mid.me.1) → Stepped sight t old new h (w.hand ++ record { thread = thread; place = place; redo = f.redo } ∷ [])
      keeps_found new table id me = let same = ap (λ (a : Seated M ghosts). a.0) me in let p : Held = record { thread = thread; place = place; redo = f.redo } in record {
        id = id ∙ f.id;
        turn = record {
          belongs = laid_belongs sight t mid new f.belongs table same;
          setup = f.setup;
          holding = holding_on sight t.key mid.me.0 new.me.0 h (w.hand ++ p ∷ []) same f.holding;
          slots = ap (λ (a : Seated M ghosts). a.1) me ∙ (ap turned f.slots ∙ ap (λ l. (back_slot z, Empty) ∷ l) (sym (slots_push sight z w.hand p)));
          same = f.same;
          in_hand = f.in_hand;
        };
        view = ap (λ (k : Known Beside). settled_view k.view) same ∙ f.view;
        handed = λ n below. subst (λ (k : Known Beside). HandedBelow k n) (sym same) (f.handed n below);
      }

      -- where the gathering takes it
      pub joined_with : (new : TurnSeat) (slot cells boxes : ℕ) (r : RedoRecord) (g2 : Gathering) → new.table_id ≡ mid.table_id → new.id ≡ mid.id → new.me ≡ (mid.me.0, turned mid.me.1) → mid.me.1 ≡ (slot, Record r) ∷ rest mid.me.1
          → place ≡ get_or g.ahead thread 0 → boxes ≡ z.boxes → cells ≡ (state_of h.back).log.sizes.cells → MAX_SPAN < length g.threads → TakesNext thread r cells boxes g g2 → SteppedWith sight t old new h g2
      joined_with new slot cells boxes r g2 table id me was place_is boxes_are cells_are wide takes =
          let p : Held = record { thread = thread; place = place; redo = f.redo } in
          let same : f.redo ≡ r = same_record mid.me.1 (slots_out sight z w.hand) (rest mid.me.1) (box_held z p) slot f.redo r f.slots was in
          record {
            hand = w.hand ++ p ∷ [];
            step = keeps_found new table id me;
            gathered = subst (λ (c : ℕ). IsGathered z h.next c (w.hand ++ p ∷ []) g2) cells_are
                (gathered_next z (lists (state_of h.back) f.holding.records) h.next cells boxes w.hand g g2 p (subst (λ (c : ℕ). IsGathered z h.next c w.hand g) (sym cells_are) w.gathered) (f.in_hand p (Contains-push w.hand p)) place_is boxes_are wide f.apart
                (subst (λ (a : RedoRecord). TakesNext thread a cells boxes g g2) (sym same) takes));
          }
