-- What becomes of the rule of the slots where only words of the turn, of numbers and of pages change.
use Rattle.std.proofs.Common.{◌≡◌, ℕ, ◌≤◌, ◌<◌, true, List, length, set, sym, ap, ◌∙◌, subst, ⊎_elim, arith, length-set}
use Rattle.std.specs.Prelude.{Some}
use mathlib.Core.Option.{Option as Maybe, some, some-injective}
use lib.ListN.{get_elem?}
use Rattle.pmem_trait.specs.Sights.{Sight}
use Rattle.pmem_trait.specs.declared.medium.Medium.{Ghosts}
use Rattle.core_events.specs.Setups.{Setup}
use Rattle.core_events.proofs.Lists.{there, at_set, set_here}
use Rattle.shadow_pages.specs.PageMap.{PageMap}
use Rattle.stm_slots.specs.Beside.{Hands, Beside}
use Rattle.stm_slots.specs.Stage.{Owner, Stage}
use Rattle.stm_slots.specs.Opening.{setup_of}
use Rattle.stm_slots.specs.Pages.{IsMapped}
use Rattle.stm_slots.specs.Queues.{back_slot}
use Rattle.stm_slots.specs.Rule.{IsHome, SlotsKeptBy}
use Rattle.stm_slots.specs.declared.home.Home.{Home as TheHome}
use Rattle.stm_slots.specs.declared.slot.Slot.{Slot}
use Rattle.stm_slots.specs.declared.slot.Slot.TheVariants.{Home}
use Rattle.stm_slots.specs.declared.opening.Opening.{Opening}
use Rattle.stm_slots.proofs.Listing.{lists_owned}

-- the map goes by the entries alone
pub mapped_on : (z : Setup) (s t : Stage) (m : PageMap) → IsMapped z s m → IsMapped z (record t { entries = s.entries }) m
mapped_on z s t m k = record { pages = k.pages; frames = k.frames; one_to_one = k.one_to_one; shows = k.shows; shown = k.shown; all = k.all }

-- the words of one part of the state beside the rest of another
abbrev pub worded : Stage → Stage → Stage
worded s t = record s { turn = t.turn; durable = t.durable; reproduced = t.reproduced; entries = t.entries }

module _ {M : Type 0} {ghosts : Ghosts M} (sight : M → Sight) (o : Opening M ghosts) where
  abbrev z : Setup
  z = setup_of sight o

  -- the one view with the turn keeps these hands
  pub held_by : (xs : List Beside) (id : ℕ) (x : Beside) → get_elem? xs id ≡ some x → (os : List Owner) → ((j : ℕ) (p : Owner) → get_elem? os j ≡ some p → p.has_turn ≡ true → j ≡ id) → (after : Hands)
      → (j : ℕ) (w : Owner) (u : Beside) → get_elem? os j ≡ some w → get_elem? (set xs id (record x { turn = Some after })) j ≡ some u → w.has_turn ≡ true → u.turn ≡ Some after
  held_by xs id x at_x os only after j w u at at_u has =
      let y : Beside = record x { turn = Some after } in
      let here : get_elem? (set xs id y) j ≡ some y = ap (get_elem? (set xs id y)) (only j w at has) ∙ set_here xs id y (there xs id x at_x) in
      ap (λ (a : Beside). a.turn) (sym (some-injective y u (sym here ∙ at_u)))

  module _ (s : Stage) (xs : List Beside) (homes : List (Maybe (Slot M ghosts))) (hands : Hands) (k : SlotsKeptBy sight o s xs homes hands) where
    -- a view that has the turn as before keeps what it kept
    pub held_on : (id : ℕ) (v w : Owner) → get_elem? s.owners id ≡ some v → w.has_turn ≡ v.has_turn
        → (j : ℕ) (p : Owner) (x : Beside) → get_elem? (set s.owners id w) j ≡ some p → get_elem? xs j ≡ some x → p.has_turn ≡ true → x.turn ≡ Some hands
    held_on id v w at_v turn j p x at at_x has = ⊎_elim
        (λ e. k.held id v x at_v (subst (λ i. get_elem? xs i ≡ some x) e.0 at_x) (sym turn ∙ (ap (λ (a : Owner). a.has_turn) e.1 ∙ has)))
        (λ e. k.held j p x e.1 at_x has)
        (at_set s.owners id j w p at)

    -- other words, with seats and hands that go with them
    pub reworded : (t : Stage) (ys : List Beside) (after : Hands) → t.durable ≤ hands.lists.state.log.durable → t.reproduced ≤ hands.lists.state.log.reproduced → t.reproduced ≡ after.shown
        → IsMapped z (worded s t) after.map → length ys ≡ length xs
        → (t.turn ≡ 0 → (h : TheHome M ghosts) × IsHome sight o h (record hands { map = after.map; shown = after.shown }) × (get_elem? homes (back_slot z) ≡ some (some (Home h))))
        → ((j : ℕ) (w : Owner) (x : Beside) → get_elem? s.owners j ≡ some w → get_elem? ys j ≡ some x → w.has_turn ≡ true → x.turn ≡ Some (record hands { map = after.map; shown = after.shown }))
        → SlotsKeptBy sight o (worded s t) ys homes (record hands { map = after.map; shown = after.shown })
    reworded t ys after durable reproduced shown mapped as_many home held = record {
      sized = k.sized;
      seats = as_many ∙ k.seats;
      count = k.count;
      queues = record { wide = k.queues.wide; each = k.queues.each; owners = k.queues.owners; unused = k.queues.unused };
      lists = lists_owned z s (worded s t) hands.lists hands.boxes k.lists durable reproduced k.lists.fault (λ alive. (k.lists.ordered alive).opened);
      pages = mapped;
      boxes = record { full = k.boxes.full; hand = k.boxes.hand; free = k.boxes.free; opened = k.boxes.opened };
      shown = shown;
      home = home;
      held = held;
    }

    -- those of the holder of the turn, who keeps other hands
    pub reworded_by : (t : Stage) (after : Hands) → t.durable ≤ hands.lists.state.log.durable → t.reproduced ≤ hands.lists.state.log.reproduced → t.reproduced ≡ after.shown → IsMapped z (worded s t) after.map
        → (id : ℕ) (x : Beside) → get_elem? xs id ≡ some x → ((j : ℕ) (p : Owner) → get_elem? s.owners j ≡ some p → p.has_turn ≡ true → j ≡ id) → 0 < t.turn
        → SlotsKeptBy sight o (worded s t) (set xs id (record x { turn = Some (record hands { map = after.map; shown = after.shown }) })) homes (record hands { map = after.map; shown = after.shown })
    reworded_by t after durable reproduced shown mapped id x at_x alone turn =
        let now : Hands = record hands { map = after.map; shown = after.shown } in let y : Beside = record x { turn = Some now } in
        reworded t (set xs id y) after durable reproduced shown mapped (length-set xs id y) (λ e. absurd (omega arith)) (held_by xs id x at_x s.owners alone now)
