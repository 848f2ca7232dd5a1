-- The seat with the turn behind a step on pages.
use Rattle.std.proofs.Common.{◌≡◌, ℕ, List, refl, sym, ap, ◌∙◌, subst, []}
use Rattle.std.specs.Prelude.{Some}
use Rattle.dude_base.specs.Records.{RedoRecord}
use Rattle.pmem_trait.specs.Sights.{Sight}
use Rattle.pmem_trait.specs.declared.medium.Medium.{Ghosts}
use Rattle.atomic_table.specs.declared.shared.Seat.{Seat}
use Rattle.back_store.specs.BackView.{state_of}
use Rattle.core_events.specs.Setups.{Setup}
use Rattle.core_events.specs.Views.{View}
use Rattle.core_events.specs.Events.{Event, view_after}
use Rattle.core_events.specs.Telling.{IsSeated}
use Rattle.core_table.specs.Known.{Known}
use Rattle.core_table.specs.Layout.{TableSight}
use Rattle.core_table.specs.Steps.{BelongsTo}
use Rattle.stm_slots.specs.KnownLists.{BackLists, lists}
use Rattle.shadow_pages.specs.PageMap.{PageMap, IsOneToOne}
use Rattle.stm_slots.specs.Beside.{Hands, Beside}
use Rattle.stm_slots.specs.Opening.{setup_of}
use Rattle.stm_slots.specs.Turns.{Follows}
use Rattle.stm_slots.specs.declared.home.Home.{Home as TheHome}
use Rattle.stm_slots.specs.declared.slot.Slot.{Slot}
use Rattle.stm_slots.specs.declared.opening.Opening.{Opening}
use Rattle.stm_slots.proofs.Following.{follows_same}
use Rattle.stm_turns.specs.Holding.{Holding, boxes_held, hands_of}
use Rattle.stm_turns.specs.Turns.{EndsSettled, HasShown}
use Rattle.stm_turns.proofs.Seats.{belongs_on}
use Rattle.tiny_stm.specs.Paging.{HasTurn, HandMoved, Paged, page_view}
use Rattle.tiny_stm.specs.Told.{PagedTo}

module _ {M : Type 0} {ghosts : Ghosts M} (sight : M → Sight) (t : TableSight (Opening M ghosts)) where
  abbrev z : Setup
  z = setup_of sight t.key

  abbrev TurnSeat : Type 0
  TurnSeat = Seat (Slot M ghosts) (Known Beside)

  -- what the seat knows behind a step on pages, by what it has beside its view then
  abbrev pub page_holding : (old new : TurnSeat) (h : TheHome M ghosts) (i : HasTurn sight t old h) (map : PageMap) (stale : BackLists) → page_view new.me.0.view ≡ page_view old.me.0.view
      → new.me.0.beside.turn ≡ Some (record (hands_of sight h i.holding.records i.holding.shown (boxes_held z [])) { lists = stale; map = map }) → Follows z h.next (boxes_held z []) stale (lists (state_of h.back) i.holding.records)
      → Holding sight t.key new.me.0 (record h { pager = map }) []
  page_holding old new h i map stale view hands follows = record {
    live = ap (λ (v : View). v.part.is_spent) view ∙ i.holding.live;
    thread = (i.holding.thread.0, ap (λ (v : View). v.part.thread) view ∙ i.holding.thread.1);
    turn = ap (λ (v : View). v.turn.has_it) view ∙ i.holding.turn;
    places = i.holding.places;
    wide = i.holding.wide;
    records = i.holding.records;
    shown = i.holding.shown;
    stale = stale;
    hands = hands;
    follows = follows;
    known = i.holding.known;
    rings = i.holding.rings;
    pages = i.holding.pages;
  }

  -- ---- a step that leaves what is beside the view
  abbrev pub quiet_turn : (old new : TurnSeat) (h : TheHome M ghosts) → HasTurn sight t old h → BelongsTo t new → page_view new.me.0.view ≡ page_view old.me.0.view → new.me.0.beside ≡ old.me.0.beside → new.me.1 ≡ old.me.1 → HasTurn sight t new h
  quiet_turn old new h i belongs view beside slots = record {
    belongs = belongs;
    setup = i.setup;
    holding = page_holding old new h i h.pager i.holding.stale view (ap (λ (b : Beside). b.turn) beside ∙ i.holding.hands) i.holding.follows;
    slots = slots ∙ i.slots;
    same = i.same;
    in_hand = i.in_hand;
  }

  abbrev pub quiet_paged : (old new : TurnSeat) (h : TheHome M ghosts) → HasTurn sight t old h → BelongsTo t new → new.id ≡ old.id → page_view new.me.0.view ≡ page_view old.me.0.view → new.me.0.beside ≡ old.me.0.beside → new.me.1 ≡ old.me.1 → Paged sight t old new h
  quiet_paged old new h i belongs id view beside slots = record {
    id = id;
    turn = quiet_turn old new h i belongs view beside slots;
    view = view;
    shown = λ n was hs e. was hs (sym (ap (λ (b : Beside). b.turn) beside) ∙ e);
  }

  some_hands : (a b : Hands) → Some a ≡ Some b → a ≡ b
  some_hands a b e = cc

  -- ---- a step that changes the map of pages
  module _ (old new : TurnSeat) (h : TheHome M ghosts) (i : HasTurn sight t old h) (map : PageMap) (e : Event) (n : ℕ) (to : PagedTo sight t.key e (record h { pager = map }) old.me n new.me)
      (view : page_view (view_after z e old.me.0.view n) ≡ page_view old.me.0.view) (table : new.table_id ≡ old.table_id) (id : new.id ≡ old.id) where
    abbrev before : Hands
    before = record (hands_of sight h i.holding.records i.holding.shown (boxes_held z [])) { lists = i.holding.stale }

    abbrev after : List RedoRecord → Hands
    after rs = record (hands_of sight h rs i.holding.shown (boxes_held z [])) { map = map }

    pub beside_is : new.me.0.beside.turn ≡ Some (after i.holding.records)
    beside_is = to.beside before i.holding.hands ∙ ap (λ (rs : List RedoRecord). Some (after rs)) i.same

    pub page_is : page_view new.me.0.view ≡ page_view old.me.0.view
    page_is = ap page_view to.view ∙ view

    abbrev pub acted_turn : HasTurn sight t new (record h { pager = map })
    acted_turn = record {
      belongs = belongs_on sight t old new i.belongs i.setup table (subst (IsSeated z) (sym to.view) to.told.after);
      setup = i.setup;
      holding = page_holding old new h i map (lists (state_of h.back) i.holding.records) page_is beside_is
          (follows_same z h.next (boxes_held z []) (lists (state_of h.back) i.holding.records) i.holding.known.lawful);
      slots = to.slots ∙ i.slots;
      same = refl;
      in_hand = i.in_hand;
    }

    pub shown_on : (k : ℕ) → HasShown old k → HasShown new k
    shown_on k was hs is =
        let same : after i.holding.records ≡ hs = some_hands (after i.holding.records) hs (sym beside_is ∙ is) in
        sym (ap (λ (a : Hands). a.shown) same) ∙ was before i.holding.hands

    abbrev pub acted_paged : Paged sight t old new (record h { pager = map })
    acted_paged = record { id = id; turn = acted_turn; view = page_is; shown = shown_on }

  -- ---- several steps
  pub then_paged : (old mid new : TurnSeat) (h h2 : TheHome M ghosts) → Paged sight t old mid h → Paged sight t mid new h2 → Paged sight t old new h2
  then_paged old mid new h h2 a b = record { id = b.id ∙ a.id; turn = b.turn; view = b.view ∙ a.view; shown = λ n was. b.shown n (a.shown n was) }

  pub same_paged : (old : TurnSeat) (h : TheHome M ghosts) → HasTurn sight t old h → Paged sight t old old h
  same_paged old h i = record { id = refl; turn = i; view = refl; shown = λ n was. was }

  -- the hand of the pager is where it was
  pub not_moved : (seat : TurnSeat) (h : TheHome M ghosts) → HasTurn sight t seat h → HandMoved sight t seat h
  not_moved seat h i = record { was = h.pager; turn = i; pages = refl; frames = refl; lawful = λ (o : IsOneToOne h.pager). o }

  -- what is settled stays so
  pub settled_on : (old new : TurnSeat) (h h2 : TheHome M ghosts) (n : ℕ) → EndsSettled old h n → Paged sight t old new h2 → state_of h2.back ≡ state_of h.back → EndsSettled new h2 n
  settled_on old new h h2 n ends step same = record {
    is = rw same ends.is;
    reproduced = ap (λ s. s.log.reproduced) same ∙ ends.reproduced;
    durable = ap (λ (v : View). v.turn.durable) step.view ∙ ends.durable;
  }
