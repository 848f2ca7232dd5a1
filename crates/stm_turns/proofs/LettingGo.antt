-- All records in hand go, one after another.
use Rattle.std.proofs.Common.{◌≡◌, ℕ, ◌+◌, ◌<◌, List, [], ◌∷◌, get_or, set, refl, sym, ap, ◌∙◌, subst, arith}
use Rattle.pmem_trait.specs.Sights.{Sight}
use Rattle.pmem_trait.specs.declared.medium.Medium.{Ghosts}
use Rattle.atomic_table.specs.Table.{turned}
use Rattle.atomic_table.specs.declared.shared.Seat.{Seat}
use Rattle.core_events.specs.Setups.{Setup}
use Rattle.core_table.specs.Known.{Known}
use Rattle.core_table.specs.Layout.{TableSight}
use Rattle.stm_slots.specs.Beside.{Beside}
use Rattle.stm_slots.specs.Opening.{setup_of}
use Rattle.stm_slots.specs.Queues.{place_at}
use Rattle.stm_slots.specs.Turns.{Seated}
use Rattle.stm_slots.specs.declared.home.Home.{Home as TheHome}
use Rattle.stm_slots.specs.declared.slot.Slot.{Slot}
use Rattle.stm_slots.specs.declared.opening.Opening.{Opening}
use Rattle.stm_slots.proofs.Taken.{contains_here, contains_none}
use Rattle.stm_turns.specs.Bundles.{EmptiesFirst, HasEmptied, HasPutBack, IsLetting, MayEmpty, MayEmptyFirst, MayPutBack, WentOver, slots_let}
use Rattle.stm_turns.specs.Gathered.{AreThreads}
use Rattle.stm_turns.specs.Holding.{Held, slots_out}
use Rattle.stm_turns.specs.Turns.{HandedBelow, Stepped, settled_view}
use Rattle.stm_turns.proofs.HeldRecords.{threads_count}
use Rattle.stm_turns.proofs.Holdings.{holding_on}
use Rattle.stm_turns.proofs.Seats.{MayPutFirst, laid_belongs}

module _ {M : Type 0} {ghosts : Ghosts M} (sight : M → Sight) (t : TableSight (Opening M ghosts)) where
  abbrev z : Setup
  z = setup_of sight t.key

  abbrev TurnSeat : Type 0
  TurnSeat = Seat (Slot M ghosts) (Known Beside)

  -- whichever record was taken first, from this place of the thread, it was put back
  abbrev pub PutsFirst : TurnSeat → TurnSeat → TheHome M ghosts → ℕ → ℕ → Type 0
  PutsFirst old new h thread place = (first : Held) (left : List Held) (places : List ℕ) → MayPutBack sight t old h places (first ∷ left) (slots_let sight t (first ∷ left)) → first.thread ≡ thread → first.place ≡ place
      → HasPutBack sight t 1 old new h (set places thread (place_at z place 1)) left

  pub went_then : (old mid new : TurnSeat) → WentOver sight t old mid → WentOver sight t mid new → WentOver sight t old new
  went_then old mid new a b = record { id = b.id ∙ a.id; view = b.view ∙ a.view; handed = λ n below. b.handed n (a.handed n below) }

  -- the same seat, whose slots were turned
  module _ (old new : TurnSeat) (h : TheHome M ghosts) (hand : List Held) (table : new.table_id ≡ old.table_id) (id : new.id ≡ old.id) (me : new.me ≡ (old.me.0, turned old.me.1)) where
    same_known : new.me.0 ≡ old.me.0
    same_known = ap (λ (a : Seated M ghosts). a.0) me

    went_turned : WentOver sight t old new
    went_turned = record { id = id; view = ap (λ (k : Known Beside). settled_view k.view) same_known; handed = λ n below. subst (λ (k : Known Beside). HandedBelow k n) (sym same_known) below }

    abbrev letting_turned : IsLetting sight t old h hand (slots_out sight z hand) → IsLetting sight t new h hand (slots_let sight t hand)
    letting_turned i = record {
      belongs = laid_belongs sight t old new i.belongs table same_known;
      setup = i.setup;
      holding = holding_on sight t.key old.me.0 new.me.0 h hand same_known i.holding;
      slots_are = ap (λ (a : Seated M ghosts). a.1) me ∙ ap turned i.slots_are;
      near = i.near;
      apart = i.apart;
    }

    pub begins_emptying : MayEmpty sight t old h hand (slots_out sight z hand) → HasEmptied sight t 0 old new h hand
    begins_emptying may = record {
      went = went_turned;
      may = record { letting = letting_turned may.letting; ahead = may.ahead; fronts = may.fronts; handed = may.handed };
      fresh = λ none. absurd (omega arith);
    }

    pub begins_putting : (places : List ℕ) → MayPutBack sight t old h places hand (slots_out sight z hand) → HasPutBack sight t 0 old new h places hand
    begins_putting places may = record {
      went = went_turned;
      may = record { letting = letting_turned may.letting; ahead = may.ahead; fronts = may.fronts; lacks = may.lacks };
      fresh = λ none. absurd (omega arith);
    }

  -- no record is left in hand
  none_left : (old new : TurnSeat) (h : TheHome M ghosts) (slots : List (ℕ × Slot M ghosts)) → slots ≡ slots_out sight z [] → WentOver sight t old new → (i : IsLetting sight t new h [] slots) → i.holding.stale.records ≡ i.holding.records → Stepped sight t old new h []
  none_left old new h slots are went i fresh = record {
    id = went.id;
    turn = record { belongs = i.belongs; setup = i.setup; holding = i.holding; slots = i.slots_are ∙ are; same = fresh; in_hand = λ p among. absurd (contains_none p among) };
    view = went.view;
    handed = went.handed;
  }

  -- ---- boxes are emptied
  module _ (old mid : TurnSeat) (h : TheHome M ghosts) (threads : List ℕ) (count i : ℕ) where
    pub may_empty_next : (left : List Held) → AreThreads threads count i left → i < count → HasEmptied sight t i old mid h left → MayEmptyFirst sight t mid h (get_or threads i 0)
    may_empty_next [] are lt e = absurd (let same : i ≡ count = are in omega arith)
    may_empty_next (p ∷ left) are lt e = record { first = p; left = left; may = e.may; thread_is = sym are.0 }

    pub emptied_next : (new : TurnSeat) (h2 : TheHome M ghosts) (left : List Held) → AreThreads threads count i left → i < count → HasEmptied sight t i old mid h left → EmptiesFirst sight t mid new h h2 (get_or threads i 0)
        → (rest_left : List Held) × AreThreads threads count (i + 1) rest_left × HasEmptied sight t (i + 1) old new h2 rest_left
    emptied_next new h2 [] are lt e step = absurd (let same : i ≡ count = are in omega arith)
    emptied_next new h2 (p ∷ left) are lt e step = let s = step p left e.may (sym are.0) in
        (left, are.1, record { went = went_then old mid new e.went s.went; may = s.may; fresh = λ some. s.fresh (omega arith) })

    pub emptied_all : (left : List Held) → AreThreads threads count i left → i ≡ count → 0 < count → HasEmptied sight t i old mid h left → Stepped sight t old mid h []
    emptied_all [] are end some e = none_left old mid h (slots_let sight t []) refl e.went e.may.letting (e.fresh (omega arith))
    emptied_all (p ∷ left) are end some e = absurd (let c = threads_count threads count (i + 1) left are.1 in omega arith)

  -- ---- records are put back
  module _ (old mid : TurnSeat) (h : TheHome M ghosts) (threads : List ℕ) (count i : ℕ) (places : List ℕ) where
    pub may_put_next : (left : List Held) → AreThreads threads count i left → i < count → HasPutBack sight t i old mid h places left → MayPutFirst sight t mid h (get_or threads i 0) (get_or places (get_or threads i 0) 0)
    may_put_next [] are lt e = absurd (let same : i ≡ count = are in omega arith)
    may_put_next (p ∷ left) are lt e = record { first = p; left = left; places = places; may = e.may; thread_is = sym are.0; place_is = e.may.fronts.1 ∙ ap (λ (u : ℕ). get_or places u 0) (sym are.0) }

    pub put_next : (new : TurnSeat) (left : List Held) → AreThreads threads count i left → i < count → HasPutBack sight t i old mid h places left → PutsFirst mid new h (get_or threads i 0) (get_or places (get_or threads i 0) 0)
        → (rest_left : List Held) × AreThreads threads count (i + 1) rest_left × HasPutBack sight t (i + 1) old new h (set places (get_or threads i 0) (place_at z (get_or places (get_or threads i 0) 0) 1)) rest_left
    put_next new [] are lt e step = absurd (let same : i ≡ count = are in omega arith)
    put_next new (p ∷ left) are lt e step = let s = step p left places e.may (sym are.0) (e.may.fronts.1 ∙ ap (λ (u : ℕ). get_or places u 0) (sym are.0)) in
        (left, are.1, record { went = went_then old mid new e.went s.went; may = s.may; fresh = λ some. s.fresh (omega arith) })

    pub put_all : (left : List Held) → AreThreads threads count i left → i ≡ count → 0 < count → HasPutBack sight t i old mid h places left → Stepped sight t old mid h []
    put_all [] are end some e = none_left old mid h (slots_let sight t []) refl e.went e.may.letting (e.fresh (omega arith))
    put_all (p ∷ left) are end some e = absurd (let c = threads_count threads count (i + 1) left are.1 in omega arith)

    -- where a record is left, its thread and place are ones that there are
    pub next_inside : (left : List Held) → AreThreads threads count i left → i < count → HasPutBack sight t i old mid h places left → (get_or threads i 0 < z.threads) × (get_or places (get_or threads i 0) 0 < z.boxes)
    next_inside [] are lt e = absurd (let same : i ≡ count = are in omega arith)
    next_inside (p ∷ left) are lt e = (
      subst (λ (u : ℕ). u < z.threads) (sym are.0) e.may.fronts.0,
      subst (λ (j : ℕ). j < z.boxes) (e.may.fronts.1 ∙ ap (λ (u : ℕ). get_or places u 0) (sym are.0)) (e.may.letting.near p (contains_here p left)),
    )
