-- What a whole pass over the boxes leaves, and that it ends.
use Rattle.std.proofs.Common.{◌≡◌, ℕ, ◌+◌, ◌<◌, ◌≤◌, true, List, [], ◌∷◌, get_or, refl, sym, ap, ◌∙◌, subst, ⊎_elim, arith}
use Rattle.std.specs.Prelude.{Option, Some, None}
use Rattle.std.specs.List.{Contains}
use Rattle.std.proofs.lemmas.Bool.{true≢false}
use Rattle.dude_base.specs.declared.limits.TheConstants.{MAX_NUMBER}
use Rattle.dude_base.specs.Records.{RedoRecord}
use Rattle.pmem_trait.specs.Sights.{Sight}
use Rattle.pmem_trait.specs.declared.medium.Medium.{Ghosts}
use Rattle.back_store.specs.Back.{BackState}
use Rattle.back_store.specs.BackView.{state_of}
use Rattle.atomic_table.specs.declared.shared.Seat.{Seat}
use Rattle.core_events.specs.Keyed.{has}
use Rattle.core_events.specs.Setups.{Setup}
use Rattle.core_events.specs.Views.{View}
use Rattle.core_table.specs.Known.{Known}
use Rattle.core_table.specs.Layout.{TableSight}
use Rattle.stm_slots.specs.KnownLists.{LawfulLists, lists}
use Rattle.stm_slots.specs.Records.{HasRecord, LacksRecord}
use Rattle.stm_slots.proofs.JoinedRecords.{lacks_from, over_reached}
use Rattle.stm_slots.proofs.Lawful.{waits_over}
use Rattle.stm_slots.specs.Beside.{Hands, Beside}
use Rattle.stm_slots.specs.Opening.{setup_of}
use Rattle.stm_slots.specs.declared.home.Home.{Home as TheHome}
use Rattle.stm_slots.specs.declared.slot.Slot.{Slot}
use Rattle.stm_slots.specs.declared.opening.Opening.{Opening}
use Rattle.stm_slots.proofs.Taken.{contains_here}
use Rattle.stm_turns.specs.Bundles.{InTurnWith, NextIsNotDrawn, SteppedWith}
use Rattle.stm_turns.specs.Gathered.{BeginsWith, IsGathered}
use Rattle.stm_turns.specs.Holding.{Held, boxes_held, hands_of}
use Rattle.stm_turns.specs.Turns.{Advanced, AdvancedOn, EndsSettled, HandedBelow, InTurn, IsAnnounced, IsNoLess, IsOwn, IsPast, KeepsPast, RisesTo, Stepped, SteppedOn, found_in, raised_view, settled_view}
use Rattle.stm_turns.specs.declared.gathering.Gathering.{Gathering}
use Rattle.stm_turns.proofs.Calling.{lanes_of_threads, not_true}
use Rattle.stm_turns.proofs.Gatherings.{gathered_one}
use Rattle.stm_turns.proofs.Past.{past_small}
use Rattle.stm_turns.proofs.Bundling.{then_advanced_bare, then_with, with_of}
use Rattle.stm_turns.proofs.NextRecords.{looked_with}
use Rattle.stm_turns.proofs.Seats.{then_advanced}

-- where all is announced and in the home, the next number wasn't handed over
next_lacks : (first : ℕ) (v : BackState) (rs : List RedoRecord) → LawfulLists first (lists v rs) → (n : ℕ) → IsAnnounced v n → v.log.reproduced ≡ n → LacksRecord rs (n + 1)
next_lacks first v rs lawful n a reproduced = lacks_from rs (n + 1) (λ h.
    let w = (lawful.live a.alive).logged (n + 1) h (omega arith) in let over = waits_over v.log lawful.log w.0 w.1 in let low = w.2.low in
    a.next w.0 w.1 (omega arith))

-- the seat is of its thread still, where what steps of the turn leave of its view is the same
pub own_still : {S : Type 0} (thread : ℕ) (old new : Seat S (Known Beside)) → raised_view new.me.0.view ≡ raised_view old.me.0.view → IsOwn thread old → IsOwn thread new
own_still thread old new same own = (ap (λ (v : View). v.part.thread) same ∙ own.0, ap (λ (v : View). v.tx.hand.number) same ∙ own.1)

-- nor behind steps of the turn
pub not_drawn_on : {S : Type 0} (old new : Seat S (Known Beside)) (n : ℕ) → settled_view new.me.0.view ≡ settled_view old.me.0.view → NextIsNotDrawn old n → NextIsNotDrawn new n
not_drawn_on old new n same is = ap (λ (v : View). has v.drawn (n + 1)) same ∙ is

-- a bundle more: the greatest number that is past rises
pub past_more : (own n : ℕ) (v w : BackState) → (low : ℕ) × IsPast v own low × (n ≤ low) → (m : ℕ) × RisesTo m own v w → (low : ℕ) × IsPast w own low × (n + 1 ≤ low)
past_more own n v w past risen = let lt = risen.1.over past.0 past.1 in let le = past.2 in (risen.0, risen.1.past, (omega arith))

-- it is past behind calls that keep that
pub rises_on : (m own : ℕ) (u v w : BackState) → RisesTo m own u v → KeepsPast v w → RisesTo m own u w
rises_on m own u v w r keeps = record { over = r.over; past = keeps own m r.past }

module _ {M : Type 0} {ghosts : Ghosts M} (sight : M → Sight) (t : TableSight (Opening M ghosts)) where
  abbrev z : Setup
  z = setup_of sight t.key

  abbrev TurnSeat : Type 0
  TurnSeat = Seat (Slot M ghosts) (Known Beside)

  -- no number that is past is over the greatest one
  pub none_over : (seat : TurnSeat) (h : TheHome M ghosts) (i : InTurn sight t seat h []) (thread n : ℕ) → thread < t.setup.threads → MAX_NUMBER < n → (low : ℕ) × IsPast (state_of h.back) thread low × (n ≤ low) → ⊥
  none_over seat h i thread n inside over past =
      let lt : thread < z.threads = rw i.setup at inside in let wide = lanes_of_threads sight t seat h [] i in
      let small = past_small z.first (state_of h.back) i.holding.records i.holding.known.lawful thread past.0 (omega arith) past.1 in let le = past.2 in absurd (omega arith)

  -- ---- the next number isn't one that the view drew, where it isn't in front of the own boxes
  module _ (seat : TurnSeat) (h : TheHome M ghosts) (hand : List Held) (i : InTurn sight t seat h hand) (n : ℕ) (a : IsAnnounced (state_of h.back) n) (reproduced : (state_of h.back).log.reproduced ≡ n) where
    lacking : LacksRecord i.holding.records (n + 1)
    lacking = next_lacks z.first (state_of h.back) i.holding.records i.holding.known.lawful n a reproduced

    abbrev kept : Hands
    kept = record (hands_of sight h i.holding.records i.holding.shown (boxes_held z hand)) { lists = i.holding.stale }

    drawn_below : (m : Option ℕ) → HandedBelow seat.me.0 m → has seat.me.0.view.drawn (n + 1) ≡ true → IsNoLess m (n + 1)
    drawn_below m below drawn = ⊎_elim
        (λ h. absurd (true≢false (sym (subst (λ rs. HasRecord rs (n + 1)) i.same h) ∙ lacking)))
        (λ le. le)
        (below kept i.holding.hands (n + 1) drawn)

    pub not_drawn_none : HandedBelow seat.me.0 None → NextIsNotDrawn seat n
    not_drawn_none below = not_true (has seat.me.0.view.drawn (n + 1)) (λ drawn. drawn_below None below drawn)

    pub not_drawn_some : (r : RedoRecord) (p : Held) → p.redo ≡ r → hand ≡ p ∷ [] → HandedBelow seat.me.0 (Some r.number) → (r.number ≡ n + 1 → ⊥) → NextIsNotDrawn seat n
    not_drawn_some r p is hand_is below other = not_true (has seat.me.0.view.drawn (n + 1)) (λ drawn.
        let le = drawn_below (Some r.number) below drawn in
        let held = i.in_hand p (subst (λ (l : List Held). Contains l p) (sym hand_is) (contains_here p [])) in
        let over = over_reached z.first (state_of h.back).log.durable p.redo.number i.holding.records held.may.over (held.may.lacks a.alive) (i.holding.known.lawful.live a.alive).reached in
        let same : p.redo.number ≡ r.number = ap (λ (q : RedoRecord). q.number) is in let d = a.durable in other (omega arith))

  -- ---- a gathering begins
  begun_gathered : (seat : TurnSeat) (h : TheHome M ghosts) (thread boxes : ℕ) (r : RedoRecord) (g : Gathering) → (i : InTurn sight t seat h (found_in thread h.next (Some r))) → boxes ≡ z.boxes → BeginsWith thread r h.next boxes g
      → IsGathered z h.next (state_of h.back).log.sizes.cells (found_in thread h.next (Some r)) g
  begun_gathered seat h thread boxes r g i same b =
      let p : Held = record { thread = thread; place = get_or h.next thread 0; redo = r } in let held = i.in_hand p (contains_here p []) in
      let cells = i.holding.known.lawful.log.accepted.cells.low in let few = held.may.list.few in
      gathered_one z (lists (state_of h.back) i.holding.records) h.next (state_of h.back).log.sizes.cells boxes p g held refl same b (omega arith)

  pub begun : (seat : TurnSeat) (h : TheHome M ghosts) (thread boxes : ℕ) (r : RedoRecord) (g : Gathering) → (i : InTurn sight t seat h (found_in thread h.next (Some r))) → boxes ≡ z.boxes → BeginsWith thread r h.next boxes g → InTurnWith sight t seat h g
  begun seat h thread boxes r g i same b = record { hand = found_in thread h.next (Some r); turn = i; gathered = begun_gathered seat h thread boxes r g i same b }

  pub begun_steps : (old seat : TurnSeat) (h : TheHome M ghosts) (thread boxes : ℕ) (r : RedoRecord) (g : Gathering) → Stepped sight t old seat h (found_in thread h.next (Some r)) → boxes ≡ z.boxes → BeginsWith thread r h.next boxes g → SteppedWith sight t old seat h g
  begun_steps old seat h thread boxes r g s same b =
      record { hand = found_in thread h.next (Some r); step = s; gathered = begun_gathered seat h thread boxes r g s.turn same b }

  -- a bundle was gathered and persisted, or its records are in their boxes again
  bundle_steps : (before after : ℕ) (old seat looked gathered new : TurnSeat) (h h2 : TheHome M ghosts) (g g2 : Gathering) → SteppedWith sight t old seat h g → SteppedOn sight t seat looked h h → SteppedWith sight t looked gathered h g2 → Advanced sight t before after gathered new h2 [] → Advanced sight t before after old new h2 []
  bundle_steps before after old seat looked gathered new h h2 g g2 a b c d =
      then_advanced_bare sight t before after old gathered new h h2 g2 (then_with sight t old looked gathered h h g g2 (then_with sight t old seat looked h h g g a (looked_with sight t seat h g (with_of sight t old seat h g a) looked b)) c) d

  -- one that begins with the front record of a thread
  pub front_steps : (before after : ℕ) (old seat looked gathered new : TurnSeat) (h h2 : TheHome M ghosts) (thread boxes : ℕ) (r : RedoRecord) (g g2 : Gathering) → Stepped sight t old seat h (found_in thread h.next (Some r)) → boxes ≡ t.setup.boxes → BeginsWith thread r h.next boxes g
      → SteppedOn sight t seat looked h h → SteppedWith sight t looked gathered h g2 → Advanced sight t before after gathered new h2 [] → Advanced sight t before after old new h2 []
  front_steps before after old seat looked gathered new h h2 thread boxes r g g2 s same b =
      bundle_steps before after old seat looked gathered new h h2 g g2 (begun_steps old seat h thread boxes r g s (same ∙ ap (λ (y : Setup). y.boxes) s.turn.setup) b)

  -- and all that leads on was announced and reproduced
  pub front_settled : (before mid after : ℕ) (old seat looked gathered put new : TurnSeat) (h h2 h3 : TheHome M ghosts) (thread boxes : ℕ) (r : RedoRecord) (g g2 : Gathering) → Stepped sight t old seat h (found_in thread h.next (Some r)) → boxes ≡ t.setup.boxes → BeginsWith thread r h.next boxes g
      → SteppedOn sight t seat looked h h → SteppedWith sight t looked gathered h g2 → Advanced sight t before mid gathered put h2 [] → AdvancedOn sight t mid after put new h2 h3 → Advanced sight t before after old new h3 []
  front_settled before mid after old seat looked gathered put new h h2 h3 thread boxes r g g2 s same b l x y d =
      let whole = front_steps before mid old seat looked gathered put h h2 thread boxes r g g2 s same b l x y in then_advanced sight t before mid after old put new h2 h3 [] [] whole (d [] whole.turn)

  -- the durable number that a seat knows is that of the back still
  pub still_settled : (old new : TurnSeat) (h : TheHome M ghosts) (n : ℕ) → EndsSettled old h n → settled_view new.me.0.view ≡ settled_view old.me.0.view → EndsSettled new h n
  still_settled old new h n e same = record { is = e.is; reproduced = e.reproduced; durable = ap (λ (v : View). v.turn.durable) same ∙ e.durable }
