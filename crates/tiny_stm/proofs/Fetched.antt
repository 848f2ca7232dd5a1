-- What a turn that brings a page into a frame leaves of the seat that had it.
use Rattle.std.proofs.Common.{◌≡◌, ◌+◌, ◌<◌, ℕ, Bool, true, false, refl, sym, ap, ◌∙◌, subst, arith, []}
use Rattle.std.specs.Prelude.{Some, Result, Ok, Err, IfOk, IfErr, OnOk, OnErr}
use Rattle.pmem_trait.specs.Sights.{Sight}
use Rattle.pmem_trait.specs.declared.medium.Medium.{Ghosts}
use Rattle.atomic_table.specs.declared.shared.Seat.{Seat}
use Rattle.back_store.specs.BackView.{state_of}
use Rattle.core_events.specs.Keyed.{find, has}
use Rattle.core_events.specs.Views.{View}
use Rattle.core_events.specs.Events.{entry, give_turn, view_after}
use Rattle.core_table.specs.Known.{Known}
use Rattle.core_table.specs.Layout.{TableSight}
use Rattle.core_table.specs.Steps.{IsAfter}
use Rattle.stm_slots.specs.Beside.{Beside}
use Rattle.stm_slots.specs.Lists.{IsSettled}
use Rattle.stm_slots.specs.declared.home.Home.{Home as TheHome}
use Rattle.stm_slots.specs.declared.slot.Slot.{Slot}
use Rattle.stm_slots.specs.declared.opening.Opening.{Opening}
use Rattle.stm_turns.specs.Bundles.{NextIsNotDrawn}
use Rattle.stm_turns.specs.Pump.{HadTurn}
use Rattle.stm_turns.specs.Turns.{Advanced, DurableRises, EndsSettled, HasShown, HasTaken, Stepped, SteppedOn}
use Rattle.stm_turns.proofs.Calling.{settled_at, settled_dead}
use Rattle.stm_turns.proofs.Seats.{advanced, then_advanced}
use Rattle.stm_turns.proofs.WholeTurns.{or_true}
use Rattle.tiny_stm.specs.Fetch.{ComesTo, HasFailed, HasFetchFault, HasFetched, HasSettled, IsTurnOf, KeepsTurn, SettledTo}
use Rattle.tiny_stm.specs.Frames.{MayMakeRoom}
use Rattle.tiny_stm.specs.Paging.{FindsEntry, HasTurn, Paged, turn_view}
use Rattle.tiny_stm.proofs.Evicting.{entry_kept}
use Rattle.tiny_stm.proofs.Turning.{settled_on}
use Rattle.tiny_stm.specs.declared.fetch_fault.FetchFault.{FetchFault}
use Rattle.tiny_stm.specs.declared.fetch_fault.FetchFault.TheVariants.{Held, Device, Dead, Behind, AllPinned}

module _ {M : Type 0} {ghosts : Ghosts M} (sight : M → Sight) (t : TableSight (Opening M ghosts)) where
  abbrev TurnSeat : Type 0
  TurnSeat = Seat (Slot M ghosts) (Known Beside)

  -- ---- steps of the turn
  pub turn_same : (old : TurnSeat) (h : TheHome M ghosts) → HasTurn sight t old h → KeepsTurn sight t old old h
  turn_same old h i = record { id = refl; turn = i; view = refl }

  -- other steps of the turn
  pub turn_settled : (before after : ℕ) (old new : TurnSeat) (h : TheHome M ghosts) → Advanced sight t before after old new h [] → KeepsTurn sight t old new h
  turn_settled before after old new h s = record { id = s.id; turn = s.turn; view = ap turn_view s.view }

  -- behind them some that leave the durable number
  pub settled_then : (before after : ℕ) (old mid new : TurnSeat) (h : TheHome M ghosts) → Advanced sight t before after old mid h [] → SteppedOn sight t mid new h h → Advanced sight t before after old new h []
  settled_then before after old mid new h a b = then_advanced sight t before after after old mid new h h [] [] a (advanced sight t after mid new h [] (b [] a.turn))

  -- steps on pages leave it
  pub paged_durable : (before after : ℕ) (old mid new : TurnSeat) (h : TheHome M ghosts) → DurableRises before after old mid → Paged sight t mid new h → DurableRises before after old new
  paged_durable before after old mid new h d s =
      let same = ap (λ (v : View). v.turn.durable) s.view in
      record { rises = (let l = d.rises in omega arith); tells = λ is. same ∙ d.tells is }

  pub turn_paged : (old mid new : TurnSeat) (h h2 : TheHome M ghosts) → KeepsTurn sight t old mid h → Paged sight t mid new h2 → KeepsTurn sight t old new h2
  turn_paged old mid new h h2 a b = record { id = b.id ∙ a.id; turn = b.turn; view = ap turn_view b.view ∙ a.view }

  -- behind a settled turn the reproduced word was raised to its number
  pub settled_raised : (n : ℕ) (old new : TurnSeat) (h : TheHome M ghosts) → EndsSettled old h n → NextIsNotDrawn old n → Stepped sight t old new h [] → new.me.0.view.turn.durable ≡ n → HasShown new n → SettledTo sight t n new h
  settled_raised n old new h ends next step durable shown = record {
    settled = record { is = ends.is; reproduced = ends.reproduced; durable = durable };
    shown = shown;
    next = ap (λ (v : View). has v.drawn (n + 1)) step.view ∙ next;
  }

  pub settled_to_on : (n : ℕ) (old new : TurnSeat) (h h2 : TheHome M ghosts) → SettledTo sight t n old h → Paged sight t old new h2 → state_of h2.back ≡ state_of h.back → SettledTo sight t n new h2
  settled_to_on n old new h h2 s step same = record { settled = settled_on sight t old new h h2 n s.settled step same; shown = step.shown n s.shown; next = ap (λ (v : View). has v.drawn (n + 1)) step.view ∙ s.next }

  -- the page was seen to be absent
  pub absent_room : (page n : ℕ) (old new : TurnSeat) (h : TheHome M ghosts) → Paged sight t old new h → IsAfter t (entry page) old new n → FindsEntry t.setup h.pager page n → n ≡ 0 → page < t.setup.pages → MayMakeRoom sight t page new h
  absent_room page n old new h step view found zero inside = record {
    turn = step.turn;
    map_is = found.map_is;
    absent = record {
      inside = (let e = found.map_is.pages in omega arith);
      seen = entry_kept t.setup old.me.0.view new.me.0.view page n view ∙ ap (λ (d : ℕ). Some d) zero;
      out = λ is. let pos = (found.named is.frame is.holds).0 in absurd (omega arith);
    };
  }

  -- ---- at the end of the turn
  -- a page was placed, or a call of the back failed
  pub placed_comes : (page : ℕ) (result : Result (Unit {0}) FetchFault) (seat : TurnSeat) (h : TheHome M ghosts) (keeps same : Type 0) → (keeps → same → ComesTo sight t page (Ok tt) seat h) → OnOk result keeps → OnOk result same
      → IfErr result (λ fault. fault ≡ Device) → OnErr result ((state_of h.back).dead ≡ true) → ComesTo sight t page result seat h
  placed_comes page (Ok done) seat h keeps same comes kept stays device died = comes kept stays
  placed_comes page (Err fault) seat h keeps same comes kept stays device died = subst (λ f. ComesTo sight t page (Err f) seat h) (sym device) died

  pub settled_comes : (page : ℕ) (result : Result (Unit {0}) FetchFault) (seat : TurnSeat) (h : TheHome M ghosts) → ComesTo sight t page result seat h → IsSettled (state_of h.back)
  settled_comes page (Ok done) seat h c = settled_at (state_of h.back) c.0 c.1.settled.is c.1.settled.reproduced
  settled_comes page (Err (Behind touch reproduced)) seat h c = settled_at (state_of h.back) reproduced c.0.settled.is c.0.settled.reproduced
  settled_comes page (Err (AllPinned last seen)) seat h c = settled_at (state_of h.back) c.0 c.1.settled.is c.1.settled.reproduced
  settled_comes page (Err Device) seat h c = settled_dead (state_of h.back) c
  settled_comes page (Err (Held seen)) seat h c = absurd c
  settled_comes page (Err Dead) seat h c = absurd c

  module _ (old took gave new : TurnSeat) (first last : TheHome M ghosts) (taken : HasTaken sight t old took first) (steps : KeepsTurn sight t took gave last) where
    abbrev pub had_turn : (failed : Bool) → IsAfter t (give_turn failed) gave new 0 → HadTurn sight t (KeepsTurn sight t) failed old new
    had_turn failed is_given = record { took = took; first = first; taken = taken; gave = gave; last = last; steps = steps; is_given = is_given }

    turn_of : (failed : Bool) → IsAfter t (give_turn failed) gave new 0 → IsTurnOf sight t failed old new
    turn_of failed is_given = ap turn_view is_given ∙ (ap (λ (v : View). turn_view (view_after t.setup (give_turn failed) v 0)) steps.view ∙ ap (λ (v : View). turn_view (view_after t.setup (give_turn failed) v 0)) taken.is_after)

    pub has_failed : (was_dead : Bool) → IsAfter t (give_turn true) gave new 0 → (state_of first.back).dead ≡ was_dead → (state_of last.back).dead ≡ true → HasFailed sight t was_dead old new
    has_failed was_dead is_given before after = record {
      turn = had_turn true is_given;
      view = turn_of true is_given;
      before = before;
      after = after;
      met_fault = ap (λ (v : View). v.turn.met_fault) is_given ∙ or_true gave.me.0.view.turn.met_fault;
    }

    has_settled : (n : ℕ) → SettledTo sight t n gave last → IsAfter t (give_turn false) gave new 0 → (state_of first.back).dead ≡ false → HasSettled sight t n old new
    has_settled n s is_given before = record {
      turn = had_turn false is_given;
      view = turn_of false is_given;
      before = before;
      settled = s.settled;
      durable = ap (λ (v : View). v.turn.durable) is_given ∙ s.settled.durable;
      next = ap (λ (v : View). has v.drawn (n + 1)) is_given ∙ s.next;
    }

    module _ (before : (state_of first.back).dead ≡ false) (failed : Bool) (fault : failed ≡ (state_of last.back).dead) (is_given : IsAfter t (give_turn failed) gave new 0) where
      -- the turn was given as one that didn't fail
      given_well : (state_of last.back).dead ≡ false → IsAfter t (give_turn false) gave new 0
      given_well alive = subst (λ (b : Bool). IsAfter t (give_turn b) gave new 0) (fault ∙ alive) is_given

      pub has_fetched : (page : ℕ) (result : Result (Unit {0}) FetchFault) → ComesTo sight t page result gave last → IfOk result (λ done. HasFetched sight t page old new)
      has_fetched page (Ok done) c = let given = given_well c.1.settled.is.alive in record {
        number = c.0;
        settled = has_settled c.0 c.1 given before;
        shown = (c.2.0, ap (λ (v : View). find v.paging.entries page) given ∙ c.2.1, c.2.2);
      }
      has_fetched page (Err e) c = tt

      pub has_fetch_fault : (page : ℕ) (result : Result (Unit {0}) FetchFault) → ComesTo sight t page result gave last → IfErr result (λ e. HasFetchFault sight t page e old new)
      has_fetch_fault page (Ok done) c = tt
      has_fetch_fault page (Err (Behind touch reproduced)) c = let given = given_well c.0.settled.is.alive in record {
        settled = has_settled reproduced c.0 given before;
        touched = ap (λ (v : View). find v.turn.touches page) given ∙ c.1;
        over = c.2;
      }
      has_fetch_fault page (Err (AllPinned final seen)) c = let given = given_well c.1.settled.is.alive in record {
        number = c.0;
        settled = has_settled c.0 c.1 given before;
        pinned = record {
          each = λ f lt. let p = c.2.each f lt in (p.0, p.1, ap (λ (v : View). find v.paging.entries p.0) given ∙ p.2, p.3, p.4);
          last = ap (λ (v : View). find v.paging.entries final) given ∙ c.2.last;
          pins = c.2.pins;
        };
        touch = c.3.0;
        touched = ap (λ (v : View). find v.turn.touches page) given ∙ c.3.1;
        reproduced = c.3.2;
      }
      has_fetch_fault page (Err Device) c = has_failed false (subst (λ (b : Bool). IsAfter t (give_turn b) gave new 0) (fault ∙ c) is_given) before c
      has_fetch_fault page (Err (Held seen)) c = absurd c
      has_fetch_fault page (Err Dead) c = absurd c
