-- A pass behind a fetch.
use Rattle.std.proofs.Common.{◌≡◌, ℕ, Bool, true, false, refl, ap, ◌∙◌}
use Rattle.std.specs.Prelude.{Result, Ok, Err, IfOk, IfErr}
use Rattle.atomic_table.specs.declared.shared.Seat.{Seat}
use Rattle.pmem_trait.specs.Sights.{Sight}
use Rattle.pmem_trait.specs.declared.medium.Medium.{Ghosts}
use Rattle.core_events.specs.Views.{View}
use Rattle.core_table.specs.Known.{Known}
use Rattle.core_table.specs.Layout.{TableSight}
use Rattle.core_table.specs.Steps.{BelongsTo}
use Rattle.stm_transactions.specs.declared.pass_numbers.PassNumbers.{PassNumbers}
use Rattle.stm_transactions.specs.Numbers.{after_fault, with_refusals, with_turn}
use Rattle.stm_transactions.specs.Passes.{Describes, GivesSeat, IsResting, PassSight, is_given, pass_view}
use Rattle.stm_transactions.proofs.Rests.{refused_describes}
use Rattle.stm_slots.specs.Beside.{Beside}
use Rattle.stm_slots.specs.declared.opening.Opening.{Opening}
use Rattle.stm_slots.specs.declared.slot.Slot.{Slot}
use Rattle.stm_turns.specs.Turns.{DurableRises}
use Rattle.tiny_stm.specs.Fetch.{HasFailed, HasFetched, HasFetchFault, HasSettled}
use Rattle.tiny_stm.specs.declared.fetch_fault.FetchFault.{FetchFault}
use Rattle.tiny_stm.specs.declared.fetch_fault.FetchFault.TheVariants.{Held, Device, Dead, Behind, AllPinned}
use Rattle.tiny_stm.specs.Turned.{FetchesPage, numbers_fetched, turns_fetched}
use Rattle.tiny_stm.proofs.Pumps.{or_false}
use Rattle.tiny_stm.proofs.TurnTaken.{turn_taken}
use Rattle.tiny_stm.proofs.Turns.{Leaves, before, described, held_leaves, turn_leaves}

module _ {M : Type 0} {ghosts : Ghosts M} (sight : M → Sight) (t : TableSight (Opening M ghosts)) (page : ℕ) (p q : PassSight Beside) (s u : Seat (Slot M ghosts) (Known Beside)) (r : IsResting t p) (out : GivesSeat p q s) (b : BelongsTo t u) where
  -- the durable number that the view knows
  abbrev now : ℕ
  now = u.me.0.view.turn.durable

  -- a turn that settled all that it could
  settled_describes : (n : ℕ) → HasSettled sight t n s u → Describes t.setup (with_turn now p.numbers) u.me.0.view
  settled_describes n h =
      let was = before t p q s u r out b in
      let met : u.me.0.view.turn.met_fault ≡ p.numbers.met_fault = ap (λ (x : View). x.turn.met_fault) h.view ∙ (or_false s.me.0.view.turn.met_fault ∙ was.met_fault) in
      described t.setup p.numbers s.me.0.view u.me.0.view was false h.view now p.numbers.met_fault true refl met

  module _ (d e : ℕ) (known : DurableRises d e s u) where
    settled_leaves : (n : ℕ) → HasSettled sight t n s u → Leaves t (turns_fetched (Ok tt) (pass_view p).turn.count) p (is_given u (with_turn now p.numbers))
    settled_leaves n h = turn_leaves t p q s u r out b false h.view known.rises (with_turn now p.numbers) (settled_describes n h)

    refused_leaves : (n : ℕ) → HasSettled sight t n s u → Leaves t (turns_fetched (Ok tt) (pass_view p).turn.count) p (is_given u (with_refusals 1 (with_turn now p.numbers)))
    refused_leaves n h = turn_leaves t p q s u r out b false h.view known.rises (with_refusals 1 (with_turn now p.numbers)) (refused_describes t.setup (with_turn now p.numbers) u.me.0.view (settled_describes n h) 1)

    failed_leaves : (was_dead : Bool) → HasFailed sight t was_dead s u → Leaves t (turns_fetched (Ok tt) (pass_view p).turn.count) p (is_given u (after_fault now p.numbers))
    failed_leaves was_dead h = turn_leaves t p q s u r out b true h.view known.rises (after_fault now p.numbers) (described t.setup p.numbers s.me.0.view u.me.0.view (before t p q s u r out b) true h.view now true true refl h.met_fault)

    leaves : (result : Result (Unit {0}) FetchFault) → IfOk result (λ done. HasFetched sight t page s u) → IfErr result (λ fault. HasFetchFault sight t page fault s u) → Leaves t (turns_fetched result (pass_view p).turn.count) p (is_given u (numbers_fetched result now p.numbers))
    leaves (Ok done) ok err = settled_leaves ok.number ok.settled
    leaves (Err (Held seen)) ok err = held_leaves t p q s u r out b seen err.0 err.1
    leaves (Err (Behind touch reproduced)) ok err = refused_leaves reproduced err.settled
    leaves (Err (AllPinned last seen)) ok err = refused_leaves err.number err.settled
    leaves (Err Device) ok err = failed_leaves false err
    leaves (Err Dead) ok err = failed_leaves true err

  -- where the call was handed the durable number of n, and e came out of it
  pub fetches : (result : Result (Unit {0}) FetchFault) (n f : PassNumbers) (e : ℕ) (w : PassSight Beside) → IfOk result (λ done. HasFetched sight t page s u) → IfErr result (λ fault. HasFetchFault sight t page fault s u) → DurableRises n.durable e s u
      → n ≡ p.numbers → f ≡ numbers_fetched result e n → w ≡ is_given u f → FetchesPage sight t page result p w
  fetches result n f e w ok err known en ef ew =
      turn_taken t p q s u r out b numbers_fetched turns_fetched (λ done. HasFetched sight t page) (HasFetchFault sight t page) result n f e w ok err known en ef ew (leaves n.durable e known result ok err)
