-- A pass behind a pump.
use Rattle.std.proofs.Common.{◌≡◌, ℕ, Bool, true, false, ◌||◌, refl, ap, ◌∙◌}
use Rattle.std.specs.Prelude.{Result, Ok, Err, IfOk, IfErr}
use Rattle.atomic_table.specs.declared.shared.Seat.{Seat}
use Rattle.pmem_trait.specs.Sights.{Sight}
use Rattle.pmem_trait.specs.declared.medium.Medium.{Ghosts}
use Rattle.core_events.specs.Views.{View}
use Rattle.core_table.specs.Known.{Known}
use Rattle.core_table.specs.Layout.{TableSight}
use Rattle.core_table.specs.Steps.{BelongsTo}
use Rattle.stm_transactions.specs.declared.pass_numbers.PassNumbers.{PassNumbers}
use Rattle.stm_transactions.specs.Numbers.{after_fault, after_turn, with_turn}
use Rattle.stm_transactions.specs.Passes.{GivesSeat, IsResting, PassSight, is_given, pass_view}
use Rattle.stm_transactions.proofs.Rests.{refused_describes}
use Rattle.stm_slots.specs.Beside.{Beside}
use Rattle.stm_slots.specs.declared.opening.Opening.{Opening}
use Rattle.stm_slots.specs.declared.slot.Slot.{Slot}
use Rattle.stm_turns.specs.Pump.{HasPumped, HasPumpFault}
use Rattle.stm_turns.specs.Turns.{DurableRises}
use Rattle.stm_turns.specs.declared.pumped.Pumped.{Pumped}
use Rattle.stm_turns.specs.declared.pump_fault.PumpFault.{PumpFault}
use Rattle.stm_turns.specs.declared.pump_fault.PumpFault.TheVariants.{Held, Device, Dead}
use Rattle.tiny_stm.specs.Paging.{turn_view}
use Rattle.tiny_stm.specs.Turned.{PumpsPass, numbers_after, turns_after}
use Rattle.tiny_stm.proofs.TurnTaken.{turn_taken}
use Rattle.tiny_stm.proofs.Turns.{Leaves, before, described, held_leaves, turn_leaves}

pub or_false : (b : Bool) → (b || false) ≡ b
or_false true = refl
or_false false = refl

module _ {M : Type 0} {ghosts : Ghosts M} (sight : M → Sight) (t : TableSight (Opening M ghosts)) (p q : PassSight Beside) (s u : Seat (Slot M ghosts) (Known Beside)) (r : IsResting t p) (out : GivesSeat p q s) (b : BelongsTo t u) where
  -- the durable number that the view knows
  abbrev now : ℕ
  now = u.me.0.view.turn.durable

  leaves : (result : Result Pumped PumpFault) (d e : ℕ) → IfOk result (λ pumped. HasPumped sight t pumped s u) → IfErr result (λ fault. HasPumpFault sight t fault s u) → DurableRises d e s u
      → Leaves t (turns_after result (pass_view p).turn.count) p (is_given u (numbers_after result now p.numbers))
  leaves (Ok pumped) d e ok err known =
      let was = before t p q s u r out b in let is = ap turn_view ok.view in
      let met : u.me.0.view.turn.met_fault ≡ p.numbers.met_fault = ap (λ (x : View). x.turn.met_fault) ok.view ∙ (or_false s.me.0.view.turn.met_fault ∙ was.met_fault) in
      turn_leaves t p q s u r out b false is known.rises (after_turn pumped.durable p.numbers)
      (refused_describes t.setup (with_turn pumped.durable p.numbers) u.me.0.view (described t.setup p.numbers s.me.0.view u.me.0.view was false is pumped.durable p.numbers.met_fault true ok.durable met) _)
  leaves (Err (Held seen)) d e ok err known = held_leaves t p q s u r out b seen err.0 err.1
  leaves (Err Device) d e ok err known = let is = ap turn_view err.view in
      turn_leaves t p q s u r out b true is known.rises (after_fault now p.numbers) (described t.setup p.numbers s.me.0.view u.me.0.view (before t p q s u r out b) true is now true true refl err.met_fault)
  leaves (Err Dead) d e ok err known = let is = ap turn_view err.view in
      turn_leaves t p q s u r out b true is known.rises (after_fault now p.numbers) (described t.setup p.numbers s.me.0.view u.me.0.view (before t p q s u r out b) true is now true true refl err.met_fault)

  -- where the call was handed the durable number of n, and e came out of it
  pub pumps : (result : Result Pumped PumpFault) (n f : PassNumbers) (e : ℕ) (w : PassSight Beside) → IfOk result (λ pumped. HasPumped sight t pumped s u) → IfErr result (λ fault. HasPumpFault sight t fault s u) → DurableRises n.durable e s u
      → n ≡ p.numbers → f ≡ numbers_after result e n → w ≡ is_given u f → PumpsPass sight t result p w
  pumps result n f e w ok err known en ef ew =
      turn_taken t p q s u r out b numbers_after turns_after (HasPumped sight t) (HasPumpFault sight t) result n f e w ok err known en ef ew (leaves result n.durable e ok err known)
