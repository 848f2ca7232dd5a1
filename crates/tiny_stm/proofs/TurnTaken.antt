-- What a call that takes the turn leaves of its pass, from what it answers.
use Rattle.std.proofs.Common.{◌≡◌, ℕ, refl, sym, ap, ◌∙◌, subst}
use Rattle.std.specs.Prelude.{Result, Ok, Err, IfOk, IfErr}
use Rattle.atomic_table.specs.declared.shared.Seat.{Seat}
use Rattle.core_table.specs.Known.{Known}
use Rattle.core_table.specs.Layout.{TableSight}
use Rattle.core_table.specs.Steps.{BelongsTo}
use Rattle.stm_slots.specs.Beside.{Beside}
use Rattle.stm_transactions.specs.declared.pass_numbers.PassNumbers.{PassNumbers}
use Rattle.stm_transactions.specs.Passes.{GivesSeat, IsResting, PassSight, is_given, pass_view}
use Rattle.stm_turns.specs.Turns.{DurableRises}
use Rattle.tiny_stm.specs.Turned.{BySeat, TookTurn}
use Rattle.tiny_stm.proofs.Turns.{Leaves, before}

module _ {S K A F : Type 0} (t : TableSight K) (p q : PassSight Beside) (s u : Seat S (Known Beside)) (r : IsResting t p) (out : GivesSeat p q s) (b : BelongsTo t u)
    (numbers_by : Result A F → ℕ → PassNumbers → PassNumbers) (turns_by : Result A F → ℕ → ℕ) (Does : A → Seat S (Known Beside) → Seat S (Known Beside) → Type 0) (Fails : F → Seat S (Known Beside) → Seat S (Known Beside) → Type 0) where
  -- the numbers by the durable number that the view knows
  abbrev numbers_now : Result A F → PassNumbers
  numbers_now result = numbers_by result u.me.0.view.turn.durable p.numbers

  by_seat : (does : Seat S (Known Beside) → Seat S (Known Beside) → Type 0) (f : PassNumbers) → does s u → BySeat does p (is_given u f)
  by_seat does f did = record { old = s; new = u; was = out.known; is = refl; did = did }

  ok_by : (result : Result A F) (f : PassNumbers) → IfOk result (λ answer. Does answer s u) → IfOk result (λ answer. BySeat (Does answer) p (is_given u f))
  ok_by (Ok answer) f ok = by_seat (Does answer) f ok
  ok_by (Err fault) f ok = ok

  err_by : (result : Result A F) (f : PassNumbers) → IfErr result (λ fault. Fails fault s u) → IfErr result (λ fault. BySeat (Fails fault) p (is_given u f))
  err_by (Ok answer) f err = err
  err_by (Err fault) f err = by_seat (Fails fault) f err

  -- where the call was handed the durable number of n, and e came out of it
  pub turn_taken : (result : Result A F) (n f : PassNumbers) (e : ℕ) (w : PassSight Beside) → IfOk result (λ answer. Does answer s u) → IfErr result (λ fault. Fails fault s u) → DurableRises n.durable e s u
      → n ≡ p.numbers → f ≡ numbers_by result e n → w ≡ is_given u f → Leaves t (turns_by result (pass_view p).turn.count) p (is_given u (numbers_now result)) → TookTurn t numbers_by turns_by Does Fails result p w
  turn_taken result n f e w ok err known en ef ew left =
      let told : u.me.0.view.turn.durable ≡ e = known.tells ((before t p q s u r out b).durable ∙ sym (ap (λ (x : PassNumbers). x.durable) en)) in
      let g : f ≡ numbers_now result = ef ∙ (ap (λ (d : ℕ). numbers_by result d n) (sym told) ∙ ap (numbers_by result u.me.0.view.turn.durable) en) in
      subst (TookTurn t numbers_by turns_by Does Fails result p) (sym (ew ∙ ap (is_given u) g))
      (record { rests = left.rests; stays = left.stays; numbers = refl; turns = left.turns; ok = ok_by result (numbers_now result) ok; err = err_by result (numbers_now result) err })
