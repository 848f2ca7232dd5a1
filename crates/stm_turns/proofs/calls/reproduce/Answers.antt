use Rattle.std.proofs.Common.{subst, arith, refl, ℕ}
use Rattle.back_store.specs.Answers.{reproduced}
use Rattle.back_store.specs.Backlog.{StopsAfter}
use Rattle.back_store.specs.BackView.{state_of}
use Rattle.stm_slots.specs.Opening.{setup_of, since_of}
use Rattle.stm_turns.proofs.Calling.{reproduce_goes, reproduced_ok, stops_at_durable, lanes_of_threads, called_turn}
use Rattle.back_store.specs.Back.{BackState}
use Rattle.stm_turns.specs.Turns.{IsPast}
use Rattle.stm_turns.proofs.Faults.{dead_after, fails_by, hands_on}
use Rattle.stm_turns.proofs.Past.{past_reproduced}
use Rattle.std.proofs.Common.{sym}
use Rattle.stm_turns.proofs.Seats.{same_turn}
use Rattle.stm_turns.proofs.calls.reproduce.Goals as goal

pub returns-in_err-number-clause-step : goal.returns-in_err-number-clause-step
returns-in_err-number-clause-step g c =
    let t = c.args.events.now in let seat = c.args.seat.now in let h = c.args.home.now in let sight = g.M.Medium.sight in let a = c.reproduce in let b = a.new.back in let z = setup_of sight t.key in
    λ hand i.
    same_turn sight t seat (record h { back = b }) hand (called_turn sight t seat h hand i b (a.ensures.known (since_of sight t.key) i.holding.records i.holding.known)
    (reproduce_goes z.threads z.first (state_of h.back) i.holding.records i.holding.known.lawful (state_of b) c.durable-durable.result a.result a.ensures.answer a.ensures.state (lanes_of_threads sight t seat h hand i)))

pub raise_reproduced-requires-clause-turn : goal.raise_reproduced-requires-clause-turn
raise_reproduced-requires-clause-turn g c =
    let t = c.args.events.now in let seat = c.args.seat.now in let h = c.args.home.now in let sight = g.M.Medium.sight in let a = c.reproduce in let b = a.new.back in let z = setup_of sight t.key in
    let hand = c.requires.turn.0 in let i = c.requires.turn.1 in (
      hand,
      called_turn sight t seat h hand i b (a.ensures.known (since_of sight t.key) i.holding.records i.holding.known)
          (reproduce_goes z.threads z.first (state_of h.back) i.holding.records i.holding.known.lawful (state_of b) c.durable-durable.result a.result a.ensures.answer a.ensures.state (lanes_of_threads sight t seat h hand i)),
    )

pub raise_reproduced-requires-clause-raised : goal.raise_reproduced-requires-clause-raised
raise_reproduced-requires-clause-raised g c =
    let t = c.args.events.now in let h = c.args.home.now in let sight = g.M.Medium.sight in let z = setup_of sight t.key in
    let i = c.requires.turn.1 in let ok = c.in_ok-number in
    let stop = subst (λ (d : ℕ). StopsAfter (state_of h.back).log d ok.number) c.durable-durable.ensures.number ok.ensures.answer in
    let n_is = stops_at_durable z.threads z.first (state_of h.back) i.holding.records i.holding.known.lawful ok.number stop in let told = c.requires.announced.durable in omega arith

pub raise_reproduced-requires-clause-number : goal.raise_reproduced-requires-clause-number
raise_reproduced-requires-clause-number g c =
    let t = c.args.events.now in let h = c.args.home.now in let sight = g.M.Medium.sight in let a = c.reproduce in let b = a.new.back in let z = setup_of sight t.key in
    let i = c.requires.turn.1 in let ok = c.in_ok-number in let d = c.args.seat.now.me.0.view.turn.durable in
    let stop = subst (λ (d : ℕ). StopsAfter (state_of h.back).log d ok.number) c.durable-durable.ensures.number ok.ensures.answer in
    (reproduced_ok z.threads z.first (state_of h.back) i.holding.records i.holding.known.lawful (state_of b) d ok.number c.requires.announced stop ok.ensures.state).reproduced

pub returns-clause-step : goal.returns-clause-step
returns-clause-step g c =
    let t = c.args.events.now in let seat = c.args.seat.now in let h = c.args.home.now in let sight = g.M.Medium.sight in let a = c.reproduce in let b = a.new.back in let z = setup_of sight t.key in
    λ hand i.
    c.raise_reproduced.ensures.step hand (called_turn sight t seat h hand i b (a.ensures.known (since_of sight t.key) i.holding.records i.holding.known)
    (reproduce_goes z.threads z.first (state_of h.back) i.holding.records i.holding.known.lawful (state_of b) c.durable-durable.result a.result a.ensures.answer a.ensures.state (lanes_of_threads sight t seat h hand i)))

pub returns-clause-ok : goal.returns-clause-ok
returns-clause-ok g c =
    let t = c.args.events.now in let h = c.args.home.now in let sight = g.M.Medium.sight in let a = c.reproduce in let b = a.new.back in let z = setup_of sight t.key in
    let i = c.requires.turn.1 in let ok = c.in_ok-number in let d = c.args.seat.now.me.0.view.turn.durable in
    let stop = subst (λ (d : ℕ). StopsAfter (state_of h.back).log d ok.number) c.durable-durable.ensures.number ok.ensures.answer in
    let e = reproduced_ok z.threads z.first (state_of h.back) i.holding.records i.holding.known.lawful (state_of b) d ok.number c.requires.announced stop ok.ensures.state in
    record { is = e.is; reproduced = e.reproduced; durable = c.raise_reproduced.ensures.raised }

pub returns-clause-past : goal.returns-clause-past
returns-clause-past g c =
    let t = c.args.events.now in let h = c.args.home.now in let sight = g.M.Medium.sight in let a = c.reproduce in let b = a.new.back in let z = setup_of sight t.key in
    let i = c.requires.turn.1 in let ok = c.in_ok-number in
    let stop = subst (λ (d : ℕ). StopsAfter (state_of h.back).log d ok.number) c.durable-durable.ensures.number ok.ensures.answer in
    let n_is = stops_at_durable z.threads z.first (state_of h.back) i.holding.records i.holding.known.lawful ok.number stop in
    λ thread low past. subst (λ (u : BackState). IsPast u thread low) (sym ok.ensures.state) (past_reproduced z.first (state_of h.back) i.holding.records i.holding.known.lawful ok.number thread low (omega arith) past)

pub returns-clause-places : goal.returns-clause-places
returns-clause-places g c =
    let t = c.args.events.now in let h = c.args.home.now in let seat = c.args.seat.now in let sight = g.M.Medium.sight in let a = c.reproduce in let b = a.new.back in let z = setup_of sight t.key in let hand = c.requires.turn.0 in let i = c.requires.turn.1 in
    record { next = refl; sizes = (reproduce_goes z.threads z.first (state_of h.back) i.holding.records i.holding.known.lawful (state_of b) c.durable-durable.result a.result a.ensures.answer a.ensures.state (lanes_of_threads sight t seat h hand i)).sizes }

pub returns-in_err-number-clause-places : goal.returns-in_err-number-clause-places
returns-in_err-number-clause-places g c =
    let t = c.args.events.now in let h = c.args.home.now in let seat = c.args.seat.now in let sight = g.M.Medium.sight in let a = c.reproduce in let b = a.new.back in let z = setup_of sight t.key in let hand = c.requires.turn.0 in let i = c.requires.turn.1 in
    record { next = refl; sizes = (reproduce_goes z.threads z.first (state_of h.back) i.holding.records i.holding.known.lawful (state_of b) c.durable-durable.result a.result a.ensures.answer a.ensures.state (lanes_of_threads sight t seat h hand i)).sizes }

pub returns-in_err-number-clause-cause : goal.returns-in_err-number-clause-cause
returns-in_err-number-clause-cause g c =
    let v = state_of c.args.home.now.back in let w = state_of c.reproduce.new.back in let fault = c.in_err-number.field-0.0 in
    let is = fails_by _ c.args.home.now.back c.reproduce.new.back c.in_err-number.ensures.cause in
    hands_on c.from_residual.result fault v w c.from_residual.ensures.1 is (dead_after fault (reproduced v) v w is c.in_err-number.ensures.state)
