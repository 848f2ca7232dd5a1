use Rattle.std.proofs.Common.{refl, sym, ◌∙◌, subst}
use Rattle.back_store.specs.Answers.{announced}
use Rattle.back_store.specs.BackView.{state_of}
use Rattle.stm_slots.specs.Opening.{setup_of, since_of}
use Rattle.stm_turns.specs.Turns.{IsAnnounced}
use Rattle.stm_turns.proofs.Past.{keeps_announced, then_past}
use Rattle.stm_turns.proofs.Faults.{dead_after, fails_by, fails_still, hands_on}
use Rattle.stm_turns.proofs.Calling.{alive_unless, announce_goes, announced_ok, called_turn}
use Rattle.stm_turns.proofs.Seats.{advanced, same_turn, then_advanced}
use Rattle.stm_turns.proofs.calls.catch_up.Goals as goal

pub returns-in_err-number-clause-step : goal.returns-in_err-number-clause-step
returns-in_err-number-clause-step g c =
    let t = c.args.events.now in let seat = c.args.seat.now in let h = c.args.home.now in let sight = g.M.Medium.sight in let a = c.announce in let b = a.new.back in let z = setup_of sight t.key in
    λ hand i.
    advanced sight t c.args.durable.now seat seat (record h { back = b }) hand (same_turn sight t seat (record h { back = b }) hand (called_turn sight t seat h hand i b (a.ensures.known (since_of sight t.key) i.holding.records i.holding.known)
    (announce_goes z.threads z.first (state_of h.back) i.holding.records i.holding.known.lawful (state_of b) a.result a.ensures.answer a.ensures.state a.ensures.cause.dead)))

pub raise_durable-requires : goal.raise_durable-requires
raise_durable-requires g c =
    let t = c.args.events.now in let seat = c.args.seat.now in let h = c.args.home.now in let sight = g.M.Medium.sight in let a = c.announce in let b = a.new.back in let z = setup_of sight t.key in
    let hand = c.requires.turn.0 in let i = c.requires.turn.1 in let ok = c.in_ok-number in
    let e = announced_ok z.threads z.first (state_of h.back) i.holding.records i.holding.known.lawful (state_of b) ok.number a.result ok.was ok.ensures.answer ok.ensures.state a.ensures.cause.dead in
    record {
      raise = record {
        hand = hand;
        turn = called_turn sight t seat h hand i b (a.ensures.known (since_of sight t.key) i.holding.records i.holding.known)
            (announce_goes z.threads z.first (state_of h.back) i.holding.records i.holding.known.lawful (state_of b) a.result a.ensures.answer a.ensures.state a.ensures.cause.dead);
        alive = e.is.alive;
        durable = e.is.durable;
        reached = e.reached;
      };
    }

pub reproduce-requires-clause-turn : goal.reproduce-requires-clause-turn
reproduce-requires-clause-turn g c =
    let t = c.args.events.now in let seat = c.args.seat.now in let h = c.args.home.now in let sight = g.M.Medium.sight in let a = c.announce in let b = a.new.back in let z = setup_of sight t.key in
    let hand = c.requires.turn.0 in let i = c.requires.turn.1 in (
      hand,
      (c.raise_durable.ensures.step c.args.durable.now hand (called_turn sight t seat h hand i b (a.ensures.known (since_of sight t.key) i.holding.records i.holding.known)
          (announce_goes z.threads z.first (state_of h.back) i.holding.records i.holding.known.lawful (state_of b) a.result a.ensures.answer a.ensures.state a.ensures.cause.dead))).turn,
    )

pub reproduce-requires-clause-announced : goal.reproduce-requires-clause-announced
reproduce-requires-clause-announced g c =
    let t = c.args.events.now in let h = c.args.home.now in let a = c.announce in let b = a.new.back in let z = setup_of g.M.Medium.sight t.key in
    let i = c.requires.turn.1 in let ok = c.in_ok-number in
    subst (IsAnnounced (state_of b)) (sym c.raise_durable.ensures.raised) (announced_ok z.threads z.first (state_of h.back) i.holding.records i.holding.known.lawful (state_of b) ok.number a.result ok.was ok.ensures.answer ok.ensures.state a.ensures.cause.dead).is

pub returns-clause-step : goal.returns-clause-step
returns-clause-step g c =
    let t = c.args.events.now in let seat = c.args.seat.now in let h = c.args.home.now in let sight = g.M.Medium.sight in let a = c.announce in let b = a.new.back in let z = setup_of sight t.key in
    let n = c.in_ok-number.number in let raised = c.raise_durable.new.seat in let r = c.reproduce in
    λ hand i.
    let one = c.raise_durable.ensures.step c.args.durable.now hand (called_turn sight t seat h hand i b (a.ensures.known (since_of sight t.key) i.holding.records i.holding.known)
    (announce_goes z.threads z.first (state_of h.back) i.holding.records i.holding.known.lawful (state_of b) a.result a.ensures.answer a.ensures.state a.ensures.cause.dead)) in
    then_advanced sight t c.args.durable.now n n seat raised r.new.seat (record h { back = b }) r.new.home hand hand one (advanced sight t n raised r.new.seat r.new.home hand (r.ensures.step hand one.turn))

pub returns-clause-past : goal.returns-clause-past
returns-clause-past g c =
    let t = c.args.events.now in let h = c.args.home.now in let a = c.announce in let b = a.new.back in let z = setup_of g.M.Medium.sight t.key in
    let i = c.requires.turn.1 in let ok = c.in_ok-number in let r = c.reproduce in
    then_past (state_of h.back) (state_of b) (state_of r.new.home.back) r.result
    (keeps_announced z.first (state_of h.back) i.holding.records i.holding.known.lawful ok.number (state_of b) ok.ensures.state
    (announce_goes z.threads z.first (state_of h.back) i.holding.records i.holding.known.lawful (state_of b) a.result a.ensures.answer a.ensures.state a.ensures.cause.dead).durable)
    r.ensures.past

pub returns-clause-places : goal.returns-clause-places
returns-clause-places g c =
    let t = c.args.events.now in let h = c.args.home.now in let a = c.announce in let b = a.new.back in let z = setup_of g.M.Medium.sight t.key in let i = c.requires.turn.1 in let r = c.reproduce.ensures.places in
    record { next = r.next; sizes = r.sizes ∙ (announce_goes z.threads z.first (state_of h.back) i.holding.records i.holding.known.lawful (state_of b) a.result a.ensures.answer a.ensures.state a.ensures.cause.dead).sizes }

pub returns-in_err-number-clause-places : goal.returns-in_err-number-clause-places
returns-in_err-number-clause-places g c =
    let t = c.args.events.now in let h = c.args.home.now in let a = c.announce in let b = a.new.back in let z = setup_of g.M.Medium.sight t.key in let i = c.requires.turn.1 in
    record { next = refl; sizes = (announce_goes z.threads z.first (state_of h.back) i.holding.records i.holding.known.lawful (state_of b) a.result a.ensures.answer a.ensures.state a.ensures.cause.dead).sizes }

pub returns-in_err-number-clause-cause : goal.returns-in_err-number-clause-cause
returns-in_err-number-clause-cause g c =
    let v = state_of c.args.home.now.back in let w = state_of c.announce.new.back in let fault = c.in_err-number.field-0.0 in
    let is = fails_by _ c.args.home.now.back c.announce.new.back c.in_err-number.ensures.cause in
    hands_on c.from_residual.result fault v w c.from_residual.ensures.1 is (dead_after fault (announced v) v w is c.in_err-number.ensures.state)

pub returns-clause-cause : goal.returns-clause-cause
returns-clause-cause g c =
    let t = c.args.events.now in let h = c.args.home.now in let a = c.announce in let b = a.new.back in let z = setup_of g.M.Medium.sight t.key in
    let i = c.requires.turn.1 in let ok = c.in_ok-number in let r = c.reproduce in
    fails_still r.result (state_of b) (state_of h.back) (state_of r.new.home.back)
    (announced_ok z.threads z.first (state_of h.back) i.holding.records i.holding.known.lawful (state_of b) ok.number a.result ok.was ok.ensures.answer ok.ensures.state a.ensures.cause.dead).is.alive
    (alive_unless (state_of h.back) a.result ok.number ok.was a.ensures.cause.dead)
    r.ensures.cause
