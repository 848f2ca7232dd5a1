use Rattle.std.proofs.Common.{[]}
use Rattle.std.specs.Prelude.{Some}
use Rattle.stm_turns.specs.Turns.{found_in}
use Rattle.stm_turns.proofs.Seats.{advanced, then_advanced}
use Rattle.stm_turns.proofs.Settled.{not_drawn_none, still_settled}
use Rattle.stm_turns.proofs.settling.persist_next.Goals as goal

pub returns-in_default-clause-step : goal.returns-in_default-clause-step
returns-in_default-clause-step g c =
    advanced g.M.Medium.sight c.args.events.now c.args.durable.now c.args.seat.now c.see_front.new.seat c.args.home.now [] c.in_default.ensures.step

pub returns-in_default-clause-next : goal.returns-in_default-clause-next
returns-in_default-clause-next g c =
    let t = c.args.events.now in let sight = g.M.Medium.sight in let a = c.see_front in let h = c.args.home.now in let s = c.in_default.ensures in let e = c.requires.settled in
    (still_settled sight t c.args.seat.now a.new.seat h c.args.number e s.step.view, not_drawn_none sight t a.new.seat h [] s.step.turn c.args.number e.is e.reproduced (s.drawn c.requires.own))

pub persist_found-requires : goal.persist_found-requires
persist_found-requires g c =
    let s = c.in-Some.ensures in record {
      turn = s.step.turn;
      thread = c.requires.thread;
      drawn = s.drawn c.requires.own;
      settled = still_settled g.M.Medium.sight c.args.events.now c.args.seat.now c.see_front.new.seat c.args.home.now c.args.number c.requires.settled s.step.view;
    }

pub returns-clause-step : goal.returns-clause-step
returns-clause-step g c =
    let t = c.args.events.now in let sight = g.M.Medium.sight in let a = c.see_front in let h = c.args.home.now in let x = c.persist_found in let before = c.args.durable.now in
    let hand = found_in c.args.own h.next (Some c.in-Some.redo) in
    then_advanced sight t before before x.new.durable c.args.seat.now a.new.seat x.new.seat h x.new.home hand [] (advanced sight t before c.args.seat.now a.new.seat h hand c.in-Some.ensures.step) x.ensures.step
