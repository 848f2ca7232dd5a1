use Rattle.std.proofs.Common.{eq-eqb, eqb-true}
use Rattle.core_events.specs.Events.{see_full}
use Rattle.stm_slots.specs.Opening.{setup_of}
use Rattle.stm_turns.specs.Told.{SawNext}
use Rattle.stm_turns.proofs.Fronts.{after_on}
use Rattle.stm_turns.proofs.HeldRecords.{others_held}
use Rattle.stm_turns.proofs.Holdings.{look_acts_on}
use Rattle.stm_turns.proofs.Seats.{may_in_turn, looked_found, looked_missed}
use Rattle.stm_turns.proofs.boxes.look_for.Goals as goal

pub load_by-requires-clause-may : goal.load_by-requires-clause-may
load_by-requires-clause-may g c =
    let t = c.args.events.now in let q = c.requires.look in let i = q.turn in let seat = c.args.seat.now in let h = c.args.home.now in let sight = g.M.Medium.sight in
    let e = see_full c.args.thread c.args.place in
    may_in_turn sight t seat h q.hand i.belongs i.setup i.holding e (record { live = i.holding.live; threaded = i.holding.thread; named = (q.inside, q.near); can = i.holding.turn }) (SawNext sight t.key c.args.thread c.args.place c.args.number h seat.me)
    (look_acts_on sight t.key seat.me h q.hand i.holding seat.id c.args.thread c.args.place c.args.number i.same q.inside q.near q.some (others_held (setup_of sight t.key) q.hand c.args.number q.others))

pub returns-clause-found : goal.returns-clause-found
returns-clause-found g c =
    let x = c.load_by in let q = c.requires.look in
    λ yes hand i. looked_found g.M.Medium.sight c.args.events.now c.args.seat.now x.new.seat x.result c.args.thread c.args.place c.args.number c.args.home.now x.ensures.seat.0 x.ensures.seat.1 x.ensures.then hand i yes q.inside q.near

pub returns-clause-missed : goal.returns-clause-missed
returns-clause-missed g c =
    let x = c.load_by in
    λ no hand i. looked_missed g.M.Medium.sight c.args.events.now c.args.seat.now x.new.seat x.result c.args.thread c.args.place c.args.number c.args.home.now x.ensures.seat.0 x.ensures.seat.1 x.ensures.then hand i no

pub returns-clause-saw : goal.returns-clause-saw
returns-clause-saw g c =
    let t = c.args.events.now in let x = c.load_by in
    record {
      number = x.result;
      after = after_on t.setup (setup_of g.M.Medium.sight t.key) c.requires.look.turn.setup (see_full c.args.thread c.args.place) c.args.seat.now.me.0.view x.new.seat.me.0.view x.result x.ensures.then.saw.view;
      is = (eqb-true x.result c.args.number, eq-eqb x.result c.args.number);
    }
