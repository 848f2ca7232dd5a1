use Rattle.stm_turns.proofs.Seats.{found_inside, found_near, may_put_last, put_last_turn}
use Rattle.stm_turns.proofs.boxes.put_last.Goals as goal

pub box_place-at-requires-clause-thread : goal.box_place-at-requires-clause-thread
box_place-at-requires-clause-thread g c =
    let q = c.requires.found in rw q.found.setup (found_inside g.M.Medium.sight c.args.events.now q.before c.args.seat.now c.args.thread c.args.place q.number c.args.home.now q.hand q.found)

pub box_place-at-requires-clause-place : goal.box_place-at-requires-clause-place
box_place-at-requires-clause-place g c =
    let q = c.requires.found in rw q.found.setup (found_near g.M.Medium.sight c.args.events.now q.before c.args.seat.now c.args.thread c.args.place q.number c.args.home.now q.hand q.found)

pub load_by-requires-clause-may : goal.load_by-requires-clause-may
load_by-requires-clause-may g c =
    let q = c.requires.found in may_put_last g.M.Medium.sight c.args.events.now q.before c.args.seat.now c.args.thread c.args.place q.number c.args.home.now q.hand q.found

pub returns : goal.returns
returns g c =
    let x = c.load_by in
    record { step = λ before hand number found. put_last_turn g.M.Medium.sight c.args.events.now before c.args.seat.now x.new.seat x.result c.args.thread c.args.place number c.args.home.now hand found x.ensures.then x.ensures.seat.0 x.ensures.seat.1 }
