use Rattle.stm_turns.proofs.Bundling.{then_with, with_of}
use Rattle.stm_turns.proofs.NextRecords.{looked_with}
use Rattle.stm_turns.proofs.gathers.join_next.Goals as goal

pub returns-in_default-clause-step : goal.returns-in_default-clause-step
returns-in_default-clause-step g c =
    looked_with g.M.Medium.sight c.args.events.now c.args.seat.now c.args.home.now c.args.gathering.now c.requires.with c.thread_with_next.new.seat c.thread_with_next.ensures.step

pub join-requires-clause-with : goal.join-requires-clause-with
join-requires-clause-with g c =
    let t = c.args.events.now in let sight = g.M.Medium.sight in let seat = c.args.seat.now in let h = c.args.home.now in let q = c.args.gathering.now in let x = c.thread_with_next in
    with_of sight t seat x.new.seat h q (looked_with sight t seat h q c.requires.with x.new.seat x.ensures.step)

pub returns-then-not-join-clause-step : goal.returns-then-not-join-clause-step
returns-then-not-join-clause-step g c =
    let t = c.args.events.now in let sight = g.M.Medium.sight in let seat = c.args.seat.now in let h = c.args.home.now in let q = c.args.gathering.now in let x = c.thread_with_next in let y = c.join in
    then_with sight t seat x.new.seat y.new.seat h h q y.new.gathering (looked_with sight t seat h q c.requires.with x.new.seat x.ensures.step) y.ensures.step

pub look_behind-requires-clause-with : goal.look_behind-requires-clause-with
look_behind-requires-clause-with g c =
    let x = c.thread_with_next in let y = c.join in with_of g.M.Medium.sight c.args.events.now x.new.seat y.new.seat c.args.home.now y.new.gathering y.ensures.step

pub returns-clause-step : goal.returns-clause-step
returns-clause-step g c =
    let t = c.args.events.now in let sight = g.M.Medium.sight in let seat = c.args.seat.now in let h = c.args.home.now in let q = c.args.gathering.now in let x = c.thread_with_next in let y = c.join in let v = c.look_behind in let q2 = y.new.gathering in
    let w = with_of sight t x.new.seat y.new.seat h q2 y.ensures.step in
    then_with sight t seat x.new.seat v.new.seat h h q q2 (looked_with sight t seat h q c.requires.with x.new.seat x.ensures.step)
    (then_with sight t x.new.seat y.new.seat v.new.seat h h q2 q2 y.ensures.step (looked_with sight t y.new.seat h q2 w v.new.seat v.ensures.step))
