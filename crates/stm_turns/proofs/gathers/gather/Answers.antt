use Rattle.stm_turns.proofs.Bundling.{then_with, with_of}
use Rattle.stm_turns.proofs.NextRecords.{alike, alike_then, put_with}
use Rattle.stm_turns.proofs.Seats.{same_turn}
use Rattle.stm_turns.proofs.gathers.gather.Goals as goal

pub loop-init : goal.loop-init
loop-init g c =
    let t = c.args.events.now in let sight = g.M.Medium.sight in let seat = c.args.seat.now in let h = c.args.home.now in let w = c.requires.with in let q = c.args.gathering.now in
    record { step = put_with sight t seat h q w seat (same_turn sight t seat h w.hand w.turn); alike = alike q }

pub join_next-requires : goal.join_next-requires
join_next-requires g c =
    let l = c.loop in record { with = with_of g.M.Medium.sight c.args.events.now c.args.seat.now l.seat c.args.home.now l.gathering l.invariant.step }

pub returns-then-not-join_next-clause-step : goal.returns-then-not-join_next-clause-step
returns-then-not-join_next-clause-step g c =
    let l = c.loop in let x = c.join_next in
    then_with g.M.Medium.sight c.args.events.now c.args.seat.now l.seat x.new.seat c.args.home.now c.args.home.now l.gathering x.new.gathering l.invariant.step x.ensures.step

pub returns-then-not-join_next-clause-alike : goal.returns-then-not-join_next-clause-alike
returns-then-not-join_next-clause-alike g c = let l = c.loop in let x = c.join_next in alike_then c.args.gathering.now l.gathering x.new.gathering l.invariant.alike x.ensures.alike

pub loop-preserved : goal.loop-preserved
loop-preserved g c =
    let l = c.loop in let x = c.join_next in
    record {
      step = then_with g.M.Medium.sight c.args.events.now c.args.seat.now l.seat x.new.seat c.args.home.now c.args.home.now l.gathering x.new.gathering l.invariant.step x.ensures.step;
      alike = alike_then c.args.gathering.now l.gathering x.new.gathering l.invariant.alike x.ensures.alike;
    }
