use Rattle.std.proofs.lemmas.Result.{IfErr-weaker, IfOk-weaker}
use Rattle.dude_stream.proofs.Receiving.{lane_gathered, lane_gathered_some, lane_had_turn}
use Rattle.dude_stream.proofs.gathering.gather_lane.Goals as goal

pub returns-clause-ok : goal.returns-clause-ok
returns-clause-ok c =
    IfOk-weaker c.take_some.result _ _
    (λ some p. lane_gathered c.args.outlets.now c.args.lane c.index-outlets-lane.result c.take_some.new.self c.requires.lane c.args.text.now.items c.take_some.new.text.items p)
    c.take_some.ensures.ok

pub returns-clause-turn : goal.returns-clause-turn
returns-clause-turn c =
    IfOk-weaker c.take_some.result _ _
    (λ some p. lane_had_turn c.args.outlets.now c.args.lane c.index-outlets-lane.result c.take_some.new.self c.requires.lane some p)
    c.take_some.ensures.empties

pub returns-clause-err : goal.returns-clause-err
returns-clause-err c =
    IfErr-weaker c.take_some.result _ _
    (λ fault p. lane_gathered_some c.args.outlets.now c.args.lane c.index-outlets-lane.result c.take_some.new.self c.requires.lane c.args.text.now.items c.take_some.new.text.items p)
    c.take_some.ensures.err
