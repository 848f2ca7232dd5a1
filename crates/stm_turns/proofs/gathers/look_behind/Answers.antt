use Rattle.std.proofs.Common.{◌<◌}
use Rattle.stm_slots.specs.Opening.{setup_of}
use Rattle.stm_turns.proofs.NextRecords.{ahead_inside}
use Rattle.stm_turns.proofs.gathers.look_behind.Goals as goal

pub look-number-requires-clause-turn : goal.look-number-requires-clause-turn
look-number-requires-clause-turn g c = let w = c.requires.with in (w.hand, w.turn)

pub look-number-requires-clause-place : goal.look-number-requires-clause-place
look-number-requires-clause-place g c =
    let t = c.args.events.now in let w = c.requires.with in let sight = g.M.Medium.sight in
    let inside : c.args.thread < (setup_of sight t.key).threads = rw w.turn.setup at c.requires.thread in
    rw w.turn.setup (ahead_inside sight t c.args.seat.now c.args.home.now c.args.gathering.now w c.args.thread inside)
