use Rattle.std.proofs.Common.{◌<◌}
use Rattle.tiny_stm.specs.Frames.{MadeRoom}
use Rattle.tiny_stm.proofs.Rounds.{AfterRounds}
use Rattle.tiny_stm.proofs.finding.find_frame.Given as goal

abbrev pub invariant-loop-round : goal.invariant-loop-round
invariant-loop-round g l = record {
  room : MadeRoom g.M.Medium.sight l.events l.wanted l.fn.seat l.seat l.fn.home l.home;
  rounds : AfterRounds l.fn.home.pager l.round l.seat.me.0.view l.home.pager;
  more : l.round < l.events.setup.frames;
}
