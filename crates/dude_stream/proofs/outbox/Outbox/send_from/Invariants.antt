use Rattle.std.proofs.Common.{◌≤◌, ◌-◌, length}
use Rattle.dude_stream.specs.Lanes.{IsSameFeed}
use Rattle.dude_stream.specs.Outboxes.{HasSent}
use Rattle.dude_stream.proofs.outbox.Outbox.send_from.Given as goal

abbrev pub invariant-requests : goal.invariant-requests
invariant-requests l = record {
  sent : HasSent l.done l.self;
  lane : IsSameFeed l.fn.self.feed l.self.feed;
  later : l.fn.self.sent ≤ l.self.sent;
}

abbrev pub decreases-requests : goal.decreases-requests
decreases-requests l = length l.done - l.self.sent
