use Rattle.std.proofs.Common.{◌≡◌, ◌<◌, ℕ, length, get_or, map}
use Rattle.dude_stream.specs.declared.outbox.Outbox.{Outbox}
use Rattle.dude_stream.specs.declared.outlet.Outlet.{Outlet}
use Rattle.run_workers.specs.Job.{requests_of}
use Rattle.run_workers.specs.Lanes.{IsOpenLane}
use Rattle.run_workers.proofs.opening.open_lanes.Given as goal

abbrev pub invariant-loop-file : goal.invariant-loop-file
invariant-loop-file l = record {
  boxes_count : length l.outboxes.items ≡ l.file;
  outlets_count : length l.outlets.items ≡ l.file;
  each : (k : ℕ) (b : Outbox) (o : Outlet) → k < l.file → IsOpenLane (requests_of (map (λ f. f.items) l.files) k) (get_or l.outboxes.items k b) (get_or l.outlets.items k o);
}
