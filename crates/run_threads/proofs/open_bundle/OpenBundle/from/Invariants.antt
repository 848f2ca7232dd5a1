use Rattle.std.proofs.Common.{◌≡◌}
use Rattle.run_threads.specs.Bundled.{IsBundled}
use Rattle.run_threads.proofs.open_bundle.OpenBundle.from.Given as goal

abbrev pub invariant-loop-next : goal.invariant-loop-next
invariant-loop-next l = record { is : IsBundled l.cells l.rest l.from l.taken; end : l.taken.end ≡ l.next }
