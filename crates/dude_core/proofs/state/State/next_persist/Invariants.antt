use Rattle.std.proofs.Common.{ℕ, ◌<◌}
use Rattle.dude_core.specs.Gathers.{PersistsNone}
use Rattle.dude_core.proofs.state.State.next_persist.Given as goal

abbrev pub invariant-loop-thread : goal.invariant-loop-thread
invariant-loop-thread l = (t : ℕ) → t < l.thread → PersistsNone l.z l.self l.store l.call t
