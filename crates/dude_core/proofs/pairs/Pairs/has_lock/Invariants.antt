use Rattle.std.proofs.Common.{◌≡◌, drop, map}
use Rattle.core_events.specs.Setups.{lock_of}
use Rattle.core_events.specs.Keyed.{has}
use Rattle.dude_core.proofs.pairs.Pairs.has_lock.Given as goal

abbrev pub invariant-loop-item : goal.invariant-loop-item
invariant-loop-item l = has (map (λ r. lock_of l.z r.0) l.item-items) l.lock ≡ has (map (λ r. lock_of l.z r.0) (drop l.item-index l.item-items)) l.lock
