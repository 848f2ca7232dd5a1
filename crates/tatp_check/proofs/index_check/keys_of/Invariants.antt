use Rattle.std.proofs.Common.{◌≡◌, take}
use Rattle.tatp_check.specs.IndexFaults.{location_keys}
use Rattle.tatp_check.proofs.index_check.keys_of.Given as goal

-- the keys of the subscribers so far
abbrev pub invariant-loop-at : goal.invariant-loop-at
invariant-loop-at l = l.keys.items ≡ location_keys l.a (take l.at-index l.subscribers)
