use Rattle.std.proofs.Common.{◌≡◌, map, take}
use Rattle.tatp_core.proofs.KeyRanges.{pair_of}
use Rattle.tatp_core.proofs.among.locate_among.Given as goal

abbrev pub invariant-loop-key : goal.invariant-loop-key
invariant-loop-key l = record { found : l.found.items ≡ map pair_of (take l.key-index l.key-items) }
