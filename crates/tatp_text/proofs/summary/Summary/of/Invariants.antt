use Rattle.std.proofs.Common.{◌≡◌, take}
use Rattle.tatp_text.specs.Summary.{counted}
use Rattle.tatp_text.proofs.summary.Summary.of.Given as goal

-- the requests so far are counted
abbrev pub invariant-loop-entry : goal.invariant-loop-entry
invariant-loop-entry l = l.summary ≡ counted (take l.entry-index l.done)
