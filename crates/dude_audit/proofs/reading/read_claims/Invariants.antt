use Rattle.std.proofs.Common.{take}
use Rattle.dude_audit.specs.Reading.{BeginsWithLines}
use Rattle.dude_audit.proofs.reading.read_claims.Given as goal

-- the first lines are those of the first requests
abbrev pub invariant-loop-k : goal.invariant-loop-k
invariant-loop-k l = BeginsWithLines (take l.k l.blanks) l.printed l.claims.items l.at
