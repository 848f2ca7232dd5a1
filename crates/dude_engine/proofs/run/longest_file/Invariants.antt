use Rattle.std.proofs.Common.{map, take}
use Rattle.dude_engine.proofs.Turns.{IsLongest}
use Rattle.dude_engine.proofs.run.longest_file.Given as goal

-- of the files before this one it is the longest's length
abbrev pub invariant-loop-requests : goal.invariant-loop-requests
invariant-loop-requests l = IsLongest l.longest (take l.requests-index (map (λ f. f.items) l.files))
