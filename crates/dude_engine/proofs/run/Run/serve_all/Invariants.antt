use Rattle.std.proofs.Common.{map}
use Rattle.dude_engine.proofs.Turns.{InRounds}
use Rattle.dude_engine.proofs.run.Run.serve_all.Given as goal

-- the rounds before this one were made
abbrev pub invariant-loop-index : goal.invariant-loop-index
invariant-loop-index g l = InRounds g.M.Medium.sight (map (λ f. f.items) l.files) l.index 0 l.fn.self l.self

-- and in this one the turns of the files before this one
abbrev pub invariant-loop-file : goal.invariant-loop-file
invariant-loop-file g l = InRounds g.M.Medium.sight (map (λ f. f.items) l.files) l.index l.file l.fn.self l.self
