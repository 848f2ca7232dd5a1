use Rattle.std.proofs.Common.{◌≡◌}
use Rattle.transaction_trial.proofs.reading.read_all.Given as goal

-- there are as many words as before
abbrev pub invariant-loop-at : goal.invariant-loop-at
invariant-loop-at g l = (g.W.Words.sight l.words).count ≡ (g.W.Words.sight l.initial.words).count
