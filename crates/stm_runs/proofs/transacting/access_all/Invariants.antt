use Rattle.word_space.specs.Steps.{WordsGoOn}
use Rattle.stm_runs.proofs.transacting.access_all.Given as goal

-- whatever turned into the words at the start turns into those after the accesses gone over
abbrev pub invariant-loop-k : goal.invariant-loop-k
invariant-loop-k g l = WordsGoOn g.W.Words.turns_into l.initial.w l.w
