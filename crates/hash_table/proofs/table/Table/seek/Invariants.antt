use Rattle.std.proofs.Common.{None, ℕ, List, ◌*◌, ◌<◌}
use Rattle.word_space.specs.Sights.{IsBelow, shown}
use Rattle.word_space.specs.Steps.{WordsUsed}
use Rattle.hash_table.proofs.Walks.{Passes}
use Rattle.hash_table.proofs.table.Table.seek.Given as goal

abbrev pub invariant-loop : goal.invariant-loop
invariant-loop g l = record {
  uses : WordsUsed g.W.Words.sight g.W.Words.turns_into (2 * l.counter) 0 None l.initial.w l.w;
  inside : l.link < (g.W.Words.sight l.w).count;
  passes : (array : List ℕ) → IsBelow (g.W.Words.sight l.w) array → Passes l.self.pool (shown (g.W.Words.sight l.initial.w) array) l.initial.link l.key l.counter l.link;
}
