use Rattle.std.proofs.Common.{None, ℕ, List, ◌+◌, ◌*◌}
use Rattle.word_space.specs.Sights.{IsBelow, shown}
use Rattle.word_space.specs.Steps.{WordsUsed}
use Rattle.tree_index.specs.Shape.{Shape}
use Rattle.tree_index.specs.Walk.{FitsTrail, IsIn, StaysAtRoot}
use Rattle.tree_index.proofs.Walks.{Trailing}
use Rattle.tree_index.proofs.tree.Tree.walk.Given as goal

abbrev pub invariant-loop : goal.invariant-loop
invariant-loop g l = record {
  uses : WordsUsed g.W.Words.sight g.W.Words.turns_into (1 + 2 * l.counter) 0 None l.fn.w l.w;
  inside : FitsTrail l.self (g.W.Words.sight l.w).count l.trail;
  stands : (array : List ℕ) → IsBelow (g.W.Words.sight l.w) array → (whole : Shape) → IsIn l.self (shown (g.W.Words.sight l.fn.w) array) whole → Trailing l.self l.key l.floor (shown (g.W.Words.sight l.fn.w) array) whole l.counter l.trail;
  empty : (array : List ℕ) → IsBelow (g.W.Words.sight l.w) array → StaysAtRoot l.self (shown (g.W.Words.sight l.fn.w) array) l.trail;
}
