use Rattle.std.proofs.Common.{◌≡◌, None, ℕ, List}
use Rattle.word_space.specs.Sights.{IsBelow, shown}
use Rattle.word_space.specs.Steps.{WordsUsed}
use Rattle.tree_index.specs.Shape.{Shape, IsRadix, link_of}
use Rattle.tree_index.specs.Walk.{IsHeld}
use Rattle.tree_index.proofs.Walks.{Lowest}
use Rattle.tree_index.proofs.tree.Tree.least_key.Given as goal

abbrev pub invariant-loop : goal.invariant-loop
invariant-loop g l = record {
  uses : WordsUsed g.W.Words.sight g.W.Words.turns_into l.counter 0 None l.initial.w l.w;
  low : (array : List ℕ) → IsBelow (g.W.Words.sight l.w) array → (shape : Shape) → IsHeld l.self (shown (g.W.Words.sight l.initial.w) array) shape → IsRadix 64 shape → l.initial.at ≡ link_of shape → Lowest l.self (shown (g.W.Words.sight l.initial.w) array) shape l.counter l.at;
}
