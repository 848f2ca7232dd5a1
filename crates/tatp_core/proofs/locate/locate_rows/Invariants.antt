use Rattle.std.proofs.Common.{◌≡◌, ℕ, ◌+◌, ◌-◌, ◌*◌, ◌^◌, ◌≤◌, ◌⊎◌, Option, None, List, length, map}
use Rattle.std.specs.List.{filter}
use Rattle.word_space.specs.Sights.{IsBelow, shown}
use Rattle.word_space.specs.Steps.{WordsUsed}
use Rattle.tree_index.specs.Shape.{Shape, keys_in}
use Rattle.tree_index.specs.Tree.{IsTree}
use Rattle.tree_index.specs.Walk.{next_reads}
use Rattle.tatp_core.proofs.KeyRanges.{is_in, pair_of}
use Rattle.tatp_core.proofs.locate.locate_rows.Given as goal

abbrev pub invariant-loop : goal.invariant-loop
invariant-loop g l = record {
  uses : WordsUsed g.W.Words.sight g.W.Words.turns_into (next_reads * l.counter) 0 None l.initial.w l.w;
  count : length l.found.items ≡ l.counter;
  from : l.low * 2 ^ 32 ≤ l.from;
  inside : (l.from ≤ l.last) ⊎ (l.from ≡ l.low * 2 ^ 32);
  last : l.last ≡ l.high * 2 ^ 32 + (2 ^ 32 - 1);
  found : (array : List ℕ) → IsBelow (g.W.Words.sight l.w) array → (shape : Option Shape) (free_leaves free_inner : List ℕ) → IsTree l.tree (shown (g.W.Words.sight l.initial.w) array) shape free_leaves free_inner → l.found.items ≡ map pair_of (filter (is_in (l.low * 2 ^ 32) l.from) (keys_in shape));
}
