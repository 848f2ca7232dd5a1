use Rattle.std.proofs.Common.{lit≤}
use Rattle.word_space.proofs.Runs.{used_more, used_none}
use Rattle.tree_index.proofs.tree.Tree.zeros_link.Goals as goal

pub returns-then-not-has-clause-uses : goal.returns-then-not-has-clause-uses
returns-then-not-has-clause-uses g c = used_more used_none (lit≤ tt) (lit≤ tt)
