use Rattle.std.proofs.Common.{subst, sym, ◌∙◌}
use Rattle.tree_index.specs.Tree.{FitsTree}
use Rattle.home_runs.proofs.trees.call_sized.Goals as goal

pub call_tree-requires : goal.call_tree-requires
call_tree-requires c = subst (FitsTree c.args.tree.now) (sym (sym c.len.ensures ∙ c.if-len-size.true)) c.requires
