use Rattle.std.proofs.Common.{◌==◌, ◌&&◌, not, ℕ, ◌∙◌, rules}
use Rattle.std.proofs.lemmas.Fn.{filter_same}
use borrow.Author.Tests.{tests}
use Rattle.core_events.specs.Setups.{page_of}
use Rattle.dude_core.proofs.Walks.{kept_refilled}
use Rattle.dude_core.proofs.pairs.Pairs.remove_others.Goals as goal

pub returns : goal.returns
returns c = rw (← c.self.view_is) (filter_same _ (λ (x : ℕ × ℕ). not ((x.1 == c.args.frame) && not (page_of x.0 == c.args.page))) _ (λ x b f q. search (rules, tests)) _ _ c.retain.ensures.filtered ∙ kept_refilled c.self.inside.items.items c.args.page c.args.frame)
