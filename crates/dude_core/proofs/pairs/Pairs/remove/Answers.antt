use Rattle.std.proofs.Common.{◌==◌, not, ℕ, ◌∙◌, rules}
use Rattle.std.proofs.lemmas.Fn.{filter_same}
use borrow.Author.Tests.{tests}
use Rattle.dude_core.proofs.Walks.{kept_without}
use Rattle.dude_core.proofs.pairs.Pairs.remove.Goals as goal

pub returns : goal.returns
returns c = rw (← c.self.view_is) (filter_same _ (λ (x : ℕ × ℕ). not (x.0 == c.args.key)) _ (λ x b f q. search (rules, tests)) _ _ c.retain.ensures.filtered ∙ kept_without c.self.inside.items.items c.args.key)
