use Rattle.std.proofs.Common.{◌∷◌, [], is_ok, subst}
use Rattle.dude_base.specs.declared.sizes.Sizes.{Sizes}
use Rattle.pmem_trait.specs.Groups.{group_calls}
use Rattle.pmem_trait.specs.Sights.{CallsMade}
use Rattle.dude_recover.specs.FormatCalls.{header_writes}
use Rattle.dude_recover.proofs.image_writing.settle_header.Goals as goal

pub returns-clause-len : goal.returns-clause-len
returns-clause-len g c = c.settle_group.ensures.len

pub returns-clause-made : goal.returns-clause-made
returns-clause-made g c =
    subst (λ (s : Sizes). CallsMade (group_calls (header_writes s) (0 ∷ [])) (is_ok c.settle_group.result) (g.M.Medium.sight c.args.m.now) (g.M.Medium.sight c.settle_group.new.m))
    c.sizes-sizes.ensures.sizes c.settle_group.ensures.made
