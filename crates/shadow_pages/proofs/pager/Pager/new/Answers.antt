use Rattle.std.proofs.Common.{◌≡◌, None, replicate, rules}
use Rattle.shadow_pages.proofs.Pagers.{one_to_one}
use Rattle.shadow_pages.proofs.Seen.{fresh, fresh_seen}
use Rattle.shadow_pages.proofs.pager.Pager.new.Goals as goal

pub invariant_of-result : goal.invariant_of-result
invariant_of-result c =
    let frames : c.in_ok-vec.field-0.items ≡ replicate c.args.frames None = search rules in
    let pages : c.in_ok-vec-2.field-0.items ≡ replicate c.args.pages None = search rules in
    fresh _ _ c.args.frames c.args.pages c.requires.some frames pages

pub returns-clause-empty : goal.returns-clause-empty
returns-clause-empty c =
    let frames : c.in_ok-vec.field-0.items ≡ replicate c.args.frames None = search rules in
    let pages : c.in_ok-vec-2.field-0.items ≡ replicate c.args.pages None = search rules in
    fresh_seen _ _ c.args.frames c.args.pages frames pages

pub returns-clause-lawful : goal.returns-clause-lawful
returns-clause-lawful c = one_to_one _ _ _ (invariant_of-result c)
