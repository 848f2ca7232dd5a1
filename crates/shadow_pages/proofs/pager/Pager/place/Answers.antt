use Rattle.std.proofs.Common.{◌<◌, subst, sym}
use Rattle.shadow_pages.specs.PageMap.{PageMap, Holds, IsFree}
use Rattle.shadow_pages.proofs.Pagers.{placed_sound, one_to_one}
use Rattle.shadow_pages.proofs.pager.Pager.place.Goals as goal

pub invariant_of-self : goal.invariant_of-self
invariant_of-self c =
    placed_sound c.self.inside.by_frame.items c.self.inside.by_page.items c.self.inside.hand c.args.frame c.args.page c.self.invariant
    (subst (λ (m : PageMap). IsFree m c.args.frame) (sym c.self.view_is) c.requires.free)
    (subst (λ (m : PageMap). c.args.page < m.pages) (sym c.self.view_is) c.requires.inside)
    (λ g h. c.requires.not_in (record { frame = g; holds = subst (λ (m : PageMap). Holds m g c.args.page) c.self.view_is h }))

pub returns-clause-lawful : goal.returns-clause-lawful
returns-clause-lawful c = one_to_one _ _ c.self.inside.hand (invariant_of-self c)
