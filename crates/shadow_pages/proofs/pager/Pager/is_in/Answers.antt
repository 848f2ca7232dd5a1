use Rattle.std.proofs.Common.{◌<◌, length, refl, subst, arith}
use Rattle.std.proofs.lemmas.Option.{slice_get_read, none-some}
use Rattle.shadow_pages.specs.PageMap.{IsOneToOne}
use Rattle.shadow_pages.proofs.Pagers.{one_to_one}
use Rattle.shadow_pages.proofs.Seen.{page_below, none_in}
use Rattle.shadow_pages.proofs.pager.Pager.is_in.Goals as goal

pub returns-then-page-len-clause-none : goal.returns-then-page-len-clause-none
returns-then-page-len-clause-none c =
    let ps = c.self.inside.by_page.items in
    let below : c.args.page < length ps = omega (arith, c.self.inside.by_page.ok.0, c.len.ensures, c.if-page-len.true) in
    none_in c.self.inside.by_frame.items ps c.self.inside.hand c.args.self.now c.args.page c.index.result.now c.self.invariant c.self.view_is
    (slice_get_read ps (length ps) c.args.page c.index.result.now refl below c.index.ensures)

pub returns-then-page-len-clause-lawful : goal.returns-then-page-len-clause-lawful
returns-then-page-len-clause-lawful c =
    subst IsOneToOne c.self.view_is (one_to_one c.self.inside.by_frame.items c.self.inside.by_page.items c.self.inside.hand c.self.invariant)

pub returns-else-page-len-clause-frame : goal.returns-else-page-len-clause-frame
returns-else-page-len-clause-frame c frame = (
  (λ h. absurd (none-some frame h)),
  (λ h. absurd (omega (
    arith,
    c.self.inside.by_page.ok.0,
    c.len.ensures,
    c.if-page-len.false,
    page_below c.self.inside.by_frame.items c.self.inside.by_page.items c.self.inside.hand c.args.self.now c.args.page c.self.invariant c.self.view_is (record { frame = frame; holds = h }),
  ))),
)

pub returns-else-page-len-clause-none : goal.returns-else-page-len-clause-none
returns-else-page-len-clause-none c = (
  (λ _ is. omega (
    arith,
    c.self.inside.by_page.ok.0,
    c.len.ensures,
    c.if-page-len.false,
    page_below c.self.inside.by_frame.items c.self.inside.by_page.items c.self.inside.hand c.args.self.now c.args.page c.self.invariant c.self.view_is (is),
  )),
  (λ _. refl),
)

pub returns-else-page-len-clause-lawful : goal.returns-else-page-len-clause-lawful
returns-else-page-len-clause-lawful c =
    subst IsOneToOne c.self.view_is (one_to_one c.self.inside.by_frame.items c.self.inside.by_page.items c.self.inside.hand c.self.invariant)
