use Rattle.std.proofs.Common.{Some, None, arith}
use Rattle.shadow_pages.proofs.Pagers.{dropped_sound, one_to_one}
use Rattle.shadow_pages.proofs.Seen.{entry_of, never_in, page_below, dropped_seen, dropped_out}
use Rattle.shadow_pages.proofs.pager.Pager.drop_page.Goals as goal

pub index-requires : goal.index-requires
index-requires c =
    omega (arith, c.self.inside.by_page.ok.0, page_below c.self.inside.by_frame.items c.self.inside.by_page.items c.self.inside.hand c.args.self.now c.args.page c.self.invariant c.self.view_is c.requires)

pub index_mut-requires-in-Some : goal.index_mut-requires-in-Some
index_mut-requires-in-Some c =
    omega (arith, c.self.inside.by_page.ok.0, page_below c.self.inside.by_frame.items c.self.inside.by_page.items c.self.inside.hand c.args.self.now c.args.page c.self.invariant c.self.view_is c.requires)

pub invariant_of-self : goal.invariant_of-self
invariant_of-self c =
    let a = c.self.inside in
    let below = page_below a.by_frame.items a.by_page.items a.hand c.args.self.now c.args.page c.self.invariant c.self.view_is c.requires in
    let entry = entry_of a.by_page.items c.args.page c.index.result.now (Some c.in-Some.frame) below c.index.ensures c.in-Some.is in
    dropped_sound a.by_frame.items a.by_page.items a.hand c.in-Some.frame c.args.page c.self.invariant ((c.self.invariant.same c.in-Some.frame c.args.page).1 entry)

pub returns-in-Some-clause-dropped : goal.returns-in-Some-clause-dropped
returns-in-Some-clause-dropped c frame holds =
    let a = c.self.inside in
    let below = page_below a.by_frame.items a.by_page.items a.hand c.args.self.now c.args.page c.self.invariant c.self.view_is c.requires in
    let entry = entry_of a.by_page.items c.args.page c.index.result.now (Some c.in-Some.frame) below c.index.ensures c.in-Some.is in
    dropped_seen a.by_frame.items a.by_page.items a.hand c.args.self.now c.in-Some.frame c.args.page frame c.self.invariant c.self.view_is entry holds

pub returns-in-Some-clause-lawful : goal.returns-in-Some-clause-lawful
returns-in-Some-clause-lawful c = one_to_one _ _ c.self.inside.hand (invariant_of-self c)

pub returns-in-Some-clause-not_in : goal.returns-in-Some-clause-not_in
returns-in-Some-clause-not_in c =
    let a = c.self.inside in
    let below = page_below a.by_frame.items a.by_page.items a.hand c.args.self.now c.args.page c.self.invariant c.self.view_is c.requires in
    let entry = entry_of a.by_page.items c.args.page c.index.result.now (Some c.in-Some.frame) below c.index.ensures c.in-Some.is in
    dropped_out a.by_frame.items a.by_page.items a.hand c.in-Some.frame c.args.page _ c.self.invariant entry

pub returns-in-None-clause-not_in : goal.returns-in-None-clause-not_in
returns-in-None-clause-not_in c =
    let a = c.self.inside in
    let below = page_below a.by_frame.items a.by_page.items a.hand c.args.self.now c.args.page c.self.invariant c.self.view_is c.requires in
    never_in a.by_frame.items a.by_page.items a.hand c.args.self.now c.args.page c.self.invariant c.self.view_is
    (entry_of a.by_page.items c.args.page c.index.result.now None below c.index.ensures c.in-None.is)

pub returns-in-None-clause-dropped : goal.returns-in-None-clause-dropped
returns-in-None-clause-dropped c frame holds = absurd (returns-in-None-clause-not_in c c.requires)

pub returns-in-None-clause-lawful : goal.returns-in-None-clause-lawful
returns-in-None-clause-lawful c = absurd (returns-in-None-clause-not_in c c.requires)
