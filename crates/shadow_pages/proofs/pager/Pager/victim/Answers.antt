use Rattle.std.proofs.Common.{◌≡◌, ◌+◌, ◌∙◌, length, Some, None, refl, subst, arith}
use Rattle.shadow_pages.specs.PageMap.{IsOneToOne}
use Rattle.shadow_pages.proofs.Pagers.{one_to_one}
use Rattle.shadow_pages.proofs.Seen.{index_below, entry_at, next_has, victim_seen, occupied, never}
use Rattle.shadow_pages.proofs.pager.Pager.victim.Goals as goal

pub returns-in_err-distance-clause-same : goal.returns-in_err-distance-clause-same
returns-in_err-distance-clause-same c none = refl

pub returns-in_err-distance-clause-lawful : goal.returns-in_err-distance-clause-lawful
returns-in_err-distance-clause-lawful c =
    subst IsOneToOne c.self.view_is (one_to_one c.self.inside.by_frame.items c.self.inside.by_page.items c.self.inside.hand c.self.invariant)

pub index-requires : goal.index-requires
index-requires c =
    let a = c.self.inside in
    omega (arith, a.by_frame.ok.0, index_below a.by_frame.items c.len-frames.result a.hand (a.hand + c.in_ok-distance.distance) (c.len-frames.ensures ∙ a.by_frame.ok.0) c.self.invariant.in_range)

-- there is a page in the frame
some : (c : goal.After-from_residual-in_err-page) → ⊥
some c =
    let a = c.self.inside in
    next_has c.args.self.now c.in_ok-distance.distance c.in_ok-distance.ensures.next
    (entry_at a.by_frame.items (length a.by_page.items) a.hand c.args.self.now c.len-frames.result c.in_ok-distance.distance c.index.result.now None c.self.view_is
    (c.len-frames.ensures ∙ a.by_frame.ok.0) c.self.invariant.in_range c.index.ensures c.in_err-page.was)

pub returns-in_err-page-clause-victim : goal.returns-in_err-page-clause-victim
returns-in_err-page-clause-victim c = absurd (some c)

pub returns-in_err-page-clause-none : goal.returns-in_err-page-clause-none
returns-in_err-page-clause-none c = absurd (some c)

pub returns-in_err-page-clause-same : goal.returns-in_err-page-clause-same
returns-in_err-page-clause-same c none = refl

pub returns-in_err-page-clause-lawful : goal.returns-in_err-page-clause-lawful
returns-in_err-page-clause-lawful c = absurd (some c)

pub invariant_of-self : goal.invariant_of-self
invariant_of-self c =
    let a = c.self.inside in
    record {
      same = c.self.invariant.same;
      in_range = index_below a.by_frame.items c.len-frames.result a.hand (a.hand + c.in_ok-distance.distance + 1) (c.len-frames.ensures ∙ a.by_frame.ok.0) c.self.invariant.in_range;
    }

pub returns-clause-victim : goal.returns-clause-victim
returns-clause-victim c =
    let a = c.self.inside in
    let size : c.len-frames.result ≡ length a.by_frame.items = c.len-frames.ensures ∙ a.by_frame.ok.0 in
    victim_seen a.by_frame.items (length a.by_page.items) a.hand c.args.self.now c.len-frames.result c.in_ok-distance.distance c.in_ok-page.page c.self.view_is
    size c.in_ok-distance.ensures.next
    (entry_at a.by_frame.items (length a.by_page.items) a.hand c.args.self.now c.len-frames.result c.in_ok-distance.distance c.index.result.now (Some c.in_ok-page.page) c.self.view_is
    size c.self.invariant.in_range c.index.ensures c.in_ok-page.was)

pub returns-clause-none : goal.returns-clause-none
returns-clause-none c =
    ((λ f is. never f), (λ none. absurd (none (occupied c.args.self.now c.in_ok-distance.distance c.in_ok-distance.ensures.next))))

pub returns-clause-same : goal.returns-clause-same
returns-clause-same c f = never f

pub returns-clause-lawful : goal.returns-clause-lawful
returns-clause-lawful c = one_to_one _ _ _ (invariant_of-self c)
