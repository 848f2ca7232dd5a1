use Rattle.std.proofs.Common.{◌∙◌, length, refl, sym}
use Rattle.shadow_pages.proofs.Seen.{next_seen, occupied, one_more, all_free, never}
use Rattle.shadow_pages.proofs.pager.Pager.next_occupied.Goals as goal

pub returns-then-is_some-clause-next : goal.returns-then-is_some-clause-next
returns-then-is_some-clause-next c =
    let a = c.self.inside in
    next_seen a.by_frame.items (length a.by_page.items) a.hand c.args.self.now c.len-frames.result c.loop-distance.distance c.index.result.now c.self.view_is
    (c.len-frames.ensures ∙ a.by_frame.ok.0) c.self.invariant.in_range c.loop-distance-test.true c.index.ensures
    (sym c.is_some.ensures ∙ c.if-is_some.true) c.loop-distance.invariant

pub returns-then-is_some-clause-none : goal.returns-then-is_some-clause-none
returns-then-is_some-clause-none c =
    ((λ f is. never f), (λ none. absurd (none (occupied c.args.self.now c.loop-distance.distance (returns-then-is_some-clause-next c)))))

pub loop-distance-preserved : goal.loop-distance-preserved
loop-distance-preserved c =
    let a = c.self.inside in
    one_more a.by_frame.items a.hand c.len-frames.result c.loop-distance.distance c.index.result.now (c.len-frames.ensures ∙ a.by_frame.ok.0)
    c.self.invariant.in_range c.index.ensures (sym c.is_some.ensures ∙ c.if-is_some.false) c.loop-distance.invariant

pub returns-clause-none : goal.returns-clause-none
returns-clause-none c =
    let a = c.self.inside in (
      (λ _. all_free a.by_frame.items (length a.by_page.items) a.hand c.args.self.now c.len-frames.result c.loop-distance.distance c.self.view_is
          (c.len-frames.ensures ∙ a.by_frame.ok.0) c.self.invariant.in_range c.loop-distance-test.false c.loop-distance.invariant),
      (λ _. refl),
    )
