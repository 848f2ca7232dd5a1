use Rattle.std.proofs.Common.{◌<◌, IfSome, arith, sym, ap, ◌∙◌, subst, slice_index, lit≤}
use Rattle.std.proofs.lemmas.Result.{IfOk-weaker}
use Rattle.word_space.specs.Sights.{shown}
use Rattle.word_space.proofs.Runs.{below_before, below_behind, shown_same, used_behind, used_handed, used_more, used_then, used_until}
use Rattle.tree_index.specs.Tree.{FitsTree}
use Rattle.tree_index.specs.Walk.{FindsLeast, FindsNearest}
use Rattle.tree_index.proofs.Found.{near_leads, next_equal, next_less, next_no_turn, next_none, next_turn, placed_by, trail_fits}
use Rattle.tree_index.proofs.tree.Tree.next.Goals as goal

pub returns-in_default-clause-next : goal.returns-in_default-clause-next
returns-in_default-clause-next g c = λ array below.
    next_none (subst (λ o. FindsNearest c.args.self.now c.args.from (shown (g.W.Words.sight c.args.w.now) array) o) c.in_default.is (c.in_ok-near.ensures.nearest array below))

pub returns-then-near-from-clause-next : goal.returns-then-near-from-clause-next
returns-then-near-from-clause-next g c = λ array below.
    next_equal (near_leads c.args.self.now c.args.from c.in_ok-near.ensures.uses c.in-Some.is c.in_ok-near.ensures.nearest array below) c.if-near-from.true

pub place-requires-clause-trail : goal.place-requires-clause-trail
place-requires-clause-trail g c = trail_fits c.args.self.now c.in_ok-near.ensures.uses.count c.in-Some.is c.in_ok-near.ensures.trail

pub returns-then-from-near-clause-uses : goal.returns-then-from-near-clause-uses
returns-then-from-near-clause-uses g c = used_more (used_behind (used_then c.in_ok-near.ensures.uses c.in_ok-position.ensures.uses) c.least_key.ensures.uses) (lit≤ tt) (lit≤ tt)

pub returns-then-from-near-clause-next : goal.returns-then-from-near-clause-next
returns-then-from-near-clause-next g c = IfOk-weaker c.least_key.result _ _ (λ r least array below.
    let tree = c.args.self.now in
    let bit = c.highest_difference-bit in
    let position = c.in_ok-position.position in
    let near_step = c.in_ok-near.ensures in
    let walk_step = c.in_ok-position.ensures in
    next_less (placed_by tree c.args.from near_step.uses c.in-Some.is near_step.nearest bit.result position walk_step.uses walk_step.walks bit.ensures.below bit.ensures.above bit.ensures.here array (below_behind c.least_key.ensures.uses below)) c.if-from-near.true r
    (subst (λ ws. FindsLeast tree position.link ws r) (shown_same (used_then near_step.uses walk_step.uses) array) (least array below))) c.least_key.ensures.least

pub returns-in_default-turn-clause-uses : goal.returns-in_default-turn-clause-uses
returns-in_default-turn-clause-uses g c = used_more (used_then c.in_ok-near.ensures.uses c.in_ok-position.ensures.uses) (lit≤ tt) (lit≤ tt)

pub returns-in_default-turn-clause-next : goal.returns-in_default-turn-clause-next
returns-in_default-turn-clause-next g c = λ array below.
    let tree = c.args.self.now in
    let bit = c.highest_difference-bit in
    let position = c.in_ok-position.position in
    let near_step = c.in_ok-near.ensures in
    let walk_step = c.in_ok-position.ensures in
    next_no_turn (placed_by tree c.args.from near_step.uses c.in-Some.is near_step.nearest bit.result position walk_step.uses walk_step.walks bit.ensures.below bit.ensures.above bit.ensures.here array below) (λ less. omega (arith, less, c.if-from-near.false)) c.in_default-turn.is

pub read-requires : goal.read-requires
read-requires g c = record { inside = omega (arith, subst (λ o. IfSome o (λ word. word < (g.W.Words.sight c.nearest.new.w).count)) c.in-Some-turn.is c.in_ok-position.ensures.position.turn, c.in_ok-position.ensures.uses.count) }

pub returns-in_err-link-clause-uses : goal.returns-in_err-link-clause-uses
returns-in_err-link-clause-uses g c = let r = c.from_residual-in_err-link in used_handed r.result r.ensures.1 (used_until (used_then c.in_ok-near.ensures.uses c.in_ok-position.ensures.uses) c.in_err-link.ensures.uses) (lit≤ tt) (lit≤ tt)

pub least_key-requires-2 : goal.least_key-requires-2
least_key-requires-2 g c = record { fits = subst (FitsTree c.args.self.now) (sym (c.in_ok-link.ensures.uses.count ∙ c.in_ok-position.ensures.uses.count ∙ c.in_ok-near.ensures.uses.count)) c.requires.fits }

pub returns-clause-uses : goal.returns-clause-uses
returns-clause-uses g c = used_more (used_behind (used_then c.in_ok-near.ensures.uses (used_then c.in_ok-position.ensures.uses c.in_ok-link.ensures.uses)) c.least_key-2.ensures.uses) (lit≤ tt) (lit≤ tt)

pub returns-clause-next : goal.returns-clause-next
returns-clause-next g c = IfOk-weaker c.least_key-2.result _ _ (λ r least array below.
    let tree = c.args.self.now in
    let bit = c.highest_difference-bit in
    let position = c.in_ok-position.position in
    let near_step = c.in_ok-near.ensures in
    let walk_step = c.in_ok-position.ensures in
    let link_step = c.in_ok-link.ensures in
    let below_link = below_behind c.least_key-2.ensures.uses below in
    let late = used_then near_step.uses walk_step.uses in
    next_turn (placed_by tree c.args.from near_step.uses c.in-Some.is near_step.nearest bit.result position walk_step.uses walk_step.walks bit.ensures.below bit.ensures.above bit.ensures.here array (below_before link_step.uses below_link))
    (λ less. omega (arith, less, c.if-from-near.false)) c.in-Some-turn.word c.in-Some-turn.is c.in_ok-link.link
    (link_step.value array below_link ∙ ap (λ ws. slice_index ws c.in-Some-turn.word) (shown_same late array)) r
    (subst (λ ws. FindsLeast tree c.in_ok-link.link ws r) (shown_same (used_then late link_step.uses) array) (least array below))) c.least_key-2.ensures.least
