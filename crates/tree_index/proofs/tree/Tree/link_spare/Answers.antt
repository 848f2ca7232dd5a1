use Rattle.std.proofs.Common.{ap, ◌∙◌, subst}
use Rattle.word_space.specs.Sights.{shown}
use Rattle.word_space.proofs.Runs.{below_behind, shown_same, used_then}
use Rattle.tree_index.specs.Linking.{linked_beside}
use Rattle.tree_index.specs.Walk.{FindsNearest}
use Rattle.tree_index.proofs.Found.{near_leads, placed_by, trail_fits}
use Rattle.tree_index.proofs.Replaced.{links_none, links_spare, links_there, when_shown}
use Rattle.tree_index.proofs.tree.Tree.link_spare.Goals as goal

pub returns-in_default-clause-links : goal.returns-in_default-clause-links
returns-in_default-clause-links g c = λ array below.
    let old = shown (g.W.Words.sight c.args.w.now) array in
    links_none (subst (λ o. FindsNearest c.args.self.now c.args.key old o) c.in_default.is (c.in_ok-near.ensures.nearest array below))

pub returns-then-near-key-clause-links : goal.returns-then-near-key-clause-links
returns-then-near-key-clause-links g c = λ array below.
    let near_step = c.in_ok-near.ensures in
    links_there (near_leads c.args.self.now c.args.key near_step.uses c.in-Some.is near_step.nearest array below) c.if-near-key.true

pub place-requires-clause-trail : goal.place-requires-clause-trail
place-requires-clause-trail g c = trail_fits c.args.self.now c.in_ok-near.ensures.uses.count c.in-Some.is c.in_ok-near.ensures.trail

pub returns-clause-links : goal.returns-clause-links
returns-clause-links g c = when_shown c.link_beside.result _ _ (λ shows done array below.
    let bit = c.highest_difference-bit in
    let position = c.in_ok-position.position in
    let near_step = c.in_ok-near.ensures in
    let walk_step = c.in_ok-position.ensures in
    links_spare c.requires.fits
    (placed_by c.args.self.now c.args.key near_step.uses c.in-Some.is near_step.nearest bit.result position walk_step.uses walk_step.walks bit.ensures.below bit.ensures.above bit.ensures.here array (below_behind c.link_beside.ensures.uses below))
    (shows array ∙ ap (linked_beside c.args.key bit.result c.args.leaf c.args.fork position) (shown_same (used_then near_step.uses walk_step.uses) array))) c.link_beside.ensures.shown
