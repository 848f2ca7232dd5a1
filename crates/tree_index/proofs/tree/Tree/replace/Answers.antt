use Rattle.std.proofs.Common.{ap, sym, ◌∙◌, slice_set, subst, lit≤}
use Rattle.std.proofs.lemmas.Result.{IfOk-weaker}
use Rattle.word_space.specs.Sights.{shown}
use Rattle.word_space.proofs.Runs.{below_before, below_behind, length_shown, shown_same, used_behind, used_more, used_then}
use Rattle.tree_index.specs.Linking.{Relinks}
use Rattle.tree_index.specs.Tree.{ReplacesAll}
use Rattle.tree_index.specs.Walk.{FindsNearest}
use Rattle.tree_index.proofs.Found.{near_leads, seen_unchanged}
use Rattle.tree_index.proofs.Removed.{removes_none, removes_other}
use Rattle.tree_index.proofs.Replaced.{MovesLeaf, replaces_absent, replaces_there, when_shown}
use Rattle.tree_index.proofs.tree.Tree.replace.Goals as goal

pub returns-in_default-clause-replaces : goal.returns-in_default-clause-replaces
returns-in_default-clause-replaces g c = seen_unchanged c.in_ok-near.ensures.uses (λ old new. ReplacesAll c.args.self.now c.args.from c.args.to old new tt) (λ array below.
    replaces_absent (removes_none (subst (λ o. FindsNearest c.args.self.now c.args.from (shown (g.W.Words.sight c.args.w.now) array) o) c.in_default.is (c.in_ok-near.ensures.nearest array below))))

pub returns-then-near-from-clause-replaces : goal.returns-then-near-from-clause-replaces
returns-then-near-from-clause-replaces g c = seen_unchanged c.in_ok-near.ensures.uses (λ old new. ReplacesAll c.args.self.now c.args.from c.args.to old new tt) (λ array below.
    replaces_absent (removes_other (near_leads c.args.self.now c.args.from c.in_ok-near.ensures.uses c.in-Some.is c.in_ok-near.ensures.nearest array below) c.if-near-from.true))

pub returns-in_default-over-clause-replaces : goal.returns-in_default-over-clause-replaces
returns-in_default-over-clause-replaces g c = when_shown c.write.result _ _ (λ shows done array below.
    let tree = c.args.self.now in
    let near_step = c.in_ok-near.ensures in
    let below_near = below_behind c.write.ensures.uses below in
    let old = shown (g.W.Words.sight c.args.w.now) array in
    let new = shown (g.W.Words.sight c.write.new.self) array in
    replaces_there new c.requires.fits (length_shown (below_before near_step.uses below_near))
    (near_leads tree c.args.from near_step.uses c.in-Some.is near_step.nearest array below_near) c.if-near-from.false
    (subst (λ o. MovesLeaf tree o c.in-Some.near.trail.last.link c.args.to old new new) (sym c.in_default-over.is)
    (shows array ∙ ap (λ ws. slice_set ws c.in-Some.near.trail.last.link c.args.to) (shown_same near_step.uses array)))) c.write.ensures.shown

pub returns-clause-uses : goal.returns-clause-uses
returns-clause-uses g c = used_more (used_behind (used_then c.in_ok-near.ensures.uses c.in_ok-cut.ensures.uses) c.link_spare.ensures.uses) (lit≤ tt) (lit≤ tt)

pub returns-clause-replaces : goal.returns-clause-replaces
returns-clause-replaces g c = IfOk-weaker c.link_spare.result _ _ (λ done links array below.
    let tree = c.args.self.now in
    let near_step = c.in_ok-near.ensures in
    let cut_step = c.in_ok-cut.ensures in
    let over = c.in-Some-over.over in
    let below_cut = below_behind c.link_spare.ensures.uses below in
    let below_near = below_before cut_step.uses below_cut in
    let old = shown (g.W.Words.sight c.args.w.now) array in
    let middle = shown (g.W.Words.sight c.cut.new.w) array in
    let new = shown (g.W.Words.sight c.link_spare.new.w) array in
    replaces_there middle c.requires.fits (length_shown (below_before near_step.uses below_near))
    (near_leads tree c.args.from near_step.uses c.in-Some.is near_step.nearest array below_near) c.if-near-from.false
    (subst (λ o. MovesLeaf tree o c.in-Some.near.trail.last.link c.args.to old middle new) (sym c.in-Some-over.is)
    (subst (λ ws. Relinks over ws middle tt) (shown_same near_step.uses array) (cut_step.relinks array below_cut), links array below))) c.link_spare.ensures.links
