use Rattle.std.proofs.Common.{subst, lit≤}
use Rattle.std.proofs.lemmas.Result.{IfOk-weaker}
use Rattle.word_space.specs.Sights.{shown}
use Rattle.word_space.proofs.Runs.{below_before, below_behind, length_shown, shown_same, used_behind, used_more, used_then}
use Rattle.tree_index.specs.declared.tree_put.TreePut.TheVariants.{There}
use Rattle.tree_index.specs.Linking.{PutsBesideAll, PutsFirstAll}
use Rattle.tree_index.specs.Tree.{InsertsAll}
use Rattle.tree_index.specs.Walk.{FindsNearest}
use Rattle.tree_index.proofs.EmptyTree.{inserts_first}
use Rattle.tree_index.proofs.Found.{near_leads, placed_by, seen_unchanged, trail_fits}
use Rattle.tree_index.proofs.Inserted.{inserts_beside, inserts_there}
use Rattle.tree_index.proofs.tree.Tree.insert.Goals as goal

pub returns-in_default-clause-uses : goal.returns-in_default-clause-uses
returns-in_default-clause-uses g c = used_more (used_behind c.in_ok-near.ensures.uses c.put_first.ensures.uses) (lit≤ tt) (lit≤ tt)

pub returns-in_default-clause-inserts : goal.returns-in_default-clause-inserts
returns-in_default-clause-inserts g c = IfOk-weaker c.put_first.result _ _ (λ put puts array below.
    let tree = c.args.self.now in
    let near_step = c.in_ok-near.ensures in
    let below_near = below_behind c.put_first.ensures.uses below in
    let old = shown (g.W.Words.sight c.args.w.now) array in
    let new = shown (g.W.Words.sight c.put_first.new.w) array in
    inserts_first new c.args.key c.requires.fits (length_shown (below_before near_step.uses below_near))
    (subst (λ o. FindsNearest tree c.args.key old o) c.in_default.is (near_step.nearest array below_near)) put
    (subst (λ ws. PutsFirstAll tree c.args.key ws new put) (shown_same near_step.uses array) (puts array below))) c.put_first.ensures.puts

pub returns-then-near-key-clause-inserts : goal.returns-then-near-key-clause-inserts
returns-then-near-key-clause-inserts g c = seen_unchanged c.in_ok-near.ensures.uses (λ old new. InsertsAll c.args.self.now c.args.key old new There) (λ array below.
    inserts_there (near_leads c.args.self.now c.args.key c.in_ok-near.ensures.uses c.in-Some.is c.in_ok-near.ensures.nearest array below) c.if-near-key.true)

pub place-requires-clause-trail : goal.place-requires-clause-trail
place-requires-clause-trail g c = trail_fits c.args.self.now c.in_ok-near.ensures.uses.count c.in-Some.is c.in_ok-near.ensures.trail

pub returns-clause-uses : goal.returns-clause-uses
returns-clause-uses g c = used_more (used_behind (used_then c.in_ok-near.ensures.uses c.in_ok-position.ensures.uses) c.put_beside.ensures.uses) (lit≤ tt) (lit≤ tt)

pub returns-clause-inserts : goal.returns-clause-inserts
returns-clause-inserts g c = IfOk-weaker c.put_beside.result _ _ (λ put puts array below.
    let tree = c.args.self.now in
    let bit = c.highest_difference-bit in
    let position = c.in_ok-position.position in
    let near_step = c.in_ok-near.ensures in
    let walk_step = c.in_ok-position.ensures in
    let new = shown (g.W.Words.sight c.put_beside.new.w) array in
    inserts_beside c.requires.fits
    (placed_by tree c.args.key near_step.uses c.in-Some.is near_step.nearest bit.result position walk_step.uses walk_step.walks bit.ensures.below bit.ensures.above bit.ensures.here array (below_behind c.put_beside.ensures.uses below)) new put
    (subst (λ ws. PutsBesideAll tree c.args.key bit.result position ws new put) (shown_same (used_then near_step.uses walk_step.uses) array) (puts array below))) c.put_beside.ensures.puts
