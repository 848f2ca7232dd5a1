use Rattle.std.proofs.Common.{lit≤}
use Rattle.word_space.proofs.Runs.{used_more, used_none}
use Rattle.tree_index.proofs.Found.{placed_over, stays_placed}
use Rattle.tree_index.proofs.tree.Tree.place.Goals as goal

pub returns-then-is_from-clause-uses : goal.returns-then-is_from-clause-uses
returns-then-is_from-clause-uses g c = used_more used_none (lit≤ tt) (lit≤ tt)

pub returns-then-is_from-clause-walks : goal.returns-then-is_from-clause-walks
returns-then-is_from-clause-walks g c = λ array below. stays_placed c.args.floor c.if-is_from.ensures

pub returns-then-is_from-2-clause-uses : goal.returns-then-is_from-2-clause-uses
returns-then-is_from-2-clause-uses g c = used_more used_none (lit≤ tt) (lit≤ tt)

pub returns-then-is_from-2-clause-walks : goal.returns-then-is_from-2-clause-walks
returns-then-is_from-2-clause-walks g c = λ array below leads whole there.
    let trail = leads.walk whole there in
    placed_over c.args.floor c.requires.fits there c.requires.trail.last trail.last_under c.if-is_from.ensures c.if-is_from-2.ensures trail.second

pub returns-then-is_from-3-clause-uses : goal.returns-then-is_from-3-clause-uses
returns-then-is_from-3-clause-uses g c = used_more used_none (lit≤ tt) (lit≤ tt)

pub returns-then-is_from-3-clause-walks : goal.returns-then-is_from-3-clause-walks
returns-then-is_from-3-clause-walks g c = λ array below leads whole there.
    let trail = leads.walk whole there in
    placed_over c.args.floor c.requires.fits there c.requires.trail.second trail.second_under c.if-is_from-2.ensures c.if-is_from-3.ensures trail.third

pub returns-clause-walks : goal.returns-clause-walks
returns-clause-walks g c = λ array below leads whole there. (c.in_ok-again.ensures.walks array below whole there).last
