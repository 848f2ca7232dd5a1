use Rattle.dude_core.proofs.Walks.{page_told, not_page, page_more}
use Rattle.dude_core.proofs.pairs.Pairs.has_page.Goals as goal

pub returns-then-not-has : goal.returns-then-not-has
returns-then-not-has c = not_page c.args.self.now c.args.page c.args.value c.loop-offset.offset c.loop-offset-test.true c.if-not-has.ensures

pub loop-offset-preserved : goal.loop-offset-preserved
loop-offset-preserved c = page_more c.args.self.now c.args.page c.args.value c.loop-offset.offset c.loop-offset.invariant c.if-not-has.ensures

pub returns : goal.returns
returns c = page_told c.args.self.now c.args.page c.args.value c.loop-offset.offset c.loop-offset-test.false c.loop-offset.invariant
