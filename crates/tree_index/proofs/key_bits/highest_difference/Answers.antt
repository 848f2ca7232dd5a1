use Rattle.tree_index.proofs.Bits.{highest}
use Rattle.tree_index.proofs.key_bits.highest_difference.Goals as goal

pub overflow_sub-result : goal.overflow_sub-result
overflow_sub-result c = (highest c.args.a c.args.b c.from.result c.ranges.a.fits c.ranges.b.fits c.requires.differ c.from.ensures).few

pub returns-clause-above : goal.returns-clause-above
returns-clause-above c = (highest c.args.a c.args.b c.from.result c.ranges.a.fits c.ranges.b.fits c.requires.differ c.from.ensures).above

pub returns-clause-here : goal.returns-clause-here
returns-clause-here c = (highest c.args.a c.args.b c.from.result c.ranges.a.fits c.ranges.b.fits c.requires.differ c.from.ensures).here
