use Rattle.std.proofs.Common.{arith}
use Rattle.tatp_check.proofs.PoolSteps.{word_inside}
use Rattle.tatp_check.proofs.walk.wrong_word.Goals as goal

pub overflow_add-at : goal.overflow_add-at
overflow_add-at g c = omega (arith, word_inside c.loop-offset.offset c.requires.fits.pool c.requires.place (omega arith))

pub offset_bounds-a-at : goal.offset_bounds-a-at
offset_bounds-a-at g c = omega (arith, word_inside c.loop-offset.offset c.requires.fits.pool c.requires.place (omega arith))

pub bounds-a-at : goal.bounds-a-at
bounds-a-at g c = word_inside c.loop-offset.offset c.requires.fits.pool c.requires.place (omega arith)
