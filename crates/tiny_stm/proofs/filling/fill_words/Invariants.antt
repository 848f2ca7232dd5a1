use Rattle.tiny_stm.specs.Filling.{MayFill}
use Rattle.tiny_stm.specs.Paging.{Paged}
use Rattle.tiny_stm.proofs.Filled.{FilledUpTo}
use Rattle.tiny_stm.proofs.filling.fill_words.Given as goal

abbrev pub invariant-loop-at : goal.invariant-loop-at
invariant-loop-at g l = record {
  may : MayFill g.M.Medium.sight l.stm.events l.page l.frame l.words l.seat l.home;
  step : Paged g.M.Medium.sight l.stm.events l.fn.seat l.seat l.home;
  filled : FilledUpTo l.seat.me.0.view l.page l.frame l.at;
}
