use Rattle.core_medium.proofs.Start.{words_reached}
use Rattle.core_medium.proofs.laws.law_of_word_steps.Goals as goal

pub returns : goal.returns
returns c = λ z ss m is. words_reached z ss m is
