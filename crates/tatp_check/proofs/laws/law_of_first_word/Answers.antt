use Rattle.tatp_check.proofs.OneWord.{lawful_right, one_word}
use Rattle.tatp_check.proofs.laws.law_of_first_word.Goals as goal

pub returns : goal.returns
returns c = record { one = one_word; none = λ s array w lawful. lawful_right s array lawful.0 lawful.1 w }
