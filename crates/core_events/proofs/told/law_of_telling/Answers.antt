use Rattle.core_events.proofs.ReadOut.{read_out}
use Rattle.core_events.proofs.Telling.{kept_sized, kept_seated, word_inside, tells}
use Rattle.core_events.proofs.told.law_of_telling.Goals as goal

pub returns-clause-sized : goal.returns-clause-sized
returns-clause-sized c = λ z b k. kept_sized z b k

pub returns-clause-seated : goal.returns-clause-seated
returns-clause-seated c = λ z b who v k at. kept_seated z b k who v at

pub returns-clause-inside : goal.returns-clause-inside
returns-clause-inside c = λ z e v some_lock s m. word_inside z e v some_lock s m

pub returns-clause-told : goal.returns-clause-told
returns-clause-told c = λ z e b who v k a. tells z e b who v k a

pub returns-clause-read_out : goal.returns-clause-read_out
returns-clause-read_out c = λ z b who v k at all idle. read_out z b k who v at all idle
