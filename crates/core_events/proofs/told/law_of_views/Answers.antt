use Rattle.core_events.proofs.Telling.{keeps_full, leaves_draws, has_drawn, has_raised}
use Rattle.core_events.proofs.told.law_of_views.Goals as goal

pub returns-clause-full : goal.returns-clause-full
returns-clause-full c = λ z b who v k at. keeps_full z b k who v at

pub returns-clause-draws : goal.returns-clause-draws
returns-clause-draws c = λ z b who v k at. leaves_draws z b k who v at

pub returns-clause-drawn : goal.returns-clause-drawn
returns-clause-drawn c = λ z b who v k at. has_drawn z b k who v at

pub returns-clause-raised : goal.returns-clause-raised
returns-clause-raised c = λ z b who v k at. has_raised z b k who v at
