use Rattle.core_events.proofs.Plain.{plain, page_shows}
use Rattle.core_events.proofs.Keeps.{event_keeps, split_keeps, join_keeps, kept_legal}
use Rattle.core_events.proofs.Start.{start_keeps}
use Rattle.core_events.proofs.kept.law_of_keeping.Goals as goal

pub returns-clause-start : goal.returns-clause-start
returns-clause-start c = λ z ok. start_keeps z ok

pub returns-clause-event : goal.returns-clause-event
returns-clause-event c = λ z e b who v k a. event_keeps z e b who v k a

pub returns-clause-split : goal.returns-clause-split
returns-clause-split c = λ z b who draws v k a. split_keeps z b who draws v k a

pub returns-clause-join : goal.returns-clause-join
returns-clause-join c = λ z b who other v w k a. join_keeps z b who other v w k a

pub returns-clause-plain : goal.returns-clause-plain
returns-clause-plain c = λ z b k. plain z b k

pub returns-clause-shown : goal.returns-clause-shown
returns-clause-shown c = λ z b who p f v k told a i of_page. page_shows z b k told who p f v a i of_page

pub returns-clause-legal : goal.returns-clause-legal
returns-clause-legal c = λ z b k told. kept_legal z b k told
