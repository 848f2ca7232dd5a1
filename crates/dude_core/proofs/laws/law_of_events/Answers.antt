use Rattle.core_medium.specs.Machines.{words_of}
use Rattle.dude_core.specs.EventLaws.{steps_made, first_machine}
use Rattle.dude_core.proofs.EventLists.{reached_law, kept_law, words_law}
use Rattle.dude_core.proofs.laws.law_of_events.Goals as goal

pub returns-clause-reached : goal.returns-clause-reached
returns-clause-reached c = reached_law

pub returns-clause-kept : goal.returns-clause-kept
returns-clause-kept c = kept_law

pub returns-clause-legal : goal.returns-clause-legal
returns-clause-legal c = λ z s es m can told h. c.law_of_steps.ensures.legal z (words_of (steps_made z (first_machine z s) es m h)) m.core can.setup told (words_law z s es m can h)

pub returns-clause-once : goal.returns-clause-once
returns-clause-once c = λ z s es m can h. (words_law z s es m can h, λ f. c.law_of_steps.ensures.once z (words_of (steps_made z (first_machine z s) es m h)) m.core (words_law z s es m can h) f)
