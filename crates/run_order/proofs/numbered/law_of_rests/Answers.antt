use Rattle.run_order.proofs.Performing as Performing
use Rattle.run_order.proofs.Together as Together
use Rattle.run_order.proofs.numbered.law_of_rests.Goals as goal

pub returns-clause-performing : goal.returns-clause-performing
returns-clause-performing c = Performing.law

pub returns-clause-rests : goal.returns-clause-rests
returns-clause-rests c = Together.law_rests

pub returns-clause-syncs : goal.returns-clause-syncs
returns-clause-syncs c = Together.law_syncs

pub returns-clause-numbers : goal.returns-clause-numbers
returns-clause-numbers c = Together.law_rest_numbers
