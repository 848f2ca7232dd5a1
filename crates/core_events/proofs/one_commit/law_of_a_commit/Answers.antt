use Rattle.core_events.proofs.OneCommit.{smallest_ok, commit_happens}
use Rattle.core_events.proofs.one_commit.law_of_a_commit.Goals as goal

pub returns-clause-setup : goal.returns-clause-setup
returns-clause-setup c = smallest_ok

pub returns-clause-happens : goal.returns-clause-happens
returns-clause-happens c = let h = commit_happens in (h.0, record { led = h.1; entries = h.2; durable = h.3; reproduced = h.4; word = h.5 })
