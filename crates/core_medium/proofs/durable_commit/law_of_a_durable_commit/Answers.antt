use Rattle.core_medium.specs.DurableCommit.{small_setup, small_sizes}
use Rattle.core_medium.proofs.DurableCommit.{small_accepted, small_places, small_ok, commit_lasts}
use Rattle.core_medium.proofs.Openings.{opens}
use Rattle.core_medium.proofs.durable_commit.law_of_a_durable_commit.Goals as goal

pub returns-clause-setup : goal.returns-clause-setup
returns-clause-setup c = small_ok

pub returns-clause-start : goal.returns-clause-start
returns-clause-start c = opens small_setup small_sizes small_ok small_accepted small_places

pub returns-clause-happens : goal.returns-clause-happens
returns-clause-happens c = commit_lasts
