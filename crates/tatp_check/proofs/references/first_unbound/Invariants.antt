use Rattle.std.proofs.Common.{◌<◌}
use Rattle.tatp_check.specs.declared.table_kind.TableKind.{TableKind}
use Rattle.tatp_check.specs.References.{AreBound, kind_rank}
use Rattle.tatp_check.specs.Walked.{records_of_kind}
use Rattle.tatp_check.proofs.references.first_unbound.Given as goal

-- the records of the tables so far refer to records that are there
abbrev pub invariant-loop-kind : goal.invariant-loop-kind
invariant-loop-kind l = (other : TableKind) → kind_rank other < l.kind-index → AreBound l.a (records_of_kind l.walked) other
