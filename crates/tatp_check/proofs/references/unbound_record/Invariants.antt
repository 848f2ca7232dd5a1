use Rattle.std.proofs.Common.{All, take}
use Rattle.tatp_check.specs.References.{Refers}
use Rattle.tatp_check.specs.Walked.{records_of_kind}
use Rattle.tatp_check.proofs.references.unbound_record.Given as goal

-- the records so far refer to records that are there
abbrev pub invariant-loop-at : goal.invariant-loop-at
invariant-loop-at l = All (Refers l.a (records_of_kind l.walked) l.kind) (take l.at-index (records_of_kind l.walked l.kind))
