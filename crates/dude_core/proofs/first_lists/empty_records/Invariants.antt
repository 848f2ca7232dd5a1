use Rattle.std.proofs.Common.{◌≡◌, replicate}
use Rattle.core_events.specs.Conditions.{no_record}
use Rattle.dude_core.proofs.first_lists.empty_records.Given as goal

abbrev pub invariant-loop : goal.invariant-loop
invariant-loop l = l.records.items ≡ replicate l.counter no_record
