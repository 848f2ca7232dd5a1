use Rattle.std.proofs.Common.{◌≡◌, ◌+◌, ◌-◌, length}
use Rattle.tatp_layout.specs.Layout.{call_table}
use Rattle.tatp_rows.specs.Entries.{facility_call_entries}
use Rattle.tatp_rows.specs.Filling.{Inserts, entries_up_to}
use Rattle.tatp_rows.proofs.calls.CallsPopulated.put.Given as goal

-- the rows of the facilities before this one are there
abbrev pub invariant-loop-f : goal.invariant-loop-f
invariant-loop-f l = record {
  index : l.next ≡ l.index + length (entries_up_to (facility_call_entries l.s) (l.f - 1));
  filling : Inserts (call_table l.lay) l.index (entries_up_to (facility_call_entries l.s) (l.f - 1)) l.fn.words l.words;
}
