use Rattle.std.proofs.Common.{◌≡◌, ◌-◌, length}
use Rattle.tatp_rows.specs.Filling.{IsFilling, entries_up_to}
use Rattle.tatp_rows.proofs.populated.fill_table.Given as goal

-- the entries of the subscribers before this one are there
abbrev pub invariant-loop-s : goal.invariant-loop-s
invariant-loop-s g l = record {
  count : l.index ≡ length (entries_up_to g.T.Populated.entries (l.s - 1));
  filling : IsFilling (g.T.Populated.place l.lay) (entries_up_to g.T.Populated.entries (l.s - 1)) l.fn.words l.words;
}
