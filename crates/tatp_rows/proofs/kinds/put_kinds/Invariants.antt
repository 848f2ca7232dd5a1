use Rattle.std.proofs.Common.{map}
use Rattle.std.specs.List.{range_with_len}
use Rattle.tatp_rows.specs.Filling.{Inserts}
use Rattle.tatp_rows.proofs.kinds.put_kinds.Given as goal

-- the subscriber's rows of the kinds before this one are there
abbrev pub invariant-loop-k : goal.invariant-loop-k
invariant-loop-k g l = Inserts l.table l.index (map (g.K.OfKinds.entry_at l.s) (range_with_len 1 l.k)) l.fn.words l.words
