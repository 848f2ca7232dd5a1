use Rattle.std.proofs.Common.{map}
use Rattle.std.specs.List.{range_with_len}
use Rattle.tatp_model.specs.Population.{call_at}
use Rattle.tatp_layout.specs.Records.{call_form}
use Rattle.tatp_rows.specs.Filling.{Inserts, entry_of}
use Rattle.tatp_rows.proofs.calls.put_calls.Given as goal

-- the facility's rows before this one are there
abbrev pub invariant-loop-k : goal.invariant-loop-k
invariant-loop-k l = Inserts l.table l.index (map (λ k. entry_of call_form (call_at l.s l.f k)) (range_with_len 0 l.k)) l.fn.words l.words
