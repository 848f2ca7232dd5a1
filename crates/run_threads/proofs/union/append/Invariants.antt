use Rattle.std.proofs.Common.{◌≡◌, ◌++◌, map, take, vec_capacity}
use Rattle.std.specs.Prelude.{slice_index}
use Rattle.run_order.specs.Rests.{shifted}
use Rattle.run_threads.proofs.union.append.Given as goal

-- those before this one are added
abbrev pub invariant-loop-d : goal.invariant-loop-d
invariant-loop-d l = record {
  items : l.done.items ≡ l.initial.done.items ++ map (shifted (slice_index l.counts)) (take l.d-index l.behind);
  room : vec_capacity l.done ≡ vec_capacity l.initial.done;
}
