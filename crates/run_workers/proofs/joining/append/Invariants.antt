use Rattle.std.proofs.Common.{◌≡◌, ◌++◌, take, vec_capacity}
use Rattle.run_workers.proofs.joining.append.Given as goal

-- those before this one are appended
abbrev pub invariant-loop-d : goal.invariant-loop-d
invariant-loop-d l = record {
  items : l.done.items ≡ l.initial.done.items ++ take l.d-index l.more;
  capacity : vec_capacity l.done ≡ vec_capacity l.initial.done;
}
