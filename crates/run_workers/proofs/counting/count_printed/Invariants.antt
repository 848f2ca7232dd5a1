use Rattle.std.proofs.Common.{◌≡◌, ◌+◌, ◌<◌, ℕ, length, get_or, map, vec_capacity}
use Rattle.std.specs.Prelude.{slice_index}
use Rattle.dude_stream.specs.declared.outlet.Outlet.{Outlet}
use Rattle.run_workers.specs.Job.{requests_of}
use Rattle.run_workers.proofs.counting.count_printed.Given as goal

abbrev pub invariant-loop-file : goal.invariant-loop-file
invariant-loop-file l = record {
  count : length l.printed.items ≡ l.file;
  each : (k : ℕ) (o : Outlet) → k < l.file → slice_index l.printed.items k + (get_or l.outlets k o).left ≡ length (requests_of (map (λ f. f.items) l.files) k);
  capacity : vec_capacity l.printed ≡ vec_capacity l.initial.printed;
}
