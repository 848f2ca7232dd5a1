use Rattle.std.proofs.Common.{◌≡◌, ◌++◌, take}
use Rattle.std.specs.Prelude.{slice_index}
use Rattle.dude_stream.specs.Streams.{rest_lines}
use Rattle.dude_stream.proofs.rest.append_rest.Given as goal

abbrev pub invariant-loop-entry : goal.invariant-loop-entry
invariant-loop-entry l = l.text.items ≡ l.fn.text.items ++ rest_lines (slice_index l.printed) (take l.entry-index l.done)
