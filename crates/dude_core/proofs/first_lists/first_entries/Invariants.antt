use Rattle.std.proofs.Common.{◌≡◌}
use Rattle.core_events.specs.Partings.{first_entries}
use Rattle.dude_core.proofs.first_lists.first_entries.Given as goal

abbrev pub invariant-loop-page : goal.invariant-loop-page
invariant-loop-page l = l.entries.items ≡ first_entries l.z.frames 0 l.page
