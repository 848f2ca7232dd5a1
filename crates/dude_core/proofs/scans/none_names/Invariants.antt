use Rattle.std.proofs.Common.{◌≢◌, ◌<◌, ℕ, slice_index}
use Rattle.core_events.specs.Setups.{frame_in}
use Rattle.dude_core.proofs.scans.none_names.Given as goal

abbrev pub invariant-loop-page : goal.invariant-loop-page
invariant-loop-page l = (p : ℕ) → p < l.page → 0 < slice_index l.entries.items p → frame_in (slice_index l.entries.items p) ≢ l.frame
