use Rattle.std.proofs.Common.{◌≡◌, ℕ, ◌<◌, Some, None, slice_get}
use Rattle.shadow_pages.proofs.pager.Pager.free.Given as goal

-- no frame below this one is free
abbrev pub invariant-loop-frame : goal.invariant-loop-frame
invariant-loop-frame l = (other : ℕ) → other < l.frame → ¬ (slice_get l.self-inside.by_frame.items other ≡ Some None)
