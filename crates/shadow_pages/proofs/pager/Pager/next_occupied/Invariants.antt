use Rattle.std.proofs.Common.{◌≡◌, ℕ, ◌+◌, ◌%◌, ◌<◌, length, Some, None, slice_get}
use Rattle.shadow_pages.proofs.pager.Pager.next_occupied.Given as goal

-- every frame at a lesser distance is free
abbrev pub invariant-loop-distance : goal.invariant-loop-distance
invariant-loop-distance l = (lesser : ℕ) → lesser < l.distance →
    slice_get l.self-inside.by_frame.items ((l.self-inside.hand + lesser) % length l.self-inside.by_frame.items) ≡ Some None
