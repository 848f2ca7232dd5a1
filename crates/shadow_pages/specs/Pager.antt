-- What a `Pager` keeps.
use Rattle.std.specs.Prelude.{◌≡◌, ◌↔◌, ℕ, ◌<◌, List, length, Option, Some, slice_get}

-- The two lists say the same: a page is in a frame by the one exactly where it is by the other. The hand is a frame.
pub record IsSound (by_frame by_page : List (Option ℕ)) (hand : ℕ) : Type 0 where
  pub same : (frame page : ℕ) → (slice_get by_frame frame ≡ Some (Some page)) ↔ (slice_get by_page page ≡ Some (Some frame))
  pub in_range : hand < length by_frame
