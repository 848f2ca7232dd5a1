-- What a `Setup` keeps of its fields.
use Rattle.std.specs.Prelude.{◌≤◌, ◌^◌}
use Rattle.dude_base.specs.declared.limits.TheConstants.{MAX_RINGS, MAX_LOCKS, MAX_BOXES}
use Rattle.dude_base.specs.Sizes.{IsFrom}
use Rattle.dude_core.specs.declared.setup.Setup.TheInside.{Inside}

-- Threads, locks and boxes are within their limits, there are no more frames than pages, and at most 2^32 pages.
pub record IsWithinLimits (a : Inside) : Type 0 where
  pub threads : IsFrom 1 MAX_RINGS a.threads
  pub locks : IsFrom 1 MAX_LOCKS a.locks
  pub boxes : IsFrom 1 MAX_BOXES a.boxes
  pub frames : a.frames ≤ a.pages
  pub pages : a.pages ≤ 2 ^ 32
