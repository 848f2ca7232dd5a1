-- Which runs an image of so many pages may have.
use Rattle.std.specs.Prelude.{ℕ, min}
use Rattle.dude_base.specs.declared.limits.TheConstants.{MIN_FRAMES, MAX_LOCKS, MAX_BOXES}
use Rattle.dude_base.specs.declared.run.Run.{Run}
use Rattle.dude_base.specs.Sizes.{IsFrom}

-- the frames are at most the pages, and at least 32 or all of the pages
pub record IsRunWithin (pages : ℕ) (run : Run) : Type 0 where
  pub frames : IsFrom (min MIN_FRAMES pages) pages run.frames
  pub locks : IsFrom 1 MAX_LOCKS run.locks
  pub boxes : IsFrom 1 MAX_BOXES run.boxes
