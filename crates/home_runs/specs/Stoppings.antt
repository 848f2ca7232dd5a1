-- What contracts see of a `Stopping`.
use Rattle.std.specs.Prelude.{◌≡◌}
use Rattle.word_space.specs.Flats.{words_of, flat_sight, flat_well_formed}
use Rattle.word_space.specs.Sights.{WordsSight, IsWellFormed}
use Rattle.home_runs.specs.declared.stopping.Stopping.{Stopping}

-- what is seen of a `Stopping`: what is seen of its array, but for the last Stop
abbrev pub stopping_sight : Stopping → WordsSight
stopping_sight s = record (flat_sight s.flat) { stopped = s.stopped }

-- the array at rest is the same
abbrev pub HasSameWords : Stopping → Stopping → Type 0
HasSameWords s t = words_of t.flat ≡ words_of s.flat

-- what is seen of a `Stopping` is well formed
pub stopping_well_formed : (s : Stopping) → IsWellFormed (stopping_sight s)
stopping_well_formed s = let fits = flat_well_formed s.flat in record { count = fits.count; reads_inside = fits.reads_inside; writes = fits.writes; inside = fits.inside }
