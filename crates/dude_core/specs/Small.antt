-- Views whose counts can be added.
use Rattle.std.specs.Prelude.{◌+◌, ◌<◌, ◌^◌}
use Rattle.core_events.specs.Views.{View}

-- one view can take over what the other has: the sums fit in a word
pub record AreSmall (v w : View) : Type 0 where
  pub draws : v.draws + w.draws < 2 ^ 64
  pub splits : v.part.splits + (w.part.splits + 1) < 2 ^ 64
