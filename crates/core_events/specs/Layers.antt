-- The layers of the kept state, each of a whole state with its ghost.
use Rattle.std.specs.Prelude.{map}
use Rattle.core_events.specs.Setups.{Setup}
use Rattle.core_events.specs.Words.{State}
use Rattle.core_events.specs.Ghosts.{Ghost}
use Rattle.core_events.specs.KeptThreads.{part_of, ThreadsCounted}
use Rattle.core_events.specs.KeptLocks.{LocksKept}

-- the layer of threads, of a state with its ghost
abbrev pub ThreadsIn : Setup → Ghost → State → Type 0
ThreadsIn z g c = ThreadsCounted z.threads g.thread g.home c.threads (map part_of c.views)

-- the layer of locks and reads, of a state with its ghost
abbrev pub LocksIn : Setup → Ghost → State → Type 0
LocksIn z g c = LocksKept z g.claims g.thread c.clock c.locks c.views
