-- What the machine of a run is set up with.
use Rattle.std.specs.Prelude.{ℕ, List, true, false}
use Rattle.dude_base.specs.declared.run.Run.{Run}
use Rattle.core_events.specs.Setups.{Setup}

-- the setup of a run with so many threads over these home words and this number; the values are known, and no turn ends with a fault
abbrev pub setup_of : List ℕ → ℕ → Run → ℕ → ℕ → Setup
setup_of words pages run threads number = record {
  threads = threads;
  locks = run.locks;
  pages = pages;
  frames = run.frames;
  boxes = run.boxes;
  opening = words;
  first = number;
  is_told = true;
  may_fail = false;
}
