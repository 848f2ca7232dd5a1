-- What clauses see of a medium whose content isn't visible.
use Rattle.std.specs.Prelude.{◌≡◌, ℕ, Bool, false, []}
use Rattle.pmem_trait.specs.Faults.{faults_after}
use Rattle.pmem_trait.specs.Words.{settled_at}
use Rattle.pmem_trait.specs.Sights.{Sight}
use Rattle.dude_io.specs.declared.clock.Clock.{Clock}

-- what is seen of a medium that isn't visible: its length, its moment and its count of faults, and nothing else
abbrev pub silent_medium : ℕ → Clock → Sight
silent_medium len clock = record {
  len = len;
  now = clock.now;
  faults = clock.faults.count;
  is_visible = false;
  state = λ _. record { word = λ _. settled_at 0; told = [] };
  lists_calls = false;
  made = [];
}

-- no moment passed, and a fault was counted exactly where it failed
pub record CountsOutcome (ok : Bool) (old new : Clock) : Type 0 where
  pub now : new.now ≡ old.now
  pub faults : new.faults.count ≡ faults_after ok old.faults.count
