-- What clauses see of an image in memory that is read as a medium.
use Rattle.std.specs.Prelude.{ℕ, true, false, List, [], length, slice_index}
use Rattle.pmem_trait.specs.declared.call.Call.{Call}
use Rattle.pmem_trait.specs.Words.{State, settled_at}
use Rattle.pmem_trait.specs.Sights.{Sight, OneCall}

-- each word is settled at that of the image, and nothing was told
abbrev pub still_state : List ℕ → State
still_state image = record { word = λ k. settled_at (slice_index image k); told = [] }

-- a medium that is settled at the image at each moment
abbrev pub still_sight : List ℕ → ℕ → ℕ → Sight
still_sight image now faults = record {
  len = length image;
  now = now;
  faults = faults;
  is_visible = true;
  state = λ _. still_state image;
  lists_calls = false;
  made = [];
}

-- whichever call is made, it fails
abbrev pub FailsEachCall : Sight → Sight → Type 0
FailsEachCall s t = (c : Call) → OneCall c false s t
