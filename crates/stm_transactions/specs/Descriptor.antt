-- What stands in a descriptor, and when a pass has it.
use Rattle.std.specs.Prelude.{◌≡◌, Option, is_some, true, List, [], ◌∷◌, ⊤}
use Rattle.std.specs.Global.{Box}
use Rattle.stm_transactions.specs.declared.descriptor.Descriptor.{Descriptor}

-- nothing stands in its lists
pub record HoldsNothing (d : Descriptor) : Type 0 where
  pub no_reads : d.reads.items ≡ []
  pub no_writes : d.writes ≡ []
  pub none_held : d.held ≡ []
  pub no_frames : d.frames ≡ []

-- it is there where the seat is, of which this much is known
abbrev pub AreWithSeat : {K : Type 0} → List K → Option (Box Descriptor) → Type 0
AreWithSeat [] descriptor = ⊤
AreWithSeat (k ∷ ks) descriptor = is_some descriptor ≡ true
