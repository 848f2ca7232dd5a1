-- What contracts see of a group, and the last writes of records.
use Rattle.std.specs.Prelude.{◌≡◌, ℕ, List, [], ◌∷◌, Option, Some, None}
use Rattle.std.specs.Option.{option_or}
use Rattle.std.specs.List.{Contains}
use Rattle.dude_base.specs.declared.write.Write.{Write}
use Rattle.dude_base.specs.Records.{RedoBundle, overwritten_by_all}
use Rattle.dude_base.specs.Writes.{written, overwritten}

-- The writes of a group, those taken for the next ones, and for how many it has room.
pub record GroupState : Type 0 where
  pub writes : List Write
  pub taken : List Write
  pub room : ℕ

-- what the last of these records that writes word i puts into it, or None where none of them does
abbrev pub last_written : List RedoBundle → ℕ → Option ℕ
last_written [] i = None
last_written (r ∷ rs) i = option_or (last_written rs i) (written r.writes i)

-- the writes make of each array what the records make of it in their order
abbrev pub ActAs : List Write → List RedoBundle → Type 0
ActAs ws rs = (array : List ℕ) → overwritten ws array ≡ overwritten_by_all rs array

-- One of these records makes the write.
pub record IsWrittenBy (rs : List RedoBundle) (w : Write) : Type 0 where
  pub writer : RedoBundle
  pub among : Contains rs writer
  pub writes : written writer.writes w.at ≡ Some w.value
