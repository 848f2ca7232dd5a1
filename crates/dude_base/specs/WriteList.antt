-- What a list of writes keeps of its fields.
use Rattle.std.specs.Prelude.{◌≡◌, ℕ, ◌≤◌, List, length, take}
use Rattle.dude_base.specs.declared.write.Write.{Write}
use Rattle.dude_base.specs.Writes.{HasDistinctPlaces}

-- What a list of writes keeps of its fields: so many slots, of which the first ones are in use, and no word twice.
pub record IsKept (most len : ℕ) (slots : List Write) : Type 0 where
  pub slots_are : length slots ≡ most
  pub len_is : len ≤ most
  pub distinct : HasDistinctPlaces (take len slots)
