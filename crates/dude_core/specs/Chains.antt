-- Lists of waiting bundles that lead from one number to another, where no two bundles cover one number.
use Rattle.std.specs.Prelude.{◌≡◌, ℕ, ◌≤◌, List, All, flat_map, length, sum_by}
use Rattle.dude_base.specs.declared.write.Write.{Write}
use Rattle.dude_base.specs.Records.{RedoBundle, HasNumbers}
use Rattle.dude_base.specs.Writes.{HasDistinctPlaces}
use Rattle.redo_record.specs.Waiting.{Waiting, Lead, AreDisjoint}

-- how many writes the waiting bundles have together
abbrev pub writes_in : List Waiting → ℕ
writes_in waiting = sum_by (λ w. length w.redo.writes) waiting

-- waiting bundles can be taken in chains: they have numbers, none in common, and there is room for so many writes
pub record CanChain (waiting : List Waiting) (most : ℕ) : Type 0 where
  pub numbers : All (λ w. HasNumbers w.redo) waiting
  pub distinct : AreDisjoint waiting
  pub room : writes_in waiting ≤ most

-- the bundles are the only ones that lead from one number to another
pub record LeadAlone (waiting : List Waiting) (from to : ℕ) (rs : List RedoBundle) : Type 0 where
  pub lead : Lead waiting from rs to
  pub only : (others : List RedoBundle) → Lead waiting from others to → others ≡ rs

-- these are the writes of the bundles that alone lead from one number to another, one bundle behind another
pub record HasTaken (waiting : List Waiting) (from to : ℕ) (taken : List Write) : Type 0 where
  pub bundles : List RedoBundle
  pub alone : LeadAlone waiting from to bundles
  pub taken_is : taken ≡ flat_map (λ r. r.writes) bundles
  pub distinct : All (λ r. HasDistinctPlaces r.writes) bundles
  pub few : length taken ≤ writes_in waiting
