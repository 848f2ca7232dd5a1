-- The arrays at the numbers of a run: that at its first number, and behind it one for each record.
use Rattle.std.specs.Prelude.{◌≡◌, ℕ, ◌+◌, ◌-◌, ◌≤◌, List, [], ◌∷◌, ◌++◌, length, slice_index_or}
use Rattle.dude_base.specs.declared.sizes.Sizes.{Sizes}
use Rattle.dude_base.specs.declared.write.Write.{Write}
use Rattle.dude_base.specs.Records.{RedoBundle}
use Rattle.dude_base.specs.Writes.{overwritten}
use Rattle.pmem_trait.specs.Words.{AtLeast}
use Rattle.redo_record.specs.Images.{sizes_of}
use Rattle.redo_record.specs.Recovery.{Recovers}

-- The number that the arrays begin at, and the arrays at it and at the numbers behind it, of which there is at least the first.
pub record RunArrays : Type 0 where
  pub first : ℕ
  pub opening : List ℕ
  pub others : List (List ℕ)

-- the last number
abbrev pub last_number : RunArrays → ℕ
last_number a = a.first + length a.others

-- the array at a number from the first to the last
abbrev pub array_at : RunArrays → ℕ → List ℕ
array_at a n = slice_index_or (a.opening ∷ a.others) (n - a.first) []

-- the arrays with one more: the last one overwritten
abbrev pub with_writes : List Write → RunArrays → RunArrays
with_writes writes a = record a { others = a.others ++ overwritten writes (array_at a (last_number a)) ∷ [] }

-- The bundle leads from the array at this number to the last one.
pub record LeadsToLast (a : RunArrays) (end : ℕ) (b : RedoBundle) : Type 0 where
  pub last : b.last ≡ last_number a
  pub array : overwritten b.writes (array_at a end) ≡ array_at a (last_number a)

-- The image recovers to a number from `least` to the last one, and to the array there; and nothing greater was told behind the
-- first `before` numbers.
pub record RecoversIn (sizes : Sizes) (a : RunArrays) (least before : ℕ) (told image : List ℕ) : Type 0 where
  pub number : ℕ
  pub from : least ≤ number
  pub most : number ≤ last_number a
  pub recovered : Recovers image number (array_at a number)
  pub same_sizes : sizes_of image ≡ sizes
  pub floor : AtLeast before told number
