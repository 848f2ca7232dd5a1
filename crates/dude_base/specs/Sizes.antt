-- Which sizes an image may have.
use Rattle.std.specs.Prelude.{◌≡◌, ℕ, ◌<◌, ◌≤◌}
use Rattle.dude_base.specs.declared.field.Field.{Field}
use Rattle.dude_base.specs.declared.field.Field.TheVariants.{Subscribers, Calls, Rings, Cells, Pages, Index}
use Rattle.dude_base.specs.declared.limits.TheConstants.{MAX_SUBSCRIBERS, MAX_CALLS, MAX_RINGS, MIN_CELLS, MAX_CELLS, MAX_INDEX}
use Rattle.dude_base.specs.declared.size_fault.SizeFault.{SizeFault}
use Rattle.dude_base.specs.declared.sizes.Sizes.{Sizes}
use Rattle.dude_base.specs.Home.{pages_for}

-- x is a number from least to most
pub record IsFrom (least most x : ℕ) : Type 0 where
  pub low : least ≤ x
  pub high : x ≤ most

-- what each field has to be
abbrev pub IsWithin : Field → Sizes → Type 0
IsWithin Subscribers s = IsFrom 1 MAX_SUBSCRIBERS s.subscribers
IsWithin Calls s = IsFrom 1 MAX_CALLS s.calls
IsWithin Rings s = IsFrom 1 MAX_RINGS s.rings
IsWithin Cells s = IsFrom MIN_CELLS MAX_CELLS s.cells
IsWithin Pages s = s.pages ≡ pages_for s.subscribers s.calls s.index
IsWithin Index s = IsFrom 0 MAX_INDEX s.index

-- each field is within its limits
pub record IsAccepted (s : Sizes) : Type 0 where
  pub subscribers : IsWithin Subscribers s
  pub calls : IsWithin Calls s
  pub rings : IsWithin Rings s
  pub cells : IsWithin Cells s
  pub pages : IsWithin Pages s
  pub index : IsWithin Index s

-- the order in which the fields are tested: that of the struct, but for the index, on which the pages depend
abbrev pub field_rank : Field → ℕ
field_rank Subscribers = 0
field_rank Calls = 1
field_rank Rings = 2
field_rank Cells = 3
field_rank Index = 4
field_rank Pages = 5

-- this field is out of its limits, and each one before it is within them
pub record IsFirstOut (field : Field) (s : Sizes) : Type 0 where
  pub out : ¬ IsWithin field s
  pub before : (other : Field) → field_rank other < field_rank field → IsWithin other s

-- the sizes with this index and the pages that the home then needs
abbrev pub sizes_with : ℕ → ℕ → ℕ → ℕ → ℕ → Sizes
sizes_with index subscribers calls rings cells = record { subscribers = subscribers; calls = calls; rings = rings; cells = cells; pages = pages_for subscribers calls index; index = index }

-- the sizes without an index
abbrev pub sizes_for : ℕ → ℕ → ℕ → ℕ → Sizes
sizes_for = sizes_with 0

-- the sizes with an index
abbrev pub indexed_sizes : ℕ → ℕ → ℕ → ℕ → Sizes
indexed_sizes = sizes_with 1

-- these sizes, and they are accepted
abbrev pub AreTheSizes : Sizes → Sizes → Type 0
AreTheSizes wanted s = (s ≡ wanted) × IsAccepted s

-- the fault names the first field that is out of its limits
abbrev pub IsFaultOf : Sizes → SizeFault → Type 0
IsFaultOf s fault = IsFirstOut fault.field s

-- each field before the pages is within its limits
abbrev pub CountsAreWithin : Sizes → Type 0
CountsAreWithin s = (f : Field) → field_rank f < field_rank Pages → IsWithin f s

-- the fault names the first field that is out of its limits, which isn't the pages
abbrev pub IsFaultOfCounts : Sizes → SizeFault → Type 0
IsFaultOfCounts s fault = IsFaultOf s fault × (field_rank fault.field < field_rank Pages)
