-- How calls that were made, and one more, go on a list of calls.
use Rattle.std.specs.Prelude.{◌≡◌, Bool, List, [], ◌∷◌, ◌++◌}
use Rattle.pmem_trait.specs.declared.call.Call.{Call}
use Rattle.dude_core.specs.Named.{Tells}
use Rattle.dude_core.specs.declared.fit.Fit.{Fit}
use Rattle.dude_core.specs.declared.fit.Fit.TheVariants.{Apart, Front, Whole}

-- the list begins with the calls made and this one, and these are left
abbrev pub GoesOn : List Call → List Call → Call → List Call → Type 0
GoesOn list made call left = list ≡ made ++ call ∷ left

-- the calls made and this one aren't the first ones of the list
abbrev pub IsApart : List Call → List Call → Call → Type 0
IsApart list made call = (left : List Call) → GoesOn list made call left → ⊥

-- the calls made and this one are the first ones of the list; `ends` says whether they are all of it
pub record IsFront (list made : List Call) (call : Call) (ends : Bool) : Type 0 where
  pub left : List Call
  pub goes : GoesOn list made call left
  pub ends_is : Tells ends (left ≡ [])

-- the calls made and this one aren't the first ones of the list; they are, and some are left; they are the whole list
abbrev pub IsFit : Fit → List Call → List Call → Call → Type 0
IsFit Apart list made call = IsApart list made call
IsFit Front list made call = (next : Call) × (later : List Call) × GoesOn list made call (next ∷ later)
IsFit Whole list made call = GoesOn list made call []
