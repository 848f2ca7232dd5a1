-- What a `Place` keeps of its fields.
use Rattle.dude_base.specs.declared.place.Place.TheInside.{Inside}
use Rattle.dude_base.specs.Sizes.{IsAccepted}

-- what a `Place` keeps of its fields: sizes that are accepted
abbrev pub IsPlace : Inside → Type 0
IsPlace p = IsAccepted p.sizes
