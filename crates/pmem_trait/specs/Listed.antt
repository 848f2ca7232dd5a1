-- What the list of calls made says of a caller: exactly these, or a prefix of them whose last one failed.
use Rattle.std.specs.Prelude.{◌≡◌, false, true, List, [], ◌∷◌, ◌++◌, map, IsTrue}
use Rattle.pmem_trait.specs.declared.call.Call.{Call}
use Rattle.pmem_trait.specs.declared.made.Made.{Made}
use Rattle.pmem_trait.specs.Sights.{Sight}

-- a call that was made and didn't fail
abbrev pub was_made : Call → Made
was_made c = record { call = c; failed = false }

-- these calls were made and none of them failed
abbrev pub AllMade : List Call → Sight → Sight → Type 0
AllMade cs s t = IsTrue t.lists_calls → t.made ≡ s.made ++ map was_made cs

-- a prefix of these calls was made, the last of which failed and no other
abbrev pub PrefixMade : List Call → Sight → Sight → Type 0
PrefixMade cs s t = IsTrue t.lists_calls →
    (prefix : List Call) × (last : Call) × (rest : List Call)
    × (cs ≡ prefix ++ last ∷ rest) × (t.made ≡ s.made ++ (map was_made prefix ++ record { call = last; failed = true } ∷ []))
