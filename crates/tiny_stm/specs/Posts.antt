-- Records that stood in boxes.
use Rattle.std.specs.Prelude.{◌≡◌, ℕ, List}
use Rattle.std.specs.List.{Contains}
use Rattle.tiny_stm.specs.declared.posted.Posted.{Posted}

-- its number
abbrev pub number_of : Posted → ℕ
number_of q = q.redo.number

-- the number is that of one of them
abbrev pub IsAmong : List Posted → ℕ → Type 0
IsAmong qs n = (q : Posted) × Contains qs q × (number_of q ≡ n)
