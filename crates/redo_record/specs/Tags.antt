-- The tag of a cell, its word 0: kind * 2 ^ 62 + number. Kind 1 is a head, kind 2 a continuation; a cell of another kind
-- is no part of a record.
use Rattle.std.specs.Prelude.{◌≡◌, ℕ, ◌+◌, ◌*◌, ◌/◌, ◌%◌, ◌^◌, ◌<◌}
use Rattle.dude_base.specs.declared.limits.TheConstants.{MAX_NUMBER}
use Rattle.dude_base.specs.Sizes.{IsFrom}

-- the kind of a cell, in the two highest bits of its tag: 1 is a head, 2 a continuation
abbrev pub kind_of : ℕ → ℕ
kind_of tag = tag / 2 ^ 62

-- the number in the other bits of a tag
abbrev pub number_of : ℕ → ℕ
number_of tag = tag % 2 ^ 62

-- the tag of the head of a record with this number
abbrev pub head_tag : ℕ → ℕ
head_tag number = 2 ^ 62 + number

-- the tag of the other cells of a record with this number
abbrev pub continuation_tag : ℕ → ℕ
continuation_tag number = 2 * 2 ^ 62 + number

-- a number that a record may have
abbrev pub IsNumber : ℕ → Type 0
IsNumber number = IsFrom 1 MAX_NUMBER number

-- the tag of a head with a number over this one
pub record IsHeadOver (above tag : ℕ) : Type 0 where
  pub kind : kind_of tag ≡ 1
  pub over : above < number_of tag
