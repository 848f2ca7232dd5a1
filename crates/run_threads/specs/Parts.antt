-- Files of which the first requests are counted, and the rests of them.
use Rattle.std.specs.Prelude.{◌≡◌, ℕ, ◌+◌, ◌^◌, ◌<◌, ◌≤◌, List, length, slice_index}
use Rattle.tatp_model.specs.declared.done.Done.{Done}
use Rattle.tatp_model.specs.declared.request.Request.{Request}
use Rattle.run_order.specs.Rests.{LengthsAre, files_of, firsts_of, rests_of}

-- The files are in these parts, of which the first ones have so many requests as are counted, and there is a count for each file.
pub record AreParts (files : List (List Request)) (counts : List ℕ) (parts : List (List Request × List Request)) : Type 0 where
  pub files_are : files_of parts ≡ files
  pub lengths : LengthsAre (slice_index counts) 0 (firsts_of parts)
  pub counted : length files ≤ length counts

-- they are in some such parts
abbrev pub AreInParts : List (List Request) → List ℕ → Type 0
AreInParts files counts = (parts : List (List Request × List Request)) × AreParts files counts parts

-- whatever the parts, these are the rests
abbrev pub AreRests : List (List Request) → List ℕ → List (List Request) → Type 0
AreRests files counts rests = (parts : List (List Request × List Request)) → AreParts files counts parts → rests ≡ rests_of parts

-- the request's file has a count, and its index in the whole file is a number of 64 bits
abbrev pub IsCounted : List ℕ → Done → Type 0
IsCounted counts d = (d.file < length counts) × (slice_index counts d.file + d.index < 2 ^ 64)
