-- Redo records that were handed to a back, the last one first; the values at their numbers, and the bundles that join them.
use Rattle.std.specs.Prelude.{◌≡◌, ◌==◌, ℕ, zero, suc, ◌<◌, ◌≤◌, ◌+◌, ◌-◌, true, false, List, [], ◌∷◌, length, slice_index, if◌then◌else◌, Option, None}
use Rattle.std.specs.Option.{option_or}
use Rattle.dude_base.specs.Records.{Covers, RedoBundle, RedoRecord, bundle_of, first_of, with_next}
use Rattle.dude_base.specs.Writes.{HasDistinctPlaces, written}
use Rattle.core_events.specs.Entries.{History, value}
use Rattle.core_events.specs.Keyed.{Distinct, has}
use Rattle.core_events.specs.KeptNumbers.{numbers_of}

-- what the record of a number writes
abbrev pub writes_in : List RedoRecord → History
writes_in [] n = []
writes_in (r ∷ rs) n = if r.number == n then r.writes else writes_in rs n

-- there is a record of this number
abbrev pub HasRecord : List RedoRecord → ℕ → Type 0
HasRecord rs n = has (numbers_of rs) n ≡ true

-- there is no record of this number
abbrev pub LacksRecord : List RedoRecord → ℕ → Type 0
LacksRecord rs n = has (numbers_of rs) n ≡ false

-- there is a record of each number over the first and up to this one
abbrev pub IsReached : ℕ → List RedoRecord → ℕ → Type 0
IsReached first rs n = (m : ℕ) → first < m → m ≤ n → HasRecord rs m

-- Each word of the array is the value at this number.
pub record HasValues (opening : List ℕ) (hist : History) (n : ℕ) (array : List ℕ) : Type 0 where
  pub size : length array ≡ length opening
  pub words : (i : ℕ) → i < length opening → slice_index array i ≡ value opening hist n i

-- of so many numbers from the first on, what the last one that writes the word i puts there
abbrev pub last_written : History → ℕ → ℕ → ℕ → Option ℕ
last_written hist first zero i = None
last_written hist first (suc n) i = option_or (written (hist (first + n)) i) (last_written hist first n i)

-- The bundle joins those of the records whose numbers it covers: each number has one, and of each word it has the last write.
pub record JoinsRecords (rs : List RedoRecord) (b : RedoBundle) : Type 0 where
  pub has : (n : ℕ) → Covers b n → HasRecord rs n
  pub same : (i : ℕ) → written b.writes i ≡ last_written (writes_in rs) (first_of b) (b.last + 1 - first_of b) i

-- The bundle joins just these records, one for each number that it covers.
pub record JoinsJust (rs : List RedoRecord) (b : RedoBundle) : Type 0 where
  pub joins : JoinsRecords rs b
  pub once : Distinct (numbers_of rs)
  pub only : (n : ℕ) → HasRecord rs n → Covers b n

-- The numbers of more records are over the first one, and none of them has a record yet.
pub record AreNew (first : ℕ) (rs more : List RedoRecord) : Type 0 where
  pub over : (n : ℕ) → HasRecord more n → first < n
  pub lacks : (n : ℕ) → HasRecord more n → LacksRecord rs n

-- A bundle of one record joins just it; and where a bundle joins just some records, the record of the next number joins them.
pub record LawOfJoinedRecords : Type 0 where
  pub one : (r : RedoRecord) → JoinsJust (r ∷ []) (bundle_of r)
  pub next : (rs : List RedoRecord) (b : RedoBundle) (r : RedoRecord) → JoinsJust rs b → b.span ≤ b.last → r.number ≡ b.last + 1
      → HasDistinctPlaces r.writes → JoinsJust (r ∷ rs) (with_next b r)
