-- The home of a new database.
use Rattle.std.specs.Prelude.{◌≡◌, ◌≢◌, ℕ, ◌+◌, ◌*◌, ◌<◌, List, length, slice_index}
use Rattle.dude_base.specs.declared.limits.TheConstants.{PAGE}
use Rattle.dude_base.specs.declared.sizes.Sizes.{Sizes}
use Rattle.dude_base.specs.Sizes.{IsAccepted}
use Rattle.tatp_model.specs.Population.{population, subscriber_at}
use Rattle.tatp_layout.specs.Index.{location_key}
use Rattle.tatp_layout.specs.Layout.{index_tree, leaf_base, subscriber_table, number_table, access_table, facility_table, call_table}
use Rattle.tatp_layout.specs.Records.{subscriber_form, number_form, access_form, facility_form, call_form}
use Rattle.tatp_layout.specs.StandsFor.{StandsFor}
use Rattle.tatp_rows.specs.Filled.{IsFilled, IsUnused}
use Rattle.tatp_rows.specs.Indexed.{IsIndexed}

-- a word in front of an index, or any word where there is none
abbrev pub IsBeforeIndex : Sizes → ℕ → Type 0
IsBeforeIndex s i = s.index ≢ 0 → i < leaf_base s

-- no word changed in front of an index, or none at all where there is none
abbrev pub StaysBeforeIndex : Sizes → List ℕ → List ℕ → Type 0
StaysBeforeIndex s old new = (i : ℕ) → IsBeforeIndex s i → slice_index new i ≡ slice_index old i

-- a word that none of the five tables uses, and no index
pub record IsUnusedByAll (s : Sizes) (i : ℕ) : Type 0 where
  pub subscribers : IsUnused subscriber_form (subscriber_table s) (population s.subscribers).subscribers i
  pub numbers : IsUnused number_form (number_table s) (population s.subscribers).subscribers i
  pub access : IsUnused access_form (access_table s) (population s.subscribers).access i
  pub facilities : IsUnused facility_form (facility_table s) (population s.subscribers).facilities i
  pub calls : IsUnused call_form (call_table s) (population s.subscribers).calls i
  pub index : IsBeforeIndex s i

-- The rows of the population were inserted in rising order of key, a subscriber's number with the subscriber; each word in front
-- of an index that no table uses is 0.
pub record HasPopulation (s : Sizes) (array : List ℕ) : Type 0 where
  pub size : length array ≡ s.pages * PAGE
  pub subscribers : IsFilled subscriber_form (subscriber_table s) array (population s.subscribers).subscribers
  pub numbers : IsFilled number_form (number_table s) array (population s.subscribers).subscribers
  pub access : IsFilled access_form (access_table s) array (population s.subscribers).access
  pub facilities : IsFilled facility_form (facility_table s) array (population s.subscribers).facilities
  pub calls : IsFilled call_form (call_table s) array (population s.subscribers).calls
  pub zeros : (i : ℕ) → IsUnusedByAll s i → slice_index array i ≡ 0

-- the key of a subscriber of the population in an index: subscriber n + 1 has the n-th one
abbrev pub nth_key : ℕ → ℕ
nth_key n = location_key (subscriber_at (n + 1))

-- where there is an index, the keys of the first n subscribers were inserted into it, in rising order of s_id
abbrev pub IsIndexedTo : Sizes → ℕ → List ℕ → Type 0
IsIndexedTo s n array = s.index ≢ 0 → IsIndexed (index_tree s) nth_key n array

-- the tables have the population's rows, and an index has the keys of its first n subscribers
pub record IsPopulatedTo (s : Sizes) (n : ℕ) (array : List ℕ) : Type 0 where
  pub tables : HasPopulation s array
  pub index : IsIndexedTo s n array

-- the tables have the population's rows, and an index has the keys of all its subscribers
abbrev pub IsPopulated : Sizes → List ℕ → Type 0
IsPopulated s array = IsPopulatedTo s s.subscribers array

-- the array stands for the rows of the population
abbrev pub StandsForPopulation : Sizes → List ℕ → Type 0
StandsForPopulation s array = StandsFor s array (population s.subscribers)

-- The words of a new home are all known: there is one such array.
abbrev pub LawOfPopulation : Type 0
LawOfPopulation = (s : Sizes) (one other : List ℕ) → IsAccepted s → IsPopulated s one → IsPopulated s other → one ≡ other
