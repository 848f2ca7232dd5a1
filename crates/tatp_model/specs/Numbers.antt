-- A list of at most three phone numbers, and the three items that hold it.
use Rattle.std.specs.Prelude.{ℕ, ◌≡◌, List, [], ◌∷◌, ◌++◌, length, take}
use Rattle.tatp_model.specs.declared.numbers.Numbers.{Numbers}

-- the value that holds this list: the items past it are 0
abbrev pub numbers_of : List ℕ → Numbers
numbers_of xs = record { count = length xs; items = take 3 (xs ++ 0 ∷ 0 ∷ 0 ∷ []) }

-- the list that a value holds
abbrev pub list_of : Numbers → List ℕ
list_of n = take n.count n.items

-- whatever list of phone numbers the old value holds, the new one holds that list with this number at the end
abbrev pub HasAppended : ℕ → Numbers → Numbers → Type 0
HasAppended phone old new = (xs : List ℕ) → old ≡ numbers_of xs → new ≡ numbers_of (xs ++ phone ∷ [])
