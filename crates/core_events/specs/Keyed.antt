-- Lists of keys with values, lists of numbers, and sums over lists.
use Rattle.std.specs.Prelude.{◌≡◌, ◌==◌, ◌||◌, ℕ, ◌+◌, Bool, false, List, [], ◌∷◌, Option, Some, None, if◌then◌else◌}

-- the value under a key; the newest comes first
abbrev pub find : List (ℕ × ℕ) → ℕ → Option ℕ
find [] k = None
find (x ∷ xs) k = if x.0 == k then Some x.1 else find xs k

-- the list with no pair of this key
abbrev pub without : List (ℕ × ℕ) → ℕ → List (ℕ × ℕ)
without [] k = []
without (x ∷ xs) k = if x.0 == k then without xs k else (x ∷ without xs k)

-- the number stands in the list
abbrev pub has : List ℕ → ℕ → Bool
has [] a = false
has (x ∷ xs) a = (x == a) || has xs a

-- the number; d where there is none
abbrev pub or_else : Option ℕ → ℕ → ℕ
or_else None d = d
or_else (Some x) d = x

-- no number stands twice
abbrev pub Distinct : List ℕ → Type 0
Distinct [] = Unit {0}
Distinct (x ∷ xs) = (has xs x ≡ false) × Distinct xs

-- the sum of what the function gives for each element
abbrev pub total : {A : Type 0} → (A → ℕ) → List A → ℕ
total f [] = 0
total f (v ∷ vs) = f v + total f vs

-- the function with another value at k
abbrev pub change : {A : Type 0} → (ℕ → A) → ℕ → A → ℕ → A
change f k a j = if j == k then a else f j

-- 1 where there is a number, 0 where there is none
abbrev pub one_if : Option ℕ → ℕ
one_if None = 0
one_if (Some t) = 1
