-- Which records of a pool were met.
use Rattle.std.specs.Prelude.{◌≡◌, ℕ, ◌+◌, ◌*◌, ◌<◌, ◌↔◌, List, [], ◌∷◌, ◌++◌, length, Bool, true, false, not, Option, MatchOption, MatchBool, Contains, slice_index_or, count_by}
use Rattle.record_heap.specs.declared.pool.Pool.{Pool}
use Rattle.record_heap.specs.Pool.{IsRecord}

-- a record that was not met before
pub record IsNew (pool : Pool) (met : List ℕ) (at : ℕ) : Type 0 where
  pub place : IsRecord pool at
  pub unmet : ¬ Contains met at

-- just the marks of these records are set, each in its place among the pool's
pub record AreMarked (pool : Pool) (met : List ℕ) (marks : List Bool) : Type 0 where
  pub size : length marks ≡ pool.count
  pub marked : (index : ℕ) → index < pool.count → (slice_index_or marks index false ≡ true) ↔ Contains met (pool.first + pool.size * index)

-- how many marks are not set
abbrev pub unmarked : List Bool → ℕ
unmarked marks = count_by not marks

-- the word is a new record, which is marked from now on; or it is none
abbrev pub Meets : Pool → ℕ → List Bool → List Bool → Bool → Type 0
Meets pool at old new is_new = (met : List ℕ) → AreMarked pool met old → MatchBool is_new (IsNew pool met at × AreMarked pool (met ++ at ∷ []) new) (¬ IsNew pool met at)

-- the least record that was not met, or none where each was
abbrev pub IsLeastNew : Pool → List ℕ → Option ℕ → Type 0
IsLeastNew pool met found = MatchOption found ((at : ℕ) → IsRecord pool at → Contains met at) (λ word. IsNew pool met word × ((at : ℕ) → IsRecord pool at → at < word → Contains met at))

-- fewer marks are not set than before
abbrev pub MarksMore : List Bool → List Bool → Type 0
MarksMore old new = unmarked new < unmarked old

-- whatever records the marks are those of, the least that is not among them, or none where each is
abbrev pub FindsUnmarked : Pool → List Bool → Option ℕ → Type 0
FindsUnmarked pool marks found = (met : List ℕ) → AreMarked pool met marks → IsLeastNew pool met found
