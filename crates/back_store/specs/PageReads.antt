-- The reads of a page, word by word.
use Rattle.std.specs.Prelude.{◌≡◌, ℕ, ◌+◌, ◌<◌, IsTrue, List, Result, is_ok, map, slice_index}
use Rattle.std.specs.List.{range_with_len}
use Rattle.dude_base.specs.declared.limits.TheConstants.{PAGE}
use Rattle.pmem_trait.specs.declared.call.Call.TheVariants.{Read}
use Rattle.pmem_trait.specs.declared.failed.Failed.{Failed}
use Rattle.pmem_trait.specs.Words.{value_of}
use Rattle.pmem_trait.specs.Sights.{CallsMade, Sight, state_now}

-- exactly the words of a page from this one on were read, in order; or a prefix of them, whose last read failed
abbrev pub ReadsFrom : ℕ → Result (Unit {0}) Failed → Sight → Sight → Type 0
ReadsFrom at result s t = CallsMade (map Read (range_with_len at PAGE)) (is_ok result) s t

-- where the medium is visible, these are its words from this one on
abbrev pub AreWordsFrom : ℕ → Sight → List ℕ → Type 0
AreWordsFrom at s words = IsTrue s.is_visible → (i : ℕ) → i < PAGE → slice_index words i ≡ value_of ((state_now s).word (at + i))
