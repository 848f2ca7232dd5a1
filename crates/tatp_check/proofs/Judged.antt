-- What a record holds, word by word.
use Rattle.std.proofs.Common.{ℕ, zero, suc, ◌+◌, ◌<◌, ◌≤◌, List, [], ◌∷◌, ◌++◌, Some, None, slice_index, refl, arith}
use Rattle.record_heap.specs.Pool.{IsRecord}
use Rattle.hash_table.specs.declared.table.Table.{Table}
use Rattle.tatp_check.specs.declared.taken.Taken.{Taken}
use Rattle.tatp_check.specs.Faults.{FitsNew, IsWrongRecord}
use Rattle.tatp_check.specs.Marks.{IsNew}
use Rattle.tatp_check.specs.Seen.{IsFirstWrongBehind, TakesSound}
use Rattle.tatp_check.specs.Taken.{AreTaken}
use Rattle.tatp_check.specs.Walk.{Fits}

module _ (content : ℕ → ℕ → Type 0) (table : Table) (array : List ℕ) (bucket : ℕ) (at : ℕ) where
  -- the key, and the words behind the link, up to an offset
  fits_up_to : (most : ℕ) → Fits content table array bucket at zero → ((offset : ℕ) → 2 ≤ offset → offset < most → content offset (slice_index array (at + offset)))
      → (offset : ℕ) → offset < most → Fits content table array bucket at offset
  fits_up_to most key behind zero below = key
  fits_up_to most key behind (suc zero) below = tt
  fits_up_to most key behind (suc (suc k)) below = behind (suc (suc k)) (omega arith) below

  new_up_to : (met : List ℕ) (most : ℕ) → FitsNew content table array bucket met at zero → ((offset : ℕ) → 2 ≤ offset → offset < most → content offset (slice_index array (at + offset)))
      → (offset : ℕ) → offset < most → FitsNew content table array bucket met at offset
  new_up_to met most key behind zero below = key
  new_up_to met most key behind (suc k) below = fits_up_to most key.0 behind (suc k) below

  -- the word at the record's front is wrong
  pub wrong_front : (met : List ℕ) → IsNew table.pool met at → 0 < table.pool.size → ¬ FitsNew content table array bucket met at zero → IsWrongRecord content table array bucket met at at
  wrong_front met new wide wrong = record {
    new = new;
    offset = 0;
    inside = wide;
    before = λ other below. absurd (omega (arith, below));
    wrong = wrong;
    word_is = omega arith;
  }

  -- a word behind the link is wrong
  pub wrong_behind : (met : List ℕ) (offset : ℕ) → IsNew table.pool met at → FitsNew content table array bucket met at zero → IsFirstWrongBehind content table array at (Some offset)
      → IsWrongRecord content table array bucket met at (at + offset)
  wrong_behind met zero new key found = absurd (omega (arith, found.0))
  wrong_behind met (suc zero) new key found = absurd (omega (arith, found.0))
  wrong_behind met (suc (suc k)) new key found = record {
    new = new;
    offset = suc (suc k);
    inside = found.1;
    before = new_up_to met (suc (suc k)) key found.3;
    wrong = found.2;
    word_is = refl;
  }

  -- all words are right
  pub takes_sound : (met : List ℕ) (taken : Taken) → IsRecord table.pool at → FitsNew content table array bucket met at zero → IsFirstWrongBehind content table array at None → AreTaken array (met ++ at ∷ []) taken
      → TakesSound content table array bucket at met taken
  takes_sound met taken place key behind taken_in = record {
    sound = record { place = place; fits = fits_up_to table.pool.size key.0 behind };
    new_key = key.1;
    taken_in = taken_in;
  }
