-- What a `Flat` keeps.
use Rattle.std.specs.Prelude.{◌≢◌, ℕ, ◌^◌, ◌<◌, List, length, All, Option, Some}
use Rattle.dude_base.specs.declared.write.Write.{Write}
use Rattle.dude_base.specs.Writes.{IsWriteList}
use Rattle.word_space.specs.declared.stop.Stop.{Stop}
use Rattle.word_space.specs.declared.stop.Stop.TheVariants.{Conflict, Out, Busy}
use Rattle.word_space.specs.Sights.{Agrees}

-- the last Stop, if there is one, is Wide or want of memory: it is none of the others
pub record IsWideOrNoMemory (stopped : Option Stop) : Type 0 where
  pub no_conflict : (lock seen : ℕ) → stopped ≢ Some (Conflict lock seen)
  pub not_out : (page : ℕ) → stopped ≢ Some (Out page)
  pub not_busy : (page seen : ℕ) → stopped ≢ Some (Busy page seen)

-- What a `Flat` keeps of its fields: its reads are inside the array and agree with it, its writes are a list of writes inside
-- the array, and its last Stop, if there is one, is Wide or want of memory.
pub record IsSound (words : List ℕ) (reads : List (ℕ × ℕ)) (writes : List Write) (stopped : Option Stop) : Type 0 where
  pub in_range : length words < 2 ^ 64
  pub reads_inside : All (λ r. r.0 < length words) reads
  pub list : IsWriteList writes
  pub inside : All (λ w. w.at < length words) writes
  pub agrees : Agrees reads words
  pub stops : IsWideOrNoMemory stopped
