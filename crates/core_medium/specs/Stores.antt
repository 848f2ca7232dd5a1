-- What the machine has behind its words: the log and its home, the medium on which they lie, and the calls on it that are under way.
use Rattle.std.specs.Prelude.{ℕ, List}
use Rattle.pmem_trait.specs.declared.call.Call.{Call}
use Rattle.pmem_trait.specs.Words.{State as MediumState, after_all}
use Rattle.redo_record.specs.LogState.{LogState}

-- the store behind the words
pub record Store : Type 0 where
  -- as the last whole call of the back left it
  pub log : LogState
  -- by ring, the slot behind its last bundle
  pub next : ℕ → ℕ
  -- the medium as that call left it, and the calls made on it since
  pub rest : MediumState
  pub calls : List Call
  -- the numbers at which the mark was settled
  pub marks : List ℕ
  -- the home words that were read since the turn was taken, and since the reproduced word was raised, with their values;
  -- the newest first
  pub read : List (ℕ × ℕ)

-- the medium now
abbrev pub medium_of : Store → MediumState
medium_of d = after_all d.calls d.rest
