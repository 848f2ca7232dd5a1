-- What may be known of a sink, and what a write to it does.
use Rattle.std.specs.Prelude.{◌≡◌, ℕ, ◌<◌, ◌≤◌, Bool, IsTrue, List, [], ◌++◌, length, take, Result, Ok, Err}
use Rattle.pmem_trait.specs.declared.failed.Failed.{Failed}
use Rattle.pmem_trait.specs.Sights.{Risen}

-- what may be known of a sink: the count of its faults, whether the bytes taken are visible, and these bytes
pub record SinkSight : Type 0 where
  pub faults : ℕ
  pub is_visible : Bool
  pub taken : List ℕ

-- the sink took just these bytes, behind those that it had; the count of faults doesn't fall
pub record Took (bytes : List ℕ) (s t : SinkSight) : Type 0 where
  pub faults : s.faults ≤ t.faults
  pub is_visible : t.is_visible ≡ s.is_visible
  pub taken : IsTrue s.is_visible → t.taken ≡ s.taken ++ bytes

-- a write that was answered: it took the first bytes of the piece, at least one, and no fault was counted
pub record TookSome (piece : List ℕ) (n : ℕ) (s t : SinkSight) : Type 0 where
  pub some : 1 ≤ n
  pub most : n ≤ length piece
  pub took : Took (take n piece) s t
  pub calm : t.faults ≡ s.faults

-- one write: it is answered, or it took nothing, and then the count of faults rose
abbrev pub WritesSink : List ℕ → Result ℕ Failed → SinkSight → SinkSight → Type 0
WritesSink piece (Ok n) s t = TookSome piece n s t
WritesSink piece (Err e) s t = Took [] s t × Risen s.faults t.faults

-- a list of which the first bytes were taken, but not all, before the count of faults rose
pub record TookPart (bytes : List ℕ) (s t : SinkSight) : Type 0 where
  pub n : ℕ
  pub less : n < length bytes
  pub took : Took (take n bytes) s t
  pub cause : Risen s.faults t.faults

-- writing a whole list: all of it was taken, or a part and then a write failed
abbrev pub WritesAll : List ℕ → Result (Unit {0}) Failed → SinkSight → SinkSight → Type 0
WritesAll bytes (Ok x) s t = Took bytes s t
WritesAll bytes (Err e) s t = TookPart bytes s t
