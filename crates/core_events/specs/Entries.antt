-- The value of a word at a number, and lists of entries that are legal.
use Rattle.std.specs.Prelude.{◌≡◌, ◌==◌, ◌&&◌, ℕ, zero, suc, ◌-◌, ◌<◌, ◌≤◌, true, List, [], ◌∷◌, ◌++◌, All, slice_index, if◌then◌else◌}
use Rattle.dude_base.specs.declared.write.Write.{Write}
use Rattle.dude_base.specs.Writes.{written}
use Rattle.core_events.specs.Keyed.{or_else, Distinct}
use Rattle.core_events.specs.Views.{Entry, View}

-- the writes of each number
abbrev pub History : Type 0
History = ℕ → List Write

-- the value of the word i after the numbers up to n: that of the last one that wrote there, or the opening word
abbrev pub value : List ℕ → History → ℕ → ℕ → ℕ
value opening hist zero i = slice_index opening i
value opening hist (suc n) i = or_else (written (hist (suc n)) i) (value opening hist n i)

-- the writes of a number are those of the entry that wrote with it
abbrev pub writes_of : List Entry → History
writes_of [] n = []
writes_of (e ∷ es) n = if e.wrote && (e.number == n) then e.writes else writes_of es n

-- the value of the word i at the number n, by entries
abbrev pub value_at : List ℕ → List Entry → ℕ → ℕ → ℕ
value_at opening es n i = value opening (writes_of es) n i

-- the numbers that wrote
abbrev pub numbers_written : List Entry → List ℕ
numbers_written [] = []
numbers_written (e ∷ es) = if e.wrote then (e.number ∷ numbers_written es) else numbers_written es

-- at which number an entry read: one that wrote, just before its own
abbrev pub read_at : Entry → ℕ
read_at e = if e.wrote then (e.number - 1) else e.number

-- the entries are numbered: those that wrote have numbers over the opening one, no two the same, and none read under it
pub record HaveNumbers (first : ℕ) (es : List Entry) : Type 0 where
  pub over : All (λ e. e.wrote ≡ true → first < e.number) es
  pub once : Distinct (numbers_written es)
  pub from : All (λ e. first ≤ read_at e) es

-- the entries are legal: they are numbered, and each read is the value at the number where its entry read
pub record IsLegal (first : ℕ) (opening : List ℕ) (es : List Entry) : Type 0 where
  pub numbers : HaveNumbers first es
  pub read : All (λ e. All (λ r. r.1 ≡ value_at opening es (read_at e) r.0) e.reads) es

-- the entries of all views; those of a spent one are in the view that took it in
abbrev pub all_entries : List View → List Entry
all_entries [] = []
all_entries (v ∷ vs) = v.entries ++ all_entries vs
