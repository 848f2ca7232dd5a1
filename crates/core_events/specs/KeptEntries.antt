-- The kept state, the layer of entries: each is legal but for the values of its reads, and each decided number is in one.
use Rattle.std.specs.Prelude.{◌≡◌, ℕ, ◌≤◌, ◌<◌, Bool, true, false, List, [], map, All, None}
use mathlib.Core.Option.{some}
use lib.ListN.{get_elem?}
use Rattle.dude_base.specs.Writes.{written}
use Rattle.core_events.specs.Setups.{Setup}
use Rattle.core_events.specs.Keyed.{has, Distinct}
use Rattle.core_events.specs.Views.{Entry, View}
use Rattle.core_events.specs.Words.{State}
use Rattle.core_events.specs.Entries.{History, numbers_written, read_at}
use Rattle.core_events.specs.Ghosts.{Ghost}

-- what the transactions of a view left
abbrev pub entries_of : View → List Entry
entries_of v = v.entries

-- An entry's number is up to the clock, and it read at the opening number or later. Where it wrote, its number is over
-- the opening one and decided, and its writes are those of the number.
pub record EntryLegal (first : ℕ) (hist pending : History) (settled : ℕ → Bool) (clock : ℕ) (e : Entry) : Type 0 where
  pub upto : e.number ≤ clock
  pub from : first ≤ read_at e
  -- no undecided number up to where it read writes what it read
  pub apart : (n : ℕ) → n ≤ read_at e → All (λ r. written (pending n) r.0 ≡ None) e.reads
  pub wrote : e.wrote ≡ true → (first < e.number) × (settled e.number ≡ true) × (hist e.number ≡ e.writes)

-- each entry of each view is legal
abbrev pub EntriesLegal : ℕ → History → History → (ℕ → Bool) → ℕ → List (List Entry) → Type 0
EntriesLegal first hist pending settled clock logs = (j : ℕ) (es : List Entry) → get_elem? logs j ≡ some es → All (EntryLegal first hist pending settled clock) es

-- each decided number is in one entry, once
pub record EntriesOnce (author : ℕ → ℕ) (settled : ℕ → Bool) (clock : ℕ) (logs : List (List Entry)) : Type 0 where
  pub wrote : (j n : ℕ) (es : List Entry) → get_elem? logs j ≡ some es → has (numbers_written es) n ≡ true → (author n ≡ j) × (settled n ≡ true)
  pub once : (j : ℕ) (es : List Entry) → get_elem? logs j ≡ some es → Distinct (numbers_written es)
  pub entered : (n : ℕ) → settled n ≡ true → (n ≤ clock) × ((es : List Entry) × (get_elem? logs (author n) ≡ some es) × (has (numbers_written es) n ≡ true))

-- (to be inductive) a number that wasn't decided wrote nothing
abbrev pub OnlyDecidedWrote : (ℕ → Bool) → History → Type 0
OnlyDecidedWrote settled hist = (n : ℕ) → settled n ≡ false → hist n ≡ []

-- (to be inductive) a view that was joined into another has no entries left
abbrev pub SpentEmpty : List View → Type 0
SpentEmpty views = (j : ℕ) (v : View) → get_elem? views j ≡ some v → v.part.is_spent ≡ true → v.entries ≡ []

-- The layer of entries: each is legal, each decided number is in one, none but these wrote, and spent views have none.
pub record EntriesKept (z : Setup) (g : Ghost) (c : State) : Type 0 where
  pub legal : EntriesLegal z.first g.claims.hist g.claims.pending g.claims.settled c.clock (map entries_of c.views)
  pub once : EntriesOnce g.author g.claims.settled c.clock (map entries_of c.views)
  pub only : OnlyDecidedWrote g.claims.settled g.claims.hist
  pub spent : SpentEmpty c.views
