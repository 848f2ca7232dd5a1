-- The reads that were made of files in memory.
use Rattle.std.specs.Prelude.{◌≡◌, ℕ, Bool, IsTrue, List, [], ◌∷◌, ◌++◌, map, string_bytes}
use Rattle.dude_io.specs.Files.{ReadMade}
use Rattle.dude_io.specs.declared.listed_read.ListedRead.{ListedRead}
use Rattle.dude_io.specs.declared.read_list.ReadList.{ReadList}

-- a read of the list, as clauses see it
abbrev pub read_of : ListedRead → ReadMade
read_of read = record { name = string_bytes read.name; at = read.at; failed = read.failed }

-- the reads of the list, as clauses see them
abbrev pub reads_in : ReadList → List ReadMade
reads_in list = map read_of list.reads.items

-- this read stands in the list behind those before it
abbrev pub ListsNext : List ℕ → ℕ → Bool → ReadList → ReadList → Type 0
ListsNext name at failed old new = reads_in new ≡ reads_in old ++ record { name = name; at = at; failed = failed } ∷ []

-- where the list has all reads, it had all before, and this one stands behind them
abbrev pub ListsIfWhole : List ℕ → ℕ → Bool → ReadList → ReadList → Type 0
ListsIfWhole name at failed old new = IsTrue new.is_whole → IsTrue old.is_whole × ListsNext name at failed old new
