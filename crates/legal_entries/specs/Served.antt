-- Entries that are legal, each of a request that was served on its reads, over an opening array that stands for a database.
use Rattle.std.specs.Prelude.{◌≡◌, ◌≢◌, ◌↔◌, ℕ, zero, suc, ◌*◌, ◌<◌, true, false, List, [], All, AllPairs, Contains, length, map, slice_index}
use Rattle.dude_base.specs.declared.limits.TheConstants.{PAGE}
use Rattle.dude_base.specs.declared.sizes.Sizes.{Sizes}
use Rattle.dude_base.specs.Writes.{overwritten}
use Rattle.word_space.specs.Sights.{WordsSight}
use Rattle.tatp_model.specs.declared.request.Request.{Request}
use Rattle.tatp_model.specs.declared.reply.Reply.TheVariants.{Durable}
use Rattle.tatp_model.specs.declared.done.Done.{Done}
use Rattle.tatp_model.specs.Database.{Database}
use Rattle.tatp_model.specs.OneThread.{is_sync, HoldsPrefixes}
use Rattle.tatp_layout.specs.StandsFor.{StandsFor}
use Rattle.tatp_core.specs.Serves.{Answers}
use Rattle.core_events.specs.Views.{Entry}
use Rattle.core_events.specs.Entries.{writes_of, value_at, HaveNumbers, IsLegal}
use Rattle.run_order.specs.Numbers.{AreDatabases, IsAnswered, AreAnswered, Differ, FilesFollow, IsNumbered, AreNumbered}

-- what is done by the transaction of an entry
abbrev pub done_of : Entry → Done
done_of e = record { file = e.about.file; index = e.about.index; number = e.number; wrote = e.wrote; request = e.about.request; reply = e.about.reply }

-- The entry is that of a request which was served: with its reads and writes it is answered as `run_request` answers, so for every
-- array that agrees with the reads and every database for which it stands.
pub record IsServed (s : Sizes) (e : Entry) : Type 0 where
  pub no_sync : is_sync e.about.request ≡ false
  -- it wrote exactly where it has writes
  pub wrote : e.wrote ≡ true ↔ e.writes ≢ []
  pub answers : Answers s e.about.request e.about.reply e.reads e.writes

-- the entry is that of a transaction which is seen as these words: it has their reads and writes, and wrote exactly where it has writes
pub record IsEntryOf (words : WordsSight) (e : Entry) : Type 0 where
  pub reads : e.reads ≡ words.reads
  pub writes : e.writes ≡ words.writes
  pub wrote : e.wrote ≡ true ↔ e.writes ≢ []

-- a request that was answered over words is served by their entry
abbrev pub LawOfServing : Type 0
LawOfServing = (s : Sizes) (words : WordsSight) (e : Entry) → is_sync e.about.request ≡ false → IsEntryOf words e
    → Answers s e.about.request e.about.reply words.reads words.writes → IsServed s e

-- the array at a number: the opening one, overwritten by what the numbers up to it wrote, one after another
abbrev pub array_at : List ℕ → List Entry → ℕ → List ℕ
array_at opening es zero = opening
array_at opening es (suc n) = overwritten (writes_of es (suc n)) (array_at opening es n)

-- The entries lead through databases.
pub record LeadsThrough (first : ℕ) (s : Sizes) (opening : List ℕ) (db : Database) (es : List Entry) : Type 0 where
  -- those at the numbers, each the one before it after the request that wrote with its number
  pub databases : ℕ → Database
  pub leads : AreDatabases first s.calls db (map done_of es) databases
  -- the array at a number stands for the database there
  pub stands : (n : ℕ) → StandsFor s (array_at opening es n) (databases n)
  -- what was done is numbered from the first number on, those that wrote differently
  pub each : All (IsNumbered first) (map done_of es)
  pub differ : AllPairs Differ (map done_of es)
  -- each reply is one thread's on the database at its number
  pub answers : All (IsAnswered s.calls databases) (map done_of es)
  -- an array of the home's length that has the values at a number is the array there
  pub words : (n : ℕ) (array : List ℕ) → length array ≡ s.pages * PAGE → ((i : ℕ) → i < s.pages * PAGE → slice_index array i ≡ value_at opening es n i) → array ≡ array_at opening es n

-- What was done is what the transactions of these entries did, and each `Sync`, which is answered `Durable`: of each file the first
-- requests, in order of file and index, with numbers that follow one another.
pub record AreDoneBy (files : List (List Request)) (es : List Entry) (done : List Done) : Type 0 where
  pub held : HoldsPrefixes files done
  pub follow : FilesFollow done
  pub same : (d : Done) → is_sync d.request ≡ false → Contains done d ↔ Contains (map done_of es) d
  pub syncs : All (λ d. is_sync d.request ≡ true → (d.reply ≡ Durable) × (d.wrote ≡ false)) done

-- over an opening array that stands for a database, entries that are legal and served lead through databases
abbrev pub LawOfEntries : Type 0
LawOfEntries = (first : ℕ) (s : Sizes) (opening : List ℕ) (db : Database) (es : List Entry)
    → StandsFor s opening db → IsLegal first opening es → All (IsServed s) es → LeadsThrough first s opening db es

-- what was done by entries that lead through databases was answered at numbers, on these databases
abbrev pub LawOfDone : Type 0
LawOfDone = (first : ℕ) (s : Sizes) (opening : List ℕ) (db : Database) (files : List (List Request)) (es : List Entry) (done : List Done)
    → (through : LeadsThrough first s opening db es) → AreDoneBy files es done
    → AreNumbered first files done × AreDatabases first s.calls db done through.databases × AreAnswered s.calls through.databases done

-- what was done by numbered entries of served requests has numbers, also where it isn't known what they read
abbrev pub LawOfNumbering : Type 0
LawOfNumbering = (first : ℕ) (s : Sizes) (files : List (List Request)) (es : List Entry) (done : List Done)
    → HaveNumbers first es → All (IsServed s) es → AreDoneBy files es done → AreNumbered first files done
