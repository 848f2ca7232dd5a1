-- Requests that threads answered, and behind them, on one thread, the rests of their files.
use Rattle.std.specs.Prelude.{◌≡◌, ℕ, ◌+◌, ◌≤◌, ⊤, List, [], ◌∷◌, ◌++◌, length, map, All, AllPairs, IsPermutation}
use Rattle.tatp_model.specs.declared.request.Request.{Request}
use Rattle.tatp_model.specs.declared.done.Done.{Done}
use Rattle.tatp_model.specs.Database.{Database}
use Rattle.tatp_model.specs.OneThread.{PrecedesInFiles, AllAreDone, RepliesAlong, after_number}
use Rattle.run_order.specs.Runs.{IsNumberedFrom, Performs, Collects, SyncsFollow}
use Rattle.run_order.specs.Numbers.{AreDatabases, IsAnswered, AreNumbered, AreAnswered}

-- ---- one thread goes on
-- these are the databases at the numbers, none of which is over the last one
pub record EndBy (first limit last : ℕ) (db : Database) (done : List Done) (databases : ℕ → Database) : Type 0 where
  pub leads : AreDatabases first limit db done databases
  pub from : first ≤ last
  pub upto : All (λ d. d.number ≤ last) done

-- up to the last number the databases stay as they were; from there on they are those along what is performed
pub record GoOn (limit last : ℕ) (performed : List Done) (old new : ℕ → Database) : Type 0 where
  pub upto : (n : ℕ) → n ≤ last → new n ≡ old n
  pub behind : (n : ℕ) → last ≤ n → new n ≡ after_number limit (old last) performed n

-- what is performed behind others is answered at its numbers, on databases that go on
pub record PerformsBehind (first limit last : ℕ) (db : Database) (done performed : List Done) (databases : ℕ → Database) : Type 0 where
  pub further : ℕ → Database
  pub go_on : GoOn limit last performed databases further
  pub leads : AreDatabases first limit db (done ++ performed) further
  pub answers : All (IsAnswered limit further) performed

-- so are requests that one thread performs from the last number on, each that wrote with the next one
abbrev pub LawOfPerforming : Type 0
LawOfPerforming = (first limit last : ℕ) (db : Database) (done performed : List Done) (databases : ℕ → Database)
    → EndBy first limit last db done databases → IsNumberedFrom last performed → RepliesAlong limit (databases last) performed
    → PerformsBehind first limit last db done performed databases

-- ---- the rests of files
-- of files in two parts the first ones, which threads answered
abbrev pub firsts_of : List (List Request × List Request) → List (List Request)
firsts_of parts = map (λ p. p.0) parts

-- of files in two parts the rests
abbrev pub rests_of : List (List Request × List Request) → List (List Request)
rests_of parts = map (λ p. p.1) parts

-- files in two parts as they are whole
abbrev pub files_of : List (List Request × List Request) → List (List Request)
files_of parts = map (λ p. p.0 ++ p.1) parts

-- the file with this number has so many requests, and so on for those behind it
abbrev pub LengthsAre : (ℕ → ℕ) → ℕ → List (List Request) → Type 0
LengthsAre counts file [] = ⊤
LengthsAre counts file (requests ∷ files) = (counts file ≡ length requests) × LengthsAre counts (file + 1) files

-- a request of the rest of its file, at its index in the whole file: so many stand before the rest
abbrev pub shifted : (ℕ → ℕ) → Done → Done
shifted counts d = record d { index = counts d.file + d.index }

-- All requests of these files were answered, at numbers up to the last one.
pub record AreAnsweredUpTo (first limit last : ℕ) (db : Database) (files : List (List Request)) (done : List Done) (databases : ℕ → Database) : Type 0 where
  pub all : AllAreDone files done
  pub numbered : AreNumbered first files done
  pub ends : EndBy first limit last db done databases
  pub answers : AreAnswered limit databases done

-- First requests of these files were answered at numbers, on databases that go on behind the last one.
pub record AreAnsweredOn (first limit last : ℕ) (db : Database) (files : List (List Request)) (performed done : List Done) (databases : ℕ → Database) : Type 0 where
  pub further : ℕ → Database
  pub go_on : GoOn limit last performed databases further
  pub numbered : AreNumbered first files done
  pub leads : AreDatabases first limit db done further
  pub answers : AreAnswered limit further done

-- `done` has what threads answered and what was collected of the rests, at its indices in the whole files, in order of file and index
pub record IsUnion (counts : ℕ → ℕ) (threads collected done : List Done) : Type 0 where
  pub same : IsPermutation (threads ++ map (shifted counts) collected) done
  pub sorted : AllPairs PrecedesInFiles done

-- Threads answered the first requests of each file, and one thread performed of the rests behind the last number, in rounds and
-- perhaps not to their ends; all is collected in order of file and index.
pub record PerformsRests (first limit last : ℕ) (db : Database) (counts : ℕ → ℕ) (parts : List (List Request × List Request)) (databases : ℕ → Database) (threads performed collected done : List Done) : Type 0 where
  pub lengths : LengthsAre counts 0 (firsts_of parts)
  pub answered : AreAnsweredUpTo first limit last db (firsts_of parts) threads databases
  pub performs : Performs last limit (databases last) performed
  pub collects : Collects (rests_of parts) performed collected
  pub union : IsUnion counts threads collected done

-- together these are first requests of the whole files, answered at numbers
abbrev pub LawOfRests : Type 0
LawOfRests = (first limit last : ℕ) (db : Database) (counts : ℕ → ℕ) (parts : List (List Request × List Request)) (databases : ℕ → Database) (threads performed collected done : List Done)
    → PerformsRests first limit last db counts parts databases threads performed collected done → AreAnsweredOn first limit last db (files_of parts) performed done databases

-- The same of the numbers alone: threads answered the first requests of each file at numbers up to the last one, whatever they read, and one
-- thread performed of the rests behind it, on any database.
pub record NumbersRests (first limit last : ℕ) (db : Database) (counts : ℕ → ℕ) (parts : List (List Request × List Request)) (threads performed collected done : List Done) : Type 0 where
  pub lengths : LengthsAre counts 0 (firsts_of parts)
  pub all : AllAreDone (firsts_of parts) threads
  pub numbered : AreNumbered first (firsts_of parts) threads
  pub from : first ≤ last
  pub upto : All (λ d. d.number ≤ last) threads
  pub performs : Performs last limit db performed
  pub collects : Collects (rests_of parts) performed collected
  pub union : IsUnion counts threads collected done

-- together these are first requests of the whole files, with numbers
abbrev pub LawOfRestNumbers : Type 0
LawOfRestNumbers = (first limit last : ℕ) (db : Database) (counts : ℕ → ℕ) (parts : List (List Request × List Request)) (threads performed collected done : List Done)
    → NumbersRests first limit last db counts parts threads performed collected done → AreNumbered first (files_of parts) done

-- a `Sync` of all together has no number under an earlier one of its file, where it is so for what threads answered
abbrev pub LawOfSyncs : Type 0
LawOfSyncs = (first limit last : ℕ) (db : Database) (counts : ℕ → ℕ) (parts : List (List Request × List Request)) (threads performed collected done : List Done)
    → NumbersRests first limit last db counts parts threads performed collected done → SyncsFollow threads → SyncsFollow done
