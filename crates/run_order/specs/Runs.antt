-- Requests performed one after another, in rounds over the files, and what the order of files and the printed order make of them.
use Rattle.std.specs.Prelude.{ℕ, zero, suc, ◌≡◌, ◌<◌, ◌≤◌, ◌+◌, ◌⊎◌, if◌then◌else◌, IsTrue, List, [], ◌∷◌, take, All, AllPairs, IsPermutation, ⊤}
use Rattle.tatp_model.specs.declared.request.Request.{Request}
use Rattle.tatp_model.specs.declared.done.Done.{Done}
use Rattle.tatp_model.specs.Database.{Database}
use Rattle.tatp_model.specs.OneThread.{is_sync, AllAreDone, RepliesAlong, after_number, HoldsPrefixes, IsPrintedOrder, RepliesOfOneThread}

-- each number is the one before it, or the next one where the request wrote
abbrev pub IsNumberedFrom : ℕ → List Done → Type 0
IsNumberedFrom last [] = ⊤
IsNumberedFrom last (d ∷ rest) = (d.number ≡ (if d.wrote then last + 1 else last)) × IsNumberedFrom d.number rest

-- d is performed before e in rounds: the lesser index first, and at one index the lesser file
abbrev pub PrecedesInRounds : Done → Done → Type 0
PrecedesInRounds d e = (d.index < e.index) ⊎ ((d.index ≡ e.index) × (d.file < e.file))

-- d and e don't have one file and index
abbrev pub StandApart : Done → Done → Type 0
StandApart d e = d.file ≡ e.file → d.index ≡ e.index → ⊥

-- Requests were performed one after another, in rounds, from a number and a database on: the k-th that wrote has the
-- number `first` + k, and each reply is one thread's.
pub record Performs (first limit : ℕ) (db : Database) (performed : List Done) : Type 0 where
  pub numbered : IsNumberedFrom first performed
  pub replies : RepliesAlong limit db performed
  pub rounds : AllPairs PrecedesInRounds performed

-- `done` has the performed requests in order of file and index, of each file the first ones
pub record Collects (files : List (List Request)) (performed done : List Done) : Type 0 where
  pub same : IsPermutation performed done
  pub held : HoldsPrefixes files done

-- the first requests in the order of rounds: of the files before this one the first `round` + 1 of each, of the others the
-- first `round`
abbrev pub first_rounds : (round file : ℕ) → List (List Request) → List (List Request)
first_rounds round file [] = []
first_rounds round zero (requests ∷ files) = take round requests ∷ first_rounds round zero files
first_rounds round (suc file) (requests ∷ files) = take (round + 1) requests ∷ first_rounds round file files

-- what is done are the first requests in the order of rounds: those of some full rounds, and of the files before one in the
-- next round
abbrev pub AreFirstInRounds : List (List Request) → List Done → Type 0
AreFirstInRounds files done = (round file : ℕ) × AllAreDone (first_rounds round file files) done

-- `done` has a printed order, and the database at each number along it is what it was as the requests were performed
pub record PrintedLike (limit : ℕ) (db : Database) (performed done : List Done) : Type 0 where
  pub order : List Done
  pub printed : IsPrintedOrder done order
  pub databases : (n : ℕ) → after_number limit db order n ≡ after_number limit db performed n

-- a `Sync` has a number that is no less than that of each earlier request of its file
abbrev pub SyncsFollow : List Done → Type 0
SyncsFollow done = AllPairs (λ d e. d.file ≡ e.file → IsTrue (is_sync e.request) → d.number ≤ e.number) done

-- The law, for every run: requests that are performed and collected so have the replies of one thread along the printed
-- order. A `Sync` has no number below an earlier one of its file, and none below the one that the run starts from.
abbrev pub LawOfRuns : Type 0
LawOfRuns = (first limit : ℕ) (db : Database) (files : List (List Request)) (performed done : List Done)
    → Performs first limit db performed → Collects files performed done
    → RepliesOfOneThread first limit db files done × PrintedLike limit db performed done × SyncsFollow done
    × All (λ d. IsTrue (is_sync d.request) → first ≤ d.number) done
