-- The printed order of requests that were answered at numbers, and what one thread answers along it.
use Rattle.std.specs.Prelude.{◌≡◌, ℕ, ◌≤◌, ◌↔◌, List}
use Rattle.tatp_model.specs.declared.request.Request.{Request}
use Rattle.tatp_model.specs.declared.done.Done.{Done}
use Rattle.tatp_model.specs.Database.{Database}
pub use Rattle.tatp_model.specs.OneThread.{NumbersOfOneThread}
use Rattle.tatp_model.specs.OneThread.{after_number, IsPrintedOrder, RepliesAlong, RepliesOfOneThread}
use Rattle.run_order.specs.Numbers.{AreDatabases, AreNumbered, AreAnswered}

-- all that `RepliesOfOneThread` says, in two parts: these numbers, and replies that are one thread's along the printed order
abbrev pub RepliesInOrder : (first limit : ℕ) → Database → (files : List (List Request)) → (done : List Done) → Type 0
RepliesInOrder first limit db files done = (numbers : NumbersOfOneThread first files done) × RepliesAlong limit db numbers.order

-- a printed order, along which the databases from the first number on are these
pub record PrintsAt (first limit : ℕ) (db : Database) (done : List Done) (databases : ℕ → Database) : Type 0 where
  pub order : List Done
  pub printed : IsPrintedOrder done order
  pub along : (n : ℕ) → first ≤ n → after_number limit db order n ≡ databases n

-- requests that have numbers have a printed order that keeps each file's, whatever was replied
abbrev pub LawOfPrintedOrder : Type 0
LawOfPrintedOrder = (first : ℕ) (files : List (List Request)) (done : List Done) → AreNumbered first files done → NumbersOfOneThread first files done

-- the replies of a run are one thread's exactly where both parts hold
abbrev pub LawOfParts : Type 0
LawOfParts = (first limit : ℕ) (db : Database) (files : List (List Request)) (done : List Done) → RepliesOfOneThread first limit db files done ↔ RepliesInOrder first limit db files done

-- requests that were answered on the databases at their numbers have the replies of one thread along the printed order
abbrev pub LawOfReplies : Type 0
LawOfReplies = (first limit : ℕ) (db : Database) (files : List (List Request)) (done : List Done) (databases : ℕ → Database)
    → AreNumbered first files done → AreDatabases first limit db done databases → AreAnswered limit databases done → RepliesOfOneThread first limit db files done

-- the databases at the numbers are those along the printed order, and no others, whatever was answered
abbrev pub LawOfDatabases : Type 0
LawOfDatabases = (first limit : ℕ) (db : Database) (files : List (List Request)) (done : List Done) (databases : ℕ → Database)
    → AreNumbered first files done → AreDatabases first limit db done databases ↔ PrintsAt first limit db done databases
