-- Requests that were answered each at a number, by whatever threads, and the databases at the numbers.
use Rattle.std.specs.Prelude.{◌≡◌, ◌↔◌, ℕ, ◌+◌, ◌-◌, ◌<◌, ◌≤◌, true, false, List, All, AllPairs, Contains, if◌then◌else◌}
use Rattle.tatp_model.specs.declared.request.Request.{Request}
use Rattle.tatp_model.specs.declared.reply.Reply.TheVariants.{Durable}
use Rattle.tatp_model.specs.declared.done.Done.{Done}
use Rattle.tatp_model.specs.Database.{Database}
use Rattle.tatp_model.specs.Transaction.{reply_to, after_request}
use Rattle.tatp_model.specs.OneThread.{is_sync, is_changed, HoldsPrefixes}

-- ---- the databases
-- the request wrote with this number
pub record WroteAt (n : ℕ) (d : Done) : Type 0 where
  pub wrote : d.wrote ≡ true
  pub number : d.number ≡ n

-- The databases at the numbers from the first one on: each is the one before it, after the request that wrote with its number;
-- the same where none did, as at a number that is void.
pub record AreDatabases (first limit : ℕ) (db : Database) (done : List Done) (databases : ℕ → Database) : Type 0 where
  pub start : databases first ≡ db
  pub wrote : (n : ℕ) (d : Done) → first ≤ n → Contains done d → WroteAt (n + 1) d → databases (n + 1) ≡ after_request limit (databases n) d.request
  pub stays : (n : ℕ) → first ≤ n → ((d : Done) → Contains done d → WroteAt (n + 1) d → ⊥) → databases (n + 1) ≡ databases n

-- those that wrote stand in both lists
abbrev pub HaveSameWriters : List Done → List Done → Type 0
HaveSameWriters done other = (d : Done) → d.wrote ≡ true → Contains done d ↔ Contains other d

-- the databases at the numbers are the same whatever else was done, and in whatever order the lists have the requests
abbrev pub LawOfWriters : Type 0
LawOfWriters = (first limit : ℕ) (db : Database) (done other : List Done) (databases : ℕ → Database) → HaveSameWriters done other
    → AreDatabases first limit db done databases → AreDatabases first limit db other databases

-- ---- the answers
-- at which number a request is answered: one that wrote, just before its own
abbrev pub answered_at : Done → ℕ
answered_at d = if d.wrote then (d.number - 1) else d.number

-- its reply is one thread's on the database there, and it wrote exactly where the reply is `Changed`
pub record IsAnswered (limit : ℕ) (databases : ℕ → Database) (d : Done) : Type 0 where
  pub reply : d.reply ≡ reply_to limit (databases (answered_at d)) d.request
  pub wrote : d.wrote ≡ is_changed d.reply

-- each request but `Sync` is answered on the database at its number
abbrev pub AreAnswered : ℕ → (ℕ → Database) → List Done → Type 0
AreAnswered limit databases done = All (λ d. is_sync d.request ≡ false → IsAnswered limit databases d) done

-- ---- the numbers
-- two that wrote don't have one number
abbrev pub Differ : Done → Done → Type 0
Differ d e = d.wrote ≡ true → e.wrote ≡ true → d.number ≡ e.number → ⊥

-- the earlier number isn't over the later one, and under it where the later request wrote
pub record IsFollowedBy (d e : Done) : Type 0 where
  pub upto : d.number ≤ e.number
  pub under : e.wrote ≡ true → d.number < e.number

-- so it is of two requests of one file, unless one of them is a `Sync`
abbrev pub FollowsInFile : Done → Done → Type 0
FollowsInFile d e = d.file ≡ e.file → is_sync d.request ≡ false → is_sync e.request ≡ false → IsFollowedBy d e

-- in each file the numbers follow one another, apart from those of `Sync`
abbrev pub FilesFollow : List Done → Type 0
FilesFollow done = AllPairs FollowsInFile done

-- What is known of a request alone: where it wrote its number is over the first one, else not under it. A `Sync`, which may have any
-- number, is answered `Durable` and doesn't write.
pub record IsNumbered (first : ℕ) (d : Done) : Type 0 where
  pub over : d.wrote ≡ true → first < d.number
  pub from : is_sync d.request ≡ false → first ≤ d.number
  pub durable : is_sync d.request ≡ true → (d.reply ≡ Durable) × (d.wrote ≡ false)

-- Of each file the first requests are done, in order of file and index. Those that wrote have different numbers, and in each file
-- the numbers follow one another.
pub record AreNumbered (first : ℕ) (files : List (List Request)) (done : List Done) : Type 0 where
  pub held : HoldsPrefixes files done
  pub each : All (IsNumbered first) done
  pub differ : AllPairs Differ done
  pub follow : FilesFollow done
