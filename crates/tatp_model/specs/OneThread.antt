-- The order in which a run is printed, and what one thread answers along it.
use Rattle.std.specs.Prelude.{ℕ, ◌≡◌, ◌<◌, ◌≤◌, ◌+◌, nat_le, Bool, true, false, not, ◌&&◌, ◌⊎◌, IsTrue, IsFalse, List, [], ◌∷◌, ◌++◌, map, filter, fold, All, AllPairs, IsPermutation, ⊤}
use Rattle.std.specs.List.{AllZip, enumerate_from}
use Rattle.tatp_model.specs.declared.request.Request.{Request}
use Rattle.tatp_model.specs.declared.request.Request.TheVariants.{Sync}
use Rattle.tatp_model.specs.declared.reply.Reply.{Reply}
use Rattle.tatp_model.specs.declared.reply.Reply.TheVariants.{Changed, Durable}
use Rattle.tatp_model.specs.declared.done.Done.{Done}
use Rattle.tatp_model.specs.Database.{Database}
use Rattle.tatp_model.specs.Transaction.{reply_to, after_request}

-- the request is `Sync`
abbrev pub is_sync : Request → Bool
is_sync Sync = true
is_sync _ = false

-- the reply is `Changed`
abbrev pub is_changed : Reply → Bool
is_changed Changed = true
is_changed _ = false

-- d stands before e in the order of files, and in a file by index
abbrev pub PrecedesInFiles : Done → Done → Type 0
PrecedesInFiles d e = (d.file < e.file) ⊎ ((d.file ≡ e.file) × (d.index < e.index))

-- at one number, those that wrote stand before those that didn't
abbrev pub PrecedesAtNumber : Done → Done → Type 0
PrecedesAtNumber d e = (IsTrue d.wrote × IsFalse e.wrote) ⊎ ((d.wrote ≡ e.wrote) × PrecedesInFiles d e)

-- d is printed before e: the lesser number first
abbrev pub Precedes : Done → Done → Type 0
Precedes d e = (d.number < e.number) ⊎ ((d.number ≡ e.number) × PrecedesAtNumber d e)

-- the requests of a run but the `Sync` ones, each once, in the order in which they are printed
pub record IsPrintedOrder (done order : List Done) : Type 0 where
  pub same : IsPermutation (filter (λ d. not (is_sync d.request)) done) order
  pub sorted : AllPairs Precedes order

-- one thread that starts with db and performs the requests in this order gives these replies, and a request wrote
-- exactly where its reply is `Changed`
abbrev pub RepliesAlong : ℕ → Database → List Done → Type 0
RepliesAlong limit db [] = ⊤
RepliesAlong limit db (d ∷ order) =
    (d.reply ≡ reply_to limit db d.request) × (d.wrote ≡ is_changed d.reply) × RepliesAlong limit (after_request limit db d.request) order

-- the database after these requests, one after another
abbrev pub after_requests : ℕ → Database → List Request → Database
after_requests limit db requests = fold (after_request limit) db requests

-- the database after the requests of the order that wrote with numbers up to n
abbrev pub after_number : ℕ → Database → List Done → ℕ → Database
after_number limit db order n =
    after_requests limit db (map (λ d. d.request) (filter (λ d. d.wrote && nat_le d.number n) order))

-- a request with its file and its index there
pub record IndexedRequest : Type 0 where
  pub file : ℕ
  pub index : ℕ
  pub request : Request

-- the request that was done, with its file and its index there
abbrev pub indexed_request_of : Done → IndexedRequest
indexed_request_of d = record { file = d.file; index = d.index; request = d.request }

-- the requests of the files from index `file` on, in order of file and index
abbrev pub indexed_requests_from : ℕ → List (List Request) → List IndexedRequest
indexed_requests_from file [] = []
indexed_requests_from file (requests ∷ files) =
    map (λ r. record { file = file; index = r.0; request = r.1 }) (enumerate_from 0 requests) ++ indexed_requests_from (file + 1) files

-- `done` holds each request of the files once, in order of file and index
abbrev pub AllAreDone : List (List Request) → List Done → Type 0
AllAreDone files done = map indexed_request_of done ≡ indexed_requests_from 0 files

-- the requests begin with the prefix
abbrev pub IsPrefixOf : List Request → List Request → Type 0
IsPrefixOf prefix requests = (rest : List Request) × (requests ≡ prefix ++ rest)

-- `done` holds a prefix of each file's requests
abbrev pub HoldsPrefixes : List (List Request) → List Done → Type 0
HoldsPrefixes files done = (prefixes : List (List Request)) × AllZip IsPrefixOf prefixes files × AllAreDone prefixes done

-- What is said of the numbers of a run over the files that starts after number `first`, and of the order in which it is
-- printed. It needs no database, so it holds also where it isn't known what a medium gives.
pub record NumbersOfOneThread (first : ℕ) (files : List (List Request)) (done : List Done) : Type 0 where
  -- each request of the files' prefixes stands in `done` once
  pub held : HoldsPrefixes files done
  -- those that wrote have distinct numbers over `first`
  pub distinct : AllPairs (λ d e. d.number ≡ e.number → ⊥) (filter (λ d. d.wrote) done)
  pub over : All (λ d. first < d.number) (filter (λ d. d.wrote) done)
  -- the others that aren't `Sync` have numbers from `first` on
  pub from : All (λ d. first ≤ d.number) (filter (λ d. not (is_sync d.request)) done)
  -- a `Sync` is answered `Durable`, and doesn't write
  pub syncs : All (λ d. (d.reply ≡ Durable) × IsFalse d.wrote) (filter (λ d. is_sync d.request) done)
  -- the printed order keeps each file's order
  pub order : List Done
  pub printed : IsPrintedOrder done order
  pub files_in_order : AllPairs (λ d e. d.file ≡ e.file → d.index < e.index) order

-- the replies of a run over the files are those of one thread that starts with db after number `first` and performs
-- the requests in their printed order
pub record RepliesOfOneThread (first limit : ℕ) (db : Database) (files : List (List Request)) (done : List Done) : Type 0 where
  pub numbers : NumbersOfOneThread first files done
  -- one thread gives these replies along the printed order
  pub one_thread : RepliesAlong limit db numbers.order
