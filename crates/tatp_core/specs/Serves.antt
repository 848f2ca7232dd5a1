-- What a request answers and leaves of an array that stands for tables, and how much it reads and writes at most.
use Rattle.std.specs.Prelude.{◌≡◌, ◌≢◌, ℕ, ◌+◌, ◌*◌, ◌<◌, ◌≤◌, ◌↔◌, All, List, [], length, Result, IfOk}
use Rattle.dude_base.specs.declared.limits.TheConstants.{PAGE}
use Rattle.dude_base.specs.declared.sizes.Sizes.{Sizes}
use Rattle.dude_base.specs.declared.write.Write.{Write}
use Rattle.dude_base.specs.Writes.{overwritten}
use Rattle.word_space.specs.declared.stop.Stop.{Stop}
use Rattle.word_space.specs.Sights.{WordsSight, Agrees}
use Rattle.word_space.specs.Steps.{MadeAtMost, UsesWords}
use Rattle.hash_table.specs.Walk.{insert_reads, remove_reads, walk_reads}
use Rattle.tatp_model.specs.declared.reply.Reply.{Reply}
use Rattle.tatp_model.specs.declared.reply.Reply.TheVariants.{Changed}
use Rattle.tatp_model.specs.declared.request.Request.{Request}
use Rattle.tatp_model.specs.declared.request.Request.TheVariants.{UpdateSubscriber, UpdateLocation, InsertCall, DeleteCall}
use Rattle.tatp_model.specs.Database.{Database}
use Rattle.tatp_model.specs.Transaction.{reply_to, after_request}
use Rattle.tatp_layout.specs.Layout.{call_table, facility_table, subscriber_table}
use Rattle.tatp_layout.specs.Index.{by_index}
use Rattle.tatp_layout.specs.RecordCalls.{location_reads, location_writes}
use Rattle.tatp_layout.specs.StandsFor.{StandsFor}
use Rattle.tatp_read.specs.Lookups.{reads_of}
use Rattle.tatp_core.specs.Phones.{id_reads}

-- the reply is that of the transaction step, and the array stands for the step's tables afterwards
pub record Serves (s : Sizes) (db : Database) (request : Request) (reply : Reply) (new : List ℕ) : Type 0 where
  pub replies : reply ≡ reply_to s.calls db request
  pub stands : StandsFor s new (after_request s.calls db request)

-- a word is written exactly where the reply is Changed
abbrev pub WritesIfChanged : Reply → List Write → Type 0
WritesIfChanged reply writes = reply ≡ Changed ↔ writes ≢ []

-- the most reads of a request: those of its look-ups and of the records that it finds
abbrev pub most_reads : Sizes → Request → ℕ
most_reads s (UpdateSubscriber s_id bit_1 sf_type data_a) = walk_reads (subscriber_table s) + walk_reads (facility_table s) + 2
most_reads s (UpdateLocation sub_nbr vlr) = id_reads s + walk_reads (subscriber_table s) + location_reads s
most_reads s (InsertCall sub_nbr sf_type start_time end_time numberx) = id_reads s + walk_reads (facility_table s) + insert_reads (call_table s)
most_reads s (DeleteCall sub_nbr sf_type start_time) = id_reads s + remove_reads (call_table s)
most_reads s request = reads_of s request

-- the most reads of any request: those of both its look-ups, of a facility's call rows, and of an index
abbrev pub max_reads : Sizes → ℕ
max_reads s = 10 * s.subscribers + 6 * s.calls + 12 + location_reads s

-- the most writes of any request: those of a call row that is inserted or, where there is an index, of a location's change,
-- with room to spare
abbrev pub max_writes : Sizes → ℕ
max_writes s = by_index s.index 7 20

-- The most writes of a request: a word for each field that it changes; for a location also the words of an index; and for a
-- call row that it inserts or deletes, the words of the chain and of the free list.
abbrev pub most_writes : Sizes → Request → ℕ
most_writes s (UpdateSubscriber s_id bit_1 sf_type data_a) = 2
most_writes s (UpdateLocation sub_nbr vlr) = location_writes s
most_writes s (InsertCall sub_nbr sf_type start_time end_time numberx) = 7
most_writes s (DeleteCall sub_nbr sf_type start_time) = 4
most_writes s _ = 0

-- the words were used for a request: at most as many reads and writes were made as it may
abbrev pub UsesFor : {S T : Type 0} → (S → WordsSight) → (S → S → Type 0) → Sizes → Request → Result T Stop → S → S → Type 0
UsesFor sight turns_into s request result old new = UsesWords sight turns_into (most_reads s request) (most_writes s request) result old new

-- What an answered request is, apart from whatever read and wrote the words: over the sizes, the request, its reply, and
-- the reads and the writes made.
pub record Answers (s : Sizes) (request : Request) (reply : Reply) (reads : List (ℕ × ℕ)) (writes : List Write) : Type 0 where
  -- no more words are written than the request may write
  pub few : length writes ≤ most_writes s request
  -- a word is written exactly where the reply is Changed
  pub wrote : WritesIfChanged reply writes
  -- each read is inside the home
  pub reads_inside : All (λ r. r.0 < s.pages * PAGE) reads
  -- and so is each write
  pub writes_inside : All (λ w. w.at < s.pages * PAGE) writes
  -- as one thread would, for every array that agrees with the reads and every database for which it stands
  pub serves : (array : List ℕ) → Agrees reads array → (db : Database) → StandsFor s array db → Serves s db request reply (overwritten writes array)

-- What serving a request leaves, by its result.
pub record ServesRequest {S : Type 0} (sight : S → WordsSight) (turns_into : S → S → Type 0) (s : Sizes) (request : Request) (result : Result Reply Stop) (old new : S) : Type 0 where
  -- at most as many reads and writes were made as it may
  pub uses : UsesFor sight turns_into s request result old new
  -- and no more than any request may
  pub most : MadeAtMost (max_reads s) (max_writes s) (sight old) (sight new)
  -- no more words are pending than any request may write
  pub few : length (sight new).writes ≤ max_writes s
  -- the request is answered by all reads made and by the writes that are pending
  pub answers : IfOk result (λ reply. Answers s request reply (sight new).reads (sight new).writes)
