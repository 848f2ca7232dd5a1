-- What the look-ups of rows find in an array that stands for tables, and how many reads they make at most.
use Rattle.std.specs.Prelude.{◌≡◌, ◌≢◌, ℕ, ◌+◌, ◌*◌, Bool, List, [], Option, Result, IfOk, map, filter}
use Rattle.std.specs.List.{list_any}
use Rattle.std.specs.Option.{option_to_list}
use Rattle.dude_base.specs.declared.limits.TheConstants.{PAGE}
use Rattle.dude_base.specs.declared.sizes.Sizes.{Sizes}
use Rattle.word_space.specs.declared.stop.Stop.{Stop}
use Rattle.word_space.specs.Sights.{WordsSight, IsBelow}
use Rattle.tatp_model.specs.declared.numbers.Numbers.{Numbers}
use Rattle.word_space.specs.Steps.{UsesWords}
use Rattle.tatp_model.specs.declared.reply.Reply.{Reply}
use Rattle.tatp_model.specs.declared.reply.Reply.TheVariants.{Changed}
use Rattle.tatp_model.specs.declared.request.Request.{Request}
use Rattle.tatp_model.specs.declared.request.Request.TheVariants.{GetSubscriber, GetDestination, GetAccess}
use Rattle.tatp_model.specs.Database.{Database}
use Rattle.tatp_model.specs.Numbers.{numbers_of}
use Rattle.tatp_model.specs.Request.{IsInRange}
use Rattle.tatp_model.specs.Transaction.{forwards, is_active_facility, reply_to}
use Rattle.tatp_layout.specs.StandsFor.{StandsFor}
use Rattle.tatp_read.specs.Forwarding.{numbers_at}

-- What serving a request asks of it and of the words.
pub record CanServe (s : Sizes) (request : Request) (w : WordsSight) : Type 0 where
  -- its fields are in their ranges
  pub in_range : IsInRange request
  -- the words are those of a home of these sizes
  pub size : w.count ≡ s.pages * PAGE
  -- none is written yet
  pub no_writes : w.writes ≡ []

-- the answer is whether the subscriber has this facility, and it is active
abbrev pub FindsActive : Sizes → ℕ → ℕ → List ℕ → Bool → Type 0
FindsActive s s_id sf_type array active = (db : Database) → StandsFor s array db → active ≡ list_any (is_active_facility s_id sf_type) db.facilities

-- the answer is the phone number of the call row with this key, if it is there and ends after the hour
abbrev pub FindsPhone : Sizes → ℕ → ℕ → List ℕ → Option ℕ → Type 0
FindsPhone s key end_time array phone = (db : Database) → StandsFor s array db → option_to_list phone ≡ numbers_at key end_time db.calls

-- the answer has the phone numbers to which the facility's calls of these hours are forwarded
abbrev pub FindsPhones : Sizes → ℕ → ℕ → ℕ → ℕ → List ℕ → Numbers → Type 0
FindsPhones s s_id sf_type start_time end_time array phones =
    (db : Database) → StandsFor s array db → phones ≡ numbers_of (map (λ r. r.numberx) (filter (forwards s_id sf_type start_time end_time) db.calls))

-- For every lawful array that agrees with the reads made, the reply is that of one thread.
abbrev pub RepliesBelow : {S : Type 0} → (S → WordsSight) → Sizes → Request → Result Reply Stop → S → Type 0
RepliesBelow sight s request result new =
    IfOk result (λ reply. (array : List ℕ) → IsBelow (sight new) array → (db : Database) → StandsFor s array db → reply ≡ reply_to s.calls db request)

-- the most reads of a look-up of a subscriber: two for each record of its table, and the record
abbrev pub subscriber_reads : Sizes → ℕ
subscriber_reads s = 2 * s.subscribers + 7

-- the most reads of a look-up of an access row, or of a facility: there are four for each subscriber
abbrev pub kind_reads : Sizes → ℕ
kind_reads s = 8 * s.subscribers + 3

-- the most reads of a look-up of a call row
abbrev pub call_reads : Sizes → ℕ
call_reads s = 2 * s.calls + 3

-- the most reads of a look-up of a facility and its call rows, which are at most three
abbrev pub destination_reads : Sizes → ℕ
destination_reads s = kind_reads s + 3 * call_reads s

-- the most reads of a request that only reads
abbrev pub reads_of : Sizes → Request → ℕ
reads_of s (GetSubscriber s_id) = subscriber_reads s
reads_of s (GetDestination s_id sf_type start_time end_time) = destination_reads s
reads_of s (GetAccess s_id ai_type) = kind_reads s
reads_of s _ = 0

-- What answering a request that only reads leaves, by its result.
pub record AnswersRequest {S : Type 0} (sight : S → WordsSight) (turns_into : S → S → Type 0) (s : Sizes) (request : Request) (result : Result Reply Stop) (old new : S) : Type 0 where
  -- at most as many reads were made as it may, and no writes
  pub uses : UsesWords sight turns_into (reads_of s request) 0 result old new
  -- the reply isn't Changed
  pub unchanged : IfOk result (λ reply. reply ≢ Changed)
  -- it is that of one thread, for every lawful array that agrees with the reads made
  pub reply : RepliesBelow sight s request result new
