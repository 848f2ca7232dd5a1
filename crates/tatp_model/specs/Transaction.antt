-- The transaction step: what a request answers on four lists of rows, and the lists that it leaves.
use Rattle.std.specs.Prelude.{ℕ, ◌≡◌, ◌==◌, nat_lt, nat_le, Bool, not, ◌&&◌, if◌then◌else◌, List, ◌∷◌, ◌++◌, length, map, filter, find, slice_set, IsTrue}
use Rattle.std.specs.List.{list_any}
use Rattle.std.specs.Option.{option_map_or}
use Rattle.tatp_model.specs.declared.sub_row.SubRow.{SubRow}
use Rattle.tatp_model.specs.declared.access_row.AccessRow.{AccessRow}
use Rattle.tatp_model.specs.declared.fac_row.FacRow.{FacRow}
use Rattle.tatp_model.specs.declared.call_row.CallRow.{CallRow}
use Rattle.tatp_model.specs.declared.request.Request.{Request}
use Rattle.tatp_model.specs.declared.request.Request.TheVariants.{GetSubscriber, GetDestination, GetAccess, UpdateSubscriber, UpdateLocation, InsertCall, DeleteCall, Sync}
use Rattle.tatp_model.specs.declared.reply.Reply.{Reply}
use Rattle.tatp_model.specs.declared.reply.Reply.TheVariants.{Subscriber, Destinations, Access, Changed, Missing, NoFacility, Duplicate, FullTable, Durable}
use Rattle.tatp_model.specs.Numbers.{numbers_of}
use Rattle.tatp_model.specs.Request.{is_insert}
use Rattle.tatp_model.specs.Database.{Database, call_key}

-- a subscriber's row of this s_id
abbrev pub is_subscriber : ℕ → SubRow → Bool
is_subscriber s_id r = r.s_id == s_id

-- a subscriber's row with this phone number
abbrev pub has_phone : ℕ → SubRow → Bool
has_phone sub_nbr r = r.sub_nbr == sub_nbr

-- an access row of this s_id and ai_type
abbrev pub is_access : ℕ → ℕ → AccessRow → Bool
is_access s_id ai_type r = (r.s_id == s_id) && (r.ai_type == ai_type)

-- a facility of this s_id and sf_type
abbrev pub is_facility : ℕ → ℕ → FacRow → Bool
is_facility s_id sf_type r = (r.s_id == s_id) && (r.sf_type == sf_type)

-- a facility of this s_id and sf_type that is active
abbrev pub is_active_facility : ℕ → ℕ → FacRow → Bool
is_active_facility s_id sf_type r = is_facility s_id sf_type r && (r.is_active == 1)

-- a call row of this s_id, sf_type and start_time
abbrev pub is_call : ℕ → ℕ → ℕ → CallRow → Bool
is_call s_id sf_type start_time r = (r.s_id == s_id) && (r.sf_type == sf_type) && (r.start_time == start_time)

-- a call row of the facility that starts by start_time and ends after end_time
abbrev pub forwards : ℕ → ℕ → ℕ → ℕ → CallRow → Bool
forwards s_id sf_type start_time end_time r =
    (r.s_id == s_id) && (r.sf_type == sf_type) && nat_le r.start_time start_time && nat_lt end_time r.end_time

-- the rows, with those that pass the test rewritten
abbrev pub update_where : {R : Type 0} → (R → Bool) → (R → R) → List R → List R
update_where test rewrite rows = map (λ r. if test r then rewrite r else r) rows

-- the call rows with one more, which stands by its key
abbrev pub with_call : CallRow → List CallRow → List CallRow
with_call row rows =
    filter (λ r. nat_lt (call_key r) (call_key row)) rows ++ row ∷ filter (λ r. nat_lt (call_key row) (call_key r)) rows

-- the call rows without the one of this key
abbrev pub without_call : ℕ → ℕ → ℕ → List CallRow → List CallRow
without_call s_id sf_type start_time rows = filter (λ r. not (is_call s_id sf_type start_time r)) rows

-- what a request answers, and the tables that it leaves
pub record Outcome : Type 0 where
  pub reply : Reply
  pub after : Database

-- a request is answered with this reply, and leaves the tables as they were
abbrev pub answers : Database → Reply → Outcome
answers db reply = record { reply = reply; after = db }

-- a request is answered `Changed`, and leaves these tables
abbrev pub changes : Database → Outcome
changes db = record { reply = Changed; after = db }

-- a call row is added at its subscriber's facility, where at most limit call rows may stand
abbrev pub insert_call : ℕ → Database → CallRow → Outcome
insert_call limit db row =
    if not (list_any (is_facility row.s_id row.sf_type) db.facilities) then answers db NoFacility
    else if list_any (is_call row.s_id row.sf_type row.start_time) db.calls then answers db Duplicate
    else if nat_le limit (length db.calls) then answers db FullTable
    else changes (record db { calls = with_call row db.calls })

-- a call row is removed
abbrev pub delete_call : Database → ℕ → ℕ → ℕ → Outcome
delete_call db s_id sf_type start_time =
    if list_any (is_call s_id sf_type start_time) db.calls
    then changes (record db { calls = without_call s_id sf_type start_time db.calls })
    else answers db Missing

-- what the adding of a row is answered
abbrev pub reply_to_row : ℕ → Database → CallRow → Reply
reply_to_row limit db row = (insert_call limit db row).reply

-- the tables that the adding of a row leaves
abbrev pub after_row : ℕ → Database → CallRow → Database
after_row limit db row = (insert_call limit db row).after

-- what the removal of a row is answered
abbrev pub reply_to_removal : Database → ℕ → ℕ → ℕ → Reply
reply_to_removal db s_id sf_type start_time = (delete_call db s_id sf_type start_time).reply

-- the tables that the removal of a row leaves
abbrev pub after_removal : Database → ℕ → ℕ → ℕ → Database
after_removal db s_id sf_type start_time = (delete_call db s_id sf_type start_time).after

-- the cases of each request, the first that fits; destinations come in the order of the call rows, by rising start
abbrev pub outcome_of : ℕ → Database → Request → Outcome
outcome_of limit db (GetSubscriber s_id) =
    answers db (option_map_or Subscriber (find (is_subscriber s_id) db.subscribers) Missing)
outcome_of limit db (GetDestination s_id sf_type start_time end_time) =
    let fits = forwards s_id sf_type start_time end_time in
    answers db (if list_any (is_active_facility s_id sf_type) db.facilities && list_any fits db.calls
    then Destinations (numbers_of (map (λ r. r.numberx) (filter fits db.calls))) else Missing)
outcome_of limit db (GetAccess s_id ai_type) =
    answers db (option_map_or (λ r. Access r.info) (find (is_access s_id ai_type) db.access) Missing)
outcome_of limit db (UpdateSubscriber s_id bit_1 sf_type data_a) =
    if list_any (is_subscriber s_id) db.subscribers && list_any (is_facility s_id sf_type) db.facilities
    then changes (record db {
      subscribers = update_where (is_subscriber s_id) (λ r. record r { bits = slice_set r.bits 0 bit_1 }) db.subscribers;
      facilities = update_where (is_facility s_id sf_type) (λ r. record r { data_a = data_a }) db.facilities;
    })
    else answers db Missing
outcome_of limit db (UpdateLocation sub_nbr vlr) =
    if list_any (has_phone sub_nbr) db.subscribers
    then changes (record db { subscribers = update_where (has_phone sub_nbr) (λ r. record r { vlr = vlr }) db.subscribers })
    else answers db Missing
outcome_of limit db (InsertCall sub_nbr sf_type start_time end_time numberx) =
    option_map_or (λ r. insert_call limit db (record {
      s_id = r.s_id;
      sf_type = sf_type;
      start_time = start_time;
      end_time = end_time;
      numberx = numberx;
    })) (find (has_phone sub_nbr) db.subscribers) (answers db Missing)
outcome_of limit db (DeleteCall sub_nbr sf_type start_time) =
    option_map_or (λ r. delete_call db r.s_id sf_type start_time) (find (has_phone sub_nbr) db.subscribers) (answers db Missing)
outcome_of limit db Sync = answers db Durable

-- the reply to a request on these tables
abbrev pub reply_to : ℕ → Database → Request → Reply
reply_to limit db request = (outcome_of limit db request).reply

-- the tables that a request leaves of these
abbrev pub after_request : ℕ → Database → Request → Database
after_request limit db request = (outcome_of limit db request).after

-- the reply to a request, whatever the limit
abbrev pub IsReply : Database → Request → Reply → Type 0
IsReply db request reply = (limit : ℕ) → reply ≡ reply_to limit db request

-- the tables that a request leaves
abbrev pub Leaves : ℕ → Database → Request → Database → Type 0
Leaves limit db request after = after ≡ after_request limit db request

-- the tables that a request leaves, whatever the limit
abbrev pub IsAfter : Database → Request → Database → Type 0
IsAfter db request after = (limit : ℕ) → Leaves limit db request after

-- A step that fails was to add a row, and changes nothing.
pub record FailsToInsert (request : Request) (db after : Database) : Type 0 where
  pub is_insert : IsTrue (is_insert request)
  pub unchanged : after ≡ db
