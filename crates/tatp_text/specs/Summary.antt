-- The summary of a load.
use Rattle.std.specs.Prelude.{Bool, if◌then◌else◌, ℕ, List, [], ◌++◌, codes, get_or}
use Rattle.std.specs.Str.{bytes_eq}
use Rattle.tatp_model.specs.declared.done.Done.{Done}
use Rattle.tatp_model.specs.declared.request.Request.{Request}
use Rattle.tatp_model.specs.declared.reply.Reply.{Reply}
use Rattle.tatp_text.specs.declared.counts.Counts.{Counts}
use Rattle.tatp_text.specs.declared.summary.Summary.{Summary}
use Rattle.tatp_text.specs.Counts.{HasRoom, counts_of, line_of, with_reply}
use Rattle.tatp_text.specs.RequestLine.{request_fields}

-- the request's record has this name
abbrev pub is_named : List ℕ → Request → Bool
is_named name request = bytes_eq (get_or (request_fields request) 0 []) name

-- the counts of each kind of request
abbrev pub counted : List Done → Summary
counted done = record {
  get_subscriber = counts_of (is_named (codes "GET_SUBSCRIBER_DATA")) done;
  get_destination = counts_of (is_named (codes "GET_NEW_DESTINATION")) done;
  get_access = counts_of (is_named (codes "GET_ACCESS_DATA")) done;
  update_subscriber = counts_of (is_named (codes "UPDATE_SUBSCRIBER_DATA")) done;
  update_location = counts_of (is_named (codes "UPDATE_LOCATION")) done;
  insert_call = counts_of (is_named (codes "INSERT_CALL_FORWARDING")) done;
  delete_call = counts_of (is_named (codes "DELETE_CALL_FORWARDING")) done;
  sync = counts_of (is_named (codes "SYNC")) done;
}

-- a line for each kind of request
abbrev pub text_of : Summary → List ℕ
text_of s =
    line_of (codes "GET_SUBSCRIBER_DATA") s.get_subscriber
    ++ line_of (codes "GET_NEW_DESTINATION") s.get_destination
    ++ line_of (codes "GET_ACCESS_DATA") s.get_access
    ++ line_of (codes "UPDATE_SUBSCRIBER_DATA") s.update_subscriber
    ++ line_of (codes "UPDATE_LOCATION") s.update_location
    ++ line_of (codes "INSERT_CALL_FORWARDING") s.insert_call
    ++ line_of (codes "DELETE_CALL_FORWARDING") s.delete_call
    ++ line_of (codes "SYNC") s.sync

-- the summary of the requests of a load: a line for each kind of request
abbrev pub summary_of : List Done → List ℕ
summary_of done = text_of (counted done)

-- the counts with one more reply, where the test holds
abbrev pub with_reply_if : Bool → Counts → Reply → Counts
with_reply_if test counts reply = if test then with_reply counts reply else counts

-- the counts of each kind with one more request
unfoldable pub with_done : Summary → Done → Summary
with_done s done = record {
  get_subscriber = with_reply_if (is_named (codes "GET_SUBSCRIBER_DATA") done.request) s.get_subscriber done.reply;
  get_destination = with_reply_if (is_named (codes "GET_NEW_DESTINATION") done.request) s.get_destination done.reply;
  get_access = with_reply_if (is_named (codes "GET_ACCESS_DATA") done.request) s.get_access done.reply;
  update_subscriber = with_reply_if (is_named (codes "UPDATE_SUBSCRIBER_DATA") done.request) s.update_subscriber done.reply;
  update_location = with_reply_if (is_named (codes "UPDATE_LOCATION") done.request) s.update_location done.reply;
  insert_call = with_reply_if (is_named (codes "INSERT_CALL_FORWARDING") done.request) s.insert_call done.reply;
  delete_call = with_reply_if (is_named (codes "DELETE_CALL_FORWARDING") done.request) s.delete_call done.reply;
  sync = with_reply_if (is_named (codes "SYNC") done.request) s.sync done.reply;
}

-- each count of each kind can be one more
abbrev pub EachHasRoom : Summary → Type 0
EachHasRoom s =
    HasRoom s.get_subscriber
    × HasRoom s.get_destination
    × HasRoom s.get_access
    × HasRoom s.update_subscriber
    × HasRoom s.update_location
    × HasRoom s.insert_call
    × HasRoom s.delete_call
    × HasRoom s.sync
