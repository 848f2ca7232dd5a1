-- How the requests of one kind were answered.
use Rattle.std.specs.Prelude.{ℕ, ◌+◌, ◌<◌, ◌^◌, Bool, true, false, ◌&&◌, if◌then◌else◌, List, [], ◌∷◌, ◌++◌, length, filter, codes, decimal}
use Rattle.std.specs.Str.{bytes_eq}
use Rattle.tatp_model.specs.declared.done.Done.{Done}
use Rattle.tatp_model.specs.declared.request.Request.{Request}
use Rattle.tatp_model.specs.declared.reply.Reply.{Reply}
use Rattle.tatp_model.specs.declared.reply.Reply.TheVariants.{Subscriber, Destinations, Access, Changed}
use Rattle.tatp_text.specs.declared.counts.Counts.{Counts}
use Rattle.tatp_text.specs.Reply.{reply_text}

-- `OK`, with fields or without
abbrev pub is_ok : Reply → Bool
is_ok (Subscriber row) = true
is_ok (Destinations phones) = true
is_ok (Access info) = true
is_ok Changed = true
is_ok _ = false

-- the reply's text is this word
abbrev pub is_answered : List ℕ → Reply → Bool
is_answered word reply = bytes_eq (reply_text reply) word

-- how many of these requests are of a kind, and were answered so
abbrev pub count_of : (Request → Bool) → (Reply → Bool) → List Done → ℕ
count_of is_of_kind is_answer done = length (filter (λ d. is_of_kind d.request && is_answer d.reply) done)

-- how many of these requests are of a kind, and how many of them had each reply
abbrev pub counts_of : (Request → Bool) → List Done → Counts
counts_of is_of_kind done = record {
  requests = count_of is_of_kind (λ r. true) done;
  ok = count_of is_of_kind is_ok done;
  missing = count_of is_of_kind (is_answered (codes "NONE")) done;
  no_facility = count_of is_of_kind (is_answered (codes "NOFAC")) done;
  duplicate = count_of is_of_kind (is_answered (codes "DUP")) done;
  full = count_of is_of_kind (is_answered (codes "FULL")) done;
}

-- one more of a number, where the test holds
abbrev pub more_if : Bool → ℕ → ℕ
more_if test n = if test then n + 1 else n

-- the counts with one more request of the kind, that was answered so
abbrev pub with_reply : Counts → Reply → Counts
with_reply counts reply = record {
  requests = counts.requests + 1;
  ok = more_if (is_ok reply) counts.ok;
  missing = more_if (is_answered (codes "NONE") reply) counts.missing;
  no_facility = more_if (is_answered (codes "NOFAC") reply) counts.no_facility;
  duplicate = more_if (is_answered (codes "DUP") reply) counts.duplicate;
  full = more_if (is_answered (codes "FULL") reply) counts.full;
}

-- each count can be one more
abbrev pub HasRoom : Counts → Type 0
HasRoom counts =
    (counts.requests + 1 < 2 ^ 64)
    × (counts.ok + 1 < 2 ^ 64)
    × (counts.missing + 1 < 2 ^ 64)
    × (counts.no_facility + 1 < 2 ^ 64)
    × (counts.duplicate + 1 < 2 ^ 64)
    × (counts.full + 1 < 2 ^ 64)

-- a number, behind a space
abbrev pub number_of : ℕ → List ℕ
number_of n = 32 ∷ decimal n

-- the line of a kind of request: its name, how many requests there are, and how many were answered `OK`, `NONE`,
-- `NOFAC`, `DUP` and `FULL`
unfoldable pub line_of : List ℕ → Counts → List ℕ
line_of name counts =
    name
    ++ number_of counts.requests
    ++ number_of counts.ok
    ++ number_of counts.missing
    ++ number_of counts.no_facility
    ++ number_of counts.duplicate
    ++ number_of counts.full
    ++ 10 ∷ []
