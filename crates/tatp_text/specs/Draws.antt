-- The random words of a request, and the request that they choose.
use Rattle.std.specs.Prelude.{ℕ, ◌+◌, ◌*◌, ◌%◌, nat_lt, if◌then◌else◌}
use Rattle.rand_pcg.specs.Lcg.{Lcg}
use Rattle.rand_pcg.specs.Pcg.{pcg32}
use Rattle.tatp_text.specs.declared.draws.Draws.{Draws}
use Rattle.tatp_model.specs.declared.request.Request.{Request}
use Rattle.tatp_model.specs.declared.request.Request.TheVariants.{GetSubscriber, GetDestination, GetAccess, UpdateSubscriber, UpdateLocation, InsertCall, DeleteCall}

-- the word that a generator gives
abbrev pub word_of : Lcg → ℕ
word_of g = (pcg32 g).0

-- the generator once it has given that word
abbrev pub next_of : Lcg → Lcg
next_of g = (pcg32 g).1

-- the next seven words of a generator, in the order of the fields
unfoldable pub draws_of : Lcg → Draws
draws_of g =
    let g1 = next_of g in
    let g2 = next_of g1 in
    let g3 = next_of g2 in
    let g4 = next_of g3 in
    let g5 = next_of g4 in
    let g6 = next_of g5 in
    record { kind = word_of g; subscriber = word_of g1; facility = word_of g2; start = word_of g3; end = word_of g4; value = word_of g5; number = word_of g6 }

-- the generator after seven words
unfoldable pub after_draws : Lcg → Lcg
after_draws g = next_of (next_of (next_of (next_of (next_of (next_of (next_of g))))))

-- the subscriber of a file of so many files that the words choose, where each file has so many subscribers: those of
-- file 0 of 4 are 1, 5, 9 and so on
abbrev pub subscriber_of : ℕ → ℕ → ℕ → Draws → ℕ
subscriber_of file files each draws = 1 + file + files * (draws.subscriber % each)

-- the request that the words choose, for this subscriber: of 100, 35 read the subscriber, 10 a destination and 35 an
-- access row, 2 update the subscriber, 14 its location, 2 insert a call row and 2 delete one
abbrev pub chosen : ℕ → Draws → Request
chosen s draws =
    let kind = draws.kind % 100 in
    let sf_type = 1 + draws.facility % 4 in
    let start_time = 8 * (draws.start % 3) in
    let end_time = 1 + draws.end % 24 in
    if nat_lt kind 35 then GetSubscriber s
    else if nat_lt kind 45 then GetDestination s sf_type start_time end_time
    else if nat_lt kind 80 then GetAccess s sf_type
    else if nat_lt kind 82 then UpdateSubscriber s (draws.number % 2) sf_type (draws.value % 256)
    else if nat_lt kind 96 then UpdateLocation s draws.value
    else if nat_lt kind 98 then InsertCall s sf_type start_time end_time draws.number
    else DeleteCall s sf_type start_time
