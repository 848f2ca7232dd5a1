-- Replies that the definitions give on small populations, each computed.
use Rattle.std.proofs.Common.{◌≡◌, ℕ, List, [], ◌∷◌, length, refl}
use Rattle.tatp_model.specs.declared.request.Request.TheVariants.{GetSubscriber, GetDestination, GetAccess, UpdateSubscriber, UpdateLocation, InsertCall, DeleteCall, Sync}
use Rattle.tatp_model.specs.declared.reply.Reply.TheVariants.{Subscriber, Destinations, Access, Changed, Missing, NoFacility, Duplicate, FullTable, Durable}
use Rattle.tatp_model.specs.declared.sub_row.SubRow.{SubRow}
use Rattle.tatp_model.specs.declared.call_row.CallRow.{CallRow}
use Rattle.tatp_model.specs.Numbers.{numbers_of}
use Rattle.tatp_model.specs.Database.{Database}
use Rattle.tatp_model.specs.Transaction.{reply_to, after_request}
use Rattle.tatp_model.specs.Population.{population, population_calls}

-- subscriber 1 of a new database, at this location
abbrev pub first_subscriber : ℕ → SubRow
first_subscriber vlr = record {
  s_id = 1;
  sub_nbr = 1;
  bits = 0 ∷ 1 ∷ 0 ∷ 1 ∷ 0 ∷ 1 ∷ 0 ∷ 1 ∷ 0 ∷ 1 ∷ [];
  hexes = 2 ∷ 3 ∷ 4 ∷ 5 ∷ 6 ∷ 7 ∷ 8 ∷ 9 ∷ 10 ∷ 11 ∷ [];
  bytes = 8 ∷ 9 ∷ 10 ∷ 11 ∷ 12 ∷ 13 ∷ 14 ∷ 15 ∷ 16 ∷ 17 ∷ [];
  msc = 1;
  vlr = vlr;
}

reads_a_subscriber : reply_to 96 (population 8) (GetSubscriber 1) ≡ Subscriber (first_subscriber 1000001)
reads_a_subscriber = refl

reads_what_was_written : reply_to 96 (after_request 96 (population 8) (UpdateLocation 1 7)) (GetSubscriber 1) ≡ Subscriber (first_subscriber 7)
reads_what_was_written = refl

misses_an_unknown_phone : reply_to 96 (population 8) (UpdateLocation 9 7) ≡ Missing
misses_an_unknown_phone = refl

reads_destinations : reply_to 96 (population 8) (GetDestination 1 1 8 1) ≡ Destinations (numbers_of (110 ∷ 111 ∷ []))
reads_destinations = refl

bounds_the_end_strictly : reply_to 96 (population 8) (GetDestination 1 1 0 2) ≡ Missing
bounds_the_end_strictly = refl

reads_access_data : reply_to 96 (population 8) (GetAccess 1 1) ≡ Access (record {
  data1 = 2;
  data2 = 1;
  data3 = 67 ∷ 68 ∷ 69 ∷ [];
  data4 = 68 ∷ 69 ∷ 70 ∷ 71 ∷ 72 ∷ [];
})
reads_access_data = refl

misses_access_data : reply_to 96 (population 8) (GetAccess 1 3) ≡ Missing
misses_access_data = refl

misses_a_facility : reply_to 96 (population 8) (UpdateSubscriber 1 1 4 9) ≡ Missing
misses_a_facility = refl

keeps_the_bit : reply_to 96 (after_request 96 (population 8) (UpdateSubscriber 1 1 4 9)) (GetSubscriber 1) ≡ Subscriber (first_subscriber 1000001)
keeps_the_bit = refl

-- the population with one call forwarding more
with_a_call : Database
with_a_call = after_request 96 (population 8) (InsertCall 1 3 16 24 777)

inserts : reply_to 96 (population 8) (InsertCall 1 3 16 24 777) ≡ Changed
inserts = refl

inserts_once : reply_to 96 with_a_call (InsertCall 1 3 16 24 777) ≡ Duplicate
unfolding with_a_call
inserts_once = refl

needs_a_facility : reply_to 96 (population 8) (InsertCall 1 4 0 1 777) ≡ NoFacility
needs_a_facility = refl

fills_the_table : reply_to 28 (population 8) (InsertCall 1 3 16 24 777) ≡ FullTable
fills_the_table = refl

deletes : reply_to 96 with_a_call (DeleteCall 1 3 16) ≡ Changed
unfolding with_a_call
deletes = refl

deletes_what_was_inserted : after_request 96 with_a_call (DeleteCall 1 3 16) ≡ population 8
unfolding with_a_call
deletes_what_was_inserted = refl

deletes_once : reply_to 96 (population 8) (DeleteCall 1 3 16) ≡ Missing
deletes_once = refl

answers_durable : reply_to 96 (population 8) Sync ≡ Durable
answers_durable = refl

counts_rows : (population_calls 8 ≡ 28) × (length (population 4).access ≡ 10) × (length (population 4).facilities ≡ 10)
counts_rows = (refl, refl, refl)

-- the call rows of the only subscriber
calls_of_one : List CallRow
calls_of_one =
    record { s_id = 1; sf_type = 1; start_time = 0; end_time = 2; numberx = 110 }
    ∷ record { s_id = 1; sf_type = 1; start_time = 8; end_time = 11; numberx = 111 }
    ∷ record { s_id = 1; sf_type = 2; start_time = 0; end_time = 3; numberx = 120 }
    ∷ record { s_id = 1; sf_type = 2; start_time = 8; end_time = 12; numberx = 121 }
    ∷ record { s_id = 1; sf_type = 2; start_time = 16; end_time = 21; numberx = 122 } ∷ []

populates_calls : (population 1).calls ≡ calls_of_one
unfolding calls_of_one
populates_calls = refl

-- a full table says so before it looks where the row belongs
inserts_before_the_last : reply_to 5 (population 1) (InsertCall 1 3 16 24 777) ≡ FullTable
inserts_before_the_last = refl

inserts_as_the_last : length (after_request 6 (population 1) (InsertCall 1 3 16 24 777)).calls ≡ 6
inserts_as_the_last = refl
