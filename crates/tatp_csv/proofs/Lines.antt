-- Lemmas on the lines of requests: how long they are, how they begin, and that `csv` reads them as their fields.
use Rattle.std.proofs.Common.{ℕ, suc, ◌≡◌, ◌*◌, ◌^◌, ◌<◌, ◌≤◌, ◌∙◌, false, List, [], ◌∷◌, ◌++◌, length, map, Some, refl, ap, lit≤, arith}
use Rattle.std.specs.Prelude.{⊤, All, decimal}
use Rattle.std.specs.List.{join_with_byte, list_any}
use Rattle.std.proofs.lemmas.List.{length-append}
use Rattle.std.proofs.lemmas.Fmt.{length-decimal-le}
use Rattle.csv.specs.Machine.{next_record}
use Rattle.csv.specs.Reading.{default_config, records, strip_bom}
use Rattle.csv.specs.Writing.{default_writer, fields_text, is_blank, read_back, row_text}
use Rattle.csv.proofs.RoundTrip.{read-write}
use Rattle.csv.specs.declared.parser.State.TheVariants as st
use Rattle.tatp_model.specs.Ranges.{IsStartTime}
use Rattle.tatp_model.specs.Request.{IsInRange}
use Rattle.tatp_model.specs.declared.request.Request.{Request}
use Rattle.tatp_model.specs.declared.request.Request.TheVariants.{GetSubscriber, GetDestination, GetAccess, UpdateSubscriber, UpdateLocation, InsertCall, DeleteCall, Sync}
use Rattle.tatp_text.specs.Number.{phone_text}
use Rattle.tatp_text.proofs.NumbersReadBack.{length-phone_text}
use Rattle.tatp_text.specs.RequestLine.{request_fields, request_line}
use Rattle.tatp_csv.proofs.Left.{records-none, records-first}
use Rattle.tatp_text.specs.Writing.{needs_quotes}
use Rattle.tatp_text.proofs.Plain.{row_text-plain, decimal-plain, phone-plain}
use Rattle.tatp_csv.specs.RequestText.{requests_text}

-- a field of a request: short, and without a byte that calls for quotes
record IsField (text : List ℕ) : Type 0 where
  pub plain : needs_quotes text ≡ false
  pub short : length text ≤ 22

abbrev AreFields : List (List ℕ) → Type 0
AreFields [] = ⊤
AreFields (field ∷ fields) = IsField field × AreFields fields

decimal-field : (n : ℕ) → n < 10 ^ 10 → IsField (decimal n)
decimal-field n few = record {
  plain = decimal-plain n (omega arith);
  short = omega (arith, length-decimal-le 10 n (omega arith) few (omega arith));
}

phone-field : (n : ℕ) → n < 10 ^ 15 → IsField (phone_text n)
phone-field n few = record {
  plain = phone-plain n (omega arith);
  short = omega (arith, length-phone_text n few);
}

start-few : (n : ℕ) → IsStartTime n → n < 10 ^ 10
start-few n is = grind arith

fields-of : (request : Request) → IsInRange request → AreFields (request_fields request)
fields-of (GetSubscriber s_id) is = (record { plain = refl; short = lit≤ tt }, (decimal-field s_id (omega (arith, is.1)), tt))
fields-of (GetDestination s_id sf_type start_time end_time) is =
    (record { plain = refl; short = lit≤ tt }, (decimal-field s_id (omega (arith, is.0.1)), (decimal-field sf_type (omega (arith, is.1.1)), (decimal-field start_time (start-few start_time is.2), (decimal-field end_time (omega (arith, is.3.1)), tt)))))
fields-of (GetAccess s_id ai_type) is =
    (record { plain = refl; short = lit≤ tt }, (decimal-field s_id (omega (arith, is.0.1)), (decimal-field ai_type (omega (arith, is.1.1)), tt)))
fields-of (UpdateSubscriber s_id bit_1 sf_type data_a) is =
    (record { plain = refl; short = lit≤ tt }, (decimal-field s_id (omega (arith, is.0.1)), (decimal-field bit_1 (omega (arith, is.1)), (decimal-field sf_type (omega (arith, is.2.1)), (decimal-field data_a (omega (arith, is.3)), tt)))))
fields-of (UpdateLocation sub_nbr vlr) is =
    (record { plain = refl; short = lit≤ tt }, (phone-field sub_nbr is.0, (decimal-field vlr (omega (arith, is.1)), tt)))
fields-of (InsertCall sub_nbr sf_type start_time end_time numberx) is =
    (record { plain = refl; short = lit≤ tt }, (phone-field sub_nbr is.0, (decimal-field sf_type (omega (arith, is.1.1)), (decimal-field start_time (start-few start_time is.2), (decimal-field end_time (omega (arith, is.3.1)), (phone-field numberx is.4, tt))))))
fields-of (DeleteCall sub_nbr sf_type start_time) is =
    (record { plain = refl; short = lit≤ tt }, (phone-field sub_nbr is.0, (decimal-field sf_type (omega (arith, is.1.1)), (decimal-field start_time (start-few start_time is.2), tt))))
fields-of Sync is = (record { plain = refl; short = lit≤ tt }, tt)

fields-plain : (fields : List (List ℕ)) → AreFields fields → list_any needs_quotes fields ≡ false
fields-plain [] are = refl
fields-plain (field ∷ fields) are = rw (are.0.plain, fields-plain fields are.1) refl

-- how long a line is
length-join : (fields : List (List ℕ)) → AreFields fields → length (join_with_byte 44 fields) ≤ 23 * length fields
length-join [] are = omega arith
length-join (field ∷ []) are = omega (arith, are.0.short)
length-join (field ∷ next ∷ fields) are =
    omega (arith, are.0.short, length-append field (44 ∷ join_with_byte 44 (next ∷ fields)), length-join (next ∷ fields) are.1)

few-fields : (request : Request) → length (request_fields request) ≤ 6
few-fields (GetSubscriber s_id) = lit≤ tt
few-fields (GetDestination s_id sf_type start_time end_time) = lit≤ tt
few-fields (GetAccess s_id ai_type) = lit≤ tt
few-fields (UpdateSubscriber s_id bit_1 sf_type data_a) = lit≤ tt
few-fields (UpdateLocation sub_nbr vlr) = lit≤ tt
few-fields (InsertCall sub_nbr sf_type start_time end_time numberx) = lit≤ tt
few-fields (DeleteCall sub_nbr sf_type start_time) = lit≤ tt
few-fields Sync = lit≤ tt

length-line : (request : Request) → IsInRange request → length (request_line request) ≤ 139
length-line request is =
    omega (arith, length-append (join_with_byte 44 (request_fields request)) (10 ∷ []), length-join (request_fields request) (fields-of request is), few-fields request)

-- the requests of a list but the first
all-behind : (request : Request) (requests : List Request) → All IsInRange (request ∷ requests) → All IsInRange requests
all-behind request requests all k d at = all (suc k) d (omega arith)

pub length-requests_text : (requests : List Request) → All IsInRange requests → length (requests_text requests) ≤ 139 * length requests
length-requests_text [] all = omega arith
length-requests_text (request ∷ requests) all =
    omega (arith, length-append (request_line request) (requests_text requests), length-line request (all 0 request (omega arith)), length-requests_text requests (all-behind request requests all))

-- no line begins with a byte order mark
strip_bom-line : (request : Request) (rest : List ℕ) → strip_bom (request_line request ++ rest) ≡ request_line request ++ rest
unfolding strip_bom
strip_bom-line (GetSubscriber s_id) rest = refl
strip_bom-line (GetDestination s_id sf_type start_time end_time) rest = refl
strip_bom-line (GetAccess s_id ai_type) rest = refl
strip_bom-line (UpdateSubscriber s_id bit_1 sf_type data_a) rest = refl
strip_bom-line (UpdateLocation sub_nbr vlr) rest = refl
strip_bom-line (InsertCall sub_nbr sf_type start_time end_time numberx) rest = refl
strip_bom-line (DeleteCall sub_nbr sf_type start_time) rest = refl
strip_bom-line Sync rest = refl

pub strip_bom-requests_text : (requests : List Request) → strip_bom (requests_text requests) ≡ requests_text requests
unfolding strip_bom
strip_bom-requests_text [] = refl
strip_bom-requests_text (request ∷ requests) = strip_bom-line request (requests_text requests)

-- a line is what `csv` writes of its fields
row_text-several : (request : Request) → IsInRange request → 2 ≤ length (request_fields request) → row_text default_writer (request_fields request) ≡ request_line request
row_text-several request is several =
    row_text-plain false (request_fields request) (several, fields-plain (request_fields request) (fields-of request is))

row_text-request : (request : Request) → IsInRange request → row_text default_writer (request_fields request) ≡ request_line request
unfolding is_blank fields_text
row_text-request (GetSubscriber s_id) is = row_text-several (GetSubscriber s_id) is (lit≤ tt)
row_text-request (GetDestination s_id sf_type start_time end_time) is =
    row_text-several (GetDestination s_id sf_type start_time end_time) is (lit≤ tt)
row_text-request (GetAccess s_id ai_type) is = row_text-several (GetAccess s_id ai_type) is (lit≤ tt)
row_text-request (UpdateSubscriber s_id bit_1 sf_type data_a) is =
    row_text-several (UpdateSubscriber s_id bit_1 sf_type data_a) is (lit≤ tt)
row_text-request (UpdateLocation sub_nbr vlr) is = row_text-several (UpdateLocation sub_nbr vlr) is (lit≤ tt)
row_text-request (InsertCall sub_nbr sf_type start_time end_time numberx) is =
    row_text-several (InsertCall sub_nbr sf_type start_time end_time numberx) is (lit≤ tt)
row_text-request (DeleteCall sub_nbr sf_type start_time) is =
    row_text-several (DeleteCall sub_nbr sf_type start_time) is (lit≤ tt)
row_text-request Sync is = refl

read_back-request : (request : Request) → read_back (request_fields request) ≡ request_fields request
read_back-request (GetSubscriber s_id) = refl
read_back-request (GetDestination s_id sf_type start_time end_time) = refl
read_back-request (GetAccess s_id ai_type) = refl
read_back-request (UpdateSubscriber s_id bit_1 sf_type data_a) = refl
read_back-request (UpdateLocation sub_nbr vlr) = refl
read_back-request (InsertCall sub_nbr sf_type start_time end_time numberx) = refl
read_back-request (DeleteCall sub_nbr sf_type start_time) = refl
read_back-request Sync = refl

next-line : (request : Request) (rest : List ℕ) → IsInRange request
    → next_record default_config st.StartRecord [] [] (request_line request ++ rest) ≡ Some (request_fields request, st.StartRecord, rest)
next-line request rest is =
    rw (← row_text-request request is) (read-write (request_fields request) rest ∙ rw (read_back-request request) refl)

-- the records of the text of requests are their fields
pub records-requests_text : (requests : List Request) → All IsInRange requests → records default_config (requests_text requests) ≡ map request_fields requests
records-requests_text [] all = records-none
records-requests_text (request ∷ requests) all =
    records-first (request_fields request) _ (requests_text requests) (next-line request (requests_text requests) (all 0 request (omega arith)))
    ∙ ap (λ (fields : List (List (List ℕ))). request_fields request ∷ fields) (records-requests_text requests (all-behind request requests all))
