-- The record that is written of a request means that request.
use Rattle.std.proofs.Common.{ℕ, ◌≡◌, ◌≤◌, inl, inr, Option, Some, None, subst, sym, refl, arith}
use Rattle.std.specs.Prelude.{◌==◌, ◌||◌, if◌then◌else◌, Ok, decimal}
use Rattle.std.specs.Option.{option_and_then}
use Rattle.tatp_model.specs.Ranges.{IsId, IsKind, IsStartTime, IsEndTime, IsLocation, IsByte, IsBit}
use Rattle.tatp_model.specs.Request.{IsInRange}
use Rattle.tatp_model.specs.declared.request.Request.{Request}
use Rattle.tatp_model.specs.declared.request.Request.TheVariants.{GetSubscriber, GetDestination, GetAccess, UpdateSubscriber, UpdateLocation, InsertCall, DeleteCall, Sync}
use Rattle.tatp_text.proofs.NumbersReadBack.{number_in-decimal, phone_in-phone_text}
use Rattle.tatp_text.specs.RequestRecord.{id_in, kind_in, start_time_in, end_time_in, bit_in, byte_in, location_in, request_of}
use Rattle.tatp_text.specs.RequestLine.{request_fields}

id_in-decimal : (n : ℕ) → IsId n → id_in (decimal n) ≡ Some n
id_in-decimal n is = number_in-decimal 10 1 4294967295 n (omega arith) (omega (arith, is.1)) (omega (arith, is.1)) is.0 (omega (arith, is.1))

kind_in-decimal : (n : ℕ) → IsKind n → kind_in (decimal n) ≡ Some n
kind_in-decimal n is = number_in-decimal 10 1 4 n (omega arith) (omega (arith, is.1)) (omega (arith, is.1)) is.0 is.1

end_time_in-decimal : (n : ℕ) → IsEndTime n → end_time_in (decimal n) ≡ Some n
end_time_in-decimal n is = number_in-decimal 10 1 24 n (omega arith) (omega (arith, is.1)) (omega (arith, is.1)) is.0 is.1

bit_in-decimal : (n : ℕ) → IsBit n → bit_in (decimal n) ≡ Some n
bit_in-decimal n is = number_in-decimal 10 0 1 n (omega arith) (omega (arith, is)) (omega (arith, is)) (omega arith) is

byte_in-decimal : (n : ℕ) → IsByte n → byte_in (decimal n) ≡ Some n
byte_in-decimal n is = number_in-decimal 10 0 255 n (omega arith) (omega (arith, is)) (omega (arith, is)) (omega arith) (omega (arith, is))

location_in-decimal : (n : ℕ) → IsLocation n → location_in (decimal n) ≡ Some n
location_in-decimal n is = number_in-decimal 10 0 4294967295 n (omega arith) (omega (arith, is)) (omega (arith, is)) (omega arith) (omega (arith, is))

-- a number that is an hour at which calls are forwarded
abbrev start_of : Option ℕ → Option ℕ
start_of number = option_and_then (λ hour. if (hour == 0) || (hour == 8) || (hour == 16) then Some hour else None) number

start_hour : (n : ℕ) → IsStartTime n → (n ≤ 16) × (start_of (Some n) ≡ Some n)
start_hour n (inl first) = (omega (arith, first), subst (λ (h : ℕ). start_of (Some h) ≡ Some h) (sym first) refl)
start_hour n (inr (inl second)) = (omega (arith, second), subst (λ (h : ℕ). start_of (Some h) ≡ Some h) (sym second) refl)
start_hour n (inr (inr third)) = (omega (arith, third), subst (λ (h : ℕ). start_of (Some h) ≡ Some h) (sym third) refl)

start_time_in-decimal : (n : ℕ) → IsStartTime n → start_time_in (decimal n) ≡ Some n
start_time_in-decimal n is =
    let hour = start_hour n is in
    rw (number_in-decimal 10 0 16 n (omega arith) (omega (arith, hour.0)) (omega (arith, hour.0)) (omega arith) hour.0) hour.1

pub request_of-request_fields : (request : Request) → IsInRange request → request_of (request_fields request) ≡ Ok request
request_of-request_fields (GetSubscriber s_id) is = rw (id_in-decimal s_id is) refl
request_of-request_fields (GetDestination s_id sf_type start_time end_time) is =
    rw (id_in-decimal s_id is.0, kind_in-decimal sf_type is.1, start_time_in-decimal start_time is.2, end_time_in-decimal end_time is.3) refl
request_of-request_fields (GetAccess s_id ai_type) is = rw (id_in-decimal s_id is.0, kind_in-decimal ai_type is.1) refl
request_of-request_fields (UpdateSubscriber s_id bit_1 sf_type data_a) is =
    rw (id_in-decimal s_id is.0, bit_in-decimal bit_1 is.1, kind_in-decimal sf_type is.2, byte_in-decimal data_a is.3) refl
request_of-request_fields (UpdateLocation sub_nbr vlr) is = rw (phone_in-phone_text sub_nbr is.0, location_in-decimal vlr is.1) refl
request_of-request_fields (InsertCall sub_nbr sf_type start_time end_time numberx) is =
    rw (phone_in-phone_text sub_nbr is.0, kind_in-decimal sf_type is.1, start_time_in-decimal start_time is.2, end_time_in-decimal end_time is.3, phone_in-phone_text numberx is.4) refl
request_of-request_fields (DeleteCall sub_nbr sf_type start_time) is =
    rw (phone_in-phone_text sub_nbr is.0, kind_in-decimal sf_type is.1, start_time_in-decimal start_time is.2) refl
request_of-request_fields Sync is = refl
