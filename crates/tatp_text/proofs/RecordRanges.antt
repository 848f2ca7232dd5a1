-- The request of a record is in its ranges.
use Rattle.std.proofs.Common.{ℕ, ◌≡◌, ◌≤◌, Bool, true, false, List, [], ◌∷◌, Option, Some, None, subst, refl, arith}
use Rattle.std.specs.Prelude.{Result, Ok, if◌then◌else◌, ◌==◌, ◌||◌, codes}
use Rattle.std.specs.Option.{option_and_then}
use Rattle.std.specs.Str.{bytes_eq}
use Rattle.std.proofs.lemmas.Bool.Decides.{nat_tests}
use Rattle.std.proofs.lemmas.Grind.{common_steps}
use Rattle.tatp_model.specs.Ranges.{IsId, IsPhone, IsKind, IsStartTime, IsEndTime, IsLocation, IsByte, IsBit}
use Rattle.tatp_model.specs.Request.{IsInRange}
use Rattle.tatp_model.specs.declared.request.Request.{Request}
use Rattle.tatp_model.specs.declared.request.Request.TheVariants.{GetSubscriber, GetDestination, GetAccess, UpdateSubscriber, UpdateLocation, InsertCall, DeleteCall, Sync}
use Rattle.tatp_text.specs.Number.{number_in, phone_in}
use Rattle.tatp_text.specs.RequestRecord.{with_field, id_in, kind_in, start_time_in, end_time_in, bit_in, byte_in, location_in, of_one, of_two, of_three, of_four, of_five, get_subscriber_of, get_destination_of, get_access_of, update_subscriber_of, update_location_of, insert_call_of, delete_call_of, sync_of, request_of}
use Rattle.tatp_text.proofs.Digits.{digits_value-lt_power}

-- the field is there, and what comes next is good
with_field-Ok : (place : ℕ) (field : Option ℕ) (next : ℕ → Result Request ℕ) (request : Request) → with_field place field next ≡ Ok request
    → (n : ℕ) × (field ≡ Some n) × (next n ≡ Ok request)
with_field-Ok place None next request e = cc e
with_field-Ok place (Some n) next request e = (n, refl, e)

ok-inj : (a b : Request) → ◌≡◌ {A = Result Request ℕ} (Ok a) (Ok b) → a ≡ b
ok-inj a b e = cc

number_in-Some : (most least greatest : ℕ) (text : List ℕ) (n : ℕ) → number_in most least greatest text ≡ Some n → (least ≤ n) × (n ≤ greatest)
number_in-Some most least greatest text n some = grind (arith, common_steps, nat_tests)

in-phone : (text : List ℕ) (n : ℕ) → phone_in text ≡ Some n → IsPhone n
in-phone text n some = grind (arith, common_steps, nat_tests, digits_value-lt_power text 15)

in-id : (text : List ℕ) (n : ℕ) → id_in text ≡ Some n → IsId n
in-id text n some = let r = number_in-Some 10 1 4294967295 text n some in (r.0, omega arith)

in-kind : (text : List ℕ) (n : ℕ) → kind_in text ≡ Some n → IsKind n
in-kind text n some = number_in-Some 10 1 4 text n some

in-end : (text : List ℕ) (n : ℕ) → end_time_in text ≡ Some n → IsEndTime n
in-end text n some = number_in-Some 10 1 24 text n some

in-bit : (text : List ℕ) (n : ℕ) → bit_in text ≡ Some n → IsBit n
in-bit text n some = (number_in-Some 10 0 1 text n some).1

in-byte : (text : List ℕ) (n : ℕ) → byte_in text ≡ Some n → IsByte n
in-byte text n some = let r = number_in-Some 10 0 255 text n some in omega arith

in-location : (text : List ℕ) (n : ℕ) → location_in text ≡ Some n → IsLocation n
in-location text n some = let r = number_in-Some 10 0 4294967295 text n some in omega arith

start-of : (hour : Option ℕ) (n : ℕ) → option_and_then (λ h. if (h == 0) || (h == 8) || (h == 16) then Some h else None) hour ≡ Some n → IsStartTime n
start-of None n some = absurd (let no : ◌≡◌ {A = Option ℕ} None (Some n) = some in cc no)
start-of (Some h) n some = grind (arith, common_steps, nat_tests)

in-start : (text : List ℕ) (n : ℕ) → start_time_in text ≡ Some n → IsStartTime n
in-start text n some = start-of (number_in 10 0 16 text) n some

-- what is read so is in this range
abbrev GivesIn : (List ℕ → Option ℕ) → (ℕ → Type 0) → Type 0
GivesIn read P = (text : List ℕ) (n : ℕ) → read text ≡ Some n → P n

of_one-ranges : {P : ℕ → Type 0} (a : List ℕ → Option ℕ) (make : ℕ → Request)
    → GivesIn a P
    → ((k : ℕ) → P k → IsInRange (make k))
    → (fields : List (List ℕ)) (request : Request) → of_one a make fields ≡ Ok request → IsInRange request
of_one-ranges a make in-a good [] request ok = cc ok
of_one-ranges a make in-a good (x ∷ more ∷ others) request ok = cc ok
of_one-ranges a make in-a good (x ∷ []) request ok =
    let f0 = with_field-Ok 2 (a x) _ request ok in
    subst IsInRange (ok-inj (make f0.0) request f0.2) (good f0.0 (in-a x f0.0 f0.1))

of_two-ranges : {P Q : ℕ → Type 0} (a b : List ℕ → Option ℕ) (make : ℕ → ℕ → Request)
    → GivesIn a P → GivesIn b Q
    → ((k l : ℕ) → P k → Q l → IsInRange (make k l))
    → (fields : List (List ℕ)) (request : Request) → of_two a b make fields ≡ Ok request → IsInRange request
of_two-ranges a b make in-a in-b good [] request ok = cc ok
of_two-ranges a b make in-a in-b good (x ∷ []) request ok = cc ok
of_two-ranges a b make in-a in-b good (x ∷ y ∷ more ∷ others) request ok = cc ok
of_two-ranges a b make in-a in-b good (x ∷ y ∷ []) request ok =
    let f0 = with_field-Ok 2 (a x) _ request ok in
    let f1 = with_field-Ok 3 (b y) _ request f0.2 in
    subst IsInRange (ok-inj (make f0.0 f1.0) request f1.2) (good f0.0 f1.0 (in-a x f0.0 f0.1) (in-b y f1.0 f1.1))

of_three-ranges : {P Q R : ℕ → Type 0} (a b c : List ℕ → Option ℕ) (make : ℕ → ℕ → ℕ → Request)
    → GivesIn a P → GivesIn b Q → GivesIn c R
    → ((k l m : ℕ) → P k → Q l → R m → IsInRange (make k l m))
    → (fields : List (List ℕ)) (request : Request) → of_three a b c make fields ≡ Ok request → IsInRange request
of_three-ranges a b c make in-a in-b in-c good [] request ok = cc ok
of_three-ranges a b c make in-a in-b in-c good (x ∷ []) request ok = cc ok
of_three-ranges a b c make in-a in-b in-c good (x ∷ y ∷ []) request ok = cc ok
of_three-ranges a b c make in-a in-b in-c good (x ∷ y ∷ z ∷ more ∷ others) request ok = cc ok
of_three-ranges a b c make in-a in-b in-c good (x ∷ y ∷ z ∷ []) request ok =
    let f0 = with_field-Ok 2 (a x) _ request ok in
    let f1 = with_field-Ok 3 (b y) _ request f0.2 in
    let f2 = with_field-Ok 4 (c z) _ request f1.2 in
    subst IsInRange (ok-inj (make f0.0 f1.0 f2.0) request f2.2) (good f0.0 f1.0 f2.0 (in-a x f0.0 f0.1) (in-b y f1.0 f1.1) (in-c z f2.0 f2.1))

of_four-ranges : {P Q R S : ℕ → Type 0} (a b c d : List ℕ → Option ℕ) (make : ℕ → ℕ → ℕ → ℕ → Request)
    → GivesIn a P → GivesIn b Q → GivesIn c R → GivesIn d S
    → ((k l m n : ℕ) → P k → Q l → R m → S n → IsInRange (make k l m n))
    → (fields : List (List ℕ)) (request : Request) → of_four a b c d make fields ≡ Ok request → IsInRange request
of_four-ranges a b c d make in-a in-b in-c in-d good [] request ok = cc ok
of_four-ranges a b c d make in-a in-b in-c in-d good (x ∷ []) request ok = cc ok
of_four-ranges a b c d make in-a in-b in-c in-d good (x ∷ y ∷ []) request ok = cc ok
of_four-ranges a b c d make in-a in-b in-c in-d good (x ∷ y ∷ z ∷ []) request ok = cc ok
of_four-ranges a b c d make in-a in-b in-c in-d good (x ∷ y ∷ z ∷ u ∷ more ∷ others) request ok = cc ok
of_four-ranges a b c d make in-a in-b in-c in-d good (x ∷ y ∷ z ∷ u ∷ []) request ok =
    let f0 = with_field-Ok 2 (a x) _ request ok in
    let f1 = with_field-Ok 3 (b y) _ request f0.2 in
    let f2 = with_field-Ok 4 (c z) _ request f1.2 in
    let f3 = with_field-Ok 5 (d u) _ request f2.2 in
    subst IsInRange (ok-inj (make f0.0 f1.0 f2.0 f3.0) request f3.2) (good f0.0 f1.0 f2.0 f3.0 (in-a x f0.0 f0.1) (in-b y f1.0 f1.1) (in-c z f2.0 f2.1) (in-d u f3.0 f3.1))

of_five-ranges : {P Q R S T : ℕ → Type 0} (a b c d e : List ℕ → Option ℕ) (make : ℕ → ℕ → ℕ → ℕ → ℕ → Request)
    → GivesIn a P → GivesIn b Q → GivesIn c R → GivesIn d S → GivesIn e T
    → ((k l m n o : ℕ) → P k → Q l → R m → S n → T o → IsInRange (make k l m n o))
    → (fields : List (List ℕ)) (request : Request) → of_five a b c d e make fields ≡ Ok request → IsInRange request
of_five-ranges a b c d e make in-a in-b in-c in-d in-e good [] request ok = cc ok
of_five-ranges a b c d e make in-a in-b in-c in-d in-e good (x ∷ []) request ok = cc ok
of_five-ranges a b c d e make in-a in-b in-c in-d in-e good (x ∷ y ∷ []) request ok = cc ok
of_five-ranges a b c d e make in-a in-b in-c in-d in-e good (x ∷ y ∷ z ∷ []) request ok = cc ok
of_five-ranges a b c d e make in-a in-b in-c in-d in-e good (x ∷ y ∷ z ∷ u ∷ []) request ok = cc ok
of_five-ranges a b c d e make in-a in-b in-c in-d in-e good (x ∷ y ∷ z ∷ u ∷ v ∷ more ∷ others) request ok = cc ok
of_five-ranges a b c d e make in-a in-b in-c in-d in-e good (x ∷ y ∷ z ∷ u ∷ v ∷ []) request ok =
    let f0 = with_field-Ok 2 (a x) _ request ok in
    let f1 = with_field-Ok 3 (b y) _ request f0.2 in
    let f2 = with_field-Ok 4 (c z) _ request f1.2 in
    let f3 = with_field-Ok 5 (d u) _ request f2.2 in
    let f4 = with_field-Ok 6 (e v) _ request f3.2 in
    subst IsInRange (ok-inj (make f0.0 f1.0 f2.0 f3.0 f4.0) request f4.2) (good f0.0 f1.0 f2.0 f3.0 f4.0 (in-a x f0.0 f0.1) (in-b y f1.0 f1.1) (in-c z f2.0 f2.1) (in-d u f3.0 f3.1) (in-e v f4.0 f4.1))

get_subscriber-ranges : (fields : List (List ℕ)) (request : Request) → get_subscriber_of fields ≡ Ok request → IsInRange request
get_subscriber-ranges = of_one-ranges id_in GetSubscriber in-id (λ k p. p)

get_destination-ranges : (fields : List (List ℕ)) (request : Request) → get_destination_of fields ≡ Ok request → IsInRange request
get_destination-ranges = of_four-ranges id_in kind_in start_time_in end_time_in GetDestination in-id in-kind in-start in-end (λ k l m n p q r s. (p, q, r, s))

get_access-ranges : (fields : List (List ℕ)) (request : Request) → get_access_of fields ≡ Ok request → IsInRange request
get_access-ranges = of_two-ranges id_in kind_in GetAccess in-id in-kind (λ k l p q. (p, q))

update_subscriber-ranges : (fields : List (List ℕ)) (request : Request) → update_subscriber_of fields ≡ Ok request → IsInRange request
update_subscriber-ranges = of_four-ranges id_in bit_in kind_in byte_in UpdateSubscriber in-id in-bit in-kind in-byte (λ k l m n p q r s. (p, q, r, s))

update_location-ranges : (fields : List (List ℕ)) (request : Request) → update_location_of fields ≡ Ok request → IsInRange request
update_location-ranges = of_two-ranges phone_in location_in UpdateLocation in-phone in-location (λ k l p q. (p, q))

insert_call-ranges : (fields : List (List ℕ)) (request : Request) → insert_call_of fields ≡ Ok request → IsInRange request
insert_call-ranges = of_five-ranges phone_in kind_in start_time_in end_time_in phone_in InsertCall in-phone in-kind in-start in-end in-phone (λ k l m n o p q r s t. (p, q, r, s, t))

delete_call-ranges : (fields : List (List ℕ)) (request : Request) → delete_call_of fields ≡ Ok request → IsInRange request
delete_call-ranges = of_three-ranges phone_in kind_in start_time_in DeleteCall in-phone in-kind in-start (λ k l m p q r. (p, q, r))

sync-ranges : (fields : List (List ℕ)) (request : Request) → sync_of fields ≡ Ok request → IsInRange request
sync-ranges [] request ok = subst IsInRange (ok-inj Sync request ok) tt
sync-ranges (a ∷ more) request ok = cc ok

either : (b : Bool) (x y : Result Request ℕ) (request : Request) → (x ≡ Ok request → IsInRange request) → (y ≡ Ok request → IsInRange request)
    → (if b then x else y) ≡ Ok request → IsInRange request
either true x y request f g e = f e
either false x y request f g e = g e

pub request_of-ranges : (fields : List (List ℕ)) (request : Request) → request_of fields ≡ Ok request → IsInRange request
request_of-ranges [] request ok = cc ok
request_of-ranges (name ∷ fields) request ok =
    either (bytes_eq name (codes "GET_SUBSCRIBER_DATA")) (get_subscriber_of fields) _ request (get_subscriber-ranges fields request) (λ e. either (bytes_eq name (codes "GET_NEW_DESTINATION")) (get_destination_of fields) _ request (get_destination-ranges fields request) (λ e. either (bytes_eq name (codes "GET_ACCESS_DATA")) (get_access_of fields) _ request (get_access-ranges fields request) (λ e. either (bytes_eq name (codes "UPDATE_SUBSCRIBER_DATA")) (update_subscriber_of fields) _ request (update_subscriber-ranges fields request) (λ e. either (bytes_eq name (codes "UPDATE_LOCATION")) (update_location_of fields) _ request (update_location-ranges fields request) (λ e. either (bytes_eq name (codes "INSERT_CALL_FORWARDING")) (insert_call_of fields) _ request (insert_call-ranges fields request) (λ e. either (bytes_eq name (codes "DELETE_CALL_FORWARDING")) (delete_call_of fields) _ request (delete_call-ranges fields request) (λ e. either (bytes_eq name (codes "SYNC")) (sync_of fields) _ request (sync-ranges fields request) (λ e. cc e) e) e) e) e) e) e) e) ok
