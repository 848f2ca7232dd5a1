-- Which words of 64 bits the records of the five tables may hold, as tests.
use Rattle.std.specs.Prelude.{ℕ, ◌==◌, ◌*◌, ◌/◌, ◌%◌, ◌^◌, Bool, true, ◌&&◌, nat_lt, nat_le, if◌then◌else◌}
use Rattle.std.specs.List.{list_all}
use Rattle.tatp_layout.specs.Digits.{to_digits}

-- an s_id: 1 to 2^32 - 1
abbrev pub is_id : ℕ → Bool
is_id word = nat_le 1 word && nat_lt word (2 ^ 32)

-- a letter from A to Z, by its code
abbrev pub is_letter : ℕ → Bool
is_letter byte = nat_le 65 byte && nat_le byte 90

-- a word of so many letters, a byte each
abbrev pub are_letters : ℕ → ℕ → Bool
are_letters count word = nat_lt word (256 ^ count) && list_all is_letter (to_digits 256 count word)

-- the key of one of a subscriber's four rows
abbrev pub is_kind_key : ℕ → Bool
is_kind_key key = nat_le 4 key && nat_lt key (4 * 2 ^ 32)

-- a subscriber's record may hold the word at this offset
abbrev pub subscriber_word : ℕ → ℕ → Bool
subscriber_word offset word =
    if offset == 0 then is_id word
    else if offset == 2 then nat_lt word (2 ^ 50)
    else if offset == 4 then nat_lt word (2 ^ 16)
    else if offset == 5 then nat_lt word (2 ^ 32)
    else if offset == 6 then nat_lt word (2 ^ 32)
    else if offset == 7 then nat_lt word (10 ^ 15)
    else true

-- a record of the number table may hold the word at this offset
abbrev pub number_word : ℕ → ℕ → Bool
number_word offset word =
    if offset == 0 then nat_lt word (10 ^ 15)
    else if offset == 2 then is_id word
    else true

-- an access row's record may hold the word at this offset
abbrev pub access_word : ℕ → ℕ → Bool
access_word offset word =
    if offset == 0 then is_kind_key word
    else if offset == 2 then are_letters 3 (word / 65536)
    else if offset == 3 then are_letters 5 word
    else true

-- a facility's record may hold the word at this offset
abbrev pub facility_word : ℕ → ℕ → Bool
facility_word offset word =
    if offset == 0 then is_kind_key word
    else if offset == 2 then nat_lt word (2 ^ 24) && nat_le (word % 256) 1
    else if offset == 3 then are_letters 5 word
    else true

-- a call row's record may hold the word at this offset
abbrev pub call_word : ℕ → ℕ → Bool
call_word offset word =
    if offset == 0 then nat_le 12 word && nat_lt word (12 * 2 ^ 32)
    else if offset == 2 then nat_le 1 word && nat_le word 24
    else if offset == 3 then nat_lt word (10 ^ 15)
    else true
