-- The words of the records that each subscriber of the population has in the five tables, each without the link.
use Rattle.std.specs.Prelude.{ℕ, ◌+◌, ◌%◌, List, [], ◌∷◌, map, flat_map}
use Rattle.std.specs.List.{range_with_len}
use Rattle.tatp_model.specs.Population.{subscriber_at, access_at, facility_at, call_at, facility_types}
use Rattle.tatp_layout.specs.Records.{subscriber_form, number_form, access_form, facility_form, call_form}
use Rattle.tatp_rows.specs.Filling.{entry_of}

-- the entry of subscriber s in the table of subscribers
abbrev pub subscriber_entries : ℕ → List (List ℕ)
subscriber_entries s = entry_of subscriber_form (subscriber_at s) ∷ []

-- the entry of subscriber s in the table that finds subscribers by phone number
abbrev pub number_entries : ℕ → List (List ℕ)
number_entries s = entry_of number_form (subscriber_at s) ∷ []

-- one of each kind from 1 on, so many of them
abbrev pub of_kinds : (ℕ → ℕ → List ℕ) → ℕ → ℕ → List (List ℕ)
of_kinds entry_at s count = map (entry_at s) (range_with_len 1 count)

-- the entries of subscriber s in the table of access rows
abbrev pub access_entries : ℕ → List (List ℕ)
access_entries s = of_kinds (λ s kind. entry_of access_form (access_at s kind)) s (1 + s % 4)

-- the entries of subscriber s in the table of facilities
abbrev pub facility_entries : ℕ → List (List ℕ)
facility_entries s = of_kinds (λ s kind. entry_of facility_form (facility_at s kind)) s (1 + (s + 1) % 4)

-- the entries of facility f of subscriber s in the table of call rows
abbrev pub facility_call_entries : ℕ → ℕ → List (List ℕ)
facility_call_entries s f = map (λ k. entry_of call_form (call_at s f k)) (range_with_len 0 ((s + f) % 4))

-- the entries of subscriber s in the table of call rows
abbrev pub call_entries : ℕ → List (List ℕ)
call_entries s = flat_map (facility_call_entries s) (facility_types s)
