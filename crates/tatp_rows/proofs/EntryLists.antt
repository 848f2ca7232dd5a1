-- The entries of the population's rows.
use Rattle.std.proofs.Common.{◌≡◌, ℕ, ◌+◌, ◌%◌, List, [], ◌∷◌, ◌++◌, ◌*◌, ◌≤◌, length, map, refl, sym, ap, ap₂, ◌∙◌, arith}
use Rattle.std.specs.List.{flat_map, range_with_len}
use Rattle.std.proofs.lemmas.List.{length-map}
use Rattle.std.proofs.lemmas.List.FromFn.{length-map-range_with_len}
use Rattle.std.proofs.lemmas.List.Concat.{flat_map_single}
use Rattle.tatp_model.specs.declared.sub_row.SubRow.{SubRow}
use Rattle.tatp_model.specs.Population.{subscriber_at, access_at, facility_at, call_at, access_of, facilities_of, calls_of, facility_types, population, population_calls}
use Rattle.dude_base.specs.declared.sizes.Sizes.{Sizes}
use Rattle.tatp_layout.specs.Layout.{subscriber_table, number_table, access_table, facility_table, call_table}
use Rattle.tatp_layout.specs.Records.{RowForm, subscriber_form, number_form, access_form, facility_form, call_form}
use Rattle.tatp_rows.specs.Filling.{entry_of, entries_up_to, FillsWith}
use Rattle.tatp_rows.specs.Entries.{subscriber_entries, number_entries, access_entries, facility_entries, facility_call_entries, call_entries}
use Rattle.tatp_rows.specs.Filled.{Fills}
use Rattle.tatp_rows.proofs.Fillings.{fills_rows}
use Rattle.tatp_rows.proofs.Populations.{calls_of_facility, flat_few, subscribers_whole, numbers_whole, access_whole, facilities_whole, calls_whole}

pub map_twice : {X Y Z : Type 0} (g : Y → Z) (f : X → Y) (xs : List X) → map (λ x. g (f x)) xs ≡ map g (map f xs)
map_twice g f [] = refl
map_twice g f (x ∷ xs) = ap (λ l. g (f x) ∷ l) (map_twice g f xs)

map_append : {X Y : Type 0} (f : X → Y) (xs ys : List X) → map f (xs ++ ys) ≡ map f xs ++ map f ys
map_append f [] ys = refl
map_append f (x ∷ xs) ys = ap (λ l. f x ∷ l) (map_append f xs ys)

-- the entries of each number's rows are those of all the rows
flat_entries : {R : Type 0} (e : R → List ℕ) (f : ℕ → List (List ℕ)) (rows : ℕ → List R) (xs : List ℕ) → ((s : ℕ) → f s ≡ map e (rows s)) → flat_map f xs ≡ map e (flat_map rows xs)
flat_entries e f rows [] each = refl
flat_entries e f rows (x ∷ xs) each = ap₂ (λ (l m : List (List ℕ)). l ++ m) (each x) (flat_entries e f rows xs each) ∙ sym (map_append e (rows x) (flat_map rows xs))

-- one row of each subscriber
pub ones : (form : RowForm SubRow) (S : ℕ) → entries_up_to (λ s. entry_of form (subscriber_at s) ∷ []) S ≡ map (entry_of form) (population S).subscribers
ones form S = flat_map_single (λ s. entry_of form (subscriber_at s)) (range_with_len 1 S) ∙ map_twice (entry_of form) subscriber_at (range_with_len 1 S)

pub access_rows : (S : ℕ) → entries_up_to access_entries S ≡ map (entry_of access_form) (population S).access
access_rows S = flat_entries (entry_of access_form) access_entries access_of (range_with_len 1 S) (λ s. map_twice (entry_of access_form) (access_at s) (range_with_len 1 (1 + s % 4)))

pub facility_rows : (S : ℕ) → entries_up_to facility_entries S ≡ map (entry_of facility_form) (population S).facilities
facility_rows S = flat_entries (entry_of facility_form) facility_entries facilities_of (range_with_len 1 S) (λ s. map_twice (entry_of facility_form) (facility_at s) (facility_types s))

pub call_rows : (S : ℕ) → entries_up_to call_entries S ≡ map (entry_of call_form) (population S).calls
call_rows S = flat_entries (entry_of call_form) call_entries calls_of (range_with_len 1 S) (λ s.
    flat_entries (entry_of call_form) (facility_call_entries s) (calls_of_facility s) (facility_types s) (λ f. map_twice (entry_of call_form) (call_at s f) (range_with_len 0 ((s + f) % 4))))

-- how many these are, and that the tables have room for them
pub length-access_entries : (s : ℕ) → length (access_entries s) ≡ 1 + s % 4
length-access_entries s = length-map-range_with_len (λ kind. entry_of access_form (access_at s kind)) 1 (1 + s % 4)

pub length-facility_entries : (s : ℕ) → length (facility_entries s) ≡ 1 + (s + 1) % 4
length-facility_entries s = length-map-range_with_len (λ kind. entry_of facility_form (facility_at s kind)) 1 (1 + (s + 1) % 4)

pub ones_fit : (form : RowForm SubRow) (S : ℕ) → length (entries_up_to (λ s. entry_of form (subscriber_at s) ∷ []) S) ≤ S
ones_fit form S = omega (arith, ap length (ones form S), length-map (population S).subscribers (entry_of form), length-map-range_with_len subscriber_at 1 S)

pub access_entries_fit : (S : ℕ) → length (entries_up_to access_entries S) ≤ 4 * S
access_entries_fit S = flat_few access_entries 4 1 S (λ s. omega (arith, length-access_entries s))

pub facility_entries_fit : (S : ℕ) → length (entries_up_to facility_entries S) ≤ 4 * S
facility_entries_fit S = flat_few facility_entries 4 1 S (λ s. omega (arith, length-facility_entries s))

pub length-call_entries : (S : ℕ) → length (entries_up_to call_entries S) ≡ population_calls S
length-call_entries S = ap length (call_rows S) ∙ length-map (population S).calls (entry_of call_form)

-- each table is filled with its rows
module _ (s : Sizes) {a b : List ℕ} where
  pub subscribers_filled : FillsWith (subscriber_table s) (entries_up_to subscriber_entries s.subscribers) a b → Fills subscriber_form (subscriber_table s) (population s.subscribers).subscribers a b
  subscribers_filled = fills_rows subscriber_form (population s.subscribers).subscribers (ones subscriber_form s.subscribers) (subscribers_whole s.subscribers)

  pub numbers_filled : FillsWith (number_table s) (entries_up_to number_entries s.subscribers) a b → Fills number_form (number_table s) (population s.subscribers).subscribers a b
  numbers_filled = fills_rows number_form (population s.subscribers).subscribers (ones number_form s.subscribers) (numbers_whole s.subscribers)

  pub access_filled : FillsWith (access_table s) (entries_up_to access_entries s.subscribers) a b → Fills access_form (access_table s) (population s.subscribers).access a b
  access_filled = fills_rows access_form (population s.subscribers).access (access_rows s.subscribers) (access_whole s.subscribers)

  pub facilities_filled : FillsWith (facility_table s) (entries_up_to facility_entries s.subscribers) a b → Fills facility_form (facility_table s) (population s.subscribers).facilities a b
  facilities_filled = fills_rows facility_form (population s.subscribers).facilities (facility_rows s.subscribers) (facilities_whole s.subscribers)

  pub calls_filled : FillsWith (call_table s) (entries_up_to call_entries s.subscribers) a b → Fills call_form (call_table s) (population s.subscribers).calls a b
  calls_filled = fills_rows call_form (population s.subscribers).calls (call_rows s.subscribers) (calls_whole s.subscribers)
