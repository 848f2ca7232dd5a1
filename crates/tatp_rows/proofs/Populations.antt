-- The rows of the population: how many there are, and one number's more.
use Rattle.std.proofs.Common.{◌≡◌, ℕ, zero, suc, ◌+◌, ◌-◌, ◌*◌, ◌%◌, ◌≤◌, List, [], ◌∷◌, ◌++◌, length, length-append, map, refl, sym, ap, ◌∙◌, arith, append_assoc, All}
use Rattle.std.proofs.lemmas.List.{append-nil}
use Rattle.std.proofs.lemmas.List.Elements.{All-append, All-map}
use Rattle.std.proofs.lemmas.List.FromFn.{length-map-range_with_len, map-range_with_len_more}
use Rattle.std.specs.List.{flat_map, range_with_len}
use Rattle.tatp_model.specs.declared.call_row.CallRow.{CallRow}
use Rattle.tatp_model.specs.Population.{subscriber_at, access_at, facility_at, call_at, access_of, facilities_of, population}
use Rattle.tatp_layout.specs.Records.{subscriber_form, number_form, access_form, facility_form, call_form}

-- the call rows of one facility
abbrev pub calls_of_facility : ℕ → ℕ → List CallRow
calls_of_facility s f = map (call_at s f) (range_with_len 0 ((s + f) % 4))

-- one number more
pub map_next : {R : Type 0} (f : ℕ → R) (n j : ℕ) → n + 1 ≡ j → map f (range_with_len 1 j) ≡ map f (range_with_len 1 n) ++ f j ∷ []
map_next f n j next = ap (λ k. map f (range_with_len 1 k)) (sym next) ∙ map-range_with_len_more f 1 n j (omega (arith, next))

flat_from : {R : Type 0} (f : ℕ → List R) (a n : ℕ) → flat_map f (range_with_len a (suc n)) ≡ flat_map f (range_with_len a n) ++ f (a + n)
flat_from f a zero = append-nil (f a) ∙ ap f (omega arith)
flat_from f a (suc n) =
    let same : a + 1 + n ≡ a + suc n = omega arith in
    ap (λ l. f a ++ l) (flat_from f (a + 1) n ∙ ap (λ k. flat_map f (range_with_len (a + 1) n) ++ f k) same) ∙ sym (append_assoc (f a) (flat_map f (range_with_len (a + 1) n)) (f (a + suc n)))

pub flat_next : {R : Type 0} (f : ℕ → List R) (n j : ℕ) → n + 1 ≡ j → flat_map f (range_with_len 1 j) ≡ flat_map f (range_with_len 1 n) ++ f j
flat_next f n j next =
    let is : j ≡ suc n = omega (arith, next) in
    let last : 1 + n ≡ j = omega (arith, next) in
    ap (λ k. flat_map f (range_with_len 1 k)) is ∙ flat_from f 1 n ∙ ap (λ k. flat_map f (range_with_len 1 n) ++ f k) last

-- how many rows there are with one number's more
pub flat_count : {R : Type 0} (f : ℕ → List R) (n j m : ℕ) → n + 1 ≡ j → j ≡ m → length (flat_map f (range_with_len 1 n)) + length (f j) ≡ length (flat_map f (range_with_len 1 m))
flat_count f n j m next same =
    omega (arith, length-append (flat_map f (range_with_len 1 n)) (f j), ap length (flat_next f n j next), ap (λ k. length (flat_map f (range_with_len 1 k))) same)

-- at most so many rows a number
pub flat_few : {R : Type 0} (f : ℕ → List R) (most a n : ℕ) → ((s : ℕ) → length (f s) ≤ most) → length (flat_map f (range_with_len a n)) ≤ most * n
flat_few f most a zero few = omega arith
flat_few f most a (suc n) few = omega (arith, length-append (f a) (flat_map f (range_with_len (a + 1) n)), few a, flat_few f most (a + 1) n few)

-- fewer numbers have no more rows
pub flat_grows : {R : Type 0} (f : ℕ → List R) (a n more : ℕ) → length (flat_map f (range_with_len a n)) ≤ length (flat_map f (range_with_len a (n + more)))
flat_grows f a n zero =
    let same : n ≡ n + 0 = omega arith in
    omega (arith, ap (λ k. length (flat_map f (range_with_len a k))) same)
flat_grows f a n (suc more) =
    let next : n + suc more ≡ suc (n + more) = omega arith in
    omega (arith, flat_grows f a n more, ap (λ k. length (flat_map f (range_with_len a k))) next, ap length (flat_from f a (n + more)), length-append (flat_map f (range_with_len a (n + more))) (f (a + (n + more))))

-- the rows up to one number's, of those up to a greater one
pub flat_within : {R : Type 0} (f : ℕ → List R) (n j last : ℕ) → n + 1 ≡ j → j ≤ last → length (flat_map f (range_with_len 1 n)) + length (f j) ≤ length (flat_map f (range_with_len 1 last))
flat_within f n j last next below =
    let same : j + (last - j) ≡ last = omega arith in
    omega (arith, ap length (flat_next f n j next), length-append (flat_map f (range_with_len 1 n)) (f j), flat_grows f 1 j (last - j), ap (λ k. length (flat_map f (range_with_len 1 k))) same)

pub length-calls_of_facility : (s f : ℕ) → length (calls_of_facility s f) ≡ (s + f) % 4
length-calls_of_facility s f = length-map-range_with_len (call_at s f) 0 ((s + f) % 4)

-- what holds of each row of each number
pub all_flat : {R : Type 0} (P : R → Type 0) (f : ℕ → List R) (numbers : List ℕ) → ((s : ℕ) → All P (f s)) → All P (flat_map f numbers)
all_flat P f [] each = λ i d under. absurd (omega arith)
all_flat P f (s ∷ numbers) each = All-append P (f s) (flat_map f numbers) (each s) (all_flat P f numbers each)

-- the arrays of the population's rows have their lengths
pub subscribers_whole : (S : ℕ) → All subscriber_form.Lengths (population S).subscribers
subscribers_whole S = All-map subscriber_form.Lengths subscriber_at (range_with_len 1 S) (λ i d under. (refl, refl, refl))

pub numbers_whole : (S : ℕ) → All number_form.Lengths (population S).subscribers
numbers_whole S = λ i d under. tt

pub access_whole : (S : ℕ) → All access_form.Lengths (population S).access
access_whole S = all_flat access_form.Lengths access_of (range_with_len 1 S) (λ s. All-map access_form.Lengths (access_at s) (range_with_len 1 (1 + s % 4)) (λ i d under. (refl, refl)))

pub facilities_whole : (S : ℕ) → All facility_form.Lengths (population S).facilities
facilities_whole S = all_flat facility_form.Lengths facilities_of (range_with_len 1 S) (λ s. All-map facility_form.Lengths (facility_at s) (range_with_len 1 (1 + (s + 1) % 4)) (λ i d under. refl))

pub calls_whole : (S : ℕ) → All call_form.Lengths (population S).calls
calls_whole S = λ i d under. tt
