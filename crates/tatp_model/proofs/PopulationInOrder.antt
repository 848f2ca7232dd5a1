-- The rows of a new database are in order.
use Rattle.std.proofs.Common.{◌≡◌, ◌≢◌, ℕ, zero, suc, ◌+◌, ◌-◌, ◌*◌, ◌%◌, ◌^◌, ◌<◌, ◌≤◌, eqb, List, [], ◌∷◌, ◌++◌, map, refl, arith, inl, inr, ⊎_elim, subst}
use Rattle.std.specs.List.{All, AllPairs, Any, flat_map, range_with_len}
use Rattle.std.proofs.lemmas.Bool.{cases_Bool, cases_lt}
use Rattle.std.proofs.lemmas.List.Elements.{All-nil, All-append}
use Rattle.std.proofs.lemmas.List.FromFn.{get_or-map-range_with_len, length-map-range_with_len}
use Rattle.tatp_model.specs.declared.call_row.CallRow.{CallRow}
use Rattle.tatp_model.specs.Ranges.{IsBit, IsByte, IsLetter, IsStartTime}
use Rattle.tatp_model.specs.Database.{IsInOrder, IsSubRow, IsAccessRow, IsFacRow, IsCallRow, access_key, facility_key, call_key}
use Rattle.tatp_model.specs.Population.{letters, subscriber_at, access_at, facility_at, call_at, access_of, facilities_of, calls_of, population}
use Rattle.tatp_model.proofs.InOrder.{AllPairs-append, rising_from_pairs}

-- what holds of f at each number of a range
All-range : {R : Type 0} (P : R → Type 0) (f : ℕ → R) (a n : ℕ) → ((k : ℕ) → a ≤ k → k < a + n → P (f k)) → All P (map f (range_with_len a n))
All-range P f a n holds k d within =
    let inside : k < n = omega (arith, within, length-map-range_with_len f a n) in
    rw (get_or-map-range_with_len f a n k (a + k) d inside refl) (holds (a + k) (omega arith) (omega arith))

-- what relates f at each number of a range to f at each later one
AllPairs-range : {R : Type 0} (P : R → R → Type 0) (f : ℕ → R) (a n : ℕ) → ((i j : ℕ) → a ≤ i → i < j → P (f i) (f j)) → AllPairs P (map f (range_with_len a n))
AllPairs-range P f a n holds i j d before within =
    let inside : j < n = omega (arith, within, length-map-range_with_len f a n) in
    let inside' : i < n = omega arith in
    rw (get_or-map-range_with_len f a n i (a + i) d inside' refl, get_or-map-range_with_len f a n j (a + j) d inside refl) (holds (a + i) (a + j) (omega arith) (omega arith))

-- what holds of all rows of each number of a range
All-flat_map : {R : Type 0} (P : R → Type 0) (rows_of : ℕ → List R) (a n : ℕ) → ((s : ℕ) → a ≤ s → s < a + n → All P (rows_of s)) → All P (flat_map rows_of (range_with_len a n))
All-flat_map P rows_of a zero holds = All-nil P
All-flat_map P rows_of a (suc n) holds =
    All-append P (rows_of a) (flat_map rows_of (range_with_len (a + 1) n)) (holds a (omega arith) (omega arith)) (All-flat_map P rows_of (a + 1) n (λ s low high. holds s (omega arith) (omega arith)))

-- rows rise where those of each number do, and lie from its lowest key up to the next number's
rising_flat_map : {R : Type 0} (key : R → ℕ) (rows_of : ℕ → List R) (low : ℕ → ℕ) (a n : ℕ) → ((s : ℕ) → low s ≤ low (s + 1)) → ((s : ℕ) → a ≤ s → s < a + n → AllPairs (λ r t. key r < key t) (rows_of s)) → ((s : ℕ) → a ≤ s → s < a + n → All (λ r. (low s ≤ key r) × (key r < low (s + 1))) (rows_of s)) → AllPairs (λ r t. key r < key t) (flat_map rows_of (range_with_len a n)) × All (λ r. low a ≤ key r) (flat_map rows_of (range_with_len a n))
rising_flat_map key rows_of low a zero up pairs within = ((λ i j d h l. absurd (omega arith)), All-nil (λ r. low a ≤ key r))
rising_flat_map {R} key rows_of low a (suc n) up pairs within =
    let rest = rising_flat_map key rows_of low (a + 1) n up (λ s l h. pairs s (omega arith) (omega arith)) (λ s l h. within s (omega arith) (omega arith)) in
    let later = flat_map rows_of (range_with_len (a + 1) n) in
    let here = within a (omega arith) (omega arith) in (
      AllPairs-append (λ r t. key r < key t) (rows_of a) later (pairs a (omega arith) (omega arith)) rest.0 (λ k d h j e l. omega (arith, (here k d h).1, rest.1 j e l)),
      All-append (λ r. low a ≤ key r) (rows_of a) later (λ k d h. (here k d h).0) (λ k d h. omega (arith, up a, rest.1 k d h)),
    )

-- a row of one number is among the rows of all
Any-left : {R : Type 0} (P : R → Type 0) (xs ys : List R) → Any P xs → Any P (xs ++ ys)
Any-left P [] ys there = absurd (omega (arith, there.2))
Any-left P (x ∷ xs) ys (zero, r, within, is, holds) = (zero, r, omega arith, is, holds)
Any-left P (x ∷ xs) ys (suc k, r, within, is, holds) =
    let rest = Any-left P xs ys (k, r, omega arith, is, holds) in (suc rest.0, rest.1, omega (arith, rest.2), rest.3, rest.4)

Any-right : {R : Type 0} (P : R → Type 0) (xs ys : List R) → Any P ys → Any P (xs ++ ys)
Any-right P [] ys there = there
Any-right P (x ∷ xs) ys there = let rest = Any-right P xs ys there in (suc rest.0, rest.1, omega (arith, rest.2), rest.3, rest.4)

Any-flat_map : {R : Type 0} (P : R → Type 0) (rows_of : ℕ → List R) (a n s : ℕ) → a ≤ s → s < a + n → Any P (rows_of s) → Any P (flat_map rows_of (range_with_len a n))
Any-flat_map P rows_of a zero s low high there = absurd (omega arith)
Any-flat_map P rows_of a (suc n) s low high there =
    ⊎_elim (λ later. Any-right P (rows_of a) (flat_map rows_of (range_with_len (a + 1) n)) (Any-flat_map P rows_of (a + 1) n s (omega arith) (omega arith) there))
    (λ at. let same : s ≡ a = omega arith in Any-left P (rows_of a) (flat_map rows_of (range_with_len (a + 1) n)) (subst (λ (t : ℕ). Any P (rows_of t)) same there)) (cases_lt a s)

Any-range : {R : Type 0} (P : R → Type 0) (f : ℕ → R) (a n s : ℕ) → a ≤ s → s < a + n → P (f s) → Any P (map f (range_with_len a n))
Any-range P f a n s low high holds =
    (s - a, f s, omega (arith, length-map-range_with_len f a n), get_or-map-range_with_len f a n (s - a) s (f s) (omega arith) (omega arith), holds)

-- a remainder by 256 is a byte, and one by 8 is at most 7
byte : (n : ℕ) → n % 256 < 256
byte n = omega arith

eighth : (n : ℕ) → n % 8 < 8
eighth n = omega arith

-- letters are letters
letters_in_range : (x k : ℕ) → All IsLetter (letters x k)
letters_in_range x k = All-range IsLetter (λ j. 65 + (x + j) % 26) 0 k (λ j _ _. (omega arith, omega arith))

pub subscriber_in_range : (s : ℕ) → 1 ≤ s → s < 2 ^ 31 → IsSubRow (subscriber_at s)
subscriber_in_range s low high = record {
  s_id = (low, omega arith);
  sub_nbr = omega arith;
  bits = All-range IsBit (λ i. (s + i) % 2) 1 10 (λ i _ _. omega arith);
  hexes = All-range (λ h. h < 16) (λ i. (s + i) % 16) 1 10 (λ i _ _. omega arith);
  bytes = All-range IsByte (λ i. (7 * s + i) % 256) 1 10 (λ i _ _. omega arith);
  msc = omega arith;
  vlr = omega arith;
}

pub access_in_range : (s a : ℕ) → 1 ≤ s → s < 2 ^ 31 → 1 ≤ a → a ≤ 4 → IsAccessRow (access_at s a)
access_in_range s a low high low' high' = record {
  s_id = (low, omega arith);
  ai_type = (low', high');
  data1 = omega arith;
  data2 = byte (s * a);
  data3 = letters_in_range (s + a) 3;
  data4 = letters_in_range (s + 2 * a) 5;
}

pub facility_in_range : (s f : ℕ) → 1 ≤ s → s < 2 ^ 31 → 1 ≤ f → f ≤ 4 → IsFacRow (facility_at s f)
facility_in_range s f low high low' high' = record {
  s_id = (low, omega arith);
  sf_type = (low', high');
  is_active = ⊎_elim (λ e. rw e (omega arith)) (λ e. rw e (omega arith)) (cases_Bool (eqb ((s + f) % 7) 0));
  error_cntrl = omega arith;
  data_a = omega arith;
  data_b = letters_in_range (s + 3 * f) 5;
}

-- the first three call rows of a facility start at 0, 8 and 16
start_in_range : (k : ℕ) → k < 3 → IsStartTime (8 * k)
start_in_range k small = ⊎_elim (λ z. inl (omega arith)) (λ later. ⊎_elim (λ z. inr (inl (omega arith))) (λ z. inr (inr (omega arith))) (cases_lt k 2)) (cases_lt k 1)

pub call_in_range : (s f k : ℕ) → 1 ≤ s → s < 2 ^ 31 → 1 ≤ f → f ≤ 4 → k < 3 → IsCallRow (call_at s f k)
call_in_range s f k low high low' high' small = record {
  s_id = (low, omega arith);
  sf_type = (low', high');
  start_time = start_in_range k small;
  end_time = let odd = eighth (s * f + k) in (omega arith, omega (arith, odd));
  numberx = omega arith;
}

-- the key of a call row is its facility's first, with its index among the three
call_key-call_at : (s f k : ℕ) → call_key (call_at s f k) ≡ 3 * (4 * s + f - 1) + k
call_key-call_at s f k = omega arith

access_rise : (s : ℕ) → AllPairs (λ r t. access_key r < access_key t) (access_of s)
access_rise s = AllPairs-range (λ r t. access_key r < access_key t) (access_at s) 1 (1 + s % 4) (λ i j low less. omega arith)

facilities_rise : (s : ℕ) → AllPairs (λ r t. facility_key r < facility_key t) (facilities_of s)
facilities_rise s = AllPairs-range (λ r t. facility_key r < facility_key t) (facility_at s) 1 (1 + (s + 1) % 4) (λ i j low less. omega arith)

-- the call rows of one facility, and of one subscriber
abbrev calls_of_facility : ℕ → ℕ → List CallRow
calls_of_facility s f = map (call_at s f) (range_with_len 0 ((s + f) % 4))

calls_rise : (s : ℕ) → AllPairs (λ r t. call_key r < call_key t) (calls_of s)
calls_rise s =
    (rising_flat_map call_key (calls_of_facility s) (λ f. 3 * (4 * s + f - 1)) 1 (1 + (s + 1) % 4) (λ f. omega arith)
    (λ f low high. AllPairs-range (λ r t. call_key r < call_key t) (call_at s f) 0 ((s + f) % 4) (λ i j _ less. omega (arith, call_key-call_at s f i, call_key-call_at s f j)))
    (λ f low high. All-range (λ r. (3 * (4 * s + f - 1) ≤ call_key r) × (call_key r < 3 * (4 * s + (f + 1) - 1))) (call_at s f) 0 ((s + f) % 4) (λ k _ few. (omega (arith, call_key-call_at s f k), omega (arith, call_key-call_at s f k, few))))).0

-- what holds of each call row of a subscriber
All-calls : (P : CallRow → Type 0) (s : ℕ) → ((f k : ℕ) → 1 ≤ f → f ≤ 1 + (s + 1) % 4 → k < 3 → P (call_at s f k)) → All P (calls_of s)
All-calls P s holds = All-flat_map P (calls_of_facility s) 1 (1 + (s + 1) % 4) (λ f low high. All-range P (call_at s f) 0 ((s + f) % 4) (λ k _ few. holds f k low (omega arith) (omega (arith, few))))

pub IsInOrder-population : (S : ℕ) → S < 2 ^ 31 → IsInOrder (population S)
IsInOrder-population S small = record {
  subscribers_rise = rising_from_pairs (λ r. r.s_id) (population S).subscribers (AllPairs-range (λ r t. r.s_id < t.s_id) subscriber_at 1 S (λ i j _ less. less));
  access_rise =
      rising_from_pairs access_key (population S).access (rising_flat_map access_key access_of (λ s. 4 * s) 1 S (λ s. omega arith) (λ s _ _. access_rise s)
      (λ s _ _. All-range (λ r. (4 * s ≤ access_key r) × (access_key r < 4 * (s + 1))) (access_at s) 1 (1 + s % 4) (λ a low high. (omega arith, omega arith)))).0;
  facilities_rise =
      rising_from_pairs facility_key (population S).facilities (rising_flat_map facility_key facilities_of (λ s. 4 * s) 1 S (λ s. omega arith) (λ s _ _. facilities_rise s)
      (λ s _ _. All-range (λ r. (4 * s ≤ facility_key r) × (facility_key r < 4 * (s + 1))) (facility_at s) 1 (1 + (s + 1) % 4) (λ f low high. (omega arith, omega arith)))).0;
  calls_rise =
      rising_from_pairs call_key (population S).calls (rising_flat_map call_key calls_of (λ s. 12 * s) 1 S (λ s. omega arith) (λ s _ _. calls_rise s)
      (λ s _ _. All-calls (λ r. (12 * s ≤ call_key r) × (call_key r < 12 * (s + 1))) s (λ f k low high few. (omega (arith, call_key-call_at s f k), omega (arith, call_key-call_at s f k))))).0;
  subscribers_in_range = All-range IsSubRow subscriber_at 1 S (λ s low high. subscriber_in_range s low (omega arith));
  access_in_range = All-flat_map IsAccessRow access_of 1 S (λ s low high. All-range IsAccessRow (access_at s) 1 (1 + s % 4) (λ a low' high'. access_in_range s a low (omega arith) low' (omega arith)));
  facilities_in_range = All-flat_map IsFacRow facilities_of 1 S (λ s low high. All-range IsFacRow (facility_at s) 1 (1 + (s + 1) % 4) (λ f low' high'. facility_in_range s f low (omega arith) low' (omega arith)));
  calls_in_range = All-flat_map IsCallRow calls_of 1 S (λ s low high. All-calls IsCallRow s (λ f k low' high' few. call_in_range s f k low (omega arith) low' (omega arith) few));
  phones_differ = AllPairs-range (λ r t. r.sub_nbr ≢ t.sub_nbr) subscriber_at 1 S (λ i j _ less same. absurd (omega (arith, less, same)));
  access_belongs = All-flat_map (λ a. Any (λ r. r.s_id ≡ a.s_id) (population S).subscribers) access_of 1 S (λ s low high. All-range (λ a. Any (λ r. r.s_id ≡ a.s_id) (population S).subscribers) (access_at s) 1 (1 + s % 4) (λ a _ _. Any-range (λ r. r.s_id ≡ s) subscriber_at 1 S s low high refl));
  facilities_belong = All-flat_map (λ f. Any (λ r. r.s_id ≡ f.s_id) (population S).subscribers) facilities_of 1 S (λ s low high. All-range (λ f. Any (λ r. r.s_id ≡ f.s_id) (population S).subscribers) (facility_at s) 1 (1 + (s + 1) % 4) (λ f _ _. Any-range (λ r. r.s_id ≡ s) subscriber_at 1 S s low high refl));
  calls_belong =
      All-flat_map (λ c. Any (λ f. (f.s_id ≡ c.s_id) × (f.sf_type ≡ c.sf_type)) (population S).facilities) calls_of 1 S (λ s low high.
      All-calls (λ c. Any (λ f. (f.s_id ≡ c.s_id) × (f.sf_type ≡ c.sf_type)) (population S).facilities) s (λ f k low' high' few.
      Any-flat_map (λ r. (r.s_id ≡ s) × (r.sf_type ≡ f)) facilities_of 1 S s low high (Any-range (λ r. (r.s_id ≡ s) × (r.sf_type ≡ f)) (facility_at s) 1 (1 + (s + 1) % 4) f low' (omega arith) (refl, refl))));
}
