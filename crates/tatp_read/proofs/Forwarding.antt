-- The call rows that forward a facility's calls, key by key.
use Rattle.std.proofs.Common.{◌≡◌, ℕ, suc, ◌+◌, ◌-◌, ◌*◌, ◌/◌, ◌<◌, ◌≤◌, inl, inr, Bool, true, false, cond, List, [], ◌∷◌, ◌++◌, map, get_or, All, Contains, Option, Some, None, refl, sym, ap, ◌∙◌, arith}
use Rattle.std.specs.Prelude.{◌==◌, ◌&&◌, nat_lt, nat_le}
use Rattle.std.specs.List.{AllPairs, filter}
use Rattle.std.specs.List.Sorted.{IsStrictlyIncreasing}
use Rattle.std.specs.Option.{option_to_list}
use Rattle.std.proofs.lemmas.Bool.{cases_order, cases_eq, both_ways, eqb-true, eq-eqb, ne_eqb, and_parts, and_from, lt-ltb, le-ltb, le-leb, ltb-true, leb-true, false_from_ne_true}
use Rattle.std.proofs.lemmas.List.{map-append, append-nil}
use Rattle.std.proofs.Math.Nat.{mul-le-mul_left}
use Rattle.std.proofs.lemmas.List.Elements.{All-contains, All-head, All-tail, filter_agree}
use Rattle.tatp_model.specs.declared.call_row.CallRow.{CallRow}
use Rattle.tatp_model.specs.Database.{call_key, IsCallRow}
use Rattle.tatp_model.specs.declared.numbers.Numbers.{Numbers}
use Rattle.tatp_model.specs.Numbers.{numbers_of}
use Rattle.tatp_model.specs.Ranges.{IsId, IsKind, IsStartTime}
use Rattle.tatp_model.specs.Transaction.{forwards}
use Rattle.tatp_model.proofs.Calls.{first_key, eighth, from_eighth, fourths, same_facility}
use Rattle.tatp_model.proofs.Rising.{pairs_from_rising}
use Rattle.tatp_layout.proofs.Found.{first_among, first_or_other, other_among}
use Rattle.tatp_layout.specs.FoundRows.{FoundRow, HasNoRow}
use Rattle.tatp_layout.specs.Records.{call_form}
use Rattle.tatp_read.specs.Forwarding.{is_within, numbers_within, numbers_at}

-- ---- lists of rows

filter_nothing : {R : Type 0} (p : R → Bool) (rows : List R) → ((s : R) → Contains rows s → p s ≡ true → ⊥) → filter p rows ≡ []
filter_nothing p [] none = refl
filter_nothing p (x ∷ rows) none =
    rw (false_from_ne_true (p x) (none x (first_among x rows))) (filter_nothing p rows (λ s among. none s (other_among s x rows among)))

cond_append : {R : Type 0} (b : Bool) (x : R) (all front back : List R) → all ≡ front ++ back → cond b (x ∷ all) all ≡ cond b (x ∷ front) front ++ back
cond_append true x all front back is = ap (λ l. x ∷ l) is
cond_append false x all front back is = is

tail_pairs : {R : Type 0} (P : R → R → Type 0) (x : R) (rows : List R) → AllPairs P (x ∷ rows) → AllPairs P rows
tail_pairs P x rows pairs i j d less below = pairs (suc i) (suc j) d (omega arith) (omega arith)

head_pairs : {R : Type 0} (P : R → R → Type 0) (x : R) (rows : List R) → AllPairs P (x ∷ rows) → All (P x) rows
head_pairs P x rows pairs k d below = pairs 0 (suc k) d (omega arith) (omega arith)

module _ {R : Type 0} (key : R → ℕ) (q : R → Bool) (m : ℕ) where
  -- rows that rise by key: those with keys up to a key are those with lesser ones, and then the one with it
  split_at : (rows : List R) → AllPairs (λ r s. key r < key s) rows → filter (λ r. nat_lt (key r) (m + 1) && q r) rows ≡ filter (λ r. nat_lt (key r) m && q r) rows ++ filter (λ r. (key r == m) && q r) rows
  split_at [] pairs = refl
  split_at (x ∷ rows) pairs =
      let rest = split_at rows (tail_pairs (λ r s. key r < key s) x rows pairs) in
      let above = head_pairs (λ r s. key r < key s) x rows pairs in
      elim (cases_order (key x) m) [
        | inl same ↦
            let none : filter (λ r. nat_lt (key r) m && q r) rows ≡ [] = filter_nothing (λ r. nat_lt (key r) m && q r) rows (λ s among passed.
            let less : key s < m = ltb-true _ _ (and_parts (nat_lt (key s) m) (q s) passed).0 in
            let more : key x < key s = All-contains (λ s. key x < key s) rows s above among in
            absurd (omega (arith, less, more, same))) in
            let up : nat_lt (key x) (m + 1) ≡ true = lt-ltb _ _ (omega (arith, same)) in
            let low : nat_lt (key x) m ≡ false = le-ltb _ _ (omega (arith, same)) in
            let at : (key x == m) ≡ true = eq-eqb _ _ same in
            rw (up, low, at, none) (ap (λ l. cond (q x) (x ∷ l) l) (rw none at rest))
        | inr (inl less) ↦
            let up : nat_lt (key x) (m + 1) ≡ true = lt-ltb _ _ (omega (arith, less)) in
            let low : nat_lt (key x) m ≡ true = lt-ltb _ _ less in
            let at : (key x == m) ≡ false = ne_eqb _ _ (λ same. absurd (omega (arith, less, same))) in
            rw (up, low, at) (cond_append (q x) x _ _ _ rest)
        | inr (inr more) ↦
            let up : nat_lt (key x) (m + 1) ≡ false = le-ltb _ _ (omega (arith, more)) in
            let low : nat_lt (key x) m ≡ false = le-ltb _ _ (omega (arith, more)) in
            let at : (key x == m) ≡ false = ne_eqb _ _ (λ same. absurd (omega (arith, more, same))) in
            rw (up, low, at) rest
      ]

  -- of these only one row has the key
  one_at : (rows : List R) (r : R) → AllPairs (λ r s. key r < key s) rows → Contains rows r → key r ≡ m → filter (λ r. (key r == m) && q r) rows ≡ cond (q r) (r ∷ []) []
  one_at [] r pairs c is = absurd (omega (arith, c.1))
  one_at (x ∷ rows) r pairs c is =
      let above = head_pairs (λ r s. key r < key s) x rows pairs in
      elim (first_or_other r x rows c) [
        | inl first ↦
            let none : filter (λ r. (key r == m) && q r) rows ≡ [] = filter_nothing (λ r. (key r == m) && q r) rows (λ s among passed.
            let same : key s ≡ m = eqb-true _ _ (and_parts (key s == m) (q s) passed).0 in
            let more : key x < key s = All-contains (λ s. key x < key s) rows s above among in
            absurd (omega (arith, same, more, ap key first, is))) in
            let at : (key x == m) ≡ true = eq-eqb _ _ (ap key first ∙ is) in
            rw (at, none) (ap (λ y. cond (q y) (y ∷ []) []) first)
        | inr other ↦
            let more : key x < key r = All-contains (λ s. key x < key s) rows r above other in
            let at : (key x == m) ≡ false = ne_eqb _ _ (λ same. absurd (omega (arith, more, same, is))) in
            rw at (one_at rows r (tail_pairs (λ r s. key r < key s) x rows pairs) other is)
      ]

-- ---- the facility's call rows

-- none at first
pub numbers_none : (first end_time : ℕ) (rows : List CallRow) → numbers_within first first end_time rows ≡ []
numbers_none first end_time rows = ap (map (λ (r : CallRow). r.numberx)) (filter_nothing (is_within first first end_time) rows (λ r among passed.
    let low = and_parts (nat_lt (call_key r) first) (nat_le first (call_key r) && nat_lt end_time r.end_time) passed in
    let high = and_parts (nat_le first (call_key r)) (nat_lt end_time r.end_time) low.1 in
    absurd (omega (arith, ltb-true _ _ low.0, leb-true _ _ high.0))))

at_or_above : (first m : ℕ) (b : Bool) (k : ℕ) → first ≤ m → ((k == m) && (nat_le first k && b)) ≡ ((k == m) && b)
at_or_above first m b k low =
    elim (cases_eq k m) [
      | inl same ↦ let at : (k == m) ≡ true = eq-eqb _ _ same in let above : nat_le first k ≡ true = le-leb _ _ (omega (arith, low, same)) in rw (at, above) refl
      | inr differ ↦ let at : (k == m) ≡ false = ne_eqb _ _ differ in rw at refl
    ]

-- one key more
pub numbers_more : (first m end_time : ℕ) (rows : List CallRow) → IsStrictlyIncreasing (map call_key rows) → first ≤ m → numbers_within first (m + 1) end_time rows ≡ numbers_within first m end_time rows ++ numbers_at m end_time rows
numbers_more first m end_time rows rise low =
    let q = λ (r : CallRow). nat_le first (call_key r) && nat_lt end_time r.end_time in
    ap (map (λ (r : CallRow). r.numberx)) (split_at call_key q m rows (pairs_from_rising call_key rows rise))
    ∙ map-append (λ (r : CallRow). r.numberx) (filter (is_within first m end_time) rows) (filter (λ r. (call_key r == m) && q r) rows)
    ∙ ap (λ l. numbers_within first m end_time rows ++ map (λ (r : CallRow). r.numberx) l)
    (filter_agree (λ r. (call_key r == m) && q r) (λ r. (call_key r == m) && nat_lt end_time r.end_time) (λ r. at_or_above first m (nat_lt end_time r.end_time) (call_key r) low) rows)

cond_numbers : (b : Bool) (r : CallRow) → map (λ (r : CallRow). r.numberx) (cond b (r ∷ []) []) ≡ cond b (r.numberx ∷ []) []
cond_numbers true r = refl
cond_numbers false r = refl

-- a look-up finds them
pub numbers_absent : (key end_time : ℕ) (rows : List CallRow) → HasNoRow call_form rows key → numbers_at key end_time rows ≡ []
numbers_absent key end_time rows h = ap (map (λ (r : CallRow). r.numberx)) (filter_nothing (λ r. (call_key r == key) && nat_lt end_time r.end_time) rows (λ r among passed.
    h.none r among (eqb-true _ _ (and_parts (call_key r == key) (nat_lt end_time r.end_time) passed).0)))

pub numbers_found : {array : List ℕ} {key at : ℕ} (end_time : ℕ) (rows : List CallRow) (f : FoundRow call_form array rows key at) → IsStrictlyIncreasing (map call_key rows) → numbers_at key end_time rows ≡ cond (nat_lt end_time f.row.end_time) (f.row.numberx ∷ []) []
numbers_found {key = key} end_time rows f rise =
    ap (map (λ (r : CallRow). r.numberx)) (one_at call_key (λ r. nat_lt end_time r.end_time) key rows f.row (pairs_from_rising call_key rows rise) f.among f.key_is)
    ∙ cond_numbers (nat_lt end_time f.row.end_time) f.row

same_bool : (a b : Bool) → (a ≡ true → b ≡ true) → (b ≡ true → a ≡ true) → a ≡ b
same_bool a true to back = back refl
same_bool a false to back = false_from_ne_true a (λ yes. both_ways false refl (to yes))

filter_same : {R : Type 0} (p q : R → Bool) (rows : List R) → All (λ r. p r ≡ q r) rows → filter p rows ≡ filter q rows
filter_same p q [] same = refl
filter_same p q (x ∷ rows) same = rw (All-head (λ r. p r ≡ q r) x rows same) (ap (λ l. cond (q x) (x ∷ l) l) (filter_same p q rows (All-tail (λ r. p r ≡ q r) x rows same)))

module _ (s_id sf_type start_time end_time : ℕ) (id : IsId s_id) (kind : IsKind sf_type) (start : IsStartTime start_time) where
  within_forwards : (r : CallRow) → IsCallRow r → is_within (first_key s_id sf_type) (first_key s_id sf_type + start_time / 8 + 1) end_time r ≡ true → forwards s_id sf_type start_time end_time r ≡ true
  within_forwards r row passed =
      let first = first_key s_id sf_type in
      let bound = first + start_time / 8 + 1 in
      let low = and_parts (nat_lt (call_key r) bound) (nat_le first (call_key r) && nat_lt end_time r.end_time) passed in
      let high = and_parts (nat_le first (call_key r)) (nat_lt end_time r.end_time) low.1 in
      let below : call_key r < bound = ltb-true _ _ low.0 in
      let above : first ≤ call_key r = leb-true _ _ high.0 in
      let small : start_time / 8 < 3 = eighth start_time start in
      let row_small : r.start_time / 8 < 3 = eighth r.start_time row.start_time in
      let one : 4 * r.s_id + r.sf_type - 1 ≡ 4 * s_id + sf_type - 1 = omega (arith, below, above, small, row_small) in
      let names = fourths r.s_id s_id r.sf_type sf_type row.sf_type.0 row.sf_type.1 kind.0 kind.1 row.s_id.0 id.0 one in
      let from : r.start_time ≡ 8 * (r.start_time / 8) = from_eighth r.start_time row.start_time in
      let asked : start_time ≡ 8 * (start_time / 8) = from_eighth start_time start in
      let begins : r.start_time ≤ start_time = omega (arith, one, below, from, asked) in
      and_from ((r.s_id == s_id) && (r.sf_type == sf_type) && nat_le r.start_time start_time) (nat_lt end_time r.end_time)
      (and_from ((r.s_id == s_id) && (r.sf_type == sf_type)) (nat_le r.start_time start_time)
      (and_from (r.s_id == s_id) (r.sf_type == sf_type) (eq-eqb _ _ names.0) (eq-eqb _ _ names.1)) (le-leb _ _ begins)) high.1

  forwards_within : (r : CallRow) → IsCallRow r → forwards s_id sf_type start_time end_time r ≡ true → is_within (first_key s_id sf_type) (first_key s_id sf_type + start_time / 8 + 1) end_time r ≡ true
  forwards_within r row passed =
      let first = first_key s_id sf_type in
      let names = same_facility s_id sf_type start_time end_time r passed in
      let ends = and_parts ((r.s_id == s_id) && (r.sf_type == sf_type) && nat_le r.start_time start_time) (nat_lt end_time r.end_time) passed in
      let begins : r.start_time ≤ start_time = leb-true _ _ (and_parts ((r.s_id == s_id) && (r.sf_type == sf_type)) (nat_le r.start_time start_time) ends.0).1 in
      let from : r.start_time ≡ 8 * (r.start_time / 8) = from_eighth r.start_time row.start_time in
      let asked : start_time ≡ 8 * (start_time / 8) = from_eighth start_time start in
      let is : call_key r ≡ first + r.start_time / 8 = rw (names.0, names.1) refl in
      and_from (nat_lt (call_key r) (first + start_time / 8 + 1)) (nat_le first (call_key r) && nat_lt end_time r.end_time)
      (lt-ltb _ _ (omega (arith, is, begins, from, asked)))
      (and_from (nat_le first (call_key r)) (nat_lt end_time r.end_time) (le-leb _ _ (omega (arith, is))) ends.1)

  -- those with keys up to the one of the hour asked for are those that forward
  pub numbers_all : (rows : List CallRow) → All IsCallRow rows → numbers_within (first_key s_id sf_type) (first_key s_id sf_type + start_time / 8 + 1) end_time rows ≡ map (λ r. r.numberx) (filter (forwards s_id sf_type start_time end_time) rows)
  numbers_all rows in_range = ap (map (λ (r : CallRow). r.numberx)) (filter_same _ _ rows (λ k d below.
      same_bool _ _ (within_forwards (get_or rows k d) (in_range k d below)) (forwards_within (get_or rows k d) (in_range k d below))))

-- ---- the list that grows key by key

module _ (first key end_time : ℕ) (rows : List CallRow) {old new : Numbers} (phone : Option ℕ) (rise : IsStrictlyIncreasing (map call_key rows)) (low : first ≤ key) (held : old ≡ numbers_of (numbers_within first key end_time rows)) (told : option_to_list phone ≡ numbers_at key end_time rows) where
  grown : new ≡ numbers_of (numbers_within first key end_time rows ++ option_to_list phone) → new ≡ numbers_of (numbers_within first (key + 1) end_time rows)
  grown is = is ∙ ap numbers_of (ap (λ l. numbers_within first key end_time rows ++ l) told ∙ sym (numbers_more first key end_time rows rise low))

  pub numbers_pushed : (number : ℕ) → phone ≡ Some number → ((xs : List ℕ) → old ≡ numbers_of xs → new ≡ numbers_of (xs ++ number ∷ [])) → new ≡ numbers_of (numbers_within first (key + 1) end_time rows)
  numbers_pushed number some pushed = grown (pushed (numbers_within first key end_time rows) held ∙ ap (λ o. numbers_of (numbers_within first key end_time rows ++ option_to_list o)) (sym some))

  pub numbers_kept : phone ≡ None → new ≡ old → new ≡ numbers_of (numbers_within first (key + 1) end_time rows)
  numbers_kept none same = grown (same ∙ held ∙ ap numbers_of (sym (append-nil (numbers_within first key end_time rows)) ∙ ap (λ o. numbers_within first key end_time rows ++ option_to_list o) (sym none)))

-- how many reads so many look-ups make
pub one_look_up_more : (key first reads : ℕ) → first ≤ key → (key - first) * reads + reads ≤ (key + 1 - first) * reads
one_look_up_more key first reads low =
    let one : key + 1 - first ≡ (key - first) + 1 = omega arith in
    rw one (omega arith)

pub three_look_ups : (done reads : ℕ) → done ≤ 3 → done * reads ≤ 3 * reads
three_look_ups done reads few = omega (arith, mul-le-mul_left reads few)
