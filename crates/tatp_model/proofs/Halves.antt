-- Rows that rise, found by halves: what is found is what a look at each row finds.
use Rattle.std.proofs.Common.{◌≡◌, ℕ, ◌+◌, ◌-◌, ◌*◌, ◌<◌, ◌≤◌, Bool, true, List, [], ◌∷◌, length, get_or, map, Some, None, Result, Ok, Err, refl, ap, sym, ◌∙◌, arith, inl, inr, ◌⊎◌, ⊎_elim}
use Rattle.std.specs.Prelude.{◌==◌, ◌&&◌}
use Rattle.std.specs.Result.{result_ok}
use Rattle.std.specs.Ordering.{nat_cmp, ordering_then, ordering_index}
use Rattle.std.specs.declared.cmp.Ordering.{Ordering}
use Rattle.std.specs.declared.cmp.Ordering.TheVariants.{Less, Equal, Greater}
use Rattle.std.specs.List.{All, AllPairs, position, position_or_len}
use Rattle.std.specs.List.Sorted.{IsSearchInRange, IsBinarySearchResult, IsNonDecreasingBy, IsStrictlyIncreasing}
use Rattle.std.proofs.lemmas.Bool.{cases_lt, eqb-true, lt-ltb, le-ltb, false_from_ne_true}
use Rattle.std.proofs.lemmas.Bool.Decides.{nat_tests}
use Rattle.std.proofs.lemmas.List.Sums.{position_or_len_is}
use Rattle.tatp_model.specs.declared.sub_row.SubRow.{SubRow}
use Rattle.tatp_model.specs.declared.access_row.AccessRow.{AccessRow}
use Rattle.tatp_model.specs.declared.fac_row.FacRow.{FacRow}
use Rattle.tatp_model.specs.Database.{access_key, facility_key, IsAccessRow, IsFacRow}
use Rattle.tatp_model.specs.Transaction.{is_subscriber, is_access, is_facility}
use Rattle.tatp_model.specs.Ranges.{IsKind}
use Rattle.tatp_model.proofs.Rows.{AtMostOne, AtMostOne-from_keys}
use Rattle.tatp_model.proofs.Rising.{pairs_from_rising, keys_differ}
use Rattle.tatp_model.proofs.Facilities.{facility_key-is_facility, access_key-is_access}

none_or_some : {R : Type 0} (rows : List R) → (rows ≡ []) ⊎ R
none_or_some [] = inl refl
none_or_some (r ∷ rows) = inr r

-- a test that passes where the order is `Equal`, on rows of which one at most passes it
module _ {R : Type 0} (ord : R → Ordering) (p : R → Bool) (rows : List R) (names : (r : R) → p r ≡ true → ord r ≡ Equal) (named : (r : R) → ord r ≡ Equal → p r ≡ true) (one : AtMostOne p rows) (rise : IsNonDecreasingBy (λ y. ordering_index (ord y)) rows) where
  found : (i : ℕ) (d : R) → i < length rows → ord (get_or rows i d) ≡ Equal → position p rows ≡ Some i
  found i d within equal =
      let here : p (get_or rows i d) ≡ true = named (get_or rows i d) equal in
      let at : position_or_len p rows ≡ i = position_or_len_is p rows i d (omega (arith, within)) (λ k lt. false_from_ne_true (p (get_or rows k d)) (λ there. one.apart k i d lt within there here)) (λ h. here) in
      rw (at, lt-ltb i (length rows) within) refl

  absent : (d : R) → ((k : ℕ) → k < length rows → p (get_or rows k d) ≡ true → ⊥) → position p rows ≡ None
  absent d none =
      let at : position_or_len p rows ≡ length rows = position_or_len_is p rows (length rows) d (omega arith) (λ k lt. false_from_ne_true (p (get_or rows k d)) (none k lt)) (λ h. absurd (omega (arith, h))) in
      rw (at, le-ltb (length rows) (length rows) (omega arith)) refl

  -- a search by halves finds the first row that passes
  pub halved : (r : Result ℕ ℕ) → IsSearchInRange r (length rows) → IsBinarySearchResult ord rows r → result_ok r ≡ position p rows
  halved (Ok i) within equal =
      ⊎_elim (λ none. let e : length rows ≡ 0 = ap length none in absurd (omega (arith, within, e))) (λ d. sym (found i d within (equal d))) (none_or_some rows)
  halved (Err i) within parted =
      ⊎_elim (λ none. sym (ap (position p) none))
      (λ d. sym (absent d (λ k inside passes. ⊎_elim
      (λ lt. let e : Less ≡ Equal = sym ((parted rise).0 k d (omega arith) lt) ∙ names (get_or rows k d) passes in cc)
      (λ ge. let e : Greater ≡ Equal = sym ((parted rise).1 k d ge inside) ∙ names (get_or rows k d) passes in cc)
      (cases_lt k i)))) (none_or_some rows)

pub rises : {R : Type 0} (n : R → ℕ) (rows : List R) → AllPairs (λ r s. n r ≤ n s) rows → IsNonDecreasingBy n rows
rises n rows pairs i j d le within =
    ⊎_elim (λ lt. pairs i j d lt within) (λ ge. let same : i ≡ j = omega (arith, le, ge) in let e = ap (λ (k : ℕ). n (get_or rows k d)) same in omega (arith, e)) (cases_lt i j)

-- ---- by one number

equal_number : (a x : ℕ) → (a == x) ≡ true → nat_cmp a x ≡ Equal
equal_number a x same = grind (arith, nat_tests)

number_equal : (a x : ℕ) → nat_cmp a x ≡ Equal → (a == x) ≡ true
number_equal a x same = grind (arith, nat_tests)

number_rises : (a b x : ℕ) → a ≤ b → ordering_index (nat_cmp a x) ≤ ordering_index (nat_cmp b x)
number_rises a b x le = grind (arith, nat_tests)

pub subscriber_halved : (s_id : ℕ) (rows : List SubRow) → IsStrictlyIncreasing (map (λ r. r.s_id) rows)
    → (r : Result ℕ ℕ) → IsSearchInRange r (length rows) → IsBinarySearchResult (λ row. nat_cmp row.s_id s_id) rows r → result_ok r ≡ position (is_subscriber s_id) rows
subscriber_halved s_id rows rise =
    let pairs = pairs_from_rising (λ (r : SubRow). r.s_id) rows rise in
    halved (λ row. nat_cmp row.s_id s_id) (is_subscriber s_id) rows (λ r e. equal_number r.s_id s_id e) (λ r e. number_equal r.s_id s_id e)
    (AtMostOne-from_keys (is_subscriber s_id) (λ r. r.s_id) s_id rows (λ r e. eqb-true _ _ e) (keys_differ (λ (r : SubRow). r.s_id) rows rise))
    (rises (λ row. ordering_index (nat_cmp row.s_id s_id)) rows (λ i j d before within. let lt = pairs i j d before within in number_rises (get_or rows i d).s_id (get_or rows j d).s_id s_id (omega (arith, lt))))

-- ---- by two numbers

-- two numbers, compared with two
abbrev pub pair_cmp : ℕ → ℕ → ℕ → ℕ → Ordering
pair_cmp a b x y = ordering_then (nat_cmp a x) (nat_cmp b y)

equal_pair : (a b x y : ℕ) → ((a == x) && (b == y)) ≡ true → pair_cmp a b x y ≡ Equal
equal_pair a b x y same = grind (arith, nat_tests)

pair_equal : (a b x y : ℕ) → pair_cmp a b x y ≡ Equal → ((a == x) && (b == y)) ≡ true
pair_equal a b x y same = grind (arith, nat_tests)

pair_rises : (a b c d x y : ℕ) → (a < c) ⊎ ((a ≡ c) × (b < d)) → ordering_index (pair_cmp a b x y) ≤ ordering_index (pair_cmp c d x y)
pair_rises a b c d x y before = grind (arith, nat_tests)

-- of two keys of a number and a kind, the lesser one has the lesser number, or the same number and the lesser kind
pub keys_apart : (a b c d : ℕ) → IsKind b → IsKind d → 4 * a + b - 1 < 4 * c + d - 1 → (a < c) ⊎ ((a ≡ c) × (b < d))
keys_apart a b c d low high less = ⊎_elim (λ lt. inl lt) (λ ge. inr (omega (arith, ge, less, low, high), omega (arith, ge, less, low, high))) (cases_lt a c)

-- rows that rise by a number and a kind, found by halves
pair_halved : {R : Type 0} (number kind : R → ℕ) (x y : ℕ) (rows : List R) → All (λ r. IsKind (kind r)) rows → IsStrictlyIncreasing (map (λ r. 4 * number r + kind r - 1) rows)
    → ((r : R) → ((number r == x) && (kind r == y)) ≡ true → 4 * number r + kind r - 1 ≡ 4 * x + y - 1)
    → (r : Result ℕ ℕ) → IsSearchInRange r (length rows) → IsBinarySearchResult (λ row. pair_cmp (number row) (kind row) x y) rows r → result_ok r ≡ position (λ row. (number row == x) && (kind row == y)) rows
pair_halved {R} number kind x y rows kinds rise keyed =
    let key : R → ℕ = λ r. 4 * number r + kind r - 1 in
    let pairs = pairs_from_rising key rows rise in
    halved (λ row. pair_cmp (number row) (kind row) x y) (λ row. (number row == x) && (kind row == y)) rows (λ r e. equal_pair (number r) (kind r) x y e) (λ r e. pair_equal (number r) (kind r) x y e)
    (AtMostOne-from_keys (λ row. (number row == x) && (kind row == y)) key (4 * x + y - 1) rows keyed (keys_differ key rows rise))
    (rises (λ row. ordering_index (pair_cmp (number row) (kind row) x y)) rows (λ i j d before within.
    let r : R = get_or rows i d in let s : R = get_or rows j d in
    pair_rises (number r) (kind r) (number s) (kind s) x y (keys_apart (number r) (kind r) (number s) (kind s) (kinds i d (omega (arith, before, within))) (kinds j d within) (pairs i j d before within))))

pub facility_halved : (s_id sf_type : ℕ) (rows : List FacRow) → All IsFacRow rows → IsStrictlyIncreasing (map facility_key rows)
    → (r : Result ℕ ℕ) → IsSearchInRange r (length rows) → IsBinarySearchResult (λ row. pair_cmp row.s_id row.sf_type s_id sf_type) rows r → result_ok r ≡ position (is_facility s_id sf_type) rows
facility_halved s_id sf_type rows in_range rise = pair_halved (λ r. r.s_id) (λ r. r.sf_type) s_id sf_type rows (λ i d within. (in_range i d within).sf_type) rise (facility_key-is_facility s_id sf_type)

pub access_halved : (s_id ai_type : ℕ) (rows : List AccessRow) → All IsAccessRow rows → IsStrictlyIncreasing (map access_key rows)
    → (r : Result ℕ ℕ) → IsSearchInRange r (length rows) → IsBinarySearchResult (λ row. pair_cmp row.s_id row.ai_type s_id ai_type) rows r → result_ok r ≡ position (is_access s_id ai_type) rows
access_halved s_id ai_type rows in_range rise = pair_halved (λ r. r.s_id) (λ r. r.ai_type) s_id ai_type rows (λ i d within. (in_range i d within).ai_type) rise (access_key-is_access s_id ai_type)
