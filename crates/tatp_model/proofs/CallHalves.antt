-- Call rows that rise, searched by halves.
use Rattle.std.proofs.Common.{◌≡◌, ℕ, ◌+◌, ◌-◌, ◌*◌, ◌/◌, ◌<◌, ◌≤◌, true, List, length, get_or, map, take, drop, Result, Err, refl, ap, sym, ◌∙◌, arith, inl, inr, ◌⊎◌, ⊎_elim}
use Rattle.std.specs.Prelude.{◌==◌, ◌&&◌}
use Rattle.std.specs.Result.{result_ok}
use Rattle.std.specs.Ordering.{nat_cmp, ordering_then, ordering_index}
use Rattle.std.specs.declared.cmp.Ordering.{Ordering}
use Rattle.std.specs.declared.cmp.Ordering.TheVariants.{Less, Equal, Greater}
use Rattle.std.specs.List.{All, filter, position}
use Rattle.std.specs.List.Sorted.{IsSearchInRange, IsBinarySearchResult, IsNonDecreasingBy, IsStrictlyIncreasing}
use Rattle.std.proofs.lemmas.Bool.{cases_lt, and_parts, eqb-true}
use Rattle.std.proofs.lemmas.Bool.Decides.{nat_tests}
use Rattle.tatp_model.specs.declared.call_row.CallRow.{CallRow}
use Rattle.tatp_model.specs.Database.{call_key, IsCallRow}
use Rattle.tatp_model.specs.Transaction.{is_call, forwards}
use Rattle.tatp_model.specs.CallOrder.{call_order, IsCountBefore}
use Rattle.tatp_model.proofs.Rows.{AtMostOne, AtMostOne-from_keys, filter-part, not_true}
use Rattle.tatp_model.proofs.Rising.{pairs_from_rising, keys_differ}
use Rattle.tatp_model.proofs.Calls.{eighth, from_eighth, fourths, same_facility}
use Rattle.tatp_model.proofs.Halves.{halved, rises, keys_apart}

-- three numbers, compared with three
abbrev triple_cmp : ℕ → ℕ → ℕ → ℕ → ℕ → ℕ → Ordering
triple_cmp a b c x y z = ordering_then (ordering_then (nat_cmp a x) (nat_cmp b y)) (nat_cmp c z)

-- a key is before another: by the first number in which they differ
abbrev IsBefore : ℕ → ℕ → ℕ → ℕ → ℕ → ℕ → Type 0
IsBefore a b c x y z = (a < x) ⊎ ((a ≡ x) × ((b < y) ⊎ ((b ≡ y) × (c < z))))

equal_triple : (a b c x y z : ℕ) → ((a == x) && (b == y) && (c == z)) ≡ true → triple_cmp a b c x y z ≡ Equal
equal_triple a b c x y z same = grind (arith, nat_tests)

triple_equal : (a b c x y z : ℕ) → triple_cmp a b c x y z ≡ Equal → ((a == x) && (b == y) && (c == z)) ≡ true
triple_equal a b c x y z same = grind (arith, nat_tests)

less_triple : (a b c x y z : ℕ) → IsBefore a b c x y z → triple_cmp a b c x y z ≡ Less
less_triple a b c x y z before = grind (arith, nat_tests)

triple_rises : (a b c d e f x y z : ℕ) → IsBefore a b c d e f → ordering_index (triple_cmp a b c x y z) ≤ ordering_index (triple_cmp d e f x y z)
triple_rises a b c d e f x y z before = grind (arith, nat_tests)

before_equal : (a b c d e f x y z : ℕ) → IsBefore a b c d e f → triple_cmp d e f x y z ≡ Equal → triple_cmp a b c x y z ≡ Less
before_equal a b c d e f x y z before equal = grind (arith, nat_tests)

-- thrice a number, with one of 0 to 2, tells which comes first
thirds_apart : (m n q w : ℕ) → q < 3 → w < 3 → 3 * m + q < 3 * n + w → (m < n) ⊎ ((m ≡ n) × (q < w))
thirds_apart m n q w small small' less = ⊎_elim (λ lt. inl lt) (λ ge. inr (omega (arith, ge, less, small, small'), omega (arith, ge, less, small, small'))) (cases_lt m n)

-- a lesser key is before
before_from_keys : (r s : CallRow) → IsCallRow r → IsCallRow s → call_key r < call_key s → IsBefore r.s_id r.sf_type r.start_time s.s_id s.sf_type s.start_time
before_from_keys r s row row' less =
    let kinds = keys_apart r.s_id r.sf_type s.s_id s.sf_type row.sf_type row'.sf_type in
    ⊎_elim (λ lt. ⊎_elim (λ id. inl id) (λ kind. inr (kind.0, inl kind.1)) (kinds lt))
    (λ same.
    let names = fourths r.s_id s.s_id r.sf_type s.sf_type row.sf_type.0 row.sf_type.1 row'.sf_type.0 row'.sf_type.1 row.s_id.0 row'.s_id.0 same.0 in
    let starts = same.1 in
    inr (names.0, inr (names.1, omega (arith, from_eighth r.start_time row.start_time, from_eighth s.start_time row'.start_time, starts))))
    (thirds_apart (4 * r.s_id + r.sf_type - 1) (4 * s.s_id + s.sf_type - 1) (r.start_time / 8) (s.start_time / 8) (eighth r.start_time row.start_time) (eighth s.start_time row'.start_time) less)

-- a row that a request names has the key of its names
call_key-is_call : (s_id sf_type start_time : ℕ) (r : CallRow) → is_call s_id sf_type start_time r ≡ true → call_key r ≡ 3 * (4 * s_id + sf_type - 1) + start_time / 8
call_key-is_call s_id sf_type start_time r named =
    let starts = and_parts ((r.s_id == s_id) && (r.sf_type == sf_type)) (r.start_time == start_time) named in
    let names = and_parts (r.s_id == s_id) (r.sf_type == sf_type) starts.0 in
    rw (eqb-true _ _ names.0, eqb-true _ _ names.1, eqb-true _ _ starts.1) refl

module _ (s_id sf_type start_time : ℕ) (rows : List CallRow) (in_range : All IsCallRow rows) (rise : IsStrictlyIncreasing (map call_key rows)) where
  -- of two rows the first is before the second
  row_before : (i j : ℕ) (d : CallRow) → i < j → j < length rows → (let r = get_or rows i d in let s = get_or rows j d in IsBefore r.s_id r.sf_type r.start_time s.s_id s.sf_type s.start_time)
  row_before i j d before within =
      before_from_keys (get_or rows i d) (get_or rows j d) (in_range i d (omega (arith, before, within))) (in_range j d within) (pairs_from_rising call_key rows rise i j d before within)

  call_rises : IsNonDecreasingBy (λ r. ordering_index (call_order s_id sf_type start_time r)) rows
  call_rises = rises (λ r. ordering_index (call_order s_id sf_type start_time r)) rows (λ i j d before within.
      let r : CallRow = get_or rows i d in let s : CallRow = get_or rows j d in
      triple_rises r.s_id r.sf_type r.start_time s.s_id s.sf_type s.start_time s_id sf_type start_time (row_before i j d before within))

  pub one_call : AtMostOne (is_call s_id sf_type start_time) rows
  one_call = AtMostOne-from_keys (is_call s_id sf_type start_time) call_key (3 * (4 * s_id + sf_type - 1) + start_time / 8) rows (call_key-is_call s_id sf_type start_time) (keys_differ call_key rows rise)

  pub call_halved : (r : Result ℕ ℕ) → IsSearchInRange r (length rows) → IsBinarySearchResult (call_order s_id sf_type start_time) rows r → result_ok r ≡ position (is_call s_id sf_type start_time) rows
  call_halved = halved (call_order s_id sf_type start_time) (is_call s_id sf_type start_time) rows
      (λ r e. equal_triple r.s_id r.sf_type r.start_time s_id sf_type start_time e) (λ r e. triple_equal r.s_id r.sf_type r.start_time s_id sf_type start_time e) one_call call_rises

  -- where the row is there, those before it are before its key
  pub count_found : (i : ℕ) → i < length rows → ((d : CallRow) → call_order s_id sf_type start_time (get_or rows i d) ≡ Equal) → IsCountBefore s_id sf_type start_time rows i
  count_found i within equal = record {
    within = omega (arith, within);
    before = λ k d lt.
        let r : CallRow = get_or rows k d in let s : CallRow = get_or rows i d in
        before_equal r.s_id r.sf_type r.start_time s.s_id s.sf_type s.start_time s_id sf_type start_time (row_before k i d lt within) (equal d);
    from = λ k d ge inside less. let upto = call_rises i k d ge inside in omega (arith, upto, ap ordering_index (equal d), ap ordering_index less);
  }

  -- where it isn't, the rows are parted at its place
  pub count_parted : (i : ℕ) → i ≤ length rows → IsBinarySearchResult (call_order s_id sf_type start_time) rows (Err i) → IsCountBefore s_id sf_type start_time rows i
  count_parted i within parted = record {
    within = within;
    before = λ k d lt. (parted call_rises).0 k d (omega (arith, lt, within)) lt;
    from = λ k d ge inside less. let e : Less ≡ Greater = sym less ∙ (parted call_rises).1 k d ge inside in cc;
  }

-- ---- the rows of a facility: from its first key up to the end of a day

any_row : CallRow
any_row = record { s_id = 0; sf_type = 0; start_time = 0; end_time = 0; numberx = 0 }

before_later : (a b c x y : ℕ) → triple_cmp a b c x y 0 ≡ Less → triple_cmp a b c x y 24 ≡ Less
before_later a b c x y less = grind (arith, nat_tests)

at_facility : (a b c x y : ℕ) → a ≡ x → b ≡ y → triple_cmp a b c x y 0 ≡ Less → ⊥
at_facility a b c x y same same' less = grind (arith, nat_tests)

module _ (s_id sf_type : ℕ) (rows : List CallRow) (first behind : ℕ) (low : IsCountBefore s_id sf_type 0 rows first) (high : IsCountBefore s_id sf_type 24 rows behind) where
  pub counts_rise : first ≤ behind
  counts_rise =
      ⊎_elim (λ lt.
      let r : CallRow = get_or rows behind any_row in
      let within = low.within in
      absurd (high.from behind any_row (omega arith) (omega (arith, lt, within)) (before_later r.s_id r.sf_type r.start_time s_id sf_type (low.before behind any_row lt))))
      (λ le. le) (cases_lt behind first)

  -- those that forward its calls stand between
  pub forwards_between : (start_time end_time : ℕ) → All IsCallRow rows → filter (forwards s_id sf_type start_time end_time) (take (behind - first) (drop first rows)) ≡ filter (forwards s_id sf_type start_time end_time) rows
  forwards_between start_time end_time in_range =
      let fits = forwards s_id sf_type start_time end_time in
      let rise = counts_rise in
      filter-part fits rows first (behind - first)
      (λ k d lt within. not_true (fits (get_or rows k d)) (λ passes.
      let r : CallRow = get_or rows k d in let names = same_facility s_id sf_type start_time end_time r passes in
      at_facility r.s_id r.sf_type r.start_time s_id sf_type names.0 names.1 (low.before k d lt)))
      (λ k d ge within. not_true (fits (get_or rows k d)) (λ passes.
      let r : CallRow = get_or rows k d in let names = same_facility s_id sf_type start_time end_time r passes in
      let starts = (in_range k d within).start_time in
      high.from k d (omega (arith, ge, rise)) within (less_triple r.s_id r.sf_type r.start_time s_id sf_type 24 (inr (names.0, inr (names.1, omega (arith, eighth r.start_time starts)))))))
