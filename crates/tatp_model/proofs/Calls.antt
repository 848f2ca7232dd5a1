-- Call rows by their keys.
use Rattle.std.proofs.Common.{◌≡◌, ◌≢◌, ℕ, ◌+◌, ◌-◌, ◌*◌, ◌/◌, ◌<◌, ◌≤◌, true, false, List, ◌∷◌, ◌++◌, length, get_or, take, drop, map, refl, arith, ⊎_elim, subst, ap₂, length-append, take-append-drop}
use Rattle.std.specs.Prelude.{◌==◌, ◌&&◌, nat_le, nat_lt}
use Rattle.std.specs.List.{All, filter, list_any}
use Rattle.std.specs.List.Sorted.{IsStrictlyIncreasing}
use Rattle.std.proofs.lemmas.Bool.{cases_lt, eqb-true, eq-eqb, and_parts, and_from, lt-ltb, le-ltb, both_ways}
use Rattle.std.proofs.lemmas.List.Folds.{list_any_at}
use Rattle.std.proofs.lemmas.List.Kept.{AllPairs-filter}
use Rattle.std.proofs.lemmas.List.Elements.{All-filter, filter_passes, filter-append, filter_more}
use Rattle.tatp_model.specs.declared.call_row.CallRow.{CallRow}
use Rattle.tatp_model.specs.Ranges.{IsStartTime}
use Rattle.tatp_model.specs.Database.{call_key, IsCallRow}
use Rattle.tatp_model.specs.Transaction.{forwards, is_call, with_call}
use Rattle.tatp_model.proofs.Rows.{filter-split}
use Rattle.tatp_model.proofs.Rising.{pairs_from_rising, length-le_from_keys}

-- the least key of a facility's call rows
abbrev pub first_key : ℕ → ℕ → ℕ
first_key s_id sf_type = 3 * (4 * s_id + sf_type - 1)

-- a start time is 0, 8 or 16, so its eighth is below 3
pub eighth : (n : ℕ) → IsStartTime n → n / 8 < 3
eighth n is = ⊎_elim (λ e. rw e (omega arith)) (λ later. ⊎_elim (λ e. rw e (omega arith)) (λ e. rw e (omega arith)) later) is

-- a row that forwards a facility's calls belongs to it
pub same_facility : (s_id sf_type start_time end_time : ℕ) (r : CallRow) → forwards s_id sf_type start_time end_time r ≡ true → (r.s_id ≡ s_id) × (r.sf_type ≡ sf_type)
same_facility s_id sf_type start_time end_time r fits =
    let ends = and_parts ((r.s_id == s_id) && (r.sf_type == sf_type) && nat_le r.start_time start_time) (nat_lt end_time r.end_time) fits in
    let starts = and_parts ((r.s_id == s_id) && (r.sf_type == sf_type)) (nat_le r.start_time start_time) ends.0 in
    let names = and_parts (r.s_id == s_id) (r.sf_type == sf_type) starts.0 in
    (eqb-true _ _ names.0, eqb-true _ _ names.1)

-- its key is one of three
key_within : (s_id sf_type start_time end_time : ℕ) (r : CallRow) → forwards s_id sf_type start_time end_time r ≡ true → IsCallRow r → (first_key s_id sf_type ≤ call_key r) × (call_key r < first_key s_id sf_type + 3)
key_within s_id sf_type start_time end_time r fits row =
    let names = same_facility s_id sf_type start_time end_time r fits in
    let small : r.start_time / 8 < 3 = eighth r.start_time row.start_time in
    rw (names.0, names.1) (omega arith, omega arith)

-- at most three rows forward a facility's calls
pub length-forwards : (s_id sf_type start_time end_time : ℕ) (rows : List CallRow) → All IsCallRow rows → IsStrictlyIncreasing (map call_key rows) → length (filter (forwards s_id sf_type start_time end_time) rows) ≤ 3
length-forwards s_id sf_type start_time end_time rows in_range rise =
    let fits = forwards s_id sf_type start_time end_time in
    let within = λ (k : ℕ) (d : CallRow) (h : k < length (filter fits rows)). key_within s_id sf_type start_time end_time (get_or (filter fits rows) k d) (filter_passes fits rows k d h) (All-filter fits IsCallRow rows in_range k d h) in
    length-le_from_keys call_key (filter fits rows) (first_key s_id sf_type) 3 (AllPairs-filter (λ r s. call_key r < call_key s) fits rows (pairs_from_rising call_key rows rise)) (λ k d h. (within k d h).0) (λ k d h. (within k d h).1)

-- before a row that forwards them, at most two do
pub room_for_one : (s_id sf_type start_time end_time : ℕ) (rows : List CallRow) (i : ℕ) (d : CallRow) → All IsCallRow rows → IsStrictlyIncreasing (map call_key rows) → i < length rows → forwards s_id sf_type start_time end_time (get_or rows i d) ≡ true → length (filter (forwards s_id sf_type start_time end_time) (take i rows)) < 3
room_for_one s_id sf_type start_time end_time rows i d in_range rise within here =
    let fits = forwards s_id sf_type start_time end_time in
    let all : length (filter fits (take (i + 1) rows ++ drop (i + 1) rows)) ≤ 3 = rw (take-append-drop (i + 1) rows) (length-forwards s_id sf_type start_time end_time rows in_range rise) in
    let parts = rw (filter-append fits (take (i + 1) rows) (drop (i + 1) rows), filter_more fits rows i d within, here) at all in
    omega (arith, length-append {A = CallRow}, parts)

-- what is below is at most
here_or_above : (a b : ℕ) → a < b → a ≤ b
here_or_above a b h = omega arith

-- thrice a number, with one of 0 to 2, tells both
thirds : (m n q w : ℕ) → q < 3 → w < 3 → 3 * m + q ≡ 3 * n + w → (m ≡ n) × (q ≡ w)
thirds m n q w small small' same = (omega arith, omega arith)

-- four times a number, with one of 1 to 4, tells both
pub fourths : (a b f g : ℕ) → 1 ≤ f → f ≤ 4 → 1 ≤ g → g ≤ 4 → 1 ≤ a → 1 ≤ b → 4 * a + f - 1 ≡ 4 * b + g - 1 → (a ≡ b) × (f ≡ g)
fourths a b f g low high low' high' first first' same = (omega arith, omega arith)

-- a start time is eight times its eighth
pub from_eighth : (n : ℕ) → IsStartTime n → n ≡ 8 * (n / 8)
from_eighth n is = ⊎_elim (λ e. rw e refl) (λ later. ⊎_elim (λ e. rw e refl) (λ e. rw e refl) later) is

-- two call rows in range with one key are named by one request
pub key_names : (r s : CallRow) → IsCallRow r → IsCallRow s → call_key r ≡ call_key s → is_call s.s_id s.sf_type s.start_time r ≡ true
key_names r s row row' same =
    let parts = thirds (4 * r.s_id + r.sf_type - 1) (4 * s.s_id + s.sf_type - 1) (r.start_time / 8) (s.start_time / 8) (eighth r.start_time row.start_time) (eighth s.start_time row'.start_time) same in
    let names = fourths r.s_id s.s_id r.sf_type s.sf_type row.sf_type.0 row.sf_type.1 row'.sf_type.0 row'.sf_type.1 row.s_id.0 row'.s_id.0 parts.0 in
    let starts : r.start_time ≡ s.start_time = omega (arith, from_eighth r.start_time row.start_time, from_eighth s.start_time row'.start_time, parts.1) in
    and_from ((r.s_id == s.s_id) && (r.sf_type == s.sf_type)) (r.start_time == s.start_time) (and_from (r.s_id == s.s_id) (r.sf_type == s.sf_type) (eq-eqb _ _ names.0) (eq-eqb _ _ names.1)) (eq-eqb _ _ starts)

-- a row whose key isn't there goes before the first greater key
pub with_call-at : (row : CallRow) (rows : List CallRow) (at : ℕ) → IsCallRow row → All IsCallRow rows → IsStrictlyIncreasing (map call_key rows) → list_any (is_call row.s_id row.sf_type row.start_time) rows ≡ false → ((k : ℕ) (d : CallRow) → k < at → call_key (get_or rows k d) < call_key row) → ((d : CallRow) → at < length rows → call_key row ≤ call_key (get_or rows at d)) → with_call row rows ≡ take at rows ++ row ∷ drop at rows
with_call-at row rows at in_range rows_in_range rise absent before here =
    let key = call_key row in
    let pairs = pairs_from_rising call_key rows rise in
    let above : (k : ℕ) (d : CallRow) → at ≤ k → k < length rows → key < call_key (get_or rows k d) =
    λ k d from within.
    let at_least : key ≤ call_key (get_or rows k d) =
    ⊎_elim (λ later. let low : key ≤ call_key (get_or rows at d) = here d (omega arith) in let up : call_key (get_or rows at d) < call_key (get_or rows k d) = pairs at k d later within in omega (arith, low, up))
    (λ same. let is : at ≡ k = omega arith in subst (λ (j : ℕ). key ≤ call_key (get_or rows j d)) is (here d (omega arith))) (cases_lt at k) in
    let other : call_key (get_or rows k d) ≢ key =
    λ same. both_ways _ absent (list_any_at (is_call row.s_id row.sf_type row.start_time) rows k d within (key_names (get_or rows k d) row (rows_in_range k d within) in_range same)) in
    omega (arith, at_least, other) in
    let below : filter (λ r. nat_lt (call_key r) key) rows ≡ take at rows =
    filter-split true (λ r. nat_lt (call_key r) key) rows at (λ k d h l. lt-ltb _ _ (before k d h)) (λ k d h l. le-ltb _ _ (here_or_above key (call_key (get_or rows k d)) (above k d h l))) in
    let over : filter (λ r. nat_lt key (call_key r)) rows ≡ drop at rows =
    filter-split false (λ r. nat_lt key (call_key r)) rows at (λ k d h l. le-ltb _ _ (here_or_above (call_key (get_or rows k d)) key (before k d h))) (λ k d h l. lt-ltb _ _ (above k d h l)) in
    ap₂ (λ (xs ys : List CallRow). xs ++ row ∷ ys) below over
