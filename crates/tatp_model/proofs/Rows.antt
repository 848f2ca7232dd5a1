-- Lists of rows, of which at most one passes a test.
use Rattle.std.proofs.Common.{◌≡◌, ℕ, zero, suc, ◌+◌, ◌<◌, ◌≤◌, Bool, true, false, cond, List, [], ◌∷◌, length, get_or, take, drop, set, refl, ap, sym, ◌∙◌, arith, Some, None, ◌≢◌, ⊎_elim, subst}
use Rattle.std.proofs.lemmas.Bool.{cases_Bool, cases_lt, lt-ltb, le-ltb, eq-eqb, ne_eqb, and_parts, and_from, both_ways}
use Rattle.std.proofs.lemmas.List.Quantifiers.{position-Some}
use Rattle.std.specs.Prelude.{slice_get, is_some, ◌&&◌}
use Rattle.std.proofs.lemmas.List.Folds.{find_at, list_any_at, list_any_none}
use Rattle.std.proofs.lemmas.List.{get_or_default}
use Rattle.std.proofs.lemmas.List.Sums.{position_or_len_is}
use Rattle.std.proofs.lemmas.Option.{slice_get_past, slice_get-get_or}
use Rattle.std.specs.List.{list_any, filter, position, position_or_len, AllPairs, All, find, remove}
use Rattle.std.proofs.Common.{not, eqb}
use Rattle.std.proofs.lemmas.List.Elements.{All-head, All-tail}
use Rattle.tatp_model.specs.Transaction.{update_where}

-- a test that doesn't pass fails
pub not_true : (b : Bool) → (b ≡ true → ⊥) → b ≡ false
not_true true h = absurd (h refl)
not_true false h = refl

-- rows of which none passes stay
pub update_where-none : {R : Type 0} (p : R → Bool) (f : R → R) (rows : List R) → ((j : ℕ) (d : R) → j < length rows → p (get_or rows j d) ≡ false) → update_where p f rows ≡ rows
update_where-none p f [] none = refl
update_where-none p f (r ∷ rows) none =
    let here : p r ≡ false = none 0 r (omega arith) in
    rw here (ap (λ rest. r ∷ rest) (update_where-none p f rows (λ j d h. none (suc j) d (omega arith))))

-- where one row alone passes, it alone is rewritten
pub update_where-at : {R : Type 0} (p : R → Bool) (f : R → R) (rows : List R) (i : ℕ) (d : R) → i < length rows → p (get_or rows i d) ≡ true → ((j : ℕ) (e : R) → j < i → p (get_or rows j e) ≡ false) → ((j : ℕ) (e : R) → i < j → j < length rows → p (get_or rows j e) ≡ false) → update_where p f rows ≡ set rows i (f (get_or rows i d))
update_where-at p f [] i d within here before after = absurd (omega arith)
update_where-at p f (r ∷ rows) zero d within here before after =
    rw here (ap (λ rest. f r ∷ rest) (update_where-none p f rows (λ j e h. after (suc j) e (omega arith) (omega arith))))
update_where-at p f (r ∷ rows) (suc i) d within here before after =
    let passed : p r ≡ false = before 0 r (omega arith) in
    rw passed (ap (λ rest. r ∷ rest) (update_where-at p f rows i d (omega arith) here (λ j e h. before (suc j) e (omega arith)) (λ j e h k. after (suc j) e (omega arith) (omega arith))))

-- no index was found, so no row passes
none_from_len : {R : Type 0} (p : R → Bool) (rows : List R) → length rows ≤ position_or_len p rows → list_any p rows ≡ false
none_from_len p [] past = refl
none_from_len p (r ∷ rows) past =
    ⊎_elim (λ e. absurd (omega (arith, rw e at past))) (λ e. rw e (none_from_len p rows (omega (arith, rw e at past)))) (cases_Bool (p r))

-- an index was found, so some row passes
any_within : {R : Type 0} (p : R → Bool) (rows : List R) → position_or_len p rows < length rows → list_any p rows ≡ true
any_within p [] within = absurd (omega arith)
any_within p (r ∷ rows) within =
    ⊎_elim (λ e. rw e refl) (λ e. rw e (any_within p rows (omega (arith, rw e at within)))) (cases_Bool (p r))

-- a row passes exactly where an index was found
pub list_any-position : {R : Type 0} (p : R → Bool) (rows : List R) → list_any p rows ≡ is_some (position p rows)
list_any-position p rows =
    ⊎_elim (λ h. let within = lt-ltb (position_or_len p rows) (length rows) h in rw within (any_within p rows h))
    (λ h. let past = le-ltb (position_or_len p rows) (length rows) h in rw past (none_from_len p rows h)) (cases_lt (position_or_len p rows) (length rows))

pub list_any-position_None : {R : Type 0} (p : R → Bool) (rows : List R) → position p rows ≡ None → list_any p rows ≡ false
list_any-position_None p rows none = list_any-position p rows ∙ ap is_some none

pub position_Some-any : {R : Type 0} (p : R → Bool) (rows : List R) (i : ℕ) → position p rows ≡ Some i → list_any p rows ≡ true
position_Some-any p rows i some = list_any-position p rows ∙ ap is_some some

-- at most one row passes: rows that pass have one key, and no two have
pub record AtMostOne {R : Type 0} (p : R → Bool) (rows : List R) : Type 0 where
  pub apart : AllPairs (λ r s. p r ≡ true → p s ≡ true → ⊥) rows

-- where one row alone passes, a write at its index rewrites it
pub update_where-position : {R : Type 0} (p : R → Bool) (f : R → R) (rows : List R) (i : ℕ) (d : R) → AtMostOne p rows → position p rows ≡ Some i → update_where p f rows ≡ set rows i (f (get_or rows i d))
update_where-position p f rows i d one e =
    let at = position-Some p rows i d e in
    update_where-at p f rows i d at.0 at.1 (λ j g h. (position-Some p rows i g e).2 j h) (λ j g h k. not_true (p (get_or rows j g)) (one.apart i j g h k (position-Some p rows i g e).1))

-- the same, where the row written is the one that stood there
pub set-position : {R : Type 0} (p : R → Bool) (f : R → R) (rows : List R) (i : ℕ) (r : R) → AtMostOne p rows → position p rows ≡ Some i → r ≡ get_or rows i r → set rows i (f r) ≡ update_where p f rows
set-position p f rows i r one e is = ap (λ x. set rows i (f x)) is ∙ sym (update_where-position p f rows i r one e)

-- a row that a test of its key names is the only one
pub AtMostOne-from_keys : {R : Type 0} (p : R → Bool) (key : R → ℕ) (k : ℕ) (rows : List R) → ((r : R) → p r ≡ true → key r ≡ k) → AllPairs (λ r s. key r ≢ key s) rows → AtMostOne p rows
AtMostOne-from_keys p key k rows names differ = record { apart = λ i j d h l pi pj. differ i j d h l (names _ pi ∙ sym (names _ pj)) }

-- a row passes exactly where the filter keeps some
list_any-filter : {R : Type 0} (p : R → Bool) (rows : List R) → list_any p rows ≡ not (eqb (length (filter p rows)) 0)
list_any-filter p [] = refl
list_any-filter p (r ∷ rows) =
    ⊎_elim (λ e. rw e (sym (ap not (ne_eqb (suc (length (filter p rows))) 0 (λ same. absurd (omega (arith, same))))))) (λ e. rw e (list_any-filter p rows)) (cases_Bool (p r))

pub list_any-from_none : {R : Type 0} (p : R → Bool) (rows : List R) → length (filter p rows) ≡ 0 → list_any p rows ≡ false
list_any-from_none p rows none = list_any-filter p rows ∙ ap not (eq-eqb (length (filter p rows)) 0 none)

pub list_any-from_some : {R : Type 0} (p : R → Bool) (rows : List R) → (length (filter p rows) ≡ 0 → ⊥) → list_any p rows ≡ true
list_any-from_some p rows some = list_any-filter p rows ∙ ap not (ne_eqb (length (filter p rows)) 0 some)

-- the row found is one of the rows
pub All-find : {R : Type 0} (P : R → Type 0) (p : R → Bool) (rows : List R) (r : R) → All P rows → find p rows ≡ Some r → P r
All-find P p [] r all e = cc
All-find P p (s ∷ rows) r all e =
    ⊎_elim (λ h. let is : s ≡ r = (let found = rw h at e in cc) in subst P is (All-head P s rows all)) (λ h. let later = rw h at e in All-find P p rows r (All-tail P s rows all) later) (cases_Bool (p s))

-- a filter keeps all rows where each passes, and none where none does
pub filter-uniform : {R : Type 0} (b : Bool) (p : R → Bool) (rows : List R) → ((k : ℕ) (d : R) → k < length rows → p (get_or rows k d) ≡ b) → filter p rows ≡ cond b rows []
filter-uniform true p [] same = refl
filter-uniform false p [] same = refl
filter-uniform true p (r ∷ rows) same =
    rw (same 0 r (omega arith)) (ap (λ rest. r ∷ rest) (filter-uniform true p rows (λ k d h. same (suc k) d (omega arith))))
filter-uniform false p (r ∷ rows) same = rw (same 0 r (omega arith)) (filter-uniform false p rows (λ k d h. same (suc k) d (omega arith)))

-- rows that answer `b` to the test before index i, and otherwise from there on
pub filter-split : {R : Type 0} (b : Bool) (p : R → Bool) (rows : List R) (i : ℕ) → ((k : ℕ) (d : R) → k < i → k < length rows → p (get_or rows k d) ≡ b) → ((k : ℕ) (d : R) → i ≤ k → k < length rows → p (get_or rows k d) ≡ not b) → filter p rows ≡ cond b (take i rows) (drop i rows)
filter-split true p rows zero before after = filter-uniform false p rows (λ k d h. after k d (omega arith) h)
filter-split false p rows zero before after = filter-uniform true p rows (λ k d h. after k d (omega arith) h)
filter-split true p [] (suc i) before after = refl
filter-split false p [] (suc i) before after = refl
filter-split true p (r ∷ rows) (suc i) before after =
    rw (before 0 r (omega arith) (omega arith)) (ap (λ rest. r ∷ rest) (filter-split true p rows i (λ k d h l. before (suc k) d (omega arith) (omega arith)) (λ k d h l. after (suc k) d (omega arith) (omega arith))))
filter-split false p (r ∷ rows) (suc i) before after =
    rw (before 0 r (omega arith) (omega arith)) (filter-split false p rows i (λ k d h l. before (suc k) d (omega arith) (omega arith)) (λ k d h l. after (suc k) d (omega arith) (omega arith)))

-- the row found is the one at the index found
pub find-position_None : {R : Type 0} (p : R → Bool) (rows : List R) → position p rows ≡ None → find p rows ≡ None
find-position_None p rows none =
    ⊎_elim (λ h. let within = lt-ltb (position_or_len p rows) (length rows) h in let found = rw within at none in cc) (λ h. find_at p rows ∙ slice_get_past rows (position_or_len p rows) h) (cases_lt (position_or_len p rows) (length rows))

pub find-position_Some : {R : Type 0} (p : R → Bool) (rows : List R) (i : ℕ) (d : R) → position p rows ≡ Some i → find p rows ≡ Some (get_or rows i d)
find-position_Some p rows i d some =
    let at = position-Some p rows i d some in
    let is : position_or_len p rows ≡ i = position_or_len_is p rows i d (omega (arith, at.0)) (λ k h. (position-Some p rows i d some).2 k h) (λ h. at.1) in
    find_at p rows ∙ ap (slice_get rows) is ∙ slice_get-get_or rows i d at.0

-- where no row passes, none passes a second test too
pub both-none : {R : Type 0} (p q : R → Bool) (rows : List R) → position p rows ≡ None → list_any (λ r. p r && q r) rows ≡ false
both-none p q rows none =
    list_any_none (λ r. p r && q r) rows (λ k d within. not_true (p (get_or rows k d) && q (get_or rows k d)) (λ both. both_ways _ (list_any-position_None p rows none) (list_any_at p rows k d within (and_parts (p (get_or rows k d)) (q (get_or rows k d)) both).0)))

-- where one row alone passes, that row decides a second test
pub both-position : {R : Type 0} (p q : R → Bool) (rows : List R) (i : ℕ) (d : R) → AtMostOne p rows → position p rows ≡ Some i → list_any (λ r. p r && q r) rows ≡ q (get_or rows i d)
both-position p q rows i d one e =
    let at = position-Some p rows i d e in
    ⊎_elim (λ passes. list_any_at (λ r. p r && q r) rows i d at.0 (and_from (p (get_or rows i d)) (q (get_or rows i d)) at.1 passes) ∙ sym passes)
    (λ fails. list_any_none (λ r. p r && q r) rows (λ k g within. not_true (p (get_or rows k g) && q (get_or rows k g)) (λ both.
    let parts = and_parts (p (get_or rows k g)) (q (get_or rows k g)) both in
    let there = position-Some p rows i g e in
    ⊎_elim (λ lt. both_ways _ (there.2 k lt) parts.0)
    (λ ge. ⊎_elim (λ lt. one.apart i k g lt within there.1 parts.0)
    (λ le. let same : k ≡ i = omega (arith, ge, le) in both_ways (q (get_or rows i d)) fails (ap q (get_or_default rows i d g at.0) ∙ ap (λ (j : ℕ). q (get_or rows j g)) (sym same) ∙ parts.1)) (cases_lt i k)) (cases_lt k i))) ∙ sym fails) (cases_Bool (q (get_or rows i d)))

-- a filter keeps all rows but the one that fails
filter_not-at : {R : Type 0} (p : R → Bool) (rows : List R) (i : ℕ) (d : R) → i < length rows → p (get_or rows i d) ≡ true → ((j : ℕ) (e : R) → j < i → p (get_or rows j e) ≡ false) → ((j : ℕ) (e : R) → i < j → j < length rows → p (get_or rows j e) ≡ false) → filter (λ r. not (p r)) rows ≡ remove rows i
filter_not-at p [] i d within here before after = absurd (omega arith)
filter_not-at p (r ∷ rows) zero d within here before after =
    rw here (filter-uniform true (λ r. not (p r)) rows (λ j e h. ap not (after (suc j) e (omega arith) (omega arith))))
filter_not-at p (r ∷ rows) (suc i) d within here before after =
    let fails : p r ≡ false = before 0 r (omega arith) in
    rw fails (ap (λ rest. r ∷ rest) (filter_not-at p rows i d (omega arith) here (λ j e h. before (suc j) e (omega arith)) (λ j e h k. after (suc j) e (omega arith) (omega arith))))

-- where one row alone passes, all but that one stay
pub filter_not-position : {R : Type 0} (p : R → Bool) (rows : List R) (i : ℕ) (d : R) → AtMostOne p rows → position p rows ≡ Some i → filter (λ r. not (p r)) rows ≡ remove rows i
filter_not-position p rows i d one e =
    let at = position-Some p rows i d e in
    filter_not-at p rows i d at.0 at.1 (λ j g h. (position-Some p rows i g e).2 j h) (λ j g h k. not_true (p (get_or rows j g)) (one.apart i j g h k (position-Some p rows i g e).1))

-- a filter that keeps rows of a part alone keeps those of the part
pub filter-part : {R : Type 0} (p : R → Bool) (rows : List R) (i n : ℕ) → ((k : ℕ) (d : R) → k < i → k < length rows → p (get_or rows k d) ≡ false) → ((k : ℕ) (d : R) → i + n ≤ k → k < length rows → p (get_or rows k d) ≡ false) → filter p (take n (drop i rows)) ≡ filter p rows
filter-part p rows zero zero before after = sym (filter-uniform false p rows (λ k d h. after k d (omega arith) h))
filter-part p [] zero (suc n) before after = refl
filter-part p (r ∷ rows) zero (suc n) before after =
    let rest = filter-part p rows zero n (λ k d h l. absurd (omega (arith, h))) (λ k d h l. after (suc k) d (omega arith) (omega arith)) in
    ⊎_elim (λ e. rw e (ap (λ xs. r ∷ xs) rest)) (λ e. rw e rest) (cases_Bool (p r))
filter-part p [] (suc i) zero before after = refl
filter-part p [] (suc i) (suc n) before after = refl
filter-part p (r ∷ rows) (suc i) n before after =
    rw (before 0 r (omega arith) (omega arith)) (filter-part p rows i n (λ k d h l. before (suc k) d (omega arith) (omega arith)) (λ k d h l. after (suc k) d (omega arith) (omega arith)))
