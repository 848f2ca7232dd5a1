-- Lines of several files in some order.
use Rattle.std.proofs.Common.{◌≡◌, ◌⊎◌, inl, inr, ℕ, ◌+◌, ◌-◌, ◌<◌, ◌≤◌, nat_le, Bool, true, false, List, [], ◌∷◌, ◌++◌, map, filter, take, drop, get_or, refl, sym, ◌∙◌, ap, subst, arith, zero, suc}
use Rattle.std.specs.Prelude.{All, ◌==◌, ⊤}
use Rattle.std.specs.List.{Contains, enumerate_from}
use Rattle.std.proofs.Math.Seq.{take-append_seam}
use Rattle.std.proofs.lemmas.Bool.{cases_Bool, cases_eq, eqb-true, eq-eqb}
use Rattle.std.proofs.lemmas.Bool.Decides.{nat_tests}
use Rattle.std.proofs.lemmas.List.{take-append-drop}
use Rattle.std.proofs.lemmas.List.Elements.{All-head, All-tail, All-contains, filter-append, filter_passes, Contains-append_left, Contains-get_or}
use Rattle.tatp_model.specs.declared.done.Done.{Done}
use Rattle.tatp_model.specs.declared.request.Request.{Request}
use Rattle.tatp_model.specs.OneThread.{AllAreDone, IndexedRequest, indexed_request_of, indexed_requests_from}
use Rattle.dude_stream.specs.Printing.{Taken, of_lane}
use Rattle.dude_stream.specs.Streams.{AreFirst, LawOfLines, count_in, of_file, rest_of}

-- the indices rise one by one from this one on
abbrev AreIndexed : ℕ → List Done → Type 0
AreIndexed i [] = ⊤
AreIndexed i (d ∷ ds) = (d.index ≡ i) × AreIndexed (i + 1) ds

-- those from an index on are what is left behind the others
from_index : (i p : ℕ) (ds : List Done) → AreIndexed i ds → filter (λ d. nat_le p d.index) ds ≡ drop (p - i) ds
from_index i p [] is = by (p - i)
  where
    by : (n : ℕ) → ◌≡◌ {A = List Done} [] (drop n [])
    by zero = refl
    by (suc n) = refl
from_index i p (d ∷ ds) is = step (from_index (i + 1) p ds is.1) (cases_Bool (nat_le p d.index))
  where
    step : filter (λ d. nat_le p d.index) ds ≡ drop (p - (i + 1)) ds → (nat_le p d.index ≡ true) ⊎ (nat_le p d.index ≡ false) → filter (λ d. nat_le p d.index) (d ∷ ds) ≡ drop (p - i) (d ∷ ds)
    step rest (inl kept) =
        let low : p ≤ i = grind (arith, nat_tests, kept, is.0) in
        let none : p - i ≡ 0 = omega (arith, low) in
        let none_more : p - (i + 1) ≡ 0 = omega (arith, low) in
        let same : filter (λ d. nat_le p d.index) ds ≡ ds = subst (λ (n : ℕ). filter (λ d. nat_le p d.index) ds ≡ drop n ds) none_more rest in
        rw (kept, none) (ap (λ (xs : List Done). d ∷ xs) same)
    step rest (inr gone) =
        let high : i < p = grind (arith, nat_tests, gone, is.0) in
        let more : p - i ≡ suc (p - (i + 1)) = omega (arith, high) in
        rw (gone, more) rest

-- two filters change places
filters_swap : {X : Type 0} (p q : X → Bool) (xs : List X) → filter p (filter q xs) ≡ filter q (filter p xs)
filters_swap p q [] = refl
filters_swap p q (x ∷ xs) = by (filters_swap p q xs) (cases_Bool (p x)) (cases_Bool (q x))
  where
    by : filter p (filter q xs) ≡ filter q (filter p xs) → (p x ≡ true) ⊎ (p x ≡ false) → (q x ≡ true) ⊎ (q x ≡ false) → filter p (filter q (x ∷ xs)) ≡ filter q (filter p (x ∷ xs))
    by rest (inl a) (inl b) = rw (b, a, b) (ap (λ l. x ∷ l) rest)
    by rest (inl a) (inr b) = rw (b, a, b) rest
    by rest (inr a) (inl b) = rw (b, a) rest
    by rest (inr a) (inr b) = rw (b, a) rest

-- two tests that agree on each element
filters_agree : {X : Type 0} (p q : X → Bool) (xs : List X) → All (λ x. p x ≡ q x) xs → filter p xs ≡ filter q xs
filters_agree p q [] all = refl
filters_agree p q (x ∷ xs) all =
    let same : p x ≡ q x = All-head (λ x. p x ≡ q x) x xs all in
    let rest = filters_agree p q xs (All-tail (λ x. p x ≡ q x) x xs all) in
    by same rest (cases_Bool (q x))
  where
    by : p x ≡ q x → filter p xs ≡ filter q xs → (q x ≡ true) ⊎ (q x ≡ false) → filter p (x ∷ xs) ≡ filter q (x ∷ xs)
    by same rest (inl b) = rw (same, b) (ap (λ l. x ∷ l) rest)
    by same rest (inr b) = rw (same, b) rest

in_file : (file : ℕ) (done : List Done) → All (λ d. d.file ≡ file) (of_file file done)
in_file file done k e within = eqb-true (get_or (of_file file done) k e).file file (filter_passes (λ d. d.file == file) done k e within)

-- what isn't printed yet of one file
rest_of_file : (printed : ℕ → ℕ) (done : List Done) (file : ℕ) → AreIndexed 0 (of_file file done) → of_file file (rest_of printed done) ≡ drop (printed file) (of_file file done)
rest_of_file printed done file is =
    filters_swap (λ d. d.file == file) (λ d. nat_le (printed d.file) d.index) done
    ∙ (filters_agree (λ d. nat_le (printed d.file) d.index) (λ d. nat_le (printed file) d.index) (of_file file done)
    (λ k e within. ap (λ (n : ℕ). nat_le (printed n) (get_or (of_file file done) k e).index) (in_file file done k e within))
    ∙ (from_index 0 (printed file) (of_file file done) is ∙ ap (λ (n : ℕ). drop n (of_file file done)) (omega arith)))

-- lines whose lanes are their files
of_lines : (file : ℕ) (lines : List Taken) → All (λ t. t.done.file ≡ t.lane) lines → of_file file (map (λ t. t.done) lines) ≡ of_lane file lines
of_lines file [] all = refl
of_lines file (t ∷ ts) all =
    by (All-head (λ (t : Taken). t.done.file ≡ t.lane) t ts all) (of_lines file ts (All-tail (λ (t : Taken). t.done.file ≡ t.lane) t ts all)) (cases_Bool (t.lane == file))
  where
    by : t.done.file ≡ t.lane → of_file file (map (λ t. t.done) ts) ≡ of_lane file ts → ((t.lane == file) ≡ true) ⊎ ((t.lane == file) ≡ false) → of_file file (map (λ t. t.done) (t ∷ ts)) ≡ of_lane file (t ∷ ts)
    by same rest (inl b) = let test : (t.done.file == file) ≡ true = ap (λ (n : ℕ). n == file) same ∙ b in rw (test, b) (ap (λ l. t.done ∷ l) rest)
    by same rest (inr b) = let test : (t.done.file == file) ≡ false = ap (λ (n : ℕ). n == file) same ∙ b in rw (test, b) rest

-- a line is among those of its lane
in_lane : (t : Taken) (lines : List Taken) → Contains lines t → Contains (of_lane t.lane lines) t.done
in_lane t [] (k, lt, is) = absurd (omega (arith, lt))
in_lane t (u ∷ us) (zero, lt, is) =
    let same : u ≡ t = is in
    rw (eq-eqb u.lane t.lane (ap (λ (x : Taken). x.lane) same)) (0, omega arith, ap (λ (x : Taken). x.done) same)
in_lane t (u ∷ us) (suc k, lt, is) = by (in_lane t us (k, omega (arith, lt), is)) (cases_Bool (u.lane == t.lane))
  where
    by : Contains (of_lane t.lane us) t.done → ((u.lane == t.lane) ≡ true) ⊎ ((u.lane == t.lane) ≡ false) → Contains (of_lane t.lane (u ∷ us)) t.done
    by later (inl b) = rw b (let lt = later.1 in (suc later.0, omega (arith, lt), later.2))
    by later (inr b) = rw b later

lanes_are_files : (done : List Done) (lines : List Taken) (printed : ℕ → ℕ) → ((lane : ℕ) → of_lane lane lines ≡ take (printed lane) (of_file lane done)) → All (λ t. t.done.file ≡ t.lane) lines
lanes_are_files done lines printed first k e within =
    let t = get_or lines k e in
    let here : Contains (of_lane t.lane lines) t.done = in_lane t lines (Contains-get_or lines k e within) in
    let taken : Contains (take (printed t.lane) (of_file t.lane done)) t.done = subst (λ (xs : List Done). Contains xs t.done) (first t.lane) here in
    let whole : Contains (of_file t.lane done) t.done = subst (λ (xs : List Done). Contains xs t.done) (take-append-drop (printed t.lane) (of_file t.lane done))
    (Contains-append_left (take (printed t.lane) (of_file t.lane done)) (drop (printed t.lane) (of_file t.lane done)) t.done taken) in
    All-contains (λ (d : Done). d.file ≡ t.lane) (of_file t.lane done) t.done (in_file t.lane done) whole

-- the requests of one file, in order
abbrev RequestsIndexed : ℕ → List IndexedRequest → Type 0
RequestsIndexed i [] = ⊤
RequestsIndexed i (r ∷ rs) = (r.index ≡ i) × RequestsIndexed (i + 1) rs

same_indices : (i : ℕ) (ds : List Done) → RequestsIndexed i (map indexed_request_of ds) → AreIndexed i ds
same_indices i [] is = tt
same_indices i (d ∷ ds) is = (is.0, same_indices (i + 1) ds is.1)

filter_mapped : (file : ℕ) (ds : List Done) → map indexed_request_of (of_file file ds) ≡ filter (λ r. r.file == file) (map indexed_request_of ds)
filter_mapped file [] = refl
filter_mapped file (d ∷ ds) = by (filter_mapped file ds) (cases_Bool (d.file == file))
  where
    by : map indexed_request_of (of_file file ds) ≡ filter (λ r. r.file == file) (map indexed_request_of ds) → ((d.file == file) ≡ true) ⊎ ((d.file == file) ≡ false)
        → map indexed_request_of (of_file file (d ∷ ds)) ≡ filter (λ r. r.file == file) (map indexed_request_of (d ∷ ds))
    by rest (inl b) = rw b (ap (λ l. indexed_request_of d ∷ l) rest)
    by rest (inr b) = rw b rest

-- a request of a file that is looked for, or of another
abbrev of_one : ℕ → ℕ → List Request → List IndexedRequest
of_one file i requests = map (λ r. record { file = file; index = r.0; request = r.1 }) (enumerate_from i requests)

one_kept : (file i : ℕ) (requests : List Request) (behind : List IndexedRequest) → filter (λ r. r.file == file) behind ≡ [] → RequestsIndexed i (filter (λ r. r.file == file) (of_one file i requests ++ behind))
one_kept file i [] behind none = rw none tt
one_kept file i (r ∷ rs) behind none = rw (eq-eqb file file refl) (refl, one_kept file (i + 1) rs behind none)

one_gone : (file other i : ℕ) (requests : List Request) (behind : List IndexedRequest) → (other == file) ≡ false → filter (λ r. r.file == file) (of_one other i requests ++ behind) ≡ filter (λ r. r.file == file) behind
one_gone file other i [] behind apart = refl
one_gone file other i (r ∷ rs) behind apart = rw apart (one_gone file other (i + 1) rs behind apart)

-- no request of files from a later one on
none_later : (file from : ℕ) (files : List (List Request)) → file < from → filter (λ r. r.file == file) (indexed_requests_from from files) ≡ []
none_later file from [] later = refl
none_later file from (requests ∷ files) later =
    let apart : (from == file) ≡ false = grind (arith, nat_tests, later) in
    one_gone file from 0 requests (indexed_requests_from (from + 1) files) apart ∙ none_later file (from + 1) files (omega (arith, later))

each_indexed : (file from : ℕ) (files : List (List Request)) → RequestsIndexed 0 (filter (λ r. r.file == file) (indexed_requests_from from files))
each_indexed file from [] = tt
each_indexed file from (requests ∷ files) = by (each_indexed file (from + 1) files) (cases_eq from file)
  where
    by : RequestsIndexed 0 (filter (λ r. r.file == file) (indexed_requests_from (from + 1) files)) → (from ≡ file) ⊎ (from ≡ file → ⊥) → RequestsIndexed 0 (filter (λ r. r.file == file) (indexed_requests_from from (requests ∷ files)))
    by rest (inl same) = subst (λ (n : ℕ). RequestsIndexed 0 (filter (λ r. r.file == n) (indexed_requests_from from (requests ∷ files)))) same
        (one_kept from 0 requests (indexed_requests_from (from + 1) files) (none_later from (from + 1) files (omega arith)))
    by rest (inr other) =
        let apart : (from == file) ≡ false = grind (arith, nat_tests, other) in
        subst (λ (xs : List IndexedRequest). RequestsIndexed 0 xs) (sym (one_gone file from 0 requests (indexed_requests_from (from + 1) files) apart)) rest

indexed : (files : List (List Request)) (done : List Done) (file : ℕ) → AllAreDone files done → AreIndexed 0 (of_file file done)
indexed files done file all =
    same_indices 0 (of_file file done)
    (subst (λ (xs : List IndexedRequest). RequestsIndexed 0 xs) (sym (filter_mapped file done ∙ ap (λ (xs : List IndexedRequest). filter (λ r. r.file == file) xs) all)) (each_indexed file 0 files))

-- the first so many requests, where so many are first
first_lines : (done : List Done) (lines : List Taken) → AreFirst lines done → (lane : ℕ) → of_lane lane lines ≡ take (count_in lines lane) (of_file lane done)
first_lines done lines first lane =
    let behind = first lane in
    sym (ap (take (count_in lines lane)) behind.1 ∙ take-append_seam (of_lane lane lines) behind.0)

pub lines_law : LawOfLines
lines_law files done lines all are_first file =
    let printed = count_in lines in
    let first = first_lines done lines are_first in
    let lanes = lanes_are_files done lines printed first in
    filter-append (λ (d : Done). d.file == file) (map (λ (t : Taken). t.done) lines) (rest_of printed done)
    ∙ (ap (λ (xs : List Done). xs ++ of_file file (rest_of printed done)) (of_lines file lines lanes ∙ first file)
    ∙ (ap (λ (xs : List Done). take (printed file) (of_file file done) ++ xs) (rest_of_file printed done file (indexed files done file all))
    ∙ take-append-drop (printed file) (of_file file done)))
