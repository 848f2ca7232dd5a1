-- The requests of files in order of file and index.
use Rattle.std.proofs.Common.{◌≡◌, ℕ, zero, suc, ◌+◌, ◌<◌, ◌≤◌, List, [], ◌∷◌, ◌++◌, length, map, take, drop, Some, refl, ap, ap₂, sym, ◌∙◌, arith, inl, inr, ◌⊎◌, ⊎_elim, append_assoc, add-one}
use Rattle.std.specs.List.{All, AllPairs, AllZip, enumerate_from, slice_get}
use Rattle.std.specs.Prelude.{IsPermutation}
use Rattle.std.proofs.lemmas.List.{map_push, take_all, take-append-drop}
use Rattle.std.proofs.lemmas.List.Elements.{All-nil, All-cons, All-head, All-tail, All-append, All-weaker}
use Rattle.std.proofs.lemmas.List.Kept.{AllPairs-cons}
use Rattle.std.proofs.lemmas.List.Sorted.{IsPermutation-sym, IsPermutation-trans, IsPermutation-map, Contains-permutation}
use Rattle.tatp_model.specs.declared.done.Done.{Done}
use Rattle.tatp_model.specs.declared.request.Request.{Request}
use Rattle.tatp_model.specs.OneThread.{PrecedesInFiles, IndexedRequest, indexed_request_of, indexed_requests_from, AllAreDone, IsPrefixOf}
use Rattle.tatp_model.proofs.PrintedOrder.{same_from_order}
use Rattle.run_order.specs.Runs.{first_rounds}
use Rattle.run_order.proofs.Pairs.{pairs_nil, pairs_append, pairs_mapped, pairs_unmapped}

-- a request stands before another in the order of files
abbrev StandsBefore : IndexedRequest → IndexedRequest → Type 0
StandsBefore r s = (r.file < s.file) ⊎ ((r.file ≡ s.file) × (r.index < s.index))

asymmetric : (r s : IndexedRequest) → StandsBefore r s → StandsBefore s r → ⊥
asymmetric r s before after =
    ⊎_elim (λ p. ⊎_elim (λ q. absurd (omega (arith, p, q))) (λ q. absurd (omega (arith, p, q.0))) after) (λ p. ⊎_elim (λ q. absurd (omega (arith, p.0, q))) (λ q. absurd (omega (arith, p.1, q.1))) after) before

-- a request at its index in a file
abbrev pub indexed : ℕ → ℕ × Request → IndexedRequest
indexed file r = record { file = file; index = r.0; request = r.1 }

one_file : (file n : ℕ) (requests : List Request) → All (λ r. (r.file ≡ file) × (n ≤ r.index)) (map (indexed file) (enumerate_from n requests))
one_file file n [] = All-nil (λ r. (r.file ≡ file) × (n ≤ r.index))
one_file file n (q ∷ requests) =
    All-cons (λ r. (r.file ≡ file) × (n ≤ r.index)) (indexed file (n, q)) (map (indexed file) (enumerate_from (n + 1) requests)) (refl, omega arith)
    (All-weaker (λ r. (r.file ≡ file) × (n + 1 ≤ r.index)) (λ r. (r.file ≡ file) × (n ≤ r.index)) (λ r h. (h.0, omega (arith, h.1))) (map (indexed file) (enumerate_from (n + 1) requests)) (one_file file (n + 1) requests))

one_file_sorted : (file n : ℕ) (requests : List Request) → AllPairs StandsBefore (map (indexed file) (enumerate_from n requests))
one_file_sorted file n [] = pairs_nil StandsBefore
one_file_sorted file n (q ∷ requests) =
    AllPairs-cons StandsBefore (indexed file (n, q)) (map (indexed file) (enumerate_from (n + 1) requests))
    (All-weaker (λ r. (r.file ≡ file) × (n + 1 ≤ r.index)) (StandsBefore (indexed file (n, q))) (λ r h. inr (sym h.0, omega (arith, h.1))) (map (indexed file) (enumerate_from (n + 1) requests)) (one_file file (n + 1) requests))
    (one_file_sorted file (n + 1) requests)

from_file : (file : ℕ) (files : List (List Request)) → All (λ r. file ≤ r.file) (indexed_requests_from file files)
from_file file [] = All-nil (λ r. file ≤ r.file)
from_file file (requests ∷ files) =
    All-append (λ r. file ≤ r.file) (map (indexed file) (enumerate_from 0 requests)) (indexed_requests_from (file + 1) files)
    (All-weaker (λ r. (r.file ≡ file) × (0 ≤ r.index)) (λ r. file ≤ r.file) (λ r h. omega (arith, h.0)) (map (indexed file) (enumerate_from 0 requests)) (one_file file 0 requests))
    (All-weaker (λ r. file + 1 ≤ r.file) (λ r. file ≤ r.file) (λ r h. omega (arith, h)) (indexed_requests_from (file + 1) files) (from_file (file + 1) files))

-- the requests of files stand in order
files_sorted : (file : ℕ) (files : List (List Request)) → AllPairs StandsBefore (indexed_requests_from file files)
files_sorted file [] = pairs_nil StandsBefore
files_sorted file (requests ∷ files) =
    pairs_append StandsBefore (λ r. (r.file ≡ file) × (0 ≤ r.index)) (λ r. file + 1 ≤ r.file) (λ r s p q. inl (omega (arith, p.0, q)))
    (map (indexed file) (enumerate_from 0 requests)) (indexed_requests_from (file + 1) files)
    (one_file file 0 requests) (from_file (file + 1) files) (one_file_sorted file 0 requests) (files_sorted (file + 1) files)

-- what holds the requests of files stands in order
pub in_files_from_holding : (files : List (List Request)) (done : List Done) → AllAreDone files done → AllPairs PrecedesInFiles done
in_files_from_holding files done holds =
    let sorted : AllPairs StandsBefore (map indexed_request_of done) = rw holds (files_sorted 0 files) in
    pairs_unmapped StandsBefore indexed_request_of done sorted

-- what stands in order, and has just the requests of files, holds them
pub holds_from_permutation : (files : List (List Request)) (performed done : List Done) → IsPermutation (map indexed_request_of performed) (indexed_requests_from 0 files) → IsPermutation performed done → AllPairs PrecedesInFiles done → AllAreDone files done
holds_from_permutation files performed done asked same sorted =
    let here = map indexed_request_of done in
    let there = indexed_requests_from 0 files in
    let all : IsPermutation here there = IsPermutation-trans here (map indexed_request_of performed) there (IsPermutation-sym (map indexed_request_of performed) here (IsPermutation-map indexed_request_of performed done same)) asked in
    same_from_order StandsBefore asymmetric here there (pairs_mapped StandsBefore indexed_request_of done sorted) (files_sorted 0 files)
    (λ r c. Contains-permutation here there r all c) (λ r c. Contains-permutation there here r (IsPermutation-sym here there all) c)

pub first_rounds_none : (file : ℕ) (files : List (List Request)) → indexed_requests_from file (first_rounds 0 0 files) ≡ []
first_rounds_none file [] = refl
first_rounds_none file (requests ∷ files) = first_rounds_none (file + 1) files

pub first_rounds_turn : (i : ℕ) (files : List (List Request)) → first_rounds i (length files) files ≡ first_rounds (i + 1) 0 files
first_rounds_turn i [] = refl
first_rounds_turn i (requests ∷ files) = ap (λ rest. take (i + 1) requests ∷ rest) (first_rounds_turn i files)

pub first_rounds_skip : (i k : ℕ) (files : List (List Request)) (requests : List Request) → slice_get files k ≡ Some requests → length requests ≤ i → first_rounds i (suc k) files ≡ first_rounds i k files
first_rounds_skip i k [] requests there short = refl
first_rounds_skip i zero (first ∷ files) requests there short =
    let is : first ≡ requests = cc in
    let longer : length first ≤ i + 1 = omega (arith, ap length is) in
    let enough : length first ≤ i = omega (arith, ap length is) in
    ap (λ (start : List Request). start ∷ first_rounds i zero files) (take_all (i + 1) first longer ∙ sym (take_all i first enough))
first_rounds_skip i (suc k) (first ∷ files) requests there short = ap (λ rest. take (i + 1) first ∷ rest) (first_rounds_skip i k files requests there short)

pub first_rounds_all : (i : ℕ) (files : List (List Request)) → All (λ requests. length requests ≤ i) files → first_rounds i 0 files ≡ files
first_rounds_all i [] short = refl
first_rounds_all i (requests ∷ files) short =
    ap₂ (λ (start : List Request) (rest : List (List Request)). start ∷ rest) (take_all i requests (All-head (λ (r : List Request). length r ≤ i) requests files short))
    (first_rounds_all i files (All-tail (λ (r : List Request). length r ≤ i) requests files short))

take_prefix : (n : ℕ) (requests : List Request) → IsPrefixOf (take n requests) requests
take_prefix n requests = (drop n requests, sym (take-append-drop n requests))

pub first_rounds_prefixes : (i k : ℕ) (files : List (List Request)) → AllZip IsPrefixOf (first_rounds i k files) files
first_rounds_prefixes i k [] = tt
first_rounds_prefixes i zero (requests ∷ files) = (take_prefix i requests, first_rounds_prefixes i zero files)
first_rounds_prefixes i (suc k) (requests ∷ files) = (take_prefix (i + 1) requests, first_rounds_prefixes i k files)

-- the first requests of a file with the next one
take_next : (n i : ℕ) (requests : List Request) (q : Request) → slice_get requests i ≡ Some q → enumerate_from n (take (suc i) requests) ≡ enumerate_from n (take i requests) ++ (n + i, q) ∷ []
take_next n i [] q there = cc
take_next n zero (first ∷ requests) q there =
    let is : first ≡ q = cc in
    let here : n ≡ n + 0 = omega arith in
    ap₂ (λ (m : ℕ) (r : Request). (m, r) ∷ []) here is
take_next n (suc i) (first ∷ requests) q there =
    let at : n + 1 + i ≡ n + suc i = omega arith in
    ap (λ rest. (n, first) ∷ rest) (take_next (n + 1) i requests q there ∙ ap (λ (m : ℕ). enumerate_from (n + 1) (take i requests) ++ (m, q) ∷ []) at)

-- one request more of the files, between those before it and those behind it
pub record TakesNext (i k file : ℕ) (files : List (List Request)) (q : Request) : Type 0 where
  pub before : List IndexedRequest
  pub behind : List IndexedRequest
  pub was : indexed_requests_from file (first_rounds i k files) ≡ before ++ behind
  pub is : indexed_requests_from file (first_rounds i (suc k) files) ≡ before ++ indexed (file + k) (i, q) ∷ behind

pub takes_next : (i k file : ℕ) (files : List (List Request)) (requests : List Request) (q : Request) → slice_get files k ≡ Some requests → slice_get requests i ≡ Some q → TakesNext i k file files q
takes_next i k file [] requests q there here = cc
takes_next i zero file (first ∷ files) requests q there here =
    let is : first ≡ requests = cc in
    let start = map (indexed file) (enumerate_from 0 (take i first)) in
    let rest = indexed_requests_from (file + 1) (first_rounds i zero files) in
    let at : slice_get first i ≡ Some q = rw is here in
    let same : file ≡ file + 0 = omega arith in
    let none : 0 + i ≡ i = omega arith in
    let longer : map (indexed file) (enumerate_from 0 (take (i + 1) first)) ≡ start ++ indexed file (i, q) ∷ [] =
    rw add-one (ap (map (indexed file)) (take_next 0 i first q at) ∙ map_push (indexed file) (enumerate_from 0 (take i first)) (0 + i, q) ∙ ap (λ (m : ℕ). start ++ indexed file (m, q) ∷ []) none) in
    record {
      before = start;
      behind = rest;
      was = refl;
      is = ap (λ (l : List IndexedRequest). l ++ rest) longer ∙ append_assoc start (indexed file (i, q) ∷ []) rest ∙ ap (λ (f : ℕ). start ++ indexed f (i, q) ∷ rest) same;
    }
takes_next i (suc k) file (first ∷ files) requests q there here =
    let next = takes_next i k (file + 1) files requests q there here in
    let start = map (indexed file) (enumerate_from 0 (take (i + 1) first)) in
    let same : file + 1 + k ≡ file + suc k = omega arith in
    record {
      before = start ++ next.before;
      behind = next.behind;
      was = ap (λ (l : List IndexedRequest). start ++ l) next.was ∙ sym (append_assoc start next.before next.behind);
      is =
          ap (λ (l : List IndexedRequest). start ++ l) next.is ∙ sym (append_assoc start next.before (indexed (file + 1 + k) (i, q) ∷ next.behind))
          ∙ ap (λ (f : ℕ). (start ++ next.before) ++ indexed f (i, q) ∷ next.behind) same;
    }
