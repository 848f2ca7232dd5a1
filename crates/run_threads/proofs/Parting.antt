-- Files in two parts: the rests, one after another, and how many requests they have.
use Rattle.std.proofs.Common.{◌≡◌, ℕ, zero, suc, ◌+◌, ◌<◌, ◌≤◌, List, [], ◌∷◌, ◌++◌, length, get_or, drop, map, take, refl, sym, ap, ◌∙◌, subst, arith}
use Rattle.std.specs.List.{fold}
use Rattle.std.proofs.Math.Seq.{drop-append_seam}
use Rattle.std.proofs.lemmas.List.{get_or-map, length-append, length-map, take-map}
use Rattle.std.proofs.lemmas.List.Sums.{fold_more}
use Rattle.tatp_model.specs.declared.done.Done.{Done}
use Rattle.tatp_model.specs.declared.request.Request.{Request}
use Rattle.tatp_model.specs.OneThread.{AllAreDone, HoldsPrefixes, IsPrefixOf, indexed_request_of, indexed_requests_from}
use Rattle.std.specs.List.{AllZip, enumerate_from}
use Rattle.run_order.proofs.FileOrder.{indexed}
use Rattle.run_order.specs.Rests.{LengthsAre, files_of, firsts_of, rests_of}
use Rattle.dude_engine.specs.Requests.{request_count}

-- ---- one file after another
-- the rest of a file behind its first requests
pub record HasRestAt (counts : ℕ → ℕ) (file k : ℕ) (parts : List (List Request × List Request)) (requests : List Request) : Type 0 where
  pub upto : counts (file + k) ≤ length requests
  pub next : take (k + 1) (rests_of parts) ≡ take k (rests_of parts) ++ drop (counts (file + k)) requests ∷ []

rest_from : (counts : ℕ → ℕ) (file k : ℕ) (parts : List (List Request × List Request)) (requests : List Request) → LengthsAre counts file (firsts_of parts) → k < length (files_of parts) → requests ≡ get_or (files_of parts) k requests → HasRestAt counts file k parts requests
rest_from counts file k [] requests lengths there is = absurd (omega arith)
rest_from counts file zero (p ∷ parts) requests lengths there is =
    let here : counts (file + 0) ≡ length p.0 = ap counts (let z : file + 0 ≡ file = omega arith in z) ∙ lengths.0 in
    let rest : drop (counts (file + 0)) requests ≡ p.1 = ap (λ (n : ℕ). drop n requests) here ∙ ap (drop (length p.0)) is ∙ drop-append_seam p.0 p.1 in
    record {
      upto = (let long = ap (λ (l : List Request). length l) is in let both = length-append p.0 p.1 in omega arith);
      next = ap (λ (l : List Request). l ∷ []) (sym rest);
    }
rest_from counts file (suc k) (p ∷ parts) requests lengths there is =
    let h = rest_from counts (file + 1) k parts requests lengths.1 (omega arith) is in
    let at : file + 1 + k ≡ file + suc k = omega arith in
    let one_more : suc k + 1 ≡ suc (k + 1) = omega arith in
    record {
      upto = subst (λ (n : ℕ). counts n ≤ length requests) at h.upto;
      next = ap (λ (n : ℕ). take n (p.1 ∷ rests_of parts)) one_more ∙ ap (λ (l : List (List Request)). p.1 ∷ l) (h.next ∙ ap (λ (n : ℕ). take k (rests_of parts) ++ drop (counts n) requests ∷ []) at);
    }

pub rest_at : (counts : ℕ → ℕ) (k : ℕ) (parts : List (List Request × List Request)) (requests : List Request) → LengthsAre counts 0 (firsts_of parts) → k < length (files_of parts) → requests ≡ get_or (files_of parts) k requests
    → (counts k ≤ length requests) × (take (k + 1) (rests_of parts) ≡ take k (rests_of parts) ++ drop (counts k) requests ∷ [])
rest_at counts k parts requests lengths there is =
    let h = rest_from counts 0 k parts requests lengths there is in
    let z : 0 + k ≡ k = omega arith in
    subst (λ (n : ℕ). (counts n ≤ length requests) × (take (k + 1) (rests_of parts) ≡ take k (rests_of parts) ++ drop (counts n) requests ∷ [])) z (h.upto, h.next)

pub as_many : (parts : List (List Request × List Request)) → length (rests_of parts) ≡ length (files_of parts)
as_many parts = length-map parts (λ p. p.1) ∙ sym (length-map parts (λ p. p.0 ++ p.1))

-- ---- how many requests there are
abbrev add : ℕ → List Request → ℕ
add count file = count + length file

count_on : (n k : ℕ) (files : List (List Request)) → fold add (n + k) files ≡ n + fold add k files
count_on n k [] = refl
count_on n k (f ∷ files) = let e : n + k + length f ≡ n + (k + length f) = omega arith in ap (λ (m : ℕ). fold add m files) e ∙ count_on n (k + length f) files

-- the first files with the next one
pub count_next : (files : List (List Request)) (k : ℕ) (file : List Request) → k < length files → file ≡ get_or files k file → request_count (take (k + 1) files) ≡ request_count (take k files) + length file
count_next files k file there is = fold_more add 0 files k file there ∙ ap (λ (l : List Request). request_count (take k files) + length l) (sym is)

pub count_upto : (files : List (List Request)) (k : ℕ) → request_count (take k files) ≤ request_count files
count_upto files zero = omega arith
count_upto [] (suc k) = omega arith
count_upto (f ∷ files) (suc k) =
    let zero_more : length f + 0 ≡ 0 + length f = omega arith in
    let a = count_on (length f) 0 (take k files) in let b = count_on (length f) 0 files in
    let c = ap (λ (m : ℕ). fold add m (take k files)) zero_more in let d = ap (λ (m : ℕ). fold add m files) zero_more in
    let h = count_upto files k in omega arith

count_both : (a b : ℕ) (parts : List (List Request × List Request)) → fold add (a + b) (files_of parts) ≡ fold add a (firsts_of parts) + fold add b (rests_of parts)
count_both a b [] = refl
count_both a b (p ∷ parts) =
    let long = length-append p.0 p.1 in
    let e : a + b + length (p.0 ++ p.1) ≡ (a + length p.0) + (b + length p.1) = omega arith in
    ap (λ (m : ℕ). fold add m (files_of parts)) e ∙ count_both (a + length p.0) (b + length p.1) parts

-- of both parts together
pub count_parts : (parts : List (List Request × List Request)) → request_count (files_of parts) ≡ request_count (firsts_of parts) + request_count (rests_of parts)
count_parts parts = count_both 0 0 parts

length_enumerated : (n : ℕ) (requests : List Request) → length (enumerate_from n requests) ≡ length requests
length_enumerated n [] = refl
length_enumerated n (q ∷ requests) = let h = length_enumerated (n + 1) requests in omega arith

count_indexed : (n file : ℕ) (files : List (List Request)) → n + length (indexed_requests_from file files) ≡ fold add n files
count_indexed n file [] = omega arith
count_indexed n file (f ∷ files) =
    let a = length-append (map (indexed file) (enumerate_from 0 f)) (indexed_requests_from (file + 1) files) in
    let b = length-map (enumerate_from 0 f) (indexed file) in let c = length_enumerated 0 f in
    let h = count_indexed (n + length f) (file + 1) files in omega arith

-- so many are done
pub count_done : (files : List (List Request)) (done : List Done) → AllAreDone files done → length done ≡ request_count files
count_done files done all = let a = length-map done indexed_request_of in let b = ap length all in let c = count_indexed 0 0 files in omega arith

count_prefixes : (n : ℕ) (prefixes files : List (List Request)) → AllZip IsPrefixOf prefixes files → fold add n prefixes ≤ fold add n files
count_prefixes n [] [] all = omega arith
count_prefixes n [] (f ∷ files) all = absurd all
count_prefixes n (p ∷ prefixes) [] all = absurd all
count_prefixes n (p ∷ prefixes) (f ∷ files) all =
    let here : length f ≡ length p + length all.0.0 = ap length all.0.1 ∙ length-append p all.0.0 in
    let h = count_prefixes (n + length p) prefixes files all.1 in
    let e : n + length f ≡ length all.0.0 + (n + length p) = omega arith in
    let a = ap (λ (m : ℕ). fold add m files) e in let b = count_on (length all.0.0) (n + length p) files in omega arith

-- at most so many
pub count_held : (files : List (List Request)) (done : List Done) → HoldsPrefixes files done → length done ≤ request_count files
count_held files done held = let a = count_done held.0 done held.2 in let b = count_prefixes 0 held.0 files held.1 in omega arith

-- ---- of files as they stand in memory
module _ {A : Type 0} (items : A → List Request) where
  -- the file at a place
  pub file_at : (files : List A) (k : ℕ) (file : A) → k < length files → file ≡ get_or files k file → (k < length (map items files)) × (items file ≡ get_or (map items files) k (items file))
  file_at files k file there is = ((let long = length-map files items in omega arith), ap items is ∙ sym (get_or-map items files k file (items file) there))

  pub count_more : (files : List A) (k : ℕ) (file : A) → k < length files → file ≡ get_or files k file → request_count (map items (take (k + 1) files)) ≡ request_count (map items (take k files)) + length (items file)
  count_more files k file there is =
      let here = file_at files k file there is in
      ap request_count (sym (take-map items (k + 1) files)) ∙ count_next (map items files) k (items file) here.0 here.1 ∙ ap (λ (l : List (List Request)). request_count l + length (items file)) (take-map items k files)

  pub count_less : (files : List A) (k : ℕ) → request_count (map items (take k files)) ≤ request_count (map items files)
  count_less files k = let upto = count_upto (map items files) k in let e = ap request_count (take-map items k files) in omega arith
