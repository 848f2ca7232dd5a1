-- What was done of files and of their rests stands at different places.
use Rattle.std.proofs.Common.{Global, Vec, ◌≡◌, ℕ, ◌+◌, ◌-◌, ◌^◌, ◌<◌, ◌≤◌, List, [], ◌∷◌, ◌++◌, length, map, refl, sym, ap, ◌∙◌, subst, arith, ⊎_elim}
use Rattle.std.specs.Prelude.{slice_index}
use Rattle.std.specs.List.{All, AllPairs, AllZip, enumerate_from}
use Rattle.std.proofs.lemmas.List.{length-append, length-map}
use Rattle.std.proofs.lemmas.List.Elements.{All-nil, All-cons, All-head, All-tail, All-append, All-weaker}
use Rattle.tatp_model.specs.declared.done.Done.{Done}
use Rattle.tatp_model.specs.declared.request.Request.{Request}
use Rattle.tatp_model.specs.OneThread.{AllAreDone, HoldsPrefixes, IndexedRequest, IsPrefixOf, PrecedesInFiles, indexed_request_of, indexed_requests_from}
use Rattle.run_order.specs.Runs.{StandApart}
use Rattle.run_order.proofs.FileOrder.{in_files_from_holding, indexed}
use Rattle.run_order.proofs.Pairs.{pairs_append, pairs_mapped, pairs_weaker}
use Rattle.run_order.specs.Rests.{LengthsAre, files_of, firsts_of, rests_of, shifted}
use Rattle.run_threads.specs.Parts.{AreParts, IsCounted}

-- the file with this number has at most so many requests, and so on for those behind it
abbrev AreUnder : (ℕ → ℕ) → ℕ → List (List Request) → Type 0
AreUnder bound file [] = Unit {0}
AreUnder bound file (requests ∷ files) = (length requests ≤ bound file) × AreUnder bound (file + 1) files

-- a request of one of so many files, under its bound there
abbrev IsUnder : (ℕ → ℕ) → ℕ → IndexedRequest → Type 0
IsUnder bound files r = (r.file < files) × (r.index < bound r.file)

one_under : (bound : ℕ → ℕ) (file files n : ℕ) (requests : List Request) → file < files → n + length requests ≤ bound file → All (IsUnder bound files) (map (indexed file) (enumerate_from n requests))
one_under bound file files n [] there under = All-nil (IsUnder bound files)
one_under bound file files n (q ∷ requests) there under =
    All-cons (IsUnder bound files) (indexed file (n, q)) (map (indexed file) (enumerate_from (n + 1) requests)) (there, omega arith)
    (one_under bound file files (n + 1) requests there (omega arith))

all_under : (bound : ℕ → ℕ) (file count : ℕ) (files : List (List Request)) → file + length files ≤ count → AreUnder bound file files → All (IsUnder bound count) (indexed_requests_from file files)
all_under bound file count [] few under = All-nil (IsUnder bound count)
all_under bound file count (f ∷ files) few under =
    All-append (IsUnder bound count) (map (indexed file) (enumerate_from 0 f)) (indexed_requests_from (file + 1) files)
    (one_under bound file count 0 f (omega arith) (let u = under.0 in omega arith))
    (all_under bound (file + 1) count files (omega arith) under.1)

-- what holds of the requests done, by their places
of_places : (P : IndexedRequest → Type 0) (done : List Done) → All P (map indexed_request_of done) → All (λ d. P (indexed_request_of d)) done
of_places P [] all = All-nil (λ (d : Done). P (indexed_request_of d))
of_places P (d ∷ done) all =
    All-cons (λ (e : Done). P (indexed_request_of e)) d done (All-head P (indexed_request_of d) (map indexed_request_of done) all)
    (of_places P done (All-tail P (indexed_request_of d) (map indexed_request_of done) all))

done_under : (bound : ℕ → ℕ) (files : List (List Request)) (done : List Done) → AreUnder bound 0 files → AllAreDone files done → All (λ d. (d.file < length files) × (d.index < bound d.file)) done
done_under bound files done under all =
    of_places (IsUnder bound (length files)) done (subst (λ (l : List IndexedRequest). All (IsUnder bound (length files)) l) (sym all) (all_under bound 0 (length files) files (omega arith) under))

-- ---- apart
under_counts : (counts : ℕ → ℕ) (file : ℕ) (files : List (List Request)) → LengthsAre counts file files → AreUnder counts file files
under_counts counts file [] lengths = tt
under_counts counts file (f ∷ files) lengths = ((let l = lengths.0 in omega arith), under_counts counts (file + 1) files lengths.1)

pub all_shifted : (counts : ℕ → ℕ) (done : List Done) → All (λ d. counts d.file ≤ d.index) (map (shifted counts) done)
all_shifted counts [] = All-nil (λ (d : Done). counts d.file ≤ d.index)
all_shifted counts (d ∷ done) = All-cons (λ (e : Done). counts e.file ≤ e.index) (shifted counts d) (map (shifted counts) done) (omega arith) (all_shifted counts done)

apart_in_files : (d e : Done) → PrecedesInFiles d e → StandApart d e
apart_in_files d e before file index = ⊎_elim (λ (less : d.file < e.file). absurd (omega arith)) (λ (less : (d.file ≡ e.file) × (d.index < e.index)). let l = less.1 in absurd (omega arith)) before

apart_shifted : (counts : ℕ → ℕ) (d e : Done) → PrecedesInFiles d e → StandApart (shifted counts d) (shifted counts e)
apart_shifted counts d e before file index = let same = ap counts file in
    ⊎_elim (λ (less : d.file < e.file). absurd (omega arith)) (λ (less : (d.file ≡ e.file) × (d.index < e.index)). let l = less.1 in absurd (omega arith)) before

apart_across : (counts : ℕ → ℕ) (d e : Done) → d.index < counts d.file → counts e.file ≤ e.index → StandApart d e
apart_across counts d e under over file index = let same = ap counts file in absurd (omega arith)

-- the first requests of files stand at indices under their counts
pub under_firsts : (counts : ℕ → ℕ) (files : List (List Request)) (done : List Done) → LengthsAre counts 0 files → AllAreDone files done → All (λ d. d.index < counts d.file) done
under_firsts counts files done lengths all =
    All-weaker (λ (d : Done). (d.file < length files) × (d.index < counts d.file)) (λ d. d.index < counts d.file) (λ d h. h.1) done (done_under counts files done (under_counts counts 0 files lengths) all)

-- the first requests of files, and behind them some of the rests
pub apart : (counts : ℕ → ℕ) (parts : List (List Request × List Request)) (threads collected : List Done) → LengthsAre counts 0 (firsts_of parts) → AllAreDone (firsts_of parts) threads → HoldsPrefixes (rests_of parts) collected → AllPairs StandApart (threads ++ map (shifted counts) collected)
apart counts parts threads collected lengths all held =
    let firsts = firsts_of parts in
    pairs_append StandApart (λ d. d.index < counts d.file) (λ d. counts d.file ≤ d.index) (apart_across counts) threads (map (shifted counts) collected)
    (under_firsts counts firsts threads lengths all)
    (all_shifted counts collected)
    (pairs_weaker PrecedesInFiles StandApart threads apart_in_files (in_files_from_holding firsts threads all))
    (pairs_mapped StandApart (shifted counts) collected (pairs_weaker PrecedesInFiles (λ d e. StandApart (shifted counts d) (shifted counts e)) collected (apart_shifted counts) (in_files_from_holding held.0 collected held.2)))

-- ---- places in the whole files
-- so many more fit behind the first requests of a file
abbrev room_in : (ℕ → ℕ) → ℕ → ℕ
room_in counts file = 2 ^ 64 - counts file

prefixes_fit : (counts : ℕ → ℕ) (file : ℕ) (parts : List (List Request × List Request)) (prefixes : List (List Request)) → LengthsAre counts file (firsts_of parts) → All (λ f. length f < 2 ^ 64) (files_of parts) → AllZip IsPrefixOf prefixes (rests_of parts) → AreUnder (room_in counts) file prefixes
prefixes_fit counts file [] [] lengths small held = tt
prefixes_fit counts file [] (q ∷ prefixes) lengths small held = absurd held
prefixes_fit counts file (p ∷ parts) [] lengths small held = absurd held
prefixes_fit counts file (p ∷ parts) (q ∷ prefixes) lengths small held =
    let here : length p.1 ≡ length q + length held.0.0 = ap length held.0.1 ∙ length-append q held.0.0 in
    let both = length-append p.0 p.1 in let long = lengths.0 in
    let few : length (p.0 ++ p.1) < 2 ^ 64 = All-head (λ (f : List Request). length f < 2 ^ 64) (p.0 ++ p.1) (files_of parts) small in
    (omega arith, prefixes_fit counts (file + 1) parts prefixes lengths.1 (All-tail (λ (f : List Request). length f < 2 ^ 64) (p.0 ++ p.1) (files_of parts) small) held.1)

same_length : {A B : Type 0} (R : A → B → Type 0) (xs : List A) (ys : List B) → AllZip R xs ys → length xs ≡ length ys
same_length R [] [] all = refl
same_length R [] (y ∷ ys) all = absurd all
same_length R (x ∷ xs) [] all = absurd all
same_length R (x ∷ xs) (y ∷ ys) all = let h = same_length R xs ys all.1 in omega arith

-- what was done of the rests has a count, and a place
pub counted : (files : List (List Request)) (counts : List ℕ) (parts : List (List Request × List Request)) (collected : List Done) → AreParts files counts parts → All (λ f. length f < 2 ^ 64) files → HoldsPrefixes (rests_of parts) collected → All (IsCounted counts) collected
counted files counts parts collected are small held =
    let few : All (λ (f : List Request). length f < 2 ^ 64) (files_of parts) = subst (λ (l : List (List Request)). All (λ f. length f < 2 ^ 64) l) (sym are.files_are) small in
    let many : length held.0 ≤ length counts = (let a = same_length IsPrefixOf held.0 (rests_of parts) held.1 in let b = length-map parts (λ p. p.1) in let c = length-map parts (λ p. p.0 ++ p.1) in let d = ap (λ (l : List (List Request)). length l) are.files_are in let e = are.counted in omega arith) in
    All-weaker (λ (d : Done). (d.file < length held.0) × (d.index < room_in (slice_index counts) d.file)) (IsCounted counts) (λ d h. let f = h.0 in let i = h.1 in (omega arith, omega arith)) collected
    (done_under (room_in (slice_index counts)) held.0 collected (prefixes_fit (slice_index counts) 0 parts held.0 are.lengths few held.1) held.2)

-- a list in memory is shorter than numbers of 64 bits
pub small_files : (files : List (Vec Request Global)) → All (λ f. length f < 2 ^ 64) (map (λ f. f.items) files)
small_files [] = All-nil (λ (f : List Request). length f < 2 ^ 64)
small_files (v ∷ files) = All-cons (λ (f : List Request). length f < 2 ^ 64) v.items (map (λ f. f.items) files) (let a = v.ok.0 in let b = v.ok.1 in let d = v.small in omega arith) (small_files files)

-- ---- of which files
one_in : (file count n : ℕ) (requests : List Request) → file < count → All (λ r. r.file < count) (map (indexed file) (enumerate_from n requests))
one_in file count n [] there = All-nil (λ (r : IndexedRequest). r.file < count)
one_in file count n (q ∷ requests) there = All-cons (λ (r : IndexedRequest). r.file < count) (indexed file (n, q)) (map (indexed file) (enumerate_from (n + 1) requests)) there (one_in file count (n + 1) requests there)

all_in : (file count : ℕ) (files : List (List Request)) → file + length files ≤ count → All (λ r. r.file < count) (indexed_requests_from file files)
all_in file count [] few = All-nil (λ (r : IndexedRequest). r.file < count)
all_in file count (f ∷ files) few =
    All-append (λ (r : IndexedRequest). r.file < count) (map (indexed file) (enumerate_from 0 f)) (indexed_requests_from (file + 1) files)
    (one_in file count 0 f (omega arith)) (all_in (file + 1) count files (omega arith))

-- each request done is of one of the files
pub files_under : (files : List (List Request)) (done : List Done) → HoldsPrefixes files done → All (λ d. d.file < length files) done
files_under files done held =
    let many = same_length IsPrefixOf held.0 files held.1 in
    of_places (λ (r : IndexedRequest). r.file < length files) done (subst (λ (l : List IndexedRequest). All (λ r. r.file < length files) l) (sym held.2) (all_in 0 (length files) held.0 (omega arith)))
