-- The turns of the files, round after round: how many requests there are, and what a turn adds.
use Rattle.std.proofs.Common.{add-one, is_ok, true, false, ◌≡◌, ℕ, zero, suc, ◌+◌, ◌≤◌, ◌<◌, List, [], ◌∷◌, ◌++◌, length, length-append, map, get_or, take, fold, Some, Result, Ok, Err, refl, sym, ap, ◌∙◌, subst, arith, inl, inr, ◌⊎◌, ⊎_elim}
use Rattle.std.specs.List.{All, Contains, slice_get, enumerate_from}
use Rattle.std.proofs.lemmas.List.{length-map, length-take, map_push}
use Rattle.std.proofs.lemmas.List.FromFn.{length-enumerate_from}
use Rattle.std.proofs.lemmas.List.Elements.{All-head, All-nil, All-push, All-tail, All-weaker, Contains-append_left, Contains-push}
use Rattle.std.proofs.lemmas.List.Sorted.{length_permutation}
use Rattle.tatp_model.specs.declared.done.Done.{Done}
use Rattle.tatp_model.specs.declared.request.Request.{Request}
use Rattle.tatp_model.specs.OneThread.{indexed_request_of, indexed_requests_from}
use Rattle.run_order.specs.Runs.{first_rounds}
use Rattle.run_order.proofs.Rounds.{Rounds, found_mapped, rounds_next, rounds_skip}
use Rattle.pmem_trait.specs.declared.medium.Medium.{Ghosts}
use Rattle.pmem_trait.specs.Sights.{Sight}
use Rattle.log_numbered.specs.RunLog.{log_last, log_medium}
use Rattle.tatp_model.specs.declared.reply.Reply.TheVariants.{Durable}
use Rattle.dude_engine.specs.declared.run.Run.{Run}
use Rattle.dude_engine.specs.declared.run_fault.RunFault.{RunFault}
use Rattle.dude_engine.specs.Opening.{Opening}
use Rattle.dude_engine.specs.Keeping.{LeavesKept}
use Rattle.dude_engine.specs.Requests.{HasLength, request_count}
use Rattle.dude_engine.specs.Running.{Adds, AddsTurn, AddsUnless, IsReady, Runs, ServesMore}

-- ---- how many requests there are

indexed_count : (n file : ℕ) (files : List (List Request)) → n + length (indexed_requests_from file files) ≡ fold (λ count requests. count + length requests) n files
indexed_count n file [] = omega arith
indexed_count n file (requests ∷ files) =
    let here = map (λ (r : ℕ × Request). record { file = file; index = r.0; request = r.1 }) (enumerate_from 0 requests) in
    let all : length (here ++ indexed_requests_from (file + 1) files) ≡ length here + length (indexed_requests_from (file + 1) files) = length-append here (indexed_requests_from (file + 1) files) in
    let some : length here ≡ length requests = length-map (enumerate_from 0 requests) (λ (r : ℕ × Request). record { file = file; index = r.0; request = r.1 }) ∙ length-enumerate_from 0 requests in
    omega (arith, all, some, indexed_count (n + length requests) (file + 1) files)

rounds_below : (i k m n : ℕ) (files : List (List Request)) → m ≤ n → fold (λ count requests. count + length requests) m (first_rounds i k files) ≤ fold (λ count requests. count + length requests) n files
rounds_below i k m n [] less = less
rounds_below i zero m n (requests ∷ files) less = rounds_below i zero (m + length (take i requests)) (n + length requests) files (omega (arith, less, length-take i requests))
rounds_below i (suc k) m n (requests ∷ files) less = rounds_below i k (m + length (take (i + 1) requests)) (n + length requests) files (omega (arith, less, length-take (i + 1) requests))

count_next : (n : ℕ) (files : List (List Request)) (i : ℕ) (requests : List Request) → slice_get files i ≡ Some requests
    → fold (λ count file. count + length file) n (take (suc i) files) ≡ fold (λ count file. count + length file) n (take i files) + length requests
count_next n [] i requests there = absurd (let no : ⊥ = cc in no)
count_next n (file ∷ files) zero requests there =
    let same : file ≡ requests = cc in
    ap (λ (l : List Request). n + length l) same
count_next n (file ∷ files) (suc i) requests there = count_next (n + length file) files i requests there

-- the requests of one file more
pub count_more : (files : List (List Request)) (i : ℕ) (requests : List Request) → slice_get files i ≡ Some requests → request_count (take (i + 1) files) ≡ request_count (take i files) + length requests
count_more files i requests there = rw add-one (count_next 0 files i requests there)

count_from : (n : ℕ) (files : List (List Request)) → n ≤ fold (λ count file. count + length file) n files
count_from n [] = omega arith
count_from n (file ∷ files) = omega (arith, count_from (n + length file) files)

pub count_first : (n i : ℕ) (files : List (List Request)) → fold (λ count file. count + length file) n (take i files) ≤ fold (λ count file. count + length file) n files
count_first n zero [] = omega arith
count_first n (suc i) [] = omega arith
count_first n zero (file ∷ files) = count_from n (file ∷ files)
count_first n (suc i) (file ∷ files) = count_first (n + length file) i files

-- no more is performed than there are requests
pub rounds_count : (files : List (List Request)) (i k : ℕ) (performed : List Done) → Rounds files i k performed → length performed ≤ request_count files
rounds_count files i k performed run =
    let same = length_permutation (map indexed_request_of performed) (indexed_requests_from 0 (first_rounds i k files)) run.same in
    omega (arith, same, length-map performed indexed_request_of, indexed_count 0 0 (first_rounds i k files), rounds_below i k 0 0 files (omega arith))

-- ---- one turn

-- where the file whose turn it is has the request, there is room for it
pub turn_room : (files : List (List Request)) (i k : ℕ) (performed : List Done) (requests : List Request) (d : Done) → slice_get files k ≡ Some requests → slice_get requests i ≡ Some d.request → d.file ≡ k → d.index ≡ i
    → Rounds files i k performed → length performed < request_count files
turn_room files i k performed requests d there here file index run =
    omega (arith, rounds_count files i (k + 1) (performed ++ d ∷ []) (rounds_next files i k performed requests d there here file index run), length-append performed (d ∷ []))

adds_next : (files : List (List Request)) (i k : ℕ) (requests : List Request) (old new : List Done) (q : Request) → slice_get files k ≡ Some requests → slice_get requests i ≡ Some q → Adds k i q old new → Rounds files i k old → Rounds files i (k + 1) new
adds_next files i k requests old new q there here adds run =
    subst (λ (done : List Done). Rounds files i (k + 1) done) (sym adds.added)
    (rounds_next files i k old requests adds.entry there (here ∙ ap Some (sym adds.asked)) adds.file_is adds.index_is run)

-- a turn that ended well
pub turn_next : (files : List (List Request)) (i k : ℕ) (requests : List Request) (old new : List Done) → slice_get files k ≡ Some requests → AddsTurn (Ok tt) k i requests old new → Rounds files i k old → Rounds files i (k + 1) new
turn_next files i k requests old new there (inl (q, here, adds)) run = adds_next files i k requests old new q there here adds run
turn_next files i k requests old new there (inr (short, same)) run = subst (λ (done : List Done). Rounds files i (k + 1) done) (sym same) (rounds_skip files i k old requests there short run)

-- one that didn't
pub turn_last : (files : List (List Request)) (i k : ℕ) (requests : List Request) (old new : List Done) (fault : RunFault) → slice_get files k ≡ Some requests → AddsTurn (Err fault) k i requests old new → Rounds files i k old
    → (j : ℕ) × Rounds files i j new
turn_last files i k requests old new fault there (inl (q, here, adds)) run = (k + 1, adds_next files i k requests old new q there here adds run)
turn_last files i k requests old new fault there (inr same) run = (k, subst (λ (done : List Done). Rounds files i k done) (sym same) run)

-- a turn in which the file's request was served
pub turn_of : (result : Result (Unit {0}) RunFault) (file index : ℕ) (requests : List Request) (q : Request) (old new : List Done) → slice_get requests index ≡ Some q → AddsUnless result file index q old new → AddsTurn result file index requests old new
turn_of (Ok done) file index requests q old new here adds = inl (q, here, adds)
turn_of (Err fault) file index requests q old new here (inl same) = inr same
turn_of (Err fault) file index requests q old new here (inr adds) = inl (q, here, adds)

-- what is done grows by one
pub adds_one : (result : Result (Unit {0}) RunFault) (file index : ℕ) (q : Request) (old new : List Done) → AddsUnless result file index q old new → is_ok result ≡ true → length new ≡ length old + 1
adds_one (Ok done) file index q old new adds ok = ap length adds.added ∙ length-append old (adds.entry ∷ [])
adds_one (Err fault) file index q old new adds ok = cc

take_next : (files : List (List Request)) (i : ℕ) (requests : List Request) → slice_get files i ≡ Some requests → take (i + 1) files ≡ take i files ++ requests ∷ []
take_next files i requests there = rw add-one (next files i there)
  where
    next : (files : List (List Request)) (i : ℕ) → slice_get files i ≡ Some requests → take (suc i) files ≡ take i files ++ requests ∷ []
    next [] i there = absurd (let no : ⊥ = cc in no)
    next (file ∷ files) zero there = let same : file ≡ requests = cc in ap (λ (l : List Request). l ∷ []) same
    next (file ∷ files) (suc i) there = ap (λ (l : List (List Request)). file ∷ l) (next files i there)

-- No file is longer, and one is as long, or there is none that has a request.
pub record IsLongest (longest : ℕ) (files : List (List Request)) : Type 0 where
  pub none_longer : All (λ file. length file ≤ longest) files
  pub one_as_long : (longest ≡ 0) ⊎ HasLength longest files

pub longest_none : IsLongest 0 []
longest_none = record { none_longer = All-nil (λ file. length file ≤ 0); one_as_long = inl refl }

longest_push : (low count high : ℕ) (files : List (List Request)) (requests : List Request) → count ≡ length requests → low ≤ high → count ≤ high → (high ≡ low) ⊎ (high ≡ count) → IsLongest low files
    → IsLongest high (files ++ requests ∷ [])
longest_push low count high files requests len up here either is =
    let pushed : map (λ (file : List Request). length file) (files ++ requests ∷ []) ≡ map (λ (file : List Request). length file) files ++ length requests ∷ [] = map_push (λ (file : List Request). length file) files requests in
    record {
      none_longer = All-push (λ file. length file ≤ high) files requests (All-weaker (λ file. length file ≤ low) (λ file. length file ≤ high) (λ file h. omega (arith, h, up)) files is.none_longer) (omega (arith, len, here));
      one_as_long = ⊎_elim
          (λ (same : high ≡ low). ⊎_elim (λ (zero_is : low ≡ 0). inl (same ∙ zero_is))
          (λ has. inr (subst (λ (l : List ℕ). Contains l high) (sym pushed) (Contains-append_left (map (λ (file : List Request). length file) files) (length requests ∷ []) high (subst (λ (n : ℕ). HasLength n files) (sym same) has)))) is.one_as_long)
          (λ (same : high ≡ count). inr (subst (λ (l : List ℕ). Contains l high) (sym pushed) (subst (λ (n : ℕ). Contains (map (λ (file : List Request). length file) files ++ length requests ∷ []) n) (sym (same ∙ len)) (Contains-push (map (λ (file : List Request). length file) files) (length requests)))))
          either;
    }

-- the longest of the files before one, and of that one
pub longest_more : (low count high : ℕ) (files : List (List Request)) (i : ℕ) (requests : List Request) → slice_get files i ≡ Some requests → count ≡ length requests → low ≤ high → count ≤ high → (high ≡ low) ⊎ (high ≡ count)
    → IsLongest low (take i files) → IsLongest high (take (i + 1) files)
longest_more low count high files i requests there len up here either is =
    subst (λ (l : List (List Request)). IsLongest high l) (sym (take_next files i requests there)) (longest_push low count high (take i files) requests len up here either is)

-- ---- a run that is in round i, where it is file k's turn

pub record InRounds {M : Type 0} {ghosts : Ghosts M} (sight : M → Sight) (files : List (List Request)) (i k : ℕ) (first run : Run M ghosts) : Type 0 where
  pub ready : IsReady run
  pub lay : run.lay ≡ first.lay
  pub room : run.done.cap ≡ first.done.cap
  pub number : log_last run.log ≤ log_last first.log + run.done.len
  pub rounds : Rounds files i k run.done.items
  pub left : (opening : Opening) (words : List ℕ) (s : Sight) → Runs opening words first s (sight (log_medium first.log)) → Runs opening words run s (sight (log_medium run.log))
  pub calls : ServesMore first (sight (log_medium first.log)) run (sight (log_medium run.log))
  pub kept : LeavesKept (Ok tt) first run

-- the value made of the element at a place, as that of the file whose turn it is
pub file_there : {X Y : Type 0} (f : X → Y) (xs : List X) (k : ℕ) (x : X) (y : Y) → k < length xs → x ≡ get_or xs k x → y ≡ f x → slice_get (map f xs) k ≡ Some y
file_there f xs k x y below is same = found_mapped f xs k x below is ∙ ap Some (sym same)

pub room_for : (files : List (List Request)) (i k : ℕ) (performed : List Done) (requests : List Request) → slice_get files k ≡ Some requests → i < length requests → Rounds files i k performed → length performed < request_count files
room_for files i k performed requests there below run = by_request (got requests i below)
  where
    got : (requests : List Request) (i : ℕ) → i < length requests → (q : Request) × (slice_get requests i ≡ Some q)
    got [] i below = absurd (omega (arith, below))
    got (q ∷ requests) zero below = (q, refl)
    got (q ∷ requests) (suc i) below = got requests i (omega (arith, below))

    by_request : (q : Request) × (slice_get requests i ≡ Some q) → length performed < request_count files
    by_request (q, here) =
        let d : Done = record { file = k; index = i; number = 0; wrote = false; request = q; reply = Durable } in
        turn_room files i k performed requests d there here refl refl run

-- what holds of all, at one place
pub all_at : {X : Type 0} (P : X → Type 0) (xs : List X) (k : ℕ) (x : X) → slice_get xs k ≡ Some x → All P xs → P x
all_at P [] k x there all = absurd (let no : ⊥ = cc in no)
all_at P (y ∷ xs) zero x there all = let same : y ≡ x = cc in subst P same (All-head P y xs all)
all_at P (y ∷ xs) (suc k) x there all = all_at P xs k x there (All-tail P y xs all)
