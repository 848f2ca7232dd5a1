-- A run in rounds: request i of each file in the files' order, round after round.
use Rattle.std.proofs.Common.{◌≡◌, ℕ, zero, suc, ◌+◌, ◌<◌, ◌≤◌, List, [], ◌∷◌, ◌++◌, length, get_or, map, Some, ap, ap₂, sym, ◌∙◌, subst, arith, inl, inr, ◌⊎◌, ⊎_elim, add-one}
use Rattle.std.specs.List.{All, AllPairs, slice_get}
use Rattle.std.specs.Prelude.{IsPermutation}
use Rattle.std.proofs.lemmas.List.{map_push}
use Rattle.std.proofs.lemmas.List.Elements.{All-nil, All-push, All-weaker}
use Rattle.std.proofs.lemmas.List.Quantifiers.{all_pairs_push}
use Rattle.std.proofs.lemmas.List.Sorted.{IsPermutation-refl, IsPermutation-sym, IsPermutation-trans, IsPermutation-cons, IsPermutation-middle, IsPermutation-to_front}
use Rattle.tatp_model.specs.declared.done.Done.{Done}
use Rattle.tatp_model.specs.declared.request.Request.{Request}
use Rattle.tatp_model.specs.OneThread.{PrecedesInFiles, IndexedRequest, indexed_request_of, indexed_requests_from, AllAreDone}
use Rattle.run_order.specs.Runs.{AreFirstInRounds, Collects, PrecedesInRounds, first_rounds}
use Rattle.run_order.proofs.Pairs.{pairs_nil}
use Rattle.run_order.proofs.FileOrder.{indexed, first_rounds_none, first_rounds_turn, first_rounds_skip, first_rounds_all, first_rounds_prefixes, takes_next, holds_from_permutation}

-- an element goes to the end of one list, and anywhere into the other
pub permuted_push : {X : Type 0} (ps xs : List X) (y : X) (ys : List X) → IsPermutation ps (xs ++ ys) → IsPermutation (ps ++ y ∷ []) (xs ++ y ∷ ys)
permuted_push ps xs y ys same =
    IsPermutation-trans (ps ++ y ∷ []) (y ∷ ps) (xs ++ y ∷ ys) (IsPermutation-to_front ps y)
    (IsPermutation-trans (y ∷ ps) (y ∷ (xs ++ ys)) (xs ++ y ∷ ys) (IsPermutation-cons y ps (xs ++ ys) same) (IsPermutation-sym (xs ++ y ∷ ys) (y ∷ (xs ++ ys)) (IsPermutation-middle xs y ys)))

-- it was performed before file k's turn in round i
abbrev pub IsBehind : ℕ → ℕ → Done → Type 0
IsBehind i k d = (d.index < i) ⊎ ((d.index ≡ i) × (d.file < k))

-- By round i and file k: of the files before k the first i + 1 requests are performed, of the others the first i.
pub record Rounds (files : List (List Request)) (i k : ℕ) (performed : List Done) : Type 0 where
  pub same : IsPermutation (map indexed_request_of performed) (indexed_requests_from 0 (first_rounds i k files))
  pub rounds : AllPairs PrecedesInRounds performed
  pub behind : All (IsBehind i k) performed

pub rounds_start : (files : List (List Request)) → Rounds files 0 0 []
rounds_start files = record {
  same = rw first_rounds_none (IsPermutation-refl []);
  rounds = pairs_nil PrecedesInRounds;
  behind = All-nil (IsBehind 0 0);
}

-- all that is performed precedes the request whose turn it is
pub rounds_precede : (files : List (List Request)) (i k : ℕ) (performed : List Done) (d : Done) → Rounds files i k performed → d.file ≡ k → d.index ≡ i → All (λ e. PrecedesInRounds e d) performed
rounds_precede files i k performed d run file index =
    All-weaker (IsBehind i k) (λ e. PrecedesInRounds e d) (λ e h. ⊎_elim (λ less. inl (omega (arith, less, index))) (λ less. inr (omega (arith, less.0, index), omega (arith, less.1, file))) h) performed run.behind

-- the request whose turn it is, where the file has it
pub rounds_next : (files : List (List Request)) (i k : ℕ) (performed : List Done) (requests : List Request) (d : Done) → slice_get files k ≡ Some requests → slice_get requests i ≡ Some d.request → d.file ≡ k → d.index ≡ i → Rounds files i k performed → Rounds files i (k + 1) (performed ++ d ∷ [])
rounds_next files i k performed requests d there here file index run =
    let next = takes_next i k 0 files requests d.request there here in
    let at : 0 + k ≡ d.file = omega (arith, file) in
    let named : indexed (0 + k) (i, d.request) ≡ indexed_request_of d = ap₂ (λ (f j : ℕ). indexed f (j, d.request)) at (sym index) in
    let was = map indexed_request_of performed in
    let asked : IsPermutation was (next.before ++ next.behind) = subst (λ (l : List IndexedRequest). IsPermutation was l) next.was run.same in
    let more : map indexed_request_of (performed ++ d ∷ []) ≡ was ++ indexed_request_of d ∷ [] = map_push indexed_request_of performed d in
    let left : indexed_requests_from 0 (first_rounds i (suc k) files) ≡ next.before ++ indexed_request_of d ∷ next.behind =
    next.is ∙ ap (λ (r : IndexedRequest). next.before ++ r ∷ next.behind) named in
    let same : IsPermutation (map indexed_request_of (performed ++ d ∷ [])) (indexed_requests_from 0 (first_rounds i (suc k) files)) =
    rw (more, left) (permuted_push was next.before (indexed_request_of d) next.behind asked) in
    let behind : All (IsBehind i (suc k)) (performed ++ d ∷ []) =
    All-push (IsBehind i (suc k)) performed d
    (All-weaker (IsBehind i k) (IsBehind i (suc k)) (λ e h. ⊎_elim (λ less. inl less) (λ less. inr (less.0, omega (arith, less.1))) h) performed run.behind)
    (inr (index, omega (arith, file))) in
    rw add-one (record {
      same = same;
      rounds = all_pairs_push PrecedesInRounds performed d run.rounds (λ l e within. rounds_precede files i k performed d run file index l e within);
      behind = behind;
    })

-- a file that has no request for this round
pub rounds_skip : (files : List (List Request)) (i k : ℕ) (performed : List Done) (requests : List Request) → slice_get files k ≡ Some requests → length requests ≤ i → Rounds files i k performed → Rounds files i (k + 1) performed
rounds_skip files i k performed requests there short run =
    let behind : All (IsBehind i (suc k)) performed =
    All-weaker (IsBehind i k) (IsBehind i (suc k)) (λ e h. ⊎_elim (λ less. inl less) (λ less. inr (less.0, omega (arith, less.1))) h) performed run.behind in
    let same : IsPermutation (map indexed_request_of performed) (indexed_requests_from 0 (first_rounds i (suc k) files)) = rw (first_rounds_skip i k files requests there short) run.same in
    rw add-one (record { same = same; rounds = run.rounds; behind = behind })

-- the end of a round
pub rounds_turn : (files : List (List Request)) (i : ℕ) (performed : List Done) → Rounds files i (length files) performed → Rounds files (i + 1) 0 performed
rounds_turn files i performed run = record {
  same = rw (← first_rounds_turn i files) run.same;
  rounds = run.rounds;
  behind = All-weaker (IsBehind i (length files)) (IsBehind (i + 1) 0) (λ e h. ⊎_elim (λ less. inl (omega (arith, less))) (λ less. inl (omega (arith, less.0))) h) performed run.behind;
}

pub rounds_rounds : (files : List (List Request)) (i k : ℕ) (performed : List Done) → Rounds files i k performed → AllPairs PrecedesInRounds performed
rounds_rounds files i k performed run = run.rounds

-- wherever a run stops, its requests in the order of files are those of the files' first requests
pub rounds_collect : (files : List (List Request)) (i k : ℕ) (performed done : List Done) → Rounds files i k performed → IsPermutation performed done → AllPairs PrecedesInFiles done → Collects files performed done
rounds_collect files i k performed done run same sorted = record {
  same = same;
  held = (first_rounds i k files, first_rounds_prefixes i k files, holds_from_permutation (first_rounds i k files) performed done run.same same sorted);
}

-- and the first ones in the order of rounds
pub rounds_first : (files : List (List Request)) (i k : ℕ) (performed done : List Done) → Rounds files i k performed → IsPermutation performed done → AllPairs PrecedesInFiles done → AreFirstInRounds files done
rounds_first files i k performed done run same sorted = (i, k, holds_from_permutation (first_rounds i k files) performed done run.same same sorted)

-- and after as many rounds as the longest file has requests they are all of them
pub rounds_all : (files : List (List Request)) (i : ℕ) (performed done : List Done) → All (λ requests. length requests ≤ i) files → Rounds files i 0 performed → IsPermutation performed done → AllPairs PrecedesInFiles done → AllAreDone files done
rounds_all files i performed done short run same sorted =
    let held : AllAreDone (first_rounds i 0 files) done = holds_from_permutation (first_rounds i 0 files) performed done run.same same sorted in
    rw (first_rounds_all i files short) at held

-- a look-up in a file and a loop over the files tell an element so
pub found : {X : Type 0} (xs : List X) (i : ℕ) (x : X) → i < length xs → x ≡ get_or xs i x → slice_get xs i ≡ Some x
found [] i x below is = absurd (omega (arith, below))
found (y ∷ xs) zero x below is = ap Some (sym is)
found (y ∷ xs) (suc i) x below is = found xs i x (omega (arith, below)) is

pub found_mapped : {X Y : Type 0} (f : X → Y) (xs : List X) (k : ℕ) (x : X) → k < length xs → x ≡ get_or xs k x → slice_get (map f xs) k ≡ Some (f x)
found_mapped f [] k x below is = absurd (omega (arith, below))
found_mapped f (y ∷ xs) zero x below is = ap (λ z. Some (f z)) (sym is)
found_mapped f (y ∷ xs) (suc k) x below is = found_mapped f xs k x (omega (arith, below)) is
