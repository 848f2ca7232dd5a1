-- Requests that threads answered, and the rests of their files performed behind them, are together answered at numbers.
use Rattle.std.proofs.Common.{◌≡◌, ℕ, suc, ◌+◌, ◌<◌, ◌≤◌, true, false, List, [], ◌∷◌, ◌++◌, length, map, refl, ap, ap₂, sym, ◌∙◌, subst, arith, inl, inr, ◌⊎◌, ⊎_elim, append_assoc}
use Rattle.std.specs.Prelude.{IsTrue, IsPermutation}
use Rattle.std.specs.List.{All, AllPairs, AllZip, Contains, enumerate_from}
use Rattle.std.proofs.lemmas.List.{map-append}
use Rattle.std.proofs.lemmas.List.Elements.{All-nil, All-cons, All-append, All-weaker, All-contains, All-contains_itself, Contains-append_left, Contains-append_right, Contains-append_cases}
use Rattle.std.proofs.lemmas.List.Sorted.{IsPermutation-refl, IsPermutation-sym, IsPermutation-trans, IsPermutation-append, IsPermutation-append_comm, Contains-permutation}
use Rattle.tatp_model.specs.declared.done.Done.{Done}
use Rattle.tatp_model.specs.declared.request.Request.{Request}
use Rattle.tatp_model.specs.declared.reply.Reply.TheVariants.{Durable}
use Rattle.tatp_model.specs.Database.{Database}
use Rattle.tatp_model.specs.Transaction.{after_request}
use Rattle.tatp_model.specs.OneThread.{AllAreDone, is_sync, PrecedesInFiles, IndexedRequest, indexed_request_of, indexed_requests_from, IsPrefixOf, HoldsPrefixes}
use Rattle.run_order.specs.Runs.{Performs, Collects, SyncsFollow}
use Rattle.run_order.proofs.Pairs.{pairs_among, one_or_other}
use Rattle.run_order.proofs.Law.{Earlier, numbers_rise, earlier_pairs, syncs_durable}
use Rattle.run_order.proofs.FileOrder.{indexed, in_files_from_holding, holds_from_permutation}
use Rattle.run_order.specs.Numbers.{AreDatabases, IsAnswered, Differ, FollowsInFile, IsNumbered, AreNumbered, AreAnswered}
use Rattle.run_order.specs.Rests.{IsUnion, PerformsBehind, firsts_of, rests_of, files_of, LengthsAre, shifted, AreAnsweredUpTo, AreAnsweredOn, PerformsRests, NumbersRests, LawOfRests, LawOfRestNumbers, LawOfSyncs}
use Rattle.run_order.proofs.Members.{contains_map, map_contains}
use Rattle.run_order.proofs.Performing.{performs_behind, answer_stays}

-- ---- requests at their indices
abbrev moved : (ℕ → ℕ) → IndexedRequest → IndexedRequest
moved counts r = record r { index = counts r.file + r.index }

abbrev both : List (List Request) → List (List Request) → List (List Request)
both [] qs = []
both (p ∷ ps) [] = p ∷ both ps []
both (p ∷ ps) (q ∷ qs) = (p ++ q) ∷ both ps qs

enumerate_both : (n : ℕ) (xs ys : List Request) → enumerate_from n (xs ++ ys) ≡ enumerate_from n xs ++ enumerate_from (n + length xs) ys
enumerate_both n [] ys = let e : n ≡ n + 0 = omega arith in ap (λ (m : ℕ). enumerate_from m ys) e
enumerate_both n (x ∷ xs) ys =
    let e : n + 1 + length xs ≡ n + suc (length xs) = omega arith in
    ap (λ (l : List (ℕ × Request)). (n, x) ∷ l) (enumerate_both (n + 1) xs ys ∙ ap (λ (m : ℕ). enumerate_from (n + 1) xs ++ enumerate_from m ys) e)

move_one : (counts : ℕ → ℕ) (file n m : ℕ) (ys : List Request) → counts file + n ≡ m → map (moved counts) (map (indexed file) (enumerate_from n ys)) ≡ map (indexed file) (enumerate_from m ys)
move_one counts file n m [] e = refl
move_one counts file n m (y ∷ ys) e =
    ap₂ (λ (k : ℕ) (l : List IndexedRequest). indexed file (k, y) ∷ l) e (move_one counts file (n + 1) (m + 1) ys (omega arith))

four : {X : Type 0} (a p c q z : List X) → IsPermutation (p ++ q) z → IsPermutation ((a ++ p) ++ (c ++ q)) ((a ++ c) ++ z)
four a p c q z same =
    let one : IsPermutation ((p ++ c) ++ q) ((c ++ p) ++ q) = IsPermutation-append (p ++ c) (c ++ p) q q (IsPermutation-append_comm p c) (IsPermutation-refl q) in
    let two : IsPermutation (c ++ (p ++ q)) (c ++ z) = IsPermutation-append c c (p ++ q) z (IsPermutation-refl c) same in
    let three : IsPermutation (p ++ (c ++ q)) (c ++ z) =
    IsPermutation-trans (p ++ (c ++ q)) (c ++ (p ++ q)) (c ++ z)
    (subst (λ (l : _). IsPermutation l (c ++ (p ++ q))) (append_assoc p c q) (subst (λ (l : _). IsPermutation ((p ++ c) ++ q) l) (append_assoc c p q) one)) two in
    subst (λ (l : _). IsPermutation l ((a ++ c) ++ z)) (sym (append_assoc a p (c ++ q)))
    (subst (λ (l : _). IsPermutation (a ++ (p ++ (c ++ q))) l) (sym (append_assoc a c z)) (IsPermutation-append a a (p ++ (c ++ q)) (c ++ z) (IsPermutation-refl a) three))

-- the first requests of files, and behind them those of the rests
union_requests : (counts : ℕ → ℕ) (file : ℕ) (ps qs : List (List Request)) → LengthsAre counts file ps → length ps ≡ length qs → IsPermutation (indexed_requests_from file ps ++ map (moved counts) (indexed_requests_from file qs)) (indexed_requests_from file (both ps qs))
union_requests counts file [] [] lengths long = IsPermutation-refl []
union_requests counts file [] (q ∷ qs) lengths long = absurd (omega arith)
union_requests counts file (p ∷ ps) [] lengths long = absurd (omega arith)
union_requests counts file (p ∷ ps) (q ∷ qs) lengths long =
    let a = map (indexed file) (enumerate_from 0 p) in
    let b = map (indexed file) (enumerate_from 0 q) in
    let c = map (indexed file) (enumerate_from (length p) q) in
    let rest = union_requests counts (file + 1) ps qs lengths.1 (omega arith) in
    let here : map (moved counts) b ≡ c = move_one counts file 0 (length p) q (let l = lengths.0 in omega arith) in
    let zero_left : 0 + length p ≡ length p = omega arith in
    let whole : map (indexed file) (enumerate_from 0 (p ++ q)) ≡ a ++ c =
    ap (map (indexed file)) (enumerate_both 0 p q) ∙ map-append (indexed file) (enumerate_from 0 p) (enumerate_from (0 + length p) q) ∙ ap (λ (m : ℕ). a ++ map (indexed file) (enumerate_from m q)) zero_left in
    let left : map (moved counts) (b ++ indexed_requests_from (file + 1) qs) ≡ c ++ map (moved counts) (indexed_requests_from (file + 1) qs) =
    map-append (moved counts) b (indexed_requests_from (file + 1) qs) ∙ ap (λ (l : List IndexedRequest). l ++ map (moved counts) (indexed_requests_from (file + 1) qs)) here in
    rw (left, whole) (four a (indexed_requests_from (file + 1) ps) c (map (moved counts) (indexed_requests_from (file + 1) qs)) (indexed_requests_from (file + 1) (both ps qs)) rest)

-- a request of the first ones stands before the rest of its file
under_one : (file n : ℕ) (xs : List Request) → All (λ r. (r.file ≡ file) × (r.index < n + length xs)) (map (indexed file) (enumerate_from n xs))
under_one file n [] = All-nil (λ r. (r.file ≡ file) × (r.index < n + 0))
under_one file n (x ∷ xs) =
    All-cons (λ r. (r.file ≡ file) × (r.index < n + suc (length xs))) (indexed file (n, x)) (map (indexed file) (enumerate_from (n + 1) xs)) (refl, omega arith)
    (All-weaker (λ r. (r.file ≡ file) × (r.index < n + 1 + length xs)) (λ r. (r.file ≡ file) × (r.index < n + suc (length xs))) (λ r h. (h.0, (let l = h.1 in omega arith))) (map (indexed file) (enumerate_from (n + 1) xs)) (under_one file (n + 1) xs))

firsts_under : (counts : ℕ → ℕ) (file : ℕ) (ps : List (List Request)) → LengthsAre counts file ps → All (λ r. r.index < counts r.file) (indexed_requests_from file ps)
firsts_under counts file [] lengths = All-nil (λ r. r.index < counts r.file)
firsts_under counts file (p ∷ ps) lengths =
    All-append (λ r. r.index < counts r.file) (map (indexed file) (enumerate_from 0 p)) (indexed_requests_from (file + 1) ps)
    (All-weaker (λ r. (r.file ≡ file) × (r.index < 0 + length p)) (λ r. r.index < counts r.file) (λ r h. let l = lengths.0 in let i = h.1 in subst (λ (f : ℕ). r.index < counts f) (sym h.0) (omega arith)) (map (indexed file) (enumerate_from 0 p)) (under_one file 0 p))
    (firsts_under counts (file + 1) ps lengths.1)

parted_prefix : (parts : List (List Request × List Request)) (qs : List (List Request)) → AllZip IsPrefixOf qs (rests_of parts) → AllZip IsPrefixOf (both (firsts_of parts) qs) (files_of parts) × (length (firsts_of parts) ≡ length qs)
parted_prefix [] [] prefixes = (tt, refl)
parted_prefix [] (q ∷ qs) prefixes = absurd prefixes
parted_prefix (p ∷ parts) [] prefixes = absurd prefixes
parted_prefix (p ∷ parts) (q ∷ qs) prefixes =
    let rest = parted_prefix parts qs prefixes.1 in
    (((prefixes.0.0, ap (λ (l : List Request). p.0 ++ l) prefixes.0.1 ∙ sym (append_assoc p.0 q prefixes.0.0)), rest.0), (let l = rest.1 in omega arith))

map_requests : (counts : ℕ → ℕ) (done : List Done) → map indexed_request_of (map (shifted counts) done) ≡ map (moved counts) (map indexed_request_of done)
map_requests counts [] = refl
map_requests counts (d ∷ done) = ap (λ (l : List IndexedRequest). indexed_request_of (shifted counts d) ∷ l) (map_requests counts done)

in_files_once : (d e : Done) → PrecedesInFiles d e → PrecedesInFiles e d → ⊥
in_files_once d e before after =
    ⊎_elim (λ p. ⊎_elim (λ q. absurd (omega (arith, p, q))) (λ q. absurd (omega (arith, p, q.0))) after) (λ p. ⊎_elim (λ q. absurd (omega (arith, p.0, q))) (λ q. absurd (omega (arith, p.1, q.1))) after) before

module _ (first limit last : ℕ) (db : Database) (counts : ℕ → ℕ) (parts : List (List Request × List Request)) (threads performed collected done : List Done) (rests : NumbersRests first limit last db counts parts threads performed collected done) where
  p : Performs last limit db performed
  p = rests.performs

  c : Collects (rests_of parts) performed collected
  c = rests.collects

  same : IsPermutation (threads ++ map (shifted counts) collected) done
  same = rests.union.same

  sorted : AllPairs PrecedesInFiles done
  sorted = rests.union.sorted

  -- one of those done was answered counts a thread, or performed behind, at another index
  which : (d : Done) → Contains done d → Contains threads d ⊎ ((e : Done) × Contains performed e × (shifted counts e ≡ d))
  which d at =
      ⊎_elim (λ here. inl here)
      (λ there. let r = map_contains (shifted counts) collected d there in inr (r.0, Contains-permutation collected performed r.0 (IsPermutation-sym performed collected c.same) r.1, r.2))
      (Contains-append_cases threads (map (shifted counts) collected) d (Contains-permutation done (threads ++ map (shifted counts) collected) d (IsPermutation-sym (threads ++ map (shifted counts) collected) done same) at))

  of_threads : (d : Done) → Contains threads d → Contains done d
  of_threads d at = Contains-permutation (threads ++ map (shifted counts) collected) done d same (Contains-append_left threads (map (shifted counts) collected) d at)

  of_performed : (e : Done) → Contains performed e → Contains done (shifted counts e)
  of_performed e at = Contains-permutation (threads ++ map (shifted counts) collected) done (shifted counts e) same (Contains-append_right threads (map (shifted counts) collected) (shifted counts e) (contains_map (shifted counts) collected e (Contains-permutation performed collected e c.same at)))

  -- ---- the requests
  held : HoldsPrefixes (files_of parts) done
  held =
      let both_prefix = parted_prefix parts c.held.0 c.held.1 in
      let asked : IsPermutation (map indexed_request_of (threads ++ map (shifted counts) collected)) (indexed_requests_from 0 (both (firsts_of parts) c.held.0)) =
      rw (map-append indexed_request_of threads (map (shifted counts) collected), map_requests counts collected, rests.all, c.held.2) (union_requests counts 0 (firsts_of parts) c.held.0 rests.lengths both_prefix.1) in
      (both (firsts_of parts) c.held.0, both_prefix.0, holds_from_permutation (both (firsts_of parts) c.held.0) (threads ++ map (shifted counts) collected) done asked same sorted)

  -- ---- each request alone
  later : (e : Done) → Contains performed e → (last ≤ e.number) × (e.wrote ≡ true → last < e.number)
  later e at = All-contains (λ x. (last ≤ x.number) × (x.wrote ≡ true → last < x.number)) performed e (numbers_rise last performed p.numbered) at

  early : (d : Done) → Contains threads d → d.number ≤ last
  early d at = All-contains (λ x. x.number ≤ last) threads d rests.upto at

  numbered_one : (d : Done) → Contains done d → IsNumbered first d
  numbered_one d at = ⊎_elim
      (λ here. All-contains (IsNumbered first) threads d rests.numbered.each here)
      (λ r. subst (λ (x : Done). IsNumbered first x) r.2 (
      let l = later r.0 r.1 in let f = rests.from in
      record {
        over = λ w. let o = l.1 w in omega arith;
        from = λ n. let o = l.0 in omega arith;
        durable = All-contains (λ x. is_sync x.request ≡ true → (x.reply ≡ Durable) × (x.wrote ≡ false)) performed r.0 (syncs_durable limit db performed p.replies) r.1;
      }))
      (which d at)

  earlier : AllPairs Earlier performed
  earlier = earlier_pairs last performed p.numbered p.rounds

  in_threads : AllPairs PrecedesInFiles threads
  in_threads = in_files_from_holding (firsts_of parts) threads rests.all

  index_under : (d : Done) → Contains threads d → d.index < counts d.file
  index_under d at =
      let all : All (λ r. r.index < counts r.file) (map indexed_request_of threads) = rw rests.all (firsts_under counts 0 (firsts_of parts) rests.lengths) in
      All-contains (λ r. r.index < counts r.file) (map indexed_request_of threads) (indexed_request_of d) all (contains_map indexed_request_of threads d at)

  -- two of them, in the order of files
  pair : (d e : Done) → Contains done d → Contains done e → PrecedesInFiles d e → Differ d e × FollowsInFile d e
  pair d e at at' before =
      ⊎_elim
      (λ here. ⊎_elim
      (λ here'. ⊎_elim
      (λ one. absurd (in_files_once d d (subst (λ (x : Done). PrecedesInFiles d x) (sym one) before) (subst (λ (x : Done). PrecedesInFiles d x) (sym one) before)))
      (λ other. ⊎_elim
      (λ r. (r.1.0, r.1.1))
      (λ r. absurd (in_files_once d e before r.0)) other)
      (one_or_other (λ u v. PrecedesInFiles u v × (Differ u v × FollowsInFile u v)) threads d e
      (λ i j f low within. (in_threads i j f low within, (rests.numbered.differ i j f low within, rests.numbered.follow i j f low within))) here here'))
      (λ r. let u = early d here in let l = later r.0 r.1 in
      subst (λ (x : Done). Differ d x × FollowsInFile d x) r.2
      ((λ w w' same. let o = l.1 w' in omega arith), (λ f n n'. record { upto = (let o = l.0 in omega arith); under = λ w. let o = l.1 w in omega arith })))
      (which e at'))
      (λ r. ⊎_elim
      (λ here'. let u = early e here' in let l = later r.0 r.1 in let under = index_under e here' in (
        (λ w w' same. let w2 : r.0.wrote ≡ true = ap (λ (x : Done). x.wrote) r.2 ∙ w in let o = l.1 w2 in let n = ap (λ (x : Done). x.number) r.2 in omega arith),
        (λ f n n'. let file = ap (λ (x : Done). x.file) r.2 in let index = ap (λ (x : Done). x.index) r.2 in
            let sf : counts r.0.file ≡ counts e.file = ap counts (file ∙ f) in
            ⊎_elim (λ less. absurd (omega arith)) (λ less. let i = less.1 in absurd (omega arith)) before),
      ))
      (λ r'. subst (λ (x : Done). Differ x e × FollowsInFile x e) r.2
      (subst (λ (y : Done). Differ (shifted counts r.0) y × FollowsInFile (shifted counts r.0) y) r'.2
      (performed_pair r.0 r'.0 r.1 r'.1 (subst (λ (x : Done). PrecedesInFiles x (shifted counts r'.0)) (sym r.2) (subst (λ (y : Done). PrecedesInFiles d y) (sym r'.2) before)))))
      (which e at'))
      (which d at)
    where
      performed_pair : (x y : Done) → Contains performed x → Contains performed y → PrecedesInFiles (shifted counts x) (shifted counts y) → Differ (shifted counts x) (shifted counts y) × FollowsInFile (shifted counts x) (shifted counts y)
      performed_pair x y cx cy before =
          ⊎_elim
          (λ one. absurd (in_files_once (shifted counts x) (shifted counts x) (subst (λ (u : Done). PrecedesInFiles (shifted counts x) (shifted counts u)) (sym one) before) (subst (λ (u : Done). PrecedesInFiles (shifted counts x) (shifted counts u)) (sym one) before)))
          (λ other. ⊎_elim
          (λ r. ((λ w w' same. let o = r.1 w' in omega arith), (λ f n n'. record { upto = r.0; under = r.1 })))
          (λ r. (
            (λ w w' same. let o = r.1 w in omega arith),
            (λ f n n'. let sf : counts x.file ≡ counts y.file = ap counts f in
                ⊎_elim (λ less. absurd (omega arith)) (λ index. let i = index.1 in ⊎_elim (λ less. absurd (omega arith)) (λ less. let j = less.1 in absurd (omega arith)) r.2) before),
          ))
          other)
          (one_or_other Earlier performed x y earlier cx cy)

  pub numbered : AreNumbered first (files_of parts) done
  numbered = record {
    held = held;
    each = All-weaker (Contains done) (IsNumbered first) numbered_one done (All-contains_itself done);
    differ = pairs_among PrecedesInFiles Differ done (λ d e at at' before. (pair d e at at' before).0) sorted;
    follow = pairs_among PrecedesInFiles FollowsInFile done (λ d e at at' before. (pair d e at at' before).1) sorted;
  }

  -- ---- the numbers of `Sync`
  abbrev SyncFollows : Done → Done → Type 0
  SyncFollows d e = d.file ≡ e.file → IsTrue (is_sync e.request) → d.number ≤ e.number

  sync_pair : SyncsFollow threads → (d e : Done) → Contains done d → Contains done e → PrecedesInFiles d e → SyncFollows d e
  sync_pair follow d e at at' before f sync =
      ⊎_elim
      (λ here. ⊎_elim
      (λ here'. ⊎_elim
      (λ one. let itself = subst (λ (x : Done). PrecedesInFiles d x) (sym one) before in absurd (in_files_once d d itself itself))
      (λ other. ⊎_elim (λ r. r.1 f sync) (λ r. absurd (in_files_once d e before r.0)) other)
      (one_or_other (λ u v. PrecedesInFiles u v × SyncFollows u v) threads d e (λ i j o low within. (in_threads i j o low within, follow i j o low within)) here here'))
      (λ r. let u = early d here in let l = (later r.0 r.1).0 in let n = ap (λ (x : Done). x.number) r.2 in omega arith)
      (which e at'))
      (λ r. ⊎_elim
      (λ here'. let under = index_under e here' in
      let file = ap (λ (x : Done). x.file) r.2 in let index = ap (λ (x : Done). x.index) r.2 in
      let sf : counts r.0.file ≡ counts e.file = ap counts (file ∙ f) in
      ⊎_elim (λ less. absurd (omega arith)) (λ less. let i = less.1 in absurd (omega arith)) before)
      (λ r'. both_performed r.0 r'.0 r.1 r'.1 r.2 r'.2)
      (which e at'))
      (which d at)
    where
      both_performed : (x y : Done) → Contains performed x → Contains performed y → shifted counts x ≡ d → shifted counts y ≡ e → d.number ≤ e.number
      both_performed x y cx cy is is' =
          let n = ap (λ (u : Done). u.number) is in let n' = ap (λ (u : Done). u.number) is' in
          ⊎_elim
          (λ one. let itself : PrecedesInFiles d d = subst (λ (u : Done). PrecedesInFiles d u) (sym is' ∙ (ap (shifted counts) (sym one) ∙ is)) before in absurd (in_files_once d d itself itself))
          (λ other. ⊎_elim (λ r. let u = r.0 in omega arith)
          (λ r. let file = ap (λ (u : Done). u.file) is in let file' = ap (λ (u : Done). u.file) is' in
          let index = ap (λ (u : Done). u.index) is in let index' = ap (λ (u : Done). u.index) is' in
          let sf : counts x.file ≡ counts y.file = ap counts (file ∙ (f ∙ sym file')) in
          ⊎_elim (λ less. absurd (omega arith)) (λ less. let i = less.1 in ⊎_elim (λ l. absurd (omega arith)) (λ l. let j = l.1 in let k = l.0 in absurd (omega arith)) r.2) before) other)
          (one_or_other Earlier performed x y earlier cx cy)

  pub syncs : SyncsFollow threads → SyncsFollow done
  syncs follow = pairs_among PrecedesInFiles SyncFollows done (sync_pair follow) sorted

module _ (first limit last : ℕ) (db : Database) (counts : ℕ → ℕ) (parts : List (List Request × List Request)) (databases : ℕ → Database) (threads performed collected done : List Done) (rests : PerformsRests first limit last db counts parts databases threads performed collected done) where
  t : AreAnsweredUpTo first limit last db (firsts_of parts) threads databases
  t = rests.answered

  gone : PerformsBehind first limit last db threads performed databases
  gone = performs_behind first limit last db threads performed databases t.ends rests.performs.numbered rests.performs.replies

  numbers : NumbersRests first limit last (databases last) counts parts threads performed collected done
  numbers = record { lengths = rests.lengths; all = t.all; numbered = t.numbered; from = t.ends.from; upto = t.ends.upto; performs = rests.performs; collects = rests.collects; union = rests.union }

  abbrev further : ℕ → Database
  further = gone.further

  which_of : (d : Done) → Contains done d → Contains threads d ⊎ ((e : Done) × Contains performed e × (shifted counts e ≡ d))
  which_of = which first limit last (databases last) counts parts threads performed collected done numbers

  -- ---- the databases
  leads : AreDatabases first limit db done further
  leads = record {
    start = gone.leads.start;
    wrote = λ n d le at w. ⊎_elim
        (λ here. gone.leads.wrote n d le (Contains-append_left threads performed d here) w)
        (λ r. gone.leads.wrote n r.0 le (Contains-append_right threads performed r.0 r.1) (record { wrote = ap (λ (x : Done). x.wrote) r.2 ∙ w.wrote; number = ap (λ (x : Done). x.number) r.2 ∙ w.number })
        ∙ ap (λ (x : Done). after_request limit (further n) x.request) r.2)
        (which_of d at);
    stays = λ n le none. gone.leads.stays n le (λ d at w. ⊎_elim
        (λ here. none d (of_threads first limit last (databases last) counts parts threads performed collected done numbers d here) w)
        (λ there. none (shifted counts d) (of_performed first limit last (databases last) counts parts threads performed collected done numbers d there) (record { wrote = w.wrote; number = w.number }))
        (Contains-append_cases threads performed d at));
  }

  answer : (d : Done) → Contains done d → is_sync d.request ≡ false → IsAnswered limit further d
  answer d at n = ⊎_elim
      (λ here. answer_stays limit databases further last d (early first limit last (databases last) counts parts threads performed collected done numbers d here) gone.go_on.upto (All-contains (λ x. is_sync x.request ≡ false → IsAnswered limit databases x) threads d t.answers here n))
      (λ r. subst (λ (x : Done). IsAnswered limit further x) r.2 (let a = All-contains (IsAnswered limit further) performed r.0 gone.answers r.1 in record { reply = a.reply; wrote = a.wrote }))
      (which_of d at)

  answers : AreAnswered limit further done
  answers = All-weaker (Contains done) (λ d. is_sync d.request ≡ false → IsAnswered limit further d) answer done (All-contains_itself done)

  answered_on : AreAnsweredOn first limit last db (files_of parts) performed done databases
  answered_on = record { further = further; go_on = gone.go_on; numbered = numbered first limit last (databases last) counts parts threads performed collected done numbers; leads = leads; answers = answers }

-- where all of the rests is done, all of the files is
both_parts : (parts : List (List Request × List Request)) → both (firsts_of parts) (rests_of parts) ≡ files_of parts
both_parts [] = refl
both_parts (p ∷ parts) = ap (λ (l : List (List Request)). (p.0 ++ p.1) ∷ l) (both_parts parts)

as_long : (parts : List (List Request × List Request)) → length (firsts_of parts) ≡ length (rests_of parts)
as_long [] = refl
as_long (p ∷ parts) = let l = as_long parts in omega arith

pub all_together : (counts : ℕ → ℕ) (parts : List (List Request × List Request)) (threads collected done : List Done) → LengthsAre counts 0 (firsts_of parts) → AllAreDone (firsts_of parts) threads → AllAreDone (rests_of parts) collected
    → IsUnion counts threads collected done → AllAreDone (files_of parts) done
all_together counts parts threads collected done lengths first rest union =
    let asked : IsPermutation (map indexed_request_of (threads ++ map (shifted counts) collected)) (indexed_requests_from 0 (both (firsts_of parts) (rests_of parts))) =
    rw (map-append indexed_request_of threads (map (shifted counts) collected), map_requests counts collected, first, rest) (union_requests counts 0 (firsts_of parts) (rests_of parts) lengths (as_long parts)) in
    subst (λ (l : List (List Request)). AllAreDone l done) (both_parts parts) (holds_from_permutation (both (firsts_of parts) (rests_of parts)) (threads ++ map (shifted counts) collected) done asked union.same union.sorted)

pub law_rests : LawOfRests
law_rests first limit last db counts parts databases threads performed collected done rests =
    answered_on first limit last db counts parts databases threads performed collected done rests

pub law_rest_numbers : LawOfRestNumbers
law_rest_numbers first limit last db counts parts threads performed collected done rests =
    numbered first limit last db counts parts threads performed collected done rests

pub law_syncs : LawOfSyncs
law_syncs first limit last db counts parts threads performed collected done rests follow =
    syncs first limit last db counts parts threads performed collected done rests follow
