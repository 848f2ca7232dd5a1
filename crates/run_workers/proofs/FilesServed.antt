-- The jobs of all files, joined, have served the files.
use Rattle.std.proofs.Common.{◌≡◌, ℕ, zero, suc, ◌+◌, ◌<◌, ◌≤◌, Bool, true, false, List, [], ◌∷◌, ◌++◌, length, take, drop, map, refl, ap, ap₂, sym, ◌∙◌, subst, arith, ⊎_elim, append_assoc}
use Rattle.std.specs.Prelude.{not, IsTrue, Any, slice_index, ⊤}
use Rattle.std.specs.List.{All, AllPairs, AllZip, Contains, enumerate_from, filter, flat_map, range_with_len, sum_by}
use Rattle.std.proofs.lemmas.List.{append-nil, length-map, length-take-le, length_push, map-append, get_or_at, take-append-drop, take_all}
use Rattle.std.proofs.lemmas.List.Concat.{length-flat_map}
use Rattle.std.proofs.lemmas.List.Elements.{All-nil, All-cons, All-head, All-tail, All-append, All-contains, All-weaker, filter-append}
use Rattle.std.proofs.lemmas.List.FromFn.{length-range_with_len}
use Rattle.std.proofs.lemmas.List.Sums.{sum_by-cons}
use Rattle.dude_base.specs.declared.sizes.Sizes.{Sizes}
use Rattle.tatp_model.specs.declared.request.Request.{Request}
use Rattle.tatp_model.specs.declared.reply.Reply.TheVariants.{Durable}
use Rattle.tatp_model.specs.declared.done.Done.{Done}
use Rattle.tatp_model.specs.OneThread.{is_sync, IndexedRequest, indexed_request_of, indexed_requests_from, AllAreDone, HoldsPrefixes, IsPrefixOf}
use Rattle.run_order.specs.Runs.{SyncsFollow}
use Rattle.tatp_model.proofs.SameElements.{first_or_other, other_among}
use Rattle.run_order.proofs.Elements.{contains_filter, filter_contains}
use Rattle.run_order.proofs.FileOrder.{indexed}
use Rattle.run_order.proofs.Pairs.{pairs_nil, pairs_append}
use Rattle.run_order.specs.Numbers.{FilesFollow, FollowsInFile}
use Rattle.run_order.specs.Rests.{LengthsAre, files_of, firsts_of}
use Rattle.legal_entries.specs.Served.{AreDoneBy, IsServed, done_of}
use Rattle.core_events.specs.Views.{Entry}
use Rattle.core_table.specs.Layout.{TableSight}
use Rattle.stm_transactions.specs.Passes.{pass_view}
use Rattle.run_workers.specs.declared.job.Job.{Job}
use Rattle.run_workers.specs.declared.jobs.Jobs.{Jobs}
use Rattle.run_workers.specs.declared.joined.Joined.{Joined}
use Rattle.run_workers.specs.declared.work_end.WorkEnd.{WorkEnd}
use Rattle.run_workers.specs.declared.work_end.WorkEnd.TheVariants.{Whole, SetAside, NoMemory, Device}
use Rattle.run_workers.specs.WorkEnd.{rank}
use Rattle.run_workers.specs.Working.{IsSynced}
use Rattle.run_workers.specs.Job.{HasWorked, requests_of}
use Rattle.run_workers.specs.Jobs.{FirstHasRoom, HasRoom, HaveWorked, MayJoin, request_count}
use Rattle.run_workers.specs.Joined.{AreCounted, AreJoined, AreServed, LawOfJobs, parts_by}

-- ---- ends
-- an end that isn't over another one's rank
whole_under : (e : WorkEnd) → rank e ≤ 0 → e ≡ Whole
whole_under Whole le = refl
whole_under SetAside le = absurd (omega arith)
whole_under NoMemory le = absurd (omega arith)
whole_under Device le = absurd (omega arith)

device_over : (e : WorkEnd) → 3 ≤ rank e → e ≡ Device
device_over Whole le = absurd (omega arith)
device_over SetAside le = absurd (omega arith)
device_over NoMemory le = absurd (omega arith)
device_over Device le = refl

-- it has an entry
abbrev keeps : Done → Bool
keeps d = not (is_sync d.request)

-- a `SYNC` is answered so
abbrev Synced : ℕ → ℕ → Done → Type 0
Synced first durable d = IsTrue (is_sync d.request) → IsSynced first durable d

-- ---- what is done of a file is of that file
of_file : (file : ℕ) (done : List Done) (asked : List (ℕ × Request)) → map indexed_request_of done ≡ map (indexed file) asked → All (λ d. d.file ≡ file) done
of_file file [] asked same = All-nil (λ d. d.file ≡ file)
of_file file (d ∷ done) [] same = absurd cc
of_file file (d ∷ done) (a ∷ asked) same =
    let head : indexed_request_of d ≡ indexed file a = cc in
    let rest : map indexed_request_of done ≡ map (indexed file) asked = cc in
    All-cons (λ x. x.file ≡ file) d done (ap (λ (r : IndexedRequest). r.file) head) (of_file file done asked rest)

module _ {X K : Type 0} (t : TableSight K) (s : Sizes) where
  abbrev done_in : Job X → List Done
  done_in job = job.done.items

  abbrev entries_in : Job X → List Entry
  entries_in job = (pass_view job.pass).entries

  abbrev count_in : Job X → ℕ
  count_in job = length job.done.items

  -- jobs that have worked, one for each file from this one on
  abbrev OfFiles : ℕ → List (List Request) → List (Job X) → Type 0
  OfFiles file [] [] = ⊤
  OfFiles file [] (j ∷ js) = ⊥
  OfFiles file (r ∷ rs) [] = ⊥
  OfFiles file (r ∷ rs) (j ∷ js) = (j.file ≡ file) × HasWorked t s r j × OfFiles (file + 1) rs js

  of_files : (before rest : List (List Request)) (js : List (Job X)) → All (λ j. HasWorked t s (requests_of (before ++ rest) j.file) j) js → map (λ j. j.file) js ≡ range_with_len (length before) (length rest) → OfFiles (length before) rest js
  of_files before [] [] each order = tt
  of_files before [] (j ∷ js) each order = absurd cc
  of_files before (r ∷ rs) [] each order = absurd cc
  of_files before (r ∷ rs) (j ∷ js) each order =
      let head : j.file ≡ length before = cc in
      let rest : map (λ j. j.file) js ≡ range_with_len (length before + 1) (length rs) = cc in
      let long : length (before ++ r ∷ []) ≡ length before + 1 = length_push before r in
      let same : (before ++ r ∷ []) ++ rs ≡ before ++ r ∷ rs = append_assoc before (r ∷ []) rs in
      let its : requests_of (before ++ r ∷ rs) j.file ≡ r = ap (λ (n : ℕ). requests_of (before ++ r ∷ rs) n) head ∙ get_or_at before r rs [] (length before) refl in
      let further : OfFiles (length (before ++ r ∷ [])) rs js = of_files (before ++ r ∷ []) rs js
      (subst (λ (fs : List (List Request)). All (λ j. HasWorked t s (requests_of fs j.file) j) js) (sym same) (All-tail (λ j. HasWorked t s (requests_of (before ++ r ∷ rs) j.file) j) j js each))
      (rest ∙ ap (λ (n : ℕ). range_with_len n (length rs)) (sym long)) in
      (head, subst (λ (q : List Request). HasWorked t s q j) its (All-head (λ j. HasWorked t s (requests_of (before ++ r ∷ rs) j.file) j) j js each), subst (λ (n : ℕ). OfFiles n rs js) long further)

  -- ---- of each file the first requests
  abbrev parts : List (Job X) → List (List Request) → List (List Request × List Request)
  parts js files = parts_by (map count_in js) files

  files_same : (k : ℕ) (files : List (List Request)) (js : List (Job X)) → OfFiles k files js → files_of (parts js files) ≡ files
  files_same k [] [] h = refl
  files_same k [] (j ∷ js) h = absurd h
  files_same k (r ∷ rs) [] h = absurd h
  files_same k (r ∷ rs) (j ∷ js) h = ap₂ (λ (q : List Request) (l : List (List Request)). q ∷ l) (take-append-drop (count_in j) r) (files_same (k + 1) rs js h.2)

  lengths_same : (before : List ℕ) (files : List (List Request)) (js : List (Job X)) → OfFiles (length before) files js → LengthsAre (slice_index (before ++ map count_in js)) (length before) (firsts_of (parts js files))
  lengths_same before [] [] h = tt
  lengths_same before [] (j ∷ js) h = absurd h
  lengths_same before (r ∷ rs) [] h = absurd h
  lengths_same before (r ∷ rs) (j ∷ js) h =
      let n = count_in j in
      let long : length (before ++ n ∷ []) ≡ length before + 1 = length_push before n in
      let same : (before ++ n ∷ []) ++ map count_in js ≡ before ++ n ∷ map count_in js = append_assoc before (n ∷ []) (map count_in js) in
      let further : LengthsAre (slice_index ((before ++ n ∷ []) ++ map count_in js)) (length (before ++ n ∷ [])) (firsts_of (parts js rs)) = lengths_same (before ++ n ∷ []) rs js (subst (λ (k : ℕ). OfFiles k rs js) (sym long) h.2) in (
        get_or_at before n (map count_in js) 0 (length before) refl ∙ sym (length-take-le n r h.1.has_done.few),
        subst (λ (k : ℕ). LengthsAre (slice_index (before ++ n ∷ map count_in js)) k (firsts_of (parts js rs))) long
            (subst (λ (l : List ℕ). LengthsAre (slice_index l) (length (before ++ n ∷ [])) (firsts_of (parts js rs))) same further),
      )

  all_done : (k : ℕ) (files : List (List Request)) (js : List (Job X)) → OfFiles k files js → map indexed_request_of (flat_map done_in js) ≡ indexed_requests_from k (firsts_of (parts js files))
  all_done k [] [] h = refl
  all_done k [] (j ∷ js) h = absurd h
  all_done k (r ∷ rs) [] h = absurd h
  all_done k (r ∷ rs) (j ∷ js) h =
      let first : map indexed_request_of (done_in j) ≡ map (indexed k) (enumerate_from 0 (take (count_in j) r)) = h.1.has_done.first ∙ ap (λ (f : ℕ). map (indexed f) (enumerate_from 0 (take (count_in j) r))) h.0 in
      map-append indexed_request_of (done_in j) (flat_map done_in js) ∙ ap₂ (λ (a b : List IndexedRequest). a ++ b) first (all_done (k + 1) rs js h.2)

  prefixes : (k : ℕ) (files : List (List Request)) (js : List (Job X)) → OfFiles k files js → AllZip IsPrefixOf (firsts_of (parts js files)) files
  prefixes k [] [] h = tt
  prefixes k [] (j ∷ js) h = absurd h
  prefixes k (r ∷ rs) [] h = absurd h
  prefixes k (r ∷ rs) (j ∷ js) h = ((drop (count_in j) r, sym (take-append-drop (count_in j) r)), prefixes (k + 1) rs js h.2)

  -- ---- entries
  entries_same : (k : ℕ) (files : List (List Request)) (js : List (Job X)) → OfFiles k files js → map done_of (flat_map entries_in js) ≡ filter keeps (flat_map done_in js)
  entries_same k [] [] h = refl
  entries_same k [] (j ∷ js) h = absurd h
  entries_same k (r ∷ rs) [] h = absurd h
  entries_same k (r ∷ rs) (j ∷ js) h =
      map-append done_of (entries_in j) (flat_map entries_in js) ∙ ap₂ (λ (a b : List Done). a ++ b) h.1.has_done.entries (entries_same (k + 1) rs js h.2) ∙ sym (filter-append keeps (done_in j) (flat_map done_in js))

  served_all : (k : ℕ) (files : List (List Request)) (js : List (Job X)) → OfFiles k files js → All (IsServed s) (flat_map entries_in js)
  served_all k [] [] h = All-nil (IsServed s)
  served_all k [] (j ∷ js) h = absurd h
  served_all k (r ∷ rs) [] h = absurd h
  served_all k (r ∷ rs) (j ∷ js) h = All-append (IsServed s) (entries_in j) (flat_map entries_in js) h.1.has_done.served (served_all (k + 1) rs js h.2)

  -- ---- the numbers of `SYNC`
  synced_all : (durable k : ℕ) (files : List (List Request)) (js : List (Job X)) → OfFiles k files js → All (λ j. j.pass.numbers.durable ≤ durable) js → All (Synced t.setup.first durable) (flat_map done_in js)
  synced_all durable k [] [] h upto = All-nil (Synced t.setup.first durable)
  synced_all durable k [] (j ∷ js) h upto = absurd h
  synced_all durable k (r ∷ rs) [] h upto = absurd h
  synced_all durable k (r ∷ rs) (j ∷ js) h upto = All-append (Synced t.setup.first durable) (done_in j) (flat_map done_in js)
      (All-weaker (Synced t.setup.first j.pass.numbers.durable) (Synced t.setup.first durable)
      (λ d f sync. let i = f sync in record { reply = i.reply; silent = i.silent; from = i.from; upto = (let u = i.upto in let o = All-head (λ (x : Job X). x.pass.numbers.durable ≤ durable) j js upto in omega arith) }) (done_in j) h.1.has_done.syncs)
      (synced_all durable (k + 1) rs js h.2 (All-tail (λ (x : Job X). x.pass.numbers.durable ≤ durable) j js upto))

  -- ---- the order of numbers in files
  from_file : (k : ℕ) (files : List (List Request)) (js : List (Job X)) → OfFiles k files js → All (λ d. k ≤ d.file) (flat_map done_in js)
  from_file k [] [] h = All-nil (λ (d : Done). k ≤ d.file)
  from_file k [] (j ∷ js) h = absurd h
  from_file k (r ∷ rs) [] h = absurd h
  from_file k (r ∷ rs) (j ∷ js) h = All-append (λ (d : Done). k ≤ d.file) (done_in j) (flat_map done_in js)
      (All-weaker (λ (d : Done). d.file ≡ j.file) (λ (d : Done). k ≤ d.file) (λ d f. let is = h.0 in omega arith) (done_in j) (of_file j.file (done_in j) (enumerate_from 0 (take (count_in j) r)) h.1.has_done.first))
      (All-weaker (λ (d : Done). k + 1 ≤ d.file) (λ (d : Done). k ≤ d.file) (λ d f. omega arith) (flat_map done_in js) (from_file (k + 1) rs js h.2))

  module _ (R : Done → Done → Type 0) (apart : (d e : Done) → d.file < e.file → R d e) (inside : (r : List Request) (j : Job X) → HasWorked t s r j → AllPairs R (done_in j)) where
    pairs_all : (k : ℕ) (files : List (List Request)) (js : List (Job X)) → OfFiles k files js → AllPairs R (flat_map done_in js)
    pairs_all k [] [] h = pairs_nil R
    pairs_all k [] (j ∷ js) h = absurd h
    pairs_all k (r ∷ rs) [] h = absurd h
    pairs_all k (r ∷ rs) (j ∷ js) h =
        pairs_append R (λ (d : Done). d.file ≡ j.file) (λ (d : Done). k + 1 ≤ d.file) (λ d e f g. apart d e (let is = h.0 in omega arith)) (done_in j) (flat_map done_in js)
        (of_file j.file (done_in j) (enumerate_from 0 (take (count_in j) r)) h.1.has_done.first) (from_file (k + 1) rs js h.2) (inside r j h.1) (pairs_all (k + 1) rs js h.2)

  -- ---- counts
  few_all : (k : ℕ) (files : List (List Request)) (js : List (Job X)) → OfFiles k files js → sum_by count_in js ≤ request_count files
  few_all k [] [] h = omega arith
  few_all k [] (j ∷ js) h = absurd h
  few_all k (r ∷ rs) [] h = absurd h
  few_all k (r ∷ rs) (j ∷ js) h = let few = h.1.has_done.few in let rest = few_all (k + 1) rs js h.2 in
      omega (arith, sum_by-cons count_in j js, sum_by-cons (λ (q : List Request). length q) r rs)

  -- where a job ended so, requests are left
  some_left : (end : WorkEnd) → ((r : List Request) (j : Job X) → HasWorked t s r j → j.end ≡ end → count_in j < length r) → (k : ℕ) (files : List (List Request)) (js : List (Job X)) → OfFiles k files js → Contains (map (λ j. j.end) js) end → sum_by count_in js < request_count files
  some_left end leaves k [] [] h c = absurd (omega (arith, c.1))
  some_left end leaves k [] (j ∷ js) h c = absurd h
  some_left end leaves k (r ∷ rs) [] h c = absurd h
  some_left end leaves k (r ∷ rs) (j ∷ js) h c = ⊎_elim
      (λ here. let less = leaves r j h.1 here in let rest = few_all (k + 1) rs js h.2 in
      omega (arith, sum_by-cons count_in j js, sum_by-cons (λ (q : List Request). length q) r rs))
      (λ there. let few = h.1.has_done.few in let rest = some_left end leaves (k + 1) rs js h.2 there in
      omega (arith, sum_by-cons count_in j js, sum_by-cons (λ (q : List Request). length q) r rs))
      (first_or_other end j.end (map (λ j. j.end) js) c)

  -- where all ended whole or with requests set aside, the passes may draw a number for each that is left
  draws_one : (r : List Request) (j : Job X) → HasWorked t s r j → (e : WorkEnd) → j.end ≡ e → rank e ≤ 1 → length r ≤ count_in j + j.pass.numbers.left
  draws_one r j h Whole is le = let w = h.whole is in omega arith
  draws_one r j h SetAside is le = (h.set_aside is).draws
  draws_one r j h NoMemory is le = absurd (omega arith)
  draws_one r j h Device is le = absurd (omega arith)

  draws_all : (k : ℕ) (files : List (List Request)) (js : List (Job X)) → OfFiles k files js → All (λ e. rank e ≤ 1) (map (λ j. j.end) js) → request_count files ≤ sum_by count_in js + sum_by (λ j. j.pass.numbers.left) js
  draws_all k [] [] h low = omega arith
  draws_all k [] (j ∷ js) h low = absurd h
  draws_all k (r ∷ rs) [] h low = absurd h
  draws_all k (r ∷ rs) (j ∷ js) h low =
      let here = draws_one r j h.1 j.end refl (All-head (λ e. rank e ≤ 1) j.end (map (λ j. j.end) js) low) in
      let rest = draws_all (k + 1) rs js h.2 (All-tail (λ e. rank e ≤ 1) j.end (map (λ j. j.end) js) low) in
      omega (arith, sum_by-cons count_in j js, sum_by-cons (λ (x : Job X). x.pass.numbers.left) j js, sum_by-cons (λ (q : List Request). length q) r rs)

  -- where all ended whole, the first requests are all
  whole_all : (k : ℕ) (files : List (List Request)) (js : List (Job X)) → OfFiles k files js → All (λ e. rank e ≤ 0) (map (λ j. j.end) js) → firsts_of (parts js files) ≡ files
  whole_all k [] [] h low = refl
  whole_all k [] (j ∷ js) h low = absurd h
  whole_all k (r ∷ rs) [] h low = absurd h
  whole_all k (r ∷ rs) (j ∷ js) h low =
      let whole = h.1.whole (whole_under j.end (All-head (λ e. rank e ≤ 0) j.end (map (λ j. j.end) js) low)) in
      ap₂ (λ (q : List Request) (l : List (List Request)). q ∷ l) (take_all (count_in j) r (omega arith)) (whole_all (k + 1) rs js h.2 (All-tail (λ e. rank e ≤ 0) j.end (map (λ j. j.end) js) low))

  -- ---- faults
  fault_from : (k : ℕ) (files : List (List Request)) (js : List (Job X)) → OfFiles k files js → Contains (map (λ j. j.end) js) Device → Any (λ j. j.pass.numbers.met_fault ≡ true) js
  fault_from k [] [] h c = absurd (omega (arith, c.1))
  fault_from k [] (j ∷ js) h c = absurd h
  fault_from k (r ∷ rs) [] h c = absurd h
  fault_from k (r ∷ rs) (j ∷ js) h c = ⊎_elim
      (λ here. (0, j, (omega arith), refl, h.1.device.0 here))
      (λ there. let a = fault_from (k + 1) rs js h.2 there in (suc a.0, a.1, (let w = a.2 in omega arith), a.3, a.4))
      (first_or_other Device j.end (map (λ j. j.end) js) c)

  fault_to : (k : ℕ) (files : List (List Request)) (js : List (Job X)) → OfFiles k files js → Any (λ j. j.pass.numbers.met_fault ≡ true) js → Contains (map (λ j. j.end) js) Device
  fault_to k [] [] h a = absurd (let w = a.2 in omega arith)
  fault_to k [] (j ∷ js) h a = absurd h
  fault_to k (r ∷ rs) [] h a = absurd h
  fault_to k (r ∷ rs) (j ∷ js) h (zero, x, within, is, met) = (0, omega arith, h.1.device.1 (ap (λ (y : Job X). y.pass.numbers.met_fault) is ∙ met))
  fault_to k (r ∷ rs) (j ∷ js) h (suc n, x, within, is, met) = other_among Device j.end (map (λ j. j.end) js) (fault_to (k + 1) rs js h.2 (n, x, (omega arith), is, met))

  -- ---- together
  module _ (files : List (List Request)) (jobs : List (Job X)) (joined : Joined X) (worked : HaveWorked t s files jobs) (a : AreJoined t jobs joined) where
    all : OfFiles 0 files jobs
    all = of_files [] files jobs worked.each worked.in_order

    abbrev firsts : List (List Request)
    firsts = firsts_of (parts_by joined.counts.items files)

    firsts_are : firsts ≡ firsts_of (parts jobs files)
    firsts_are = ap (λ (l : List ℕ). firsts_of (parts_by l files)) a.counts

    all_are : AllAreDone firsts joined.done.items
    all_are = ap (map indexed_request_of) a.done ∙ all_done 0 files jobs all ∙ sym (ap (indexed_requests_from 0) firsts_are)

    held : HoldsPrefixes files joined.done.items
    held = (firsts, subst (λ (l : List (List Request)). AllZip IsPrefixOf l files) (sym firsts_are) (prefixes 0 files jobs all), all_are)

    counted : AreCounted files joined
    counted = record {
      files_are = ap (λ (l : List ℕ). files_of (parts_by l files)) a.counts ∙ files_same 0 files jobs all;
      lengths = subst (λ (l : List ℕ). LengthsAre (slice_index l) 0 (firsts_of (parts_by l files))) (sym a.counts) (lengths_same [] files jobs all);
      all = all_are;
      held = held;
    }

    same : map done_of (pass_view joined.pass).entries ≡ filter keeps joined.done.items
    same = ap (map done_of) a.pass.entries ∙ entries_same 0 files jobs all ∙ sym (ap (filter keeps) a.done)

    syncs : All (Synced t.setup.first joined.pass.numbers.durable) joined.done.items
    syncs = subst (All (Synced t.setup.first joined.pass.numbers.durable)) (sym a.done) (synced_all joined.pass.numbers.durable 0 files jobs all a.pass.durable)

    follow : FilesFollow joined.done.items
    follow = subst FilesFollow (sym a.done) (pairs_all FollowsInFile (λ d e less f no no2. absurd (omega arith)) (λ r j h. h.has_done.follow) 0 files jobs all)

    syncs_follow : SyncsFollow joined.done.items
    syncs_follow = subst SyncsFollow (sym a.done) (pairs_all (λ d e. d.file ≡ e.file → IsTrue (is_sync e.request) → d.number ≤ e.number) (λ d e less f sync. absurd (omega arith)) (λ r j h. h.has_done.syncs_follow) 0 files jobs all)

    done_by : AreDoneBy firsts (pass_view joined.pass).entries joined.done.items
    done_by = record {
      held = (firsts, itself firsts, all_are);
      follow = follow;
      same = λ d no_sync. (
        (λ c. subst (λ (l : List Done). Contains l d) (sym same) (contains_filter keeps joined.done.items d c (ap not no_sync))),
        (λ c. (filter_contains keeps joined.done.items d (subst (λ (l : List Done). Contains l d) same c)).0),
      );
      syncs = All-weaker (Synced t.setup.first joined.pass.numbers.durable) (λ d. is_sync d.request ≡ true → (d.reply ≡ Durable) × (d.wrote ≡ false)) (λ d f sync. let i = f sync in (i.reply, i.silent)) joined.done.items syncs;
    }
      where
        itself : (l : List (List Request)) → AllZip IsPrefixOf l l
        itself [] = tt
        itself (r ∷ rs) = (([], sym (append-nil r)), itself rs)

    count : length joined.done.items ≡ sum_by count_in jobs
    count = ap length a.done ∙ length-flat_map done_in jobs

    under : (end : WorkEnd) → joined.end ≡ end → All (λ e. rank e ≤ rank end) (map (λ j. j.end) jobs)
    under end is = subst (λ (x : WorkEnd). All (λ e. rank e ≤ rank x) (map (λ j. j.end) jobs)) is a.end.others

    among : (end : WorkEnd) → (end ≡ Whole → ⊥) → joined.end ≡ end → Contains (map (λ j. j.end) jobs) end
    among end other is = ⊎_elim (λ whole. absurd (other (sym is ∙ whole))) (λ c. subst (λ (x : WorkEnd). Contains (map (λ j. j.end) jobs) x) is c) a.end.among

    served : AreServed t s files joined
    served = record {
      rests = a.pass.rests;
      all = a.pass.threads ∙ worked.threads;
      counted = counted;
      served = subst (All (IsServed s)) (sym a.pass.entries) (served_all 0 files jobs all);
      done_by = done_by;
      syncs_follow = syncs_follow;
      syncs = syncs;
      whole = λ is. subst (λ (l : List (List Request)). AllAreDone l joined.done.items) (firsts_are ∙ whole_all 0 files jobs all (under Whole is)) all_are;
      set_aside = λ is. (
        (let n = count in let c = some_left SetAside (λ r j h e. (h.set_aside e).left) 0 files jobs all (among SetAside (λ e. cc) is) in omega arith),
        (let n = count in let l = a.pass.left in let d = draws_all 0 files jobs all (under SetAside is) in omega arith),
      );
      no_memory = λ is. (let n = count in let c = some_left NoMemory (λ r j h e. h.no_memory e) 0 files jobs all (among NoMemory (λ e. cc) is) in omega arith);
      device = (
        (λ is. a.pass.met_fault.1 (fault_from 0 files jobs all (among Device (λ e. cc) is))),
        (λ met. device_over joined.end (All-contains (λ e. rank e ≤ rank joined.end) (map (λ j. j.end) jobs) Device a.end.others (fault_to 0 files jobs all (a.pass.met_fault.0 met)))),
      );
    }

pub law_jobs : {X K : Type 0} (t : TableSight K) (s : Sizes) (files : List (List Request)) (jobs : List (Job X)) (joined : Joined X) → LawOfJobs t s files jobs joined
law_jobs t s files jobs joined worked a = served t s files jobs joined worked a

-- the room of the first one is enough for less
first_fits : {X : Type 0} (count more : ℕ) (jobs : List (Job X)) → count ≤ more → FirstHasRoom more jobs → FirstHasRoom count jobs
first_fits count more [] le h = tt
first_fits count more (j ∷ js) le h = omega (arith, le, h)

-- jobs that have worked may be joined, where there is room for what may be done
pub may_join : {X K : Type 0} (t : TableSight K) (s : Sizes) (files : List (List Request)) (jobs : Jobs X) → 0 < length files → HaveWorked t s files jobs.each.items → HasRoom files jobs → MayJoin t jobs
may_join t s files jobs some worked room =
    let js = jobs.each.items in
    let few = few_all t s 0 files js (of_files t s [] files js worked.each worked.in_order) in
    let long = length-map js (λ j. j.file) in
    let count = ap length worked.in_order ∙ length-range_with_len 0 (length files) in
    let counted = room.counts.1 in
    record {
      some = omega arith;
      rests = λ k d within. (worked.each k d within).has_done.rests;
      done = first_fits (sum_by (λ j. length j.done.items) js) (request_count files) js few room.done;
      counts = (room.counts.0, omega arith);
    }
