-- The run of one file, one request after another, without `SYNC`: its list of `Done` is its own printed order.
use Rattle.std.proofs.Common.{◌≡◌, ℕ, ◌+◌, ◌<◌, ◌≤◌, Bool, true, false, not, cond, List, [], ◌∷◌, ◌++◌, length, get_or, map, refl, ap, ap₂, sym, ◌∙◌, arith, inl, inr, ⊎_elim, append-nil, length-append, zero-add}
use Rattle.std.specs.Prelude.{if◌then◌else◌}
use Rattle.std.specs.List.{All, AllPairs, filter, enumerate_from}
use Rattle.std.proofs.lemmas.Bool.{cases_Bool, cases_lt, both_ways}
use Rattle.std.proofs.lemmas.List.{map-append}
use Rattle.std.proofs.lemmas.List.Elements.{filter-append, All-nil, All-push, All-filter, All-weaker}
use Rattle.std.proofs.lemmas.List.Sorted.{IsPermutation-refl}
use Rattle.std.proofs.lemmas.List.Quantifiers.{all_pairs_push}
use Rattle.tatp_model.specs.declared.done.Done.{Done}
use Rattle.tatp_model.specs.declared.request.Request.{Request}
use Rattle.tatp_model.specs.declared.reply.Reply.TheVariants.{Durable}
use Rattle.tatp_model.specs.Database.{Database}
use Rattle.tatp_model.specs.Transaction.{reply_to}
use Rattle.tatp_model.specs.OneThread.{is_sync, is_changed, Precedes, RepliesAlong, IndexedRequest, indexed_request_of, indexed_requests_from, AllAreDone, IsPrefixOf, RepliesOfOneThread}
use Rattle.tatp_model.proofs.Rows.{filter-uniform}
use Rattle.tatp_model.proofs.Run.{after_order, RepliesAlong-push}

-- `done` answers the requests of one file up to number `last`, in turn
pub record Sequential (first last limit : ℕ) (db : Database) (prefix : List Request) (done : List Done) : Type 0 where
  pub begun : first ≤ last
  pub held : AllAreDone (prefix ∷ []) done
  pub in_file : All (λ d. (d.file ≡ 0) × (d.index < length prefix)) done
  pub asked : All (λ d. is_sync d.request ≡ false) done
  pub distinct : AllPairs (λ d e. d.number ≡ e.number → ⊥) (filter (λ d. d.wrote) done)
  pub over : All (λ d. first < d.number) (filter (λ d. d.wrote) done)
  pub from : All (λ d. first ≤ d.number) done
  pub within : All (λ d. d.number ≤ last) done
  pub sorted : AllPairs Precedes done
  pub in_turn : AllPairs (λ d e. d.file ≡ e.file → d.index < e.index) done
  pub one_thread : RepliesAlong limit db done

pub Sequential-start : (first limit : ℕ) (db : Database) → Sequential first first limit db [] []
Sequential-start first limit db = record {
  begun = omega arith;
  held = refl;
  in_file = All-nil _;
  asked = All-nil _;
  distinct = λ i j d before within. absurd (omega arith);
  over = All-nil _;
  from = All-nil _;
  within = All-nil _;
  sorted = λ i j d before within. absurd (omega arith);
  in_turn = λ i j d before within. absurd (omega arith);
  one_thread = tt;
}

-- the replies of such a run are one thread's
pub RepliesOfOneThread-from_sequential : (first last limit : ℕ) (db : Database) (prefix requests : List Request) (done : List Done) → Sequential first last limit db prefix done → IsPrefixOf prefix requests → RepliesOfOneThread first limit db (requests ∷ []) done
RepliesOfOneThread-from_sequential first last limit db prefix requests done run is_prefix =
    let asked : filter (λ d. not (is_sync d.request)) done ≡ done = filter-uniform true (λ d. not (is_sync d.request)) done (λ k d h. ap not (run.asked k d h)) in
    let no_syncs : filter (λ d. is_sync d.request) done ≡ [] = filter-uniform false (λ d. is_sync d.request) done run.asked in
    record {
      numbers = record {
        held = (prefix ∷ [], (is_prefix, tt), run.held);
        distinct = run.distinct;
        over = run.over;
        from = rw asked run.from;
        syncs = rw no_syncs (All-nil (λ (d : Done). (d.reply ≡ Durable) × (d.wrote ≡ false)));
        order = done;
        printed = record { same = rw asked (IsPermutation-refl done); sorted = run.sorted };
        files_in_order = run.in_turn;
      };
      one_thread = run.one_thread;
    }

-- `d` answers the next request of the file, at the database after the others: a request that writes draws the next number
pub record IsNext (last at limit : ℕ) (db : Database) (d : Done) : Type 0 where
  pub file : d.file ≡ 0
  pub index : d.index ≡ at
  pub asked : is_sync d.request ≡ false
  pub reply : d.reply ≡ reply_to limit db d.request
  pub wrote : d.wrote ≡ is_changed d.reply
  pub number : d.number ≡ (if d.wrote then last + 1 else last)

enumerate_from-push : (n : ℕ) (xs : List Request) (y : Request) → enumerate_from n (xs ++ y ∷ []) ≡ enumerate_from n xs ++ (n + length xs, y) ∷ []
enumerate_from-push n [] y = let here : n ≡ n + 0 = omega arith in ap (λ m. (m, y) ∷ []) here
enumerate_from-push n (x ∷ xs) y =
    let at : n + 1 + length xs ≡ n + length (x ∷ xs) = omega arith in
    ap (λ rest. (n, x) ∷ rest) (enumerate_from-push (n + 1) xs y ∙ ap (λ m. enumerate_from (n + 1) xs ++ (m, y) ∷ []) at)

-- the indexed requests of a file with one request more
indexed_requests_from-push : (prefix : List Request) (q : Request) → indexed_requests_from 0 ((prefix ++ q ∷ []) ∷ []) ≡ indexed_requests_from 0 (prefix ∷ []) ++ record { file = 0; index = length prefix; request = q } ∷ []
indexed_requests_from-push prefix q =
    let indexed = λ (r : ℕ × Request). let s : IndexedRequest = record { file = 0; index = r.0; request = r.1 } in s in
    rw (append-nil, append-nil, enumerate_from-push 0 prefix q) (map-append indexed (enumerate_from 0 prefix) ((0 + length prefix, q) ∷ []) ∙ ap (λ (m : ℕ). map indexed (enumerate_from 0 prefix) ++ indexed (m, q) ∷ []) (zero-add (length prefix)))

-- a number that is written after another is greater, and a number that isn't written is at least it
next_number : (last : ℕ) (d : Done) → d.number ≡ (if d.wrote then last + 1 else last) → (last ≤ d.number) × (d.wrote ≡ true → last < d.number) × (d.number ≤ last + 1)
next_number last d number = ⊎_elim (λ h. let is = rw h at number in (omega (arith, is), (λ _. omega (arith, is)), omega (arith, is))) (λ h. let is = rw h at number in (omega (arith, is), (λ w. absurd (both_ways _ h w)), omega (arith, is))) (cases_Bool d.wrote)

-- an earlier request of the file is printed before it
precedes_next : (last : ℕ) (e d : Done) → e.number ≤ last → d.number ≡ (if d.wrote then last + 1 else last) → e.file ≡ d.file → e.index < d.index → Precedes e d
precedes_next last e d within number file index =
    let next = next_number last d number in
    ⊎_elim (λ less. inl less) (λ at_most.
    let same : e.number ≡ d.number = omega (arith, next.0, within, at_most) in
    let unwritten : d.wrote ≡ false = ⊎_elim (λ w. absurd (omega (arith, next.1 w, same, within))) (λ h. h) (cases_Bool d.wrote) in
    inr (same, ⊎_elim (λ w. inl (w, unwritten)) (λ h. inr (h ∙ sym unwritten, inr (file, index))) (cases_Bool e.wrote))) (cases_lt e.number d.number)

-- a filter of one element more
filter-push : (p : Done → Bool) (done : List Done) (d : Done) (b : Bool) → p d ≡ b → filter p (done ++ d ∷ []) ≡ filter p done ++ cond b (d ∷ []) []
filter-push p done d b e = rw (filter-append p done (d ∷ []), e) refl

-- one request more
pub Sequential-push : (first last limit : ℕ) (db : Database) (prefix : List Request) (done : List Done) (d : Done) → Sequential first last limit db prefix done → IsNext last (length prefix) limit (after_order limit db done) d → Sequential first d.number limit db (prefix ++ d.request ∷ []) (done ++ d ∷ [])
Sequential-push first last limit db prefix done d run next =
    let number = next_number last d next.number in
    let wrote = λ (e : Done). e.wrote in
    let written_before : All (λ e. e.number ≤ last) (filter wrote done) = All-filter wrote (λ e. e.number ≤ last) done run.within in
    let longer : length (prefix ++ d.request ∷ []) ≡ length prefix + 1 = length-append prefix (d.request ∷ []) in
    record {
      begun = omega (arith, run.begun, number.0);
      held =
          map-append indexed_request_of done (d ∷ []) ∙ ap₂ (λ (xs : List IndexedRequest) (y : IndexedRequest). xs ++ y ∷ []) run.held (λ i. record { file = next.file i; index = next.index i; request = d.request })
          ∙ sym (indexed_requests_from-push prefix d.request);
      in_file =
          All-push (λ e. (e.file ≡ 0) × (e.index < length (prefix ++ d.request ∷ []))) done d
          (All-weaker (λ e. (e.file ≡ 0) × (e.index < length prefix)) (λ e. (e.file ≡ 0) × (e.index < length (prefix ++ d.request ∷ []))) (λ e h. (h.0, omega (arith, h.1, longer))) done run.in_file)
          (next.file, omega (arith, next.index, longer));
      asked = All-push (λ e. is_sync e.request ≡ false) done d run.asked next.asked;
      distinct =
          ⊎_elim (λ h. rw (filter-push wrote done d true h) (all_pairs_push (λ a b. a.number ≡ b.number → ⊥) (filter wrote done) d run.distinct (λ k e l same. absurd (omega (arith, written_before k e l, number.1 h, same)))))
          (λ h. rw (filter-push wrote done d false h, append-nil) run.distinct) (cases_Bool d.wrote);
      over =
          ⊎_elim (λ h. rw (filter-push wrote done d true h) (All-push (λ e. first < e.number) (filter wrote done) d run.over (omega (arith, run.begun, number.1 h))))
          (λ h. rw (filter-push wrote done d false h, append-nil) run.over) (cases_Bool d.wrote);
      from = All-push (λ e. first ≤ e.number) done d run.from (omega (arith, run.begun, number.0));
      within = All-push (λ e. e.number ≤ d.number) done d (All-weaker (λ e. e.number ≤ last) (λ e. e.number ≤ d.number) (λ e h. omega (arith, h, number.0)) done run.within) (omega arith);
      sorted = all_pairs_push Precedes done d run.sorted (λ k e l. precedes_next last (get_or done k e) d (run.within k e l) next.number ((run.in_file k e l).0 ∙ sym next.file) (omega (arith, (run.in_file k e l).1, next.index)));
      in_turn = all_pairs_push (λ a b. a.file ≡ b.file → a.index < b.index) done d run.in_turn (λ k e l _. omega (arith, (run.in_file k e l).1, next.index));
      one_thread = RepliesAlong-push limit db done d run.one_thread next.reply next.wrote;
    }
