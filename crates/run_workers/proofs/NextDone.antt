-- One request more of a file is done.
use Rattle.std.proofs.Common.{◌≡◌, ℕ, ◌+◌, ◌<◌, ◌≤◌, Bool, true, false, cond, List, [], ◌∷◌, ◌++◌, length, get_or, take, map, refl, ap, ap₂, sym, ◌∙◌, subst, arith, ⊎_elim}
use Rattle.std.specs.Prelude.{not, IsTrue}
use Rattle.std.specs.List.{All, Contains, enumerate_from, filter}
use Rattle.std.proofs.lemmas.Bool.{true≢false, cases_Bool}
use Rattle.std.proofs.lemmas.List.{append-nil, length_push, length-take-le, map_push, take_more}
use Rattle.std.proofs.lemmas.List.Elements.{All-cons, All-contains, All-push, All-weaker, Contains-get_or, filter-append}
use Rattle.std.proofs.lemmas.List.Quantifiers.{all_pairs_push}
use Rattle.dude_base.specs.declared.sizes.Sizes.{Sizes}
use Rattle.tatp_model.specs.declared.request.Request.{Request}
use Rattle.tatp_model.specs.declared.done.Done.{Done}
use Rattle.tatp_model.specs.OneThread.{is_sync, IndexedRequest, indexed_request_of}
use Rattle.run_order.proofs.Elements.{contains_filter}
use Rattle.run_order.proofs.FileOrder.{indexed}
use Rattle.run_order.specs.Numbers.{FollowsInFile}
use Rattle.run_order.proofs.Members.{contains_map, map_contains}
use Rattle.legal_entries.specs.Served.{IsServed, done_of}
use Rattle.core_events.specs.Views.{Entry}
use Rattle.core_table.specs.Layout.{TableSight}
use Rattle.stm_transactions.specs.Passes.{PassSight, IsResting, pass_view, greatest, entry_numbers}
use Rattle.request_attempts.specs.Served.{HasServed}
use Rattle.request_attempts.specs.Tries.{AnswersBy, HasSynced, IsServing}
use Rattle.run_workers.specs.Working.{AreOfFile, HasDone, IsSynced}

-- ---- the requests of a file
enumerate_more : (n : ℕ) (xs : List Request) (y : Request) → enumerate_from n (xs ++ y ∷ []) ≡ enumerate_from n xs ++ (n + length xs, y) ∷ []
enumerate_more n [] y = let here : n ≡ n + 0 = omega arith in ap (λ (m : ℕ). (m, y) ∷ []) here
enumerate_more n (x ∷ xs) y =
    let at : n + 1 + length xs ≡ n + length (x ∷ xs) = omega arith in
    ap (λ (l : List (ℕ × Request)). (n, x) ∷ l) (enumerate_more (n + 1) xs y ∙ ap (λ (m : ℕ). enumerate_from (n + 1) xs ++ (m, y) ∷ []) at)

pub first_more : (file : ℕ) (requests : List Request) (done : List Done) (d : Done) → length done < length requests → AreOfFile file (take (length done) requests) done → d.file ≡ file → d.index ≡ length done → d.request ≡ get_or requests (length done) d.request
    → AreOfFile file (take (length (done ++ d ∷ [])) requests) (done ++ d ∷ [])
first_more file requests done d there first at_file at_index is =
    let firsts = take (length done) requests in
    let long : length (done ++ d ∷ []) ≡ length done + 1 = length_push done d in
    let more : take (length done + 1) requests ≡ firsts ++ d.request ∷ [] = take_more requests (length done) d.request there ∙ ap (λ (q : Request). firsts ++ q ∷ []) (sym is) in
    let count : length firsts ≡ length done = length-take-le (length done) requests (omega arith) in
    let here : 0 + length firsts ≡ length done = omega arith in
    let listed : map (indexed file) (enumerate_from 0 (firsts ++ d.request ∷ [])) ≡ map (indexed file) (enumerate_from 0 firsts) ++ indexed file (length done, d.request) ∷ [] =
    ap (map (indexed file)) (enumerate_more 0 firsts d.request) ∙ map_push (indexed file) (enumerate_from 0 firsts) (0 + length firsts, d.request) ∙ ap (λ (n : ℕ). map (indexed file) (enumerate_from 0 firsts) ++ indexed file (n, d.request) ∷ []) here in
    let its : indexed_request_of d ≡ indexed file (length done, d.request) = ap₂ (λ (f i : ℕ). indexed f (i, d.request)) at_file at_index in
    map_push indexed_request_of done d ∙ ap₂ (λ (l : List IndexedRequest) (r : IndexedRequest). l ++ r ∷ []) first its ∙ sym (ap (λ (n : ℕ). map (indexed file) (enumerate_from 0 (take n requests))) long ∙ ap (λ (l : List Request). map (indexed file) (enumerate_from 0 l)) more ∙ listed)

-- ---- numbers
-- none of the numbers is over the greatest
under_greatest : (first : ℕ) (ns : List ℕ) → All (λ n. n ≤ greatest first ns) ns
under_greatest first [] = λ k d within. absurd (omega arith)
under_greatest first (n ∷ ns) = All-cons (λ m. m ≤ greatest first (n ∷ ns)) n ns (omega arith)
    (All-weaker (λ m. m ≤ greatest first ns) (λ m. m ≤ greatest first (n ∷ ns)) (λ m h. omega arith) ns (under_greatest first ns))

module _ {X K : Type 0} (t : TableSight K) (s : Sizes) (file : ℕ) (requests : List Request) (done : List Done) (p : PassSight X) (h : HasDone t s file requests done p) where
  abbrev keeps : Done → Bool
  keeps d = not (is_sync d.request)

  -- what was done by a transaction has no number over the last one of the pass
  pub upto_last : (d : Done) → Contains done d → is_sync d.request ≡ false → d.number ≤ p.numbers.last
  upto_last d at no_sync =
      let kept : Contains (filter keeps done) d = contains_filter keeps done d at (ap not no_sync) in
      let made = map_contains done_of (pass_view p).entries d (subst (λ (l : List Done). Contains l d) (sym h.entries) kept) in
      let listed = contains_map (λ (e : Entry). e.number) (pass_view p).entries made.0 made.1 in
      let is : (made.0).number ≡ d.number = ap (λ (x : Done). x.number) made.2 in
      let under = All-contains (λ n. n ≤ greatest t.setup.first (entry_numbers (pass_view p).entries)) (entry_numbers (pass_view p).entries) (made.0).number (under_greatest t.setup.first (entry_numbers (pass_view p).entries)) listed in
      let last = h.rests.numbers.last in
      omega arith

  synced_still : (q : PassSight X) → p.numbers.durable ≤ q.numbers.durable → All (λ d. IsTrue (is_sync d.request) → IsSynced t.setup.first q.numbers.durable d) done
  synced_still q durable = All-weaker (λ d. IsTrue (is_sync d.request) → IsSynced t.setup.first p.numbers.durable d) (λ d. IsTrue (is_sync d.request) → IsSynced t.setup.first q.numbers.durable d)
      (λ d f sync. let i = f sync in record { reply = i.reply; silent = i.silent; from = i.from; upto = (let u = i.upto in omega arith) }) done h.syncs

  -- a pass that keeps the entries, and whose durable number didn't fall, did the same
  pub done_still : (q : PassSight X) → IsResting t q → (pass_view q).entries ≡ (pass_view p).entries → p.numbers.durable ≤ q.numbers.durable → HasDone t s file requests done q
  done_still q rests entries durable = record {
    rests = rests;
    from = (let f = h.from in omega arith);
    few = h.few;
    first = h.first;
    entries = ap (map done_of) entries ∙ h.entries;
    served = subst (λ (l : List Entry). All (IsServed s) l) (sym entries) h.served;
    syncs = synced_still q durable;
    follow = h.follow;
    syncs_follow = h.syncs_follow;
  }

  -- the next request
  module _ (there : length done < length requests) (q : Request) (is_next : q ≡ get_or requests (length done) q) (r : PassSight X) (d : Done) where
    abbrev dones : List Done
    dones = done ++ d ∷ []

    few_more : length dones ≤ length requests
    few_more = let l = length_push done d in omega arith

    -- was served by a transaction
    pub done_served : is_sync q ≡ false → HasServed t s file (length done) q p r d → p.numbers.durable ≤ r.numbers.durable → HasDone t s file requests dones r
    done_served no_sync v durable =
        let same : d.request ≡ q = v.at.2 in
        let d_no : is_sync d.request ≡ false = ap is_sync same ∙ no_sync in
        let passes : keeps d ≡ true = ap not d_no in
        record {
          rests = v.rests;
          from = (let f = h.from in omega arith);
          few = few_more;
          first = first_more file requests done d there h.first v.at.0 v.at.1 (subst (λ (x : Request). x ≡ get_or requests (length done) x) (sym same) is_next);
          entries = ap (map done_of) v.entries ∙ map_push done_of (pass_view p).entries v.entry ∙ ap₂ (λ (l : List Done) (x : Done). l ++ x ∷ []) h.entries v.done ∙ sym (filter_push true passes);
          served = subst (λ (l : List Entry). All (IsServed s) l) (sym v.entries) (All-push (IsServed s) (pass_view p).entries v.entry h.served v.served);
          syncs = All-push (λ x. IsTrue (is_sync x.request) → IsSynced t.setup.first r.numbers.durable x) done d (synced_still r durable) (λ sync. absurd (true≢false (sym sync ∙ d_no)));
          follow = all_pairs_push FollowsInFile done d h.follow
              (λ k x within same_file x_no y_no. record { upto = follows k x within x_no; under = λ w. (let u = upto_last (get_or done k x) (Contains-get_or done k x within) x_no in let o = v.over w in omega arith) });
          syncs_follow = all_pairs_push (λ x y. x.file ≡ y.file → IsTrue (is_sync y.request) → x.number ≤ y.number) done d h.syncs_follow
              (λ k x within same_file sync. absurd (true≢false (sym sync ∙ d_no)));
        }
      where
        filter_push : (b : Bool) → keeps d ≡ b → filter keeps dones ≡ filter keeps done ++ cond b (d ∷ []) []
        filter_push b is = filter-append keeps done (d ∷ []) ∙ ap (λ (c : Bool). filter keeps done ++ cond c (d ∷ []) []) is

        follows : (k : ℕ) (x : Done) → k < length done → is_sync (get_or done k x).request ≡ false → (get_or done k x).number ≤ d.number
        follows k x within x_no = let u = upto_last (get_or done k x) (Contains-get_or done k x within) x_no in let l = v.last in omega arith

    -- was a `SYNC`
    pub done_synced : is_sync q ≡ true → HasSynced t file (length done) q p r d → p.numbers.durable ≤ r.numbers.durable → HasDone t s file requests dones r
    done_synced sync v durable =
        let same : d.request ≡ q = ap (λ (x : Done). x.request) v.done in
        let d_is : is_sync d.request ≡ true = ap is_sync same ∙ sync in
        let number : d.number ≡ r.numbers.durable = ap (λ (x : Done). x.number) v.done in
        let dropped : keeps d ≡ false = ap not d_is in
        record {
          rests = v.rests;
          from = (let f = h.from in omega arith);
          few = few_more;
          first = first_more file requests done d there h.first (ap (λ (x : Done). x.file) v.done) (ap (λ (x : Done). x.index) v.done) (subst (λ (x : Request). x ≡ get_or requests (length done) x) (sym same) is_next);
          entries = ap (map done_of) v.entries ∙ h.entries ∙ sym (filter-append keeps done (d ∷ []) ∙ ap (λ (c : Bool). filter keeps done ++ cond c (d ∷ []) []) dropped ∙ append-nil (filter keeps done));
          served = subst (λ (l : List Entry). All (IsServed s) l) (sym v.entries) h.served;
          syncs = All-push (λ x. IsTrue (is_sync x.request) → IsSynced t.setup.first r.numbers.durable x) done d (synced_still r durable)
              (λ _. record { reply = ap (λ (x : Done). x.reply) v.done; silent = ap (λ (x : Done). x.wrote) v.done; from = (let f = h.from in omega arith); upto = omega arith });
          follow = all_pairs_push FollowsInFile done d h.follow (λ k x within same_file x_no y_no. absurd (true≢false (sym d_is ∙ y_no)));
          syncs_follow = all_pairs_push (λ x y. x.file ≡ y.file → IsTrue (is_sync y.request) → x.number ≤ y.number) done d h.syncs_follow
              (λ k x within same_file _. earlier (get_or done k x) (Contains-get_or done k x within) number);
        }
      where
        earlier : (x : Done) → Contains done x → d.number ≡ r.numbers.durable → x.number ≤ d.number
        earlier x at number = ⊎_elim
            (λ is. let i = All-contains (λ y. IsTrue (is_sync y.request) → IsSynced t.setup.first p.numbers.durable y) done x h.syncs at is in let u = i.upto in omega arith)
            (λ no. let u = upto_last x at no in let l = v.last in omega arith)
            (cases_Bool (is_sync x.request))

    pub done_more : IsServing 65 t s file (length done) q p r d → HasDone t s file requests dones r
    done_more v = by_sync (is_sync q) refl v.answers
      where
        by_sync : (b : Bool) → is_sync q ≡ b → AnswersBy b t s file (length done) q p r d → HasDone t s file requests dones r
        by_sync true is a = done_synced is a v.durable
        by_sync false is a = done_served is a v.durable
