-- Along a list in printed order the databases at the numbers are those that the requests that wrote lead through.
use Rattle.std.proofs.Common.{◌≡◌, ℕ, zero, suc, ◌+◌, ◌-◌, ◌<◌, ◌≤◌, Bool, true, false, ◌&&◌, cond, List, [], ◌∷◌, ◌++◌, map, get_or, refl, ap, sym, ◌∙◌, subst, arith, inl, inr, ◌⊎◌, ⊎_elim}
use Rattle.std.specs.Prelude.{nat_le}
use Rattle.std.specs.List.{All, AllPairs, Contains, filter}
use Rattle.std.proofs.lemmas.Bool.{cases_Bool, cases_order, cases_lt, le-leb, lt-leb, and_from, and_left, and_right, both_ways}
use Rattle.std.proofs.lemmas.List.Elements.{All-head, All-tail, All-weaker}
use mathlib.Core.Logic.{dite}
use native.Mathlib.Decide.{ℕ_discrete}
use Rattle.tatp_model.specs.declared.done.Done.{Done}
use Rattle.tatp_model.specs.declared.request.Request.{Request}
use Rattle.tatp_model.specs.Database.{Database}
use Rattle.tatp_model.specs.Transaction.{after_request}
use Rattle.tatp_model.specs.OneThread.{Precedes, after_requests, after_number}
use Rattle.tatp_model.proofs.Run.{after_requests-append}
use Rattle.tatp_model.proofs.SameElements.{first_among, other_among, first_or_other}
use Rattle.run_order.proofs.Pairs.{pairs_head, pairs_tail, one_or_other}
use Rattle.run_order.specs.Numbers.{WroteAt, AreDatabases, HaveSameWriters, LawOfWriters, Differ}

-- the request counts up to n
abbrev pub counted : ℕ → Done → Bool
counted n d = d.wrote && nat_le d.number n

pub counted_yes : (n : ℕ) (d : Done) → d.wrote ≡ true → d.number ≤ n → counted n d ≡ true
counted_yes n d w le = and_from d.wrote (nat_le d.number n) w (le-leb d.number n le)

pub counted_over : (n : ℕ) (d : Done) → n < d.number → counted n d ≡ false
counted_over n d lt = and_right d.wrote (nat_le d.number n) (lt-leb d.number n lt)

pub counted_read : (n : ℕ) (d : Done) → d.wrote ≡ false → counted n d ≡ false
counted_read n d h = and_left d.wrote (nat_le d.number n) h

-- a later request of a list in order has no lesser number
pub precedes_upto : (d e : Done) → Precedes d e → d.number ≤ e.number
precedes_upto d e before = ⊎_elim (λ less. omega (arith, less)) (λ same. omega (arith, same.0)) before

pub filter_none : {X : Type 0} (p : X → Bool) (xs : List X) → All (λ x. p x ≡ false) xs → filter p xs ≡ []
filter_none p [] none = refl
filter_none p (x ∷ xs) none = rw (All-head (λ y. p y ≡ false) x xs none) (filter_none p xs (All-tail (λ y. p y ≡ false) x xs none))

-- one of the list that wrote with this number, with none besides, or none
pub record OneWriter (n : ℕ) (order : List Done) : Type 0 where
  pub writer : Done
  pub among : Contains order writer
  pub at : WroteAt n writer
  pub more : filter (counted n) order ≡ filter (counted (n - 1)) order ++ writer ∷ []

pub record NoWriter (n : ℕ) (order : List Done) : Type 0 where
  pub none : (d : Done) → Contains order d → WroteAt n d → ⊥
  pub same : filter (counted n) order ≡ filter (counted (n - 1)) order

-- of a request at the front: whether it counts up to n, and up to n - 1
module _ (n : ℕ) (pos : 0 < n) (d : Done) (order : List Done) (sorted : All (Precedes d) order) (differ : All (Differ d) order) where
  later_over : n ≤ d.number → All (λ e. counted (n - 1) e ≡ false) order
  later_over le = All-weaker (Precedes d) (λ e. counted (n - 1) e ≡ false) (λ e p. counted_over (n - 1) e (let up = precedes_upto d e p in omega arith)) order sorted

  later_none : WroteAt n d → All (λ e. counted n e ≡ false) order
  later_none at = λ k e within.
      let x : Done = get_or order k e in
      let up = precedes_upto d x (sorted k e within) in let is = at.number in
      ⊎_elim
      (λ w. let other : d.number ≡ x.number → ⊥ = differ k e within at.wrote w in counted_over n x (⊎_elim (λ same. absurd (other same)) (λ o. ⊎_elim (λ less. omega arith) (λ more. absurd (omega arith)) o) (cases_order d.number x.number)))
      (λ h. counted_read n x h) (cases_Bool x.wrote)

  at_front : WroteAt n d → OneWriter n (d ∷ order)
  at_front at =
      let is = at.number in
      record {
        writer = d;
        among = first_among d order;
        at = at;
        more = rw (counted_yes n d at.wrote (omega arith), counted_over (n - 1) d (omega arith), filter_none (counted n) order (later_none at), filter_none (counted (n - 1)) order (later_over (omega arith))) refl;
      }

  -- the front counts alike
  alike_front : (WroteAt n d → ⊥) → counted n d ≡ counted (n - 1) d
  alike_front isnt = ⊎_elim
      (λ w. ⊎_elim (λ lt. counted_over n d lt ∙ sym (counted_over (n - 1) d (omega arith)))
      (λ le. let other : d.number ≡ n → ⊥ = λ e. isnt (record { wrote = w; number = e }) in
      ⊎_elim (λ e. absurd (other e)) (λ o. ⊎_elim (λ less. counted_yes n d w le ∙ sym (counted_yes (n - 1) d w (omega arith))) (λ more. absurd (omega arith)) o) (cases_order d.number n)) (cases_lt n d.number))
      (λ h. counted_read n d h ∙ sym (counted_read (n - 1) d h)) (cases_Bool d.wrote)

with_front : (b : Bool) (d : Done) (xs ys : List Done) → xs ≡ ys → cond b (d ∷ xs) xs ≡ cond b (d ∷ ys) ys
with_front b d xs ys same = ap (λ (l : List Done). cond b (d ∷ l) l) same

with_last : (b : Bool) (d e : Done) (xs ys : List Done) → xs ≡ ys ++ e ∷ [] → cond b (d ∷ xs) xs ≡ cond b (d ∷ ys) ys ++ e ∷ []
with_last true d e xs ys same = ap (λ (l : List Done). d ∷ l) same
with_last false d e xs ys same = same

pub one_or_none : (n : ℕ) → 0 < n → (order : List Done) → AllPairs Precedes order → AllPairs Differ order → OneWriter n order ⊎ NoWriter n order
one_or_none n pos [] sorted differ = inr (record { none = λ d c at. absurd (omega (arith, c.1)); same = refl })
one_or_none n pos (d ∷ order) sorted differ =
    let behind = pairs_head Precedes d order sorted in
    let others = pairs_head Differ d order differ in
    let rest = one_or_none n pos order (pairs_tail Precedes d order sorted) (pairs_tail Differ d order differ) in
    let other : (WroteAt n d → ⊥) → OneWriter n (d ∷ order) ⊎ NoWriter n (d ∷ order) = λ isnt. let same = alike_front n pos d order behind others isnt in
    ⊎_elim
    (λ one. inl (record {
      writer = one.writer;
      among = other_among one.writer d order one.among;
      at = one.at;
      more = rw same (with_last (counted (n - 1) d) d one.writer (filter (counted n) order) (filter (counted (n - 1)) order) one.more);
    }))
    (λ no. inr (record {
      none = λ e c at. ⊎_elim (λ here. isnt (subst (λ (x : Done). WroteAt n x) (sym here) at)) (λ there. no.none e there at) (first_or_other e d order c);
      same = rw same (with_front (counted (n - 1) d) d (filter (counted n) order) (filter (counted (n - 1)) order) no.same);
    }))
    rest in
    ⊎_elim
    (λ w. dite (ℕ_discrete d.number n) (λ is. inl (at_front n pos d order behind others (record { wrote = w; number = is }))) (λ isnt. other (λ at. isnt at.number)))
    (λ h. other (λ at. absurd (both_ways d.wrote h at.wrote))) (cases_Bool d.wrote)

-- the databases along the order
module _ (first limit : ℕ) (db : Database) (order : List Done) (databases : ℕ → Database) (sorted : AllPairs Precedes order) (differ : AllPairs Differ order) (over : All (λ d. d.wrote ≡ true → first < d.number) order) where
  none_upto : All (λ d. counted first d ≡ false) order
  none_upto = λ k d within. let x : Done = get_or order k d in ⊎_elim (λ w. counted_over first x (over k d within w)) (λ h. counted_read first x h) (cases_Bool x.wrote)

  abbrev after : List Done → Database
  after l = after_requests limit db (map (λ d. d.request) l)

  map_last : (l : List Done) (d : Done) → map (λ (x : Done). x.request) (l ++ d ∷ []) ≡ map (λ (x : Done). x.request) l ++ d.request ∷ []
  map_last [] d = refl
  map_last (x ∷ l) d = ap (λ (r : List Request). x.request ∷ r) (map_last l d)

  after_last : (l : List Done) (d : Done) → after (l ++ d ∷ []) ≡ after_request limit (after l) d.request
  after_last l d = ap (after_requests limit db) (map_last l d) ∙ after_requests-append limit db (map (λ (x : Done). x.request) l) (d.request ∷ [])

  at_first : after_number limit db order first ≡ db
  at_first = ap after (filter_none (counted first) order none_upto)

  module _ (leads : AreDatabases first limit db order databases) where
    from_first : (k : ℕ) → after_number limit db order (first + k) ≡ databases (first + k)
    from_first zero = let e : first + 0 ≡ first = omega arith in rw e (ap after (filter_none (counted first) order none_upto) ∙ sym leads.start)
    from_first (suc k) =
        let e : first + suc k ≡ (first + k) + 1 = omega arith in
        let n : ℕ = first + k in
        let back : n + 1 - 1 ≡ n = omega arith in
        let before : after (filter (counted n) order) ≡ databases n = from_first k in
        rw e (⊎_elim
        (λ one. ap after (subst (λ (m : ℕ). filter (counted (n + 1)) order ≡ filter (counted m) order ++ one.writer ∷ []) back one.more)
        ∙ (after_last (filter (counted n) order) one.writer ∙ (ap (λ (b : Database). after_request limit b one.writer.request) before ∙ sym (leads.wrote n one.writer (omega arith) one.among one.at))))
        (λ no. ap after (subst (λ (m : ℕ). filter (counted (n + 1)) order ≡ filter (counted m) order) back no.same) ∙ (before ∙ sym (leads.stays n (omega arith) no.none)))
        (one_or_none (n + 1) (omega arith) order sorted differ))

    pub databases_along : (n : ℕ) → first ≤ n → after_number limit db order n ≡ databases n
    databases_along n le = let e : first + (n - first) ≡ n = omega arith in subst (λ (m : ℕ). after_number limit db order m ≡ databases m) e (from_first (n - first))

  -- and they are databases at the numbers
  module _ (along : (n : ℕ) → first ≤ n → after_number limit db order n ≡ databases n) where
    writes_there : (n : ℕ) (d : Done) → first ≤ n → Contains order d → WroteAt (n + 1) d → databases (n + 1) ≡ after_request limit (databases n) d.request
    writes_there n d le c at =
        let back : n + 1 - 1 ≡ n = omega arith in
        ⊎_elim
        (λ one.
        let same : one.writer ≡ d = ⊎_elim (λ same. same)
        (λ other. ⊎_elim (λ r. absurd (r one.at.wrote at.wrote (one.at.number ∙ sym at.number))) (λ r. absurd (r at.wrote one.at.wrote (at.number ∙ sym one.at.number))) other)
        (one_or_other Differ order one.writer d differ one.among c) in
        let more : filter (counted (n + 1)) order ≡ filter (counted n) order ++ one.writer ∷ [] =
        subst (λ (m : ℕ). filter (counted (n + 1)) order ≡ filter (counted m) order ++ one.writer ∷ []) back one.more in
        sym (along (n + 1) (omega arith)) ∙ (ap after more ∙ (after_last (filter (counted n) order) one.writer
        ∙ (ap (λ (b : Database). after_request limit b one.writer.request) (along n le) ∙ ap (λ (x : Done). after_request limit (databases n) x.request) same))))
        (λ no. absurd (no.none d c at))
        (one_or_none (n + 1) (omega arith) order sorted differ)

    stays_there : (n : ℕ) → first ≤ n → ((d : Done) → Contains order d → WroteAt (n + 1) d → ⊥) → databases (n + 1) ≡ databases n
    stays_there n le none =
        let back : n + 1 - 1 ≡ n = omega arith in
        ⊎_elim
        (λ one. absurd (none one.writer one.among one.at))
        (λ no. sym (along (n + 1) (omega arith)) ∙ (ap after (subst (λ (m : ℕ). filter (counted (n + 1)) order ≡ filter (counted m) order) back no.same) ∙ along n le))
        (one_or_none (n + 1) (omega arith) order sorted differ)

    pub databases_from : AreDatabases first limit db order databases
    databases_from = record { start = sym (along first (omega arith)) ∙ at_first; wrote = writes_there; stays = stays_there }

pub with_writers : (first limit : ℕ) (db : Database) (done other : List Done) (databases : ℕ → Database) → HaveSameWriters done other → AreDatabases first limit db done databases → AreDatabases first limit db other databases
with_writers first limit db done other databases same leads = record {
  start = leads.start;
  wrote = λ n d le c at. leads.wrote n d le ((same d at.wrote).1 c) at;
  stays = λ n le none. leads.stays n le (λ d c at. none d ((same d at.wrote).0 c) at);
}

pub law_writers : LawOfWriters
law_writers first limit db done other databases same leads = with_writers first limit db done other databases same leads
