-- The printed order of requests that were performed one after another.
use Rattle.std.proofs.Common.{◌≡◌, ℕ, ◌+◌, ◌≤◌, Bool, true, false, not, cond, List, [], ◌∷◌, ◌++◌, refl, ap, sym, ◌∙◌, subst, arith, inl, ◌⊎◌, ⊎_elim, append-nil, append_assoc}
use Rattle.std.specs.Prelude.{if◌then◌else◌, IsPermutation}
use Rattle.std.specs.List.{All, AllPairs, filter}
use Rattle.std.proofs.lemmas.Bool.{cases_Bool, both_ways}
use Rattle.std.proofs.lemmas.List.Elements.{All-nil, All-weaker, All-filter, filter-append}
use Rattle.std.proofs.lemmas.List.Sorted.{IsPermutation-refl, All-permutation}
use Rattle.tatp_model.specs.declared.done.Done.{Done}
use Rattle.tatp_model.specs.Database.{Database}
use Rattle.tatp_model.specs.Transaction.{reply_to, after_request}
use Rattle.tatp_model.specs.OneThread.{is_sync, is_changed, Precedes, RepliesAlong}
use Rattle.tatp_model.proofs.Rows.{filter-uniform}
use Rattle.tatp_model.proofs.Run.{after_order, after_order-push}
use Rattle.run_order.specs.Runs.{IsNumberedFrom, PrecedesInRounds, Performs}
use Rattle.run_order.proofs.Pairs.{pairs_nil, pairs_insert, pairs_at}
use Rattle.run_order.proofs.Rounds.{permuted_push}
use Rattle.run_order.proofs.Performed.{last_number, last_number-push, IsNumberedFrom-push, next_number, numbers_within}
use Rattle.run_order.proofs.Along.{sync_reply, after_order-append, along_before, along_behind, along_both, left_unwritten, order_unwritten}
use Rattle.run_order.proofs.Precedence.{ReadsBehind, splits, reads_on, before_or_behind}

abbrev pub is_printed : Done → Bool
is_printed d = not (is_sync d.request)

abbrev pub wrote : Done → Bool
wrote d = d.wrote

-- `order` is the printed order of what is performed, and along it one thread gives the same replies
pub record Printing (first limit : ℕ) (db : Database) (performed order : List Done) : Type 0 where
  pub numbered : IsNumberedFrom first performed
  pub same : IsPermutation (filter is_printed performed) order
  pub sorted : AllPairs Precedes order
  pub along : RepliesAlong limit db order
  pub after : after_order limit db order ≡ after_order limit db performed
  pub writes : filter wrote order ≡ filter wrote performed

pub printing_start : (first limit : ℕ) (db : Database) → Printing first limit db [] []
printing_start first limit db = record {
  numbered = tt;
  same = IsPermutation-refl [];
  sorted = pairs_nil Precedes;
  along = tt;
  after = refl;
  writes = refl;
}

-- the next request, at the database after the others
pub record IsNext (last limit : ℕ) (db : Database) (d : Done) : Type 0 where
  pub number : d.number ≡ (if d.wrote then last + 1 else last)
  pub reply : d.reply ≡ reply_to limit db d.request
  pub changed : d.wrote ≡ is_changed d.reply

-- a filter of one element more
filter-push : (p : Done → Bool) (performed : List Done) (d : Done) (b : Bool) → p d ≡ b → filter p (performed ++ d ∷ []) ≡ filter p performed ++ cond b (d ∷ []) []
filter-push p performed d b is = rw (filter-append p performed (d ∷ []), is) refl

-- a `Sync` didn't write
sync_unwritten : (last limit : ℕ) (db : Database) (d : Done) → IsNext last limit db d → is_sync d.request ≡ true → d.wrote ≡ false
sync_unwritten last limit db d next sync = next.changed ∙ ap is_changed (next.reply ∙ sync_reply limit db d.request sync)

-- a `Sync` isn't printed
printing_sync : (first limit : ℕ) (db : Database) (performed order : List Done) (d : Done) → Printing first limit db performed order → IsNext (last_number first performed) limit (after_order limit db performed) d → is_sync d.request ≡ true → Printing first limit db (performed ++ d ∷ []) order
printing_sync first limit db performed order d printing next sync =
    let unwritten = sync_unwritten (last_number first performed) limit (after_order limit db performed) d next sync in
    let kept : after_request limit (after_order limit db performed) d.request ≡ after_order limit db performed = left_unwritten limit (after_order limit db performed) d next.reply next.changed unwritten in
    record {
      numbered = IsNumberedFrom-push first performed d printing.numbered next.number;
      same = rw (filter-push is_printed performed d false (ap not sync), append-nil) printing.same;
      sorted = printing.sorted;
      along = printing.along;
      after = printing.after ∙ sym (after_order-push limit db performed d ∙ kept);
      writes = printing.writes ∙ sym (filter-push wrote performed d false unwritten ∙ append-nil (filter wrote performed));
    }

-- the requests behind the new one leave the database, and one thread answers them as before
along_after : (limit : ℕ) (db : Database) (d : Done) (behind : List Done) → d.reply ≡ reply_to limit db d.request → d.wrote ≡ is_changed d.reply → (d.wrote ≡ true → behind ≡ []) → RepliesAlong limit db behind → RepliesAlong limit (after_request limit db d.request) behind
along_after limit db d behind reply changed last along =
    ⊎_elim (λ w. rw (last w) tt) (λ h. rw (left_unwritten limit db d reply changed h) along) (cases_Bool d.wrote)

-- any other request goes between those that are printed before it and the reads that are printed behind it
printing_between : (first limit : ℕ) (db : Database) (performed before behind : List Done) (d : Done) → Printing first limit db performed (before ++ behind) → IsNext (last_number first performed) limit (after_order limit db performed) d → is_sync d.request ≡ false → All (λ e. Precedes e d) before → All (ReadsBehind d) behind → (d.wrote ≡ true → behind ≡ []) → Printing first limit db (performed ++ d ∷ []) (before ++ d ∷ behind)
printing_between first limit db performed before behind d printing next asked earlier later last =
    let here = after_order limit db before in
    let unwritten : All (λ e. e.wrote ≡ false) behind = All-weaker (ReadsBehind d) (λ e. e.wrote ≡ false) (λ e h. h.1) behind later in
    let start : RepliesAlong limit db before = along_before limit db before behind printing.along in
    let rest : RepliesAlong limit here behind = along_behind limit db before behind printing.along in
    let at : here ≡ after_order limit db performed = sym (order_unwritten limit here behind rest unwritten) ∙ sym (after_order-append limit db before behind) ∙ printing.after in
    let reply : d.reply ≡ reply_to limit here d.request = next.reply ∙ ap (λ (b : Database). reply_to limit b d.request) (sym at) in
    let moved : RepliesAlong limit (after_request limit here d.request) behind = along_after limit here d behind reply next.changed last rest in
    let none : filter wrote behind ≡ [] = filter-uniform false wrote behind unwritten in
    let was : filter wrote before ≡ filter wrote performed = sym (append-nil (filter wrote before)) ∙ ap (λ (l : List Done). filter wrote before ++ l) (sym none) ∙ sym (filter-append wrote before behind) ∙ printing.writes in
    let one : filter wrote (d ∷ behind) ≡ filter wrote (d ∷ []) = rw none refl in
    record {
      numbered = IsNumberedFrom-push first performed d printing.numbered next.number;
      same = rw (filter-push is_printed performed d true (ap not asked)) (permuted_push (filter is_printed performed) before d behind printing.same);
      sorted = pairs_insert Precedes before d behind printing.sorted earlier (All-weaker (ReadsBehind d) (Precedes d) (λ e h. h.0) behind later);
      along = along_both limit db before (d ∷ behind) start (reply, next.changed, moved);
      after =
          after_order-append limit db before (d ∷ behind) ∙ order_unwritten limit (after_request limit here d.request) behind moved unwritten
          ∙ ap (λ (b : Database). after_request limit b d.request) at ∙ sym (after_order-push limit db performed d);
      writes =
          filter-append wrote before (d ∷ behind) ∙ ap (λ (l : List Done). filter wrote before ++ l) one ∙ ap (λ (l : List Done). l ++ filter wrote (d ∷ [])) was
          ∙ sym (filter-append wrote performed (d ∷ []));
    }

-- a printed order, with what it has for some requests
pub record Printed (first limit : ℕ) (db : Database) (performed : List Done) : Type 0 where
  pub order : List Done
  pub printing : Printing first limit db performed order

-- what is known of each earlier request: its number isn't over the last one, and it precedes the next
abbrev IsEarlier : ℕ → Done → Done → Type 0
IsEarlier last d e = (e.number ≤ last) × PrecedesInRounds e d

-- the next request, which all the others precede
pub printed_push : (first limit : ℕ) (db : Database) (performed : List Done) (d : Done) → Printed first limit db performed → IsNext (last_number first performed) limit (after_order limit db performed) d → All (λ e. PrecedesInRounds e d) performed → Printed first limit db (performed ++ d ∷ [])
printed_push first limit db performed d printed next behind =
    let last = last_number first performed in
    let order = printed.order in
    let printing = printed.printing in
    let number = next_number last d next.number in
    let within = numbers_within first performed printing.numbered in
    let all : All (IsEarlier last d) performed = λ k e below. ((within k e below).1, behind k e below) in
    let earlier : All (IsEarlier last d) order = All-permutation (IsEarlier last d) (filter is_printed performed) order printing.same (All-filter is_printed (IsEarlier last d) performed all) in
    ⊎_elim (λ sync. record { order = order; printing = printing_sync first limit db performed order d printing next sync })
    (λ asked. ⊎_elim (λ w.
    let whole : Printing first limit db performed (order ++ []) = rw append-nil printing in
    let greater : d.number ≡ last + 1 = number.1 w in
    record {
      order = order ++ d ∷ [];
      printing =
          printing_between first limit db performed order [] d whole next asked
          (All-weaker (IsEarlier last d) (λ e. Precedes e d) (λ e h. inl (omega (arith, h.0, greater))) order earlier) (All-nil (ReadsBehind d)) (λ _. refl);
    })
    (λ unwritten.
    let same : d.number ≡ last = number.2 unwritten in
    let parts = splits (ReadsBehind d) d (reads_on d) order printing.sorted (All-weaker (IsEarlier last d) (λ e. Precedes e d ⊎ ReadsBehind d e) (λ e h. before_or_behind d e (omega (arith, h.0, same)) unwritten h.1) order earlier) in
    let cut : Printing first limit db performed (parts.before ++ parts.behind) = subst (λ (l : List Done). Printing first limit db performed l) parts.is printing in
    record {
      order = parts.before ++ d ∷ parts.behind;
      printing = printing_between first limit db performed parts.before parts.behind d cut next asked parts.first parts.rest (λ w. absurd (both_ways d.wrote unwritten w));
    }) (cases_Bool d.wrote)) (cases_Bool (is_sync d.request))

-- the requests that are left, one after another
printed_rest : (first limit : ℕ) (db : Database) (performed rest : List Done) → Printed first limit db performed → IsNumberedFrom (last_number first performed) rest → RepliesAlong limit (after_order limit db performed) rest → AllPairs PrecedesInRounds (performed ++ rest) → Printed first limit db (performed ++ rest)
printed_rest first limit db performed [] printed numbered along rounds = rw append-nil printed
printed_rest first limit db performed (d ∷ rest) printed numbered along rounds =
    let next : IsNext (last_number first performed) limit (after_order limit db performed) d = record { number = numbered.0; reply = along.0; changed = along.1 } in
    let more : Printed first limit db (performed ++ d ∷ []) = printed_push first limit db performed d printed next (pairs_at PrecedesInRounds performed d rest rounds) in
    let joined : (performed ++ d ∷ []) ++ rest ≡ performed ++ d ∷ rest = append_assoc performed (d ∷ []) rest in
    let left : IsNumberedFrom (last_number first (performed ++ d ∷ [])) rest = rw (last_number-push first performed d) numbered.1 in
    let on : RepliesAlong limit (after_order limit db (performed ++ d ∷ [])) rest = rw (after_order-push limit db performed d) along.2 in
    let pairs : AllPairs PrecedesInRounds ((performed ++ d ∷ []) ++ rest) = rw joined rounds in
    subst (λ (l : List Done). Printed first limit db l) joined (printed_rest first limit db (performed ++ d ∷ []) rest more left on pairs)

-- every run in rounds has a printed order
pub printed_run : (first limit : ℕ) (db : Database) (performed : List Done) → Performs first limit db performed → Printed first limit db performed
printed_run first limit db performed run =
    printed_rest first limit db [] performed (record { order = []; printing = printing_start first limit db }) run.numbered run.replies run.rounds
