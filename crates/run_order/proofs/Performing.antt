-- Behind requests that were answered at numbers others are performed one after another, as one thread performs them.
use Rattle.std.proofs.Common.{◌≡◌, ℕ, zero, suc, ◌+◌, ◌-◌, ◌<◌, ◌≤◌, Bool, true, false, ◌&&◌, List, [], ◌∷◌, ◌++◌, map, refl, ap, sym, ◌∙◌, subst, arith, ⊎_elim, append-nil, append_assoc}
use Rattle.std.specs.Prelude.{if◌then◌else◌, ltb}
use Rattle.std.specs.List.{All, Contains, filter}
use Rattle.std.proofs.lemmas.Bool.{cases_Bool, cases_lt, lt-ltb, le-ltb, and_from, and_left, and_right}
use Rattle.std.proofs.lemmas.List.Elements.{All-nil, All-cons, All-push, All-weaker, All-contains, Contains-append_left, Contains-push, Contains-push_cases}
use Rattle.tatp_model.specs.declared.done.Done.{Done}
use Rattle.tatp_model.specs.Database.{Database}
use Rattle.tatp_model.specs.Transaction.{reply_to, after_request}
use Rattle.tatp_model.specs.OneThread.{is_changed, RepliesAlong, after_requests, after_number}
use Rattle.tatp_model.proofs.Run.{after_request-unchanged}
use Rattle.run_order.specs.Runs.{IsNumberedFrom}
use Rattle.run_order.proofs.Law.{numbers_rise}
use Rattle.run_order.proofs.Performed.{next_number}
use Rattle.run_order.specs.Numbers.{WroteAt, AreDatabases, answered_at, IsAnswered}
use Rattle.run_order.specs.Rests.{EndBy, PerformsBehind, LawOfPerforming}
use Rattle.run_order.proofs.Databases.{counted, counted_yes, counted_over, counted_read, filter_none}

-- the databases with another one behind the last number, where the request wrote
abbrev pub grown : Bool → ℕ → Database → (ℕ → Database) → ℕ → Database
grown wrote last new databases n = if wrote && ltb last n then new else databases n

grown_upto : (wrote : Bool) (last : ℕ) (new : Database) (databases : ℕ → Database) (n : ℕ) → n ≤ last → grown wrote last new databases n ≡ databases n
grown_upto wrote last new databases n le = rw (and_right wrote (ltb last n) (le-ltb last n le)) refl

grown_over : (wrote : Bool) (last : ℕ) (new : Database) (databases : ℕ → Database) (n : ℕ) → wrote ≡ true → last < n → grown wrote last new databases n ≡ new
grown_over wrote last new databases n w lt = rw (and_from wrote (ltb last n) w (lt-ltb last n lt)) refl

grown_not : (wrote : Bool) (last : ℕ) (new : Database) (databases : ℕ → Database) (n : ℕ) → wrote ≡ false → grown wrote last new databases n ≡ databases n
grown_not wrote last new databases n h = rw (and_left wrote (ltb last n) h) refl

pub answered_upto : (d : Done) → answered_at d ≤ d.number
answered_upto d = ⊎_elim (λ w. rw w (omega arith)) (λ h. rw h (omega arith)) (cases_Bool d.wrote)

-- an answer at its number stays right where the databases up to there stay
pub answer_stays : (limit : ℕ) (databases further : ℕ → Database) (last : ℕ) (d : Done) → d.number ≤ last → ((n : ℕ) → n ≤ last → further n ≡ databases n) → IsAnswered limit databases d → IsAnswered limit further d
answer_stays limit databases further last d le same a = record {
  reply = a.reply ∙ ap (λ (b : Database). reply_to limit b d.request) (sym (same (answered_at d) (let u = answered_upto d in omega arith)));
  wrote = a.wrote;
}

module _ (first limit : ℕ) (db : Database) (done : List Done) (databases : ℕ → Database) (last : ℕ) (up : EndBy first limit last db done databases) (d : Done) (number : d.number ≡ (if d.wrote then last + 1 else last)) (reply : d.reply ≡ reply_to limit (databases last) d.request) (wrote : d.wrote ≡ is_changed d.reply) where
  abbrev new : Database
  new = after_request limit (databases last) d.request

  abbrev further : ℕ → Database
  further = grown d.wrote last new databases

  its : (last ≤ d.number) × (d.wrote ≡ true → d.number ≡ last + 1) × (d.wrote ≡ false → d.number ≡ last)
  its = next_number last d number

  pub same_upto : (n : ℕ) → n ≤ last → further n ≡ databases n
  same_upto n le = grown_upto d.wrote last new databases n le

  leads_wrote : (n : ℕ) (e : Done) → first ≤ n → Contains (done ++ d ∷ []) e → WroteAt (n + 1) e → further (n + 1) ≡ after_request limit (further n) e.request
  leads_wrote n e le c at =
      let is = at.number in
      ⊎_elim
      (λ old. let u : e.number ≤ last = All-contains (λ x. x.number ≤ last) done e up.upto old in
      same_upto (n + 1) (omega arith) ∙ (up.leads.wrote n e le old at ∙ ap (λ (b : Database). after_request limit b e.request) (sym (same_upto n (omega arith)))))
      (λ one.
      let w : d.wrote ≡ true = subst (λ (x : Done). x.wrote ≡ true) (sym one) at.wrote in
      let m : d.number ≡ n + 1 = subst (λ (x : Done). x.number ≡ n + 1) (sym one) is in
      let k = its.1 w in
      let same : last ≡ n = omega arith in
      grown_over d.wrote last new databases (n + 1) w (omega arith)
      ∙ (ap (λ (x : Done). after_request limit (databases last) x.request) one ∙ ap (λ (b : Database). after_request limit b e.request) (ap databases same ∙ sym (same_upto n (omega arith)))))
      (Contains-push_cases done d e c)

  leads_stay : (n : ℕ) → first ≤ n → ((e : Done) → Contains (done ++ d ∷ []) e → WroteAt (n + 1) e → ⊥) → further (n + 1) ≡ further n
  leads_stay n le none =
      let old : databases (n + 1) ≡ databases n = up.leads.stays n le (λ e c at. none e (Contains-append_left done (d ∷ []) e c) at) in
      ⊎_elim
      (λ w. let k = its.1 w in ⊎_elim
      (λ lt. ⊎_elim (λ less. grown_over d.wrote last new databases (n + 1) w (omega arith) ∙ sym (grown_over d.wrote last new databases n w less))
      (λ ge. absurd (none d (Contains-push done d) (record { wrote = w; number = omega arith }))) (cases_lt last n))
      (λ ge. same_upto (n + 1) ge ∙ (old ∙ sym (same_upto n (omega arith)))) (cases_lt last (n + 1)))
      (λ h. grown_not d.wrote last new databases (n + 1) h ∙ (old ∙ sym (grown_not d.wrote last new databases n h))) (cases_Bool d.wrote)

  pub up_one : EndBy first limit d.number db (done ++ d ∷ []) further
  up_one = record {
    leads = record { start = same_upto first up.from ∙ up.leads.start; wrote = leads_wrote; stays = leads_stay };
    from = let l = its.0 in let f = up.from in omega arith;
    upto = All-push (λ x. x.number ≤ d.number) done d (All-weaker (λ x. x.number ≤ last) (λ x. x.number ≤ d.number) (λ x le. let l = its.0 in omega arith) done up.upto) (omega arith);
  }

  pub new_last : further d.number ≡ new
  new_last = ⊎_elim
      (λ w. let k = its.1 w in grown_over d.wrote last new databases d.number w (omega arith))
      (λ h. grown_not d.wrote last new databases d.number h ∙ (ap databases (its.2 h) ∙ sym (after_request-unchanged limit (databases last) d.request (ap is_changed (sym reply) ∙ (sym wrote ∙ h)))))
      (cases_Bool d.wrote)

  pub answered_one : IsAnswered limit further d
  answered_one =
      let at : answered_at d ≡ last = ⊎_elim (λ w. let k = its.1 w in rw w (omega arith)) (λ h. rw h (its.2 h)) (cases_Bool d.wrote) in
      record { reply = reply ∙ ap (λ (b : Database). reply_to limit b d.request) (sym (ap further at ∙ same_upto last (omega arith))); wrote = wrote }

none_counted : (last : ℕ) (performed : List Done) → IsNumberedFrom last performed → All (λ e. counted last e ≡ false) performed
none_counted last performed numbered =
    All-weaker (λ e. (last ≤ e.number) × (e.wrote ≡ true → last < e.number)) (λ e. counted last e ≡ false)
    (λ e h. ⊎_elim (λ w. counted_over last e (h.1 w)) (λ u. counted_read last e u) (cases_Bool e.wrote)) performed (numbers_rise last performed numbered)

-- behind the last number the database stays
idle_after : (first limit : ℕ) (db : Database) (done : List Done) (databases : ℕ → Database) (last : ℕ) → EndBy first limit last db done databases → (k : ℕ) → databases (last + k) ≡ databases last
idle_after first limit db done databases last up zero = let e : last + 0 ≡ last = omega arith in ap databases e
idle_after first limit db done databases last up (suc k) =
    let e : last + suc k ≡ (last + k) + 1 = omega arith in let f = up.from in
    ap databases e
    ∙ (up.leads.stays (last + k) (omega arith) (λ d c at. let u : d.number ≤ last = All-contains (λ x. x.number ≤ last) done d up.upto c in let is = at.number in absurd (omega arith))
    ∙ idle_after first limit db done databases last up k)

pub performs_behind : (first limit last : ℕ) (db : Database) (done performed : List Done) (databases : ℕ → Database) → EndBy first limit last db done databases → IsNumberedFrom last performed → RepliesAlong limit (databases last) performed → PerformsBehind first limit last db done performed databases
performs_behind first limit last db done [] databases up numbered along = record {
  further = databases;
  go_on = record {
    upto = λ n le. refl;
    behind = λ n le. let e : n ≡ last + (n - last) = omega arith in ap databases e ∙ idle_after first limit db done databases last up (n - last);
  };
  leads = rw (append-nil done) up.leads;
  answers = All-nil (IsAnswered limit databases);
}
performs_behind first limit last db done (d ∷ performed) databases up numbered along =
    let next = next_number last d numbered.0 in
    let grown_one : ℕ → Database = grown d.wrote last (after_request limit (databases last) d.request) databases in
    let one : EndBy first limit d.number db (done ++ d ∷ []) grown_one = up_one first limit db done databases last up d numbered.0 along.0 along.1 in
    let last_is : grown_one d.number ≡ after_request limit (databases last) d.request = new_last first limit db done databases last up d numbered.0 along.0 along.1 in
    let rest = performs_behind first limit d.number db (done ++ d ∷ []) performed grown_one one numbered.1 (subst (λ (b : Database). RepliesAlong limit b performed) (sym last_is) along.2) in
    let none : filter (counted last) (d ∷ performed) ≡ [] = filter_none (counted last) (d ∷ performed) (none_counted last (d ∷ performed) numbered) in
    let after : List Done → Database = λ l. after_requests limit (databases last) (map (λ (e : Done). e.request) l) in
    record {
      further = rest.further;
      go_on = record {
        upto = λ n le. rest.go_on.upto n (let l = next.0 in omega arith) ∙ grown_upto d.wrote last (after_request limit (databases last) d.request) databases n le;
        behind = λ n le. ⊎_elim
            (λ w. let is = next.1 w in ⊎_elim
            (λ lt. rest.go_on.behind n (omega arith) ∙ (ap (λ (b : Database). after_number limit b performed n) last_is ∙ rw (counted_yes n d w (omega arith)) refl))
            (λ ge. let m : last ≡ n = omega arith in subst (λ (k : ℕ). rest.further k ≡ after_number limit (databases last) (d ∷ performed) k) m (rest.go_on.upto last (omega arith) ∙ (grown_upto d.wrote last (after_request limit (databases last) d.request) databases last (omega arith) ∙ sym (ap after none)))) (cases_lt last n))
            (λ h. let is = next.2 h in
            rest.go_on.behind n (omega arith) ∙ (ap (λ (b : Database). after_number limit b performed n) (grown_not d.wrote last (after_request limit (databases last) d.request) databases d.number h ∙ ap databases is) ∙ rw (counted_read n d h) refl))
            (cases_Bool d.wrote);
      };
      leads = subst (λ (l : List Done). AreDatabases first limit db l rest.further) (append_assoc done (d ∷ []) performed) rest.leads;
      answers = All-cons (IsAnswered limit rest.further) d performed
          (answer_stays limit grown_one rest.further d.number d (omega arith) rest.go_on.upto (answered_one first limit db done databases last up d numbered.0 along.0 along.1)) rest.answers;
    }

pub law : LawOfPerforming
law first limit last db done performed databases ends numbered along = performs_behind first limit last db done performed databases ends numbered along
