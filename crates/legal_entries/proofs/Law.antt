-- The law of entries: by induction on the number.
use Rattle.std.proofs.Common.{◌≡◌, ℕ, zero, suc, ◌+◌, ◌-◌, ◌*◌, ◌<◌, ◌≤◌, true, List, length, map, refl, ap, sym, ◌∙◌, subst, arith, ⊎_elim}
use Rattle.std.specs.Prelude.{Option, Some, None, slice_index}
use Rattle.std.specs.List.{All, Contains}
use Rattle.std.proofs.lemmas.Bool.{cases_Bool, both_ways}
use Rattle.std.proofs.lemmas.Grind.{same_number_lists}
use Rattle.std.proofs.lemmas.List.Elements.{All-map, All-weaker, All-contains, All-contains_itself}
use Rattle.dude_base.specs.declared.limits.TheConstants.{PAGE}
use Rattle.dude_base.specs.declared.sizes.Sizes.{Sizes}
use Rattle.dude_base.specs.declared.write.Write.{Write}
use Rattle.dude_base.specs.Writes.{overwritten}
use Rattle.word_space.specs.Sights.{Agrees}
use Rattle.tatp_model.specs.declared.done.Done.{Done}
use Rattle.tatp_model.specs.Database.{Database}
use Rattle.tatp_model.specs.Transaction.{after_request}
use Rattle.tatp_model.specs.OneThread.{is_sync}
use Rattle.tatp_layout.specs.StandsFor.{StandsFor}
use Rattle.tatp_core.specs.Serves.{Serves}
use Rattle.core_events.specs.Views.{Entry}
use Rattle.core_events.specs.Entries.{value_at, read_at, HaveNumbers, IsLegal}
use Rattle.run_order.specs.Numbers.{WroteAt, AreDatabases, answered_at, IsAnswered, IsNumbered}
use Rattle.run_order.proofs.Members.{contains_map, map_contains}
use Rattle.legal_entries.specs.Served.{done_of, IsServed, array_at, LeadsThrough, LawOfEntries}
use Rattle.legal_entries.proofs.Serving.{wrote_changed}
use Rattle.legal_entries.proofs.Writers.{differ_all, writer, writes_in, writes_are, Writes, writer_is, writer_only, none_or_writer, IsInside, written_inside, length_at, word_at}

-- the database behind an entry, or the one before
abbrev grown : ℕ → Option Entry → Database → Database
grown limit None db = db
grown limit (Some e) db = after_request limit db e.about.request

read_under : (e : Entry) → e.wrote ≡ true → read_at e ≡ e.number - 1
read_under e w = rw w refl

same_place : (e : Entry) → answered_at (done_of e) ≡ read_at e
same_place e = refl

-- the database at a number
abbrev database_at : ℕ → Database → List Entry → ℕ → Database
database_at limit db es zero = db
database_at limit db es (suc n) = grown limit (writer es (suc n)) (database_at limit db es n)

-- the numbers: over the first one where an entry wrote, from it on where it read
module _ (first : ℕ) (s : Sizes) (es : List Entry) (numbers : HaveNumbers first es) (served : All (IsServed s) es) where
  over : (e : Entry) → Contains es e → e.wrote ≡ true → first < e.number
  over e c = All-contains (λ e. e.wrote ≡ true → first < e.number) es e numbers.over c

  number_of : (e : Entry) → Contains es e → IsNumbered first (done_of e)
  number_of e c =
      let v = All-contains (IsServed s) es e served c in
      let from : first ≤ read_at e = All-contains (λ x. first ≤ read_at x) es e numbers.from c in
      record {
        over = over e c;
        from = λ n. ⊎_elim (λ w. let o = over e c w in omega arith) (λ h. let at : read_at e ≡ e.number = rw h refl in omega arith) (cases_Bool e.wrote);
        durable = λ sync. absurd (both_ways (is_sync e.about.request) v.no_sync sync);
      }

  pub each_numbered : All (IsNumbered first) (map done_of es)
  each_numbered = All-map (IsNumbered first) done_of es (All-weaker (Contains es) (λ e. IsNumbered first (done_of e)) number_of es (All-contains_itself es))

module _ (first : ℕ) (s : Sizes) (opening : List ℕ) (db : Database) (es : List Entry) (stands : StandsFor s opening db) (legal : IsLegal first opening es) (served : All (IsServed s) es) where
  abbrev databases : ℕ → Database
  databases n = database_at s.calls db es n

  size : length opening ≡ s.pages * PAGE
  size = stands.size

  inside : IsInside (length opening) es
  inside = written_inside (length opening) es (All-weaker (IsServed s) (λ e. All (λ w. w.at < length opening) e.writes) (λ e v. subst (λ (n : ℕ). All (λ (w : Write). w.at < n) e.writes) (sym size) v.answers.writes_inside) es served)

  -- up to the first number nothing was written
  none_upto : (n : ℕ) → n ≤ first → writer es n ≡ None
  none_upto n le = ⊎_elim (λ no. no) (λ w. let is = writer_is es n w.0 w.1 in let o = over first s es legal.numbers served w.0 is.among is.wrote in let m = is.number in absurd (omega arith)) (none_or_writer (writer es n))

  database_upto : (n : ℕ) → n ≤ first → databases n ≡ db
  database_upto zero le = refl
  database_upto (suc n) le = rw (none_upto (suc n) le) (database_upto n (omega arith))

  -- the reads of an entry agree with the array where it read
  agrees : (e : Entry) → Contains es e → Agrees e.reads (array_at opening es (read_at e))
  agrees e c = record {
    each = λ k d lt. word_at opening es inside (read_at e) _ ∙ sym (All-contains (λ x. All (λ r. r.1 ≡ value_at opening es (read_at x) r.0) x.reads) es e legal.read c k d lt);
  }

  serves : (e : Entry) → Contains es e → StandsFor s (array_at opening es (read_at e)) (databases (read_at e)) → Serves s (databases (read_at e)) e.about.request e.about.reply (overwritten e.writes (array_at opening es (read_at e)))
  serves e c stand = (All-contains (IsServed s) es e served c).answers.serves (array_at opening es (read_at e)) (agrees e c) (databases (read_at e)) stand

  with_writer : (n : ℕ) (o : Option Entry) → writer es (suc n) ≡ o → StandsFor s (overwritten (writes_in o) (array_at opening es n)) (grown s.calls o (databases n)) → StandsFor s (array_at opening es (suc n)) (databases (suc n))
  with_writer n o is t =
      subst (λ (ws : List Write). StandsFor s (overwritten ws (array_at opening es n)) (databases (suc n))) (sym (writes_are es (suc n)))
      (subst (λ (q : Option Entry). StandsFor s (overwritten (writes_in q) (array_at opening es n)) (grown s.calls q (databases n))) (sym is) t)

  -- the array at each number stands for the database there
  stand : (n : ℕ) → StandsFor s (array_at opening es n) (databases n)
  stand zero = stands
  stand (suc n) =
      let before = stand n in
      ⊎_elim
      (λ no. with_writer n None no before)
      (λ w.
      let e = w.0 in let is = writer_is es (suc n) e w.1 in let m = is.number in
      let at : read_at e ≡ n = read_under e is.wrote ∙ omega arith in
      let here = serves e is.among (rw at before) in
      let there : StandsFor s (overwritten e.writes (array_at opening es n)) (after_request s.calls (databases n) e.about.request) = subst (λ (k : ℕ). StandsFor s (overwritten e.writes (array_at opening es k)) (after_request s.calls (databases k) e.about.request)) at here.stands in
      with_writer n (Some e) w.1 there)
      (none_or_writer (writer es (suc n)))

  next_database : (n : ℕ) (e : Entry) → Writes es (n + 1) e → databases (n + 1) ≡ after_request s.calls (databases n) e.about.request
  next_database n e w =
      let up : n + 1 ≡ suc n = omega arith in
      let only : writer es (suc n) ≡ Some e = writer_only es (suc n) e legal.numbers.once (record { among = w.among; wrote = w.wrote; number = w.number ∙ up }) in
      rw up (rw only refl)

  same_database : (n : ℕ) → ((d : Done) → Contains (map done_of es) d → WroteAt (n + 1) d → ⊥) → databases (n + 1) ≡ databases n
  same_database n none =
      let up : n + 1 ≡ suc n = omega arith in
      rw up (⊎_elim (λ no. rw no refl)
      (λ w. let is = writer_is es (suc n) w.0 w.1 in absurd (none (done_of w.0) (contains_map done_of es w.0 is.among) (record { wrote = is.wrote; number = is.number ∙ sym up })))
      (none_or_writer (writer es (suc n))))

  leads : AreDatabases first s.calls db (map done_of es) databases
  leads = record {
    start = database_upto first (omega arith);
    wrote = λ n d le c at.
        let m = map_contains done_of es d c in
        next_database n m.0 (record { among = m.1; wrote = ap (λ (x : Done). x.wrote) m.2 ∙ at.wrote; number = ap (λ (x : Done). x.number) m.2 ∙ at.number })
        ∙ ap (λ (x : Done). after_request s.calls (databases n) x.request) m.2;
    stays = λ n le none. same_database n none;
  }

  answer : (e : Entry) → Contains es e → IsAnswered s.calls databases (done_of e)
  answer e c = record { reply = (serves e c (stand (read_at e))).replies; wrote = wrote_changed s e (All-contains (IsServed s) es e served c) }

  answers : All (IsAnswered s.calls databases) (map done_of es)
  answers = All-map (IsAnswered s.calls databases) done_of es (All-weaker (Contains es) (λ e. IsAnswered s.calls databases (done_of e)) answer es (All-contains_itself es))

  words : (n : ℕ) (array : List ℕ) → length array ≡ s.pages * PAGE → ((i : ℕ) → i < s.pages * PAGE → slice_index array i ≡ value_at opening es n i) → array ≡ array_at opening es n
  words n array long same =
      same_number_lists array (array_at opening es n) (long ∙ sym (length_at opening es inside n ∙ size))
      (λ i lt. same i (subst (λ (m : ℕ). i < m) long lt) ∙ sym (word_at opening es inside n i))

  through : LeadsThrough first s opening db es
  through = record { databases = databases; leads = leads; stands = stand; each = each_numbered first s es legal.numbers served; differ = differ_all es legal.numbers.once; answers = answers; words = words }

pub law : LawOfEntries
law first s opening db es stands legal served = through first s opening db es stands legal served
