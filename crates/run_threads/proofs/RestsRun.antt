-- What is left of a run whose threads set something aside, which one thread ran behind them.
use Rattle.std.proofs.Common.{◌≡◌, ◌⊎◌, ⊎_elim, inl, inr, ℕ, ◌<◌, ◌≤◌, Bool, false, true, IsTrue, List, ◌++◌, length, length-append, map, refl, sym, ap, ◌∙◌, subst, arith}
use Rattle.std.specs.Prelude.{slice_index}
use Rattle.std.specs.List.{All, Contains}
use Rattle.std.proofs.lemmas.Bool.{cases_Bool, both_ways}
use Rattle.std.proofs.lemmas.List.Elements.{All-contains, All-contains_itself, All-weaker, Contains-append_cases}
use Rattle.std.proofs.lemmas.List.Sorted.{IsPermutation-sym, Contains-permutation}
use Rattle.pmem_trait.specs.Words.{EveryImage}
use Rattle.pmem_trait.specs.Sights.{AtEveryMoment, Sight, SomeCalls, state_now}
use Rattle.pmem_trait.proofs.Laws.{every_moment_then, every_moment_weaker}
use Rattle.pmem_trait.proofs.Runs.{later_then, ran_then, risen_later}
use Rattle.pmem_trait.proofs.Told.{calls_told}
use Rattle.tatp_model.specs.declared.done.Done.{Done}
use Rattle.tatp_model.specs.declared.request.Request.{Request}
use Rattle.tatp_model.specs.Database.{Database}
use Rattle.tatp_model.specs.OneThread.{AllAreDone, IsPrintedOrder, RepliesOfOneThread, is_sync}
use Rattle.tatp_layout.specs.StandsFor.{StandsFor}
use Rattle.image_recovery.proofs.OneRecovery.{same_replay}
use Rattle.dude_recover.specs.Opened.{HoldsOpened}
use Rattle.run_order.specs.Runs.{SyncsFollow}
use Rattle.back_store.specs.Told.{WereTold}
use Rattle.back_store.specs.Operations.{MakesOperations}
use Rattle.back_store.proofs.ToldNumbers.{tells_then}
use Rattle.core_events.specs.Views.{Entry}
use Rattle.run_order.specs.Numbers.{AreAnswered, AreDatabases, AreNumbered}
use Rattle.run_order.specs.Printed.{NumbersOfOneThread, PrintsAt}
use Rattle.run_order.specs.Rests.{AreAnsweredOn, IsUnion, NumbersRests, PerformsRests, files_of, firsts_of, rests_of, shifted}
use Rattle.run_order.proofs.Members.{map_contains}
use Rattle.run_order.proofs.NumbersPrinted.{law_databases, law_printed, law_replies}
use Rattle.run_order.proofs.Together.{all_together, law_rest_numbers, law_syncs}
use Rattle.legal_entries.specs.Served.{LeadsThrough}
use Rattle.tiny_stm.specs.Ended.{HasValuesAt, RecoversUpTo}
use Rattle.dude_engine.specs.declared.ran.RanEnd.{RanEnd}
use Rattle.dude_engine.specs.declared.ran.RanEnd.TheVariants.{Whole}
use Rattle.dude_engine.specs.Opening.{IsUpToLast, RecoversAmong, RecoversAt, last_of}
use Rattle.dude_engine.specs.Endings.{End, WasToldLast}
use Rattle.dude_engine.specs.Plain.{AnswersFiles, LosesFew, most_lost, ran_well}
use Rattle.dude_engine.proofs.Numbering.{greatest_all, greatest_from, greatest_within}
use Rattle.run_threads.specs.Answers.{IsDurable, TellsSyncsOnThreads}
use Rattle.run_threads.specs.Behind.{RanBehind, reopening}
use Rattle.run_threads.specs.Ends.{AnyNumber, RecoversOnThreads}
use Rattle.run_threads.specs.HasRests.{HasRests}
use Rattle.run_threads.specs.HasRun.{AreEntriesDone, HasRun}
use Rattle.run_threads.specs.Ran.{RanFrom, Start, StandsAt, opening_of}
use Rattle.run_threads.proofs.Answering as answering
use Rattle.run_threads.proofs.Behind.{along_behind, on}
use Rattle.run_threads.proofs.ToldOnTheWay.{every_moment_told, floor_before}

-- told last behind a later moment, so told last behind an earlier one
told_since : (n : ℕ) (ok : Bool) (s t u : Sight) → SomeCalls ok s t → IsTrue s.is_visible → WasToldLast n t u → WasToldLast n s u
told_since n ok s t u calls seen said = let more = calls_told calls.1 seen in let e = ap (λ (l : List ℕ). length l) more.is in let long = length-append (state_now s).told more.more in
    (said.0, said.1, (let l = said.2 in omega arith))

module _ (k : Start) (es : List Entry) (last : ℕ) (t : Sight) (run : HasRun k.setup k.sizes es last last true k.sight t) (first : k.setup.first ≤ last) (seen : IsTrue k.sight.is_visible → k.setup.is_told ≡ true)
    (synced : ℕ) (files : List (List Request)) (threads : List Done) (are : AreEntriesDone k.sizes k.setup.first synced files es threads) (upto : synced ≤ last)
    (counts : List ℕ) (draws : ℕ) (rests : HasRests files counts draws es threads) (words : List ℕ) (values : k.setup.is_told ≡ true → HasValuesAt k.setup es last words)
    (collected done : List Done) (union : IsUnion (slice_index counts) threads collected done) (end : RanEnd) (number : ℕ) (u : Sight) (behind : RanBehind k.sizes last words (rests_of rests.parts) collected end number t u)
    (holds : (before : ℕ) → HoldsOpened before k.sizes k.setup.first k.setup.opening k.sight → HoldsOpened before k.sizes last words t) where
  abbrev firsts : List (List Request)
  firsts = firsts_of rests.parts

  abbrev at : ℕ → ℕ
  at = slice_index counts

  are_first : AreEntriesDone k.sizes k.setup.first synced firsts es threads
  are_first = record { served = are.served; done_by = rests.done_by; follow = are.follow; syncs = are.syncs }

  threads_under : All (λ d. d.number ≤ last) threads
  threads_under = answering.none_over k.setup k.sizes es last last true k.sight t run synced firsts threads are_first upto (omega arith)

  -- ---- the numbers, whatever the transactions read
  some : AnswersFiles (reopening k.sizes last behind.some.0) (rests_of rests.parts) collected
  some = behind.answers behind.some.0 behind.some.1

  rest_numbers : NumbersRests k.setup.first k.sizes.calls last behind.some.0 at rests.parts threads some.performs.performed collected done
  rest_numbers = record {
    lengths = rests.lengths;
    all = rests.all;
    numbered = answering.numbered k.setup k.sizes es last last true k.sight t run synced firsts threads are_first upto;
    from = first;
    upto = threads_under;
    performs = some.performs.performs;
    collects = some.performs.collects;
    union = union;
  }

  numbered : AreNumbered k.setup.first files done
  numbered = subst (λ (fs : List (List Request)). AreNumbered k.setup.first fs done) rests.files_are (law_rest_numbers k.setup.first k.sizes.calls last behind.some.0 at rests.parts threads some.performs.performed collected done rest_numbers)

  numbers : NumbersOfOneThread k.setup.first files done
  numbers = law_printed k.setup.first files done numbered

  follow : SyncsFollow done
  follow = law_syncs k.setup.first k.sizes.calls last behind.some.0 at rests.parts threads some.performs.performed collected done rest_numbers are.follow

  which : (d : Done) → Contains done d → Contains threads d ⊎ ((e : Done) × Contains collected e × (shifted at e ≡ d))
  which d c = ⊎_elim (λ here. inl here) (λ there. inr (map_contains (shifted at) collected d there))
      (Contains-append_cases threads (map (shifted at) collected) d (Contains-permutation done (threads ++ map (shifted at) collected) d (IsPermutation-sym (threads ++ map (shifted at) collected) done union.same) c))

  -- what holds of those that threads answered and of those behind them holds of all
  of_both : (P : Done → Type 0) → ((d : Done) → Contains threads d → P d) → ((e : Done) → Contains collected e → P (shifted at e)) → All P done
  of_both P one other = All-weaker (Contains done) P (λ d c. ⊎_elim (λ here. one d here) (λ r. subst P r.2 (other r.0 r.1)) (which d c)) done (All-contains_itself done)

  -- none of them has a greater number than the greatest one behind the threads
  greatest_done : last_of k.setup.first done ≤ last_of last collected
  greatest_done =
      let from = greatest_from last collected in
      greatest_within (last_of last collected) k.setup.first done (omega arith) (of_both (λ d. d.number ≤ last_of last collected)
      (λ d c. let low = All-contains (λ (x : Done). x.number ≤ last) threads d threads_under c in omega arith)
      (λ e c. let most = All-contains (λ (x : Done). x.number ≤ last_of last collected) collected e (greatest_all last collected) c in omega arith))

  -- ---- what was told
  told : IsTrue k.sight.is_visible → WereTold (ran_well end) k.setup.first number (state_now k.sight).told (state_now u).told
  told visible = tells_then (ran_well end) k.setup.first last number (state_now k.sight).told (state_now t).told (state_now u).told (run.told visible) (behind.told (run.later.is_visible ∙ visible))

  thread_durable : IsTrue k.sight.is_visible → (d : Done) → Contains threads d → IsTrue (is_sync d.request) → IsDurable k.setup.first k.sight u d.number
  thread_durable visible d c sync =
      let both = All-contains (λ x. IsTrue (is_sync x.request) → (k.setup.first ≤ x.number) × (x.number ≤ synced)) threads d are.syncs c sync in let low = both.0 in let high = both.1 in let least = behind.from in
      ⊎_elim (λ (none : (number ≡ k.setup.first) × ((state_now u).told ≡ (state_now k.sight).told)). inl ((let is = none.0 in omega arith), none.1))
      (λ (r : (n : ℕ) × WasToldLast n k.sight u × (number ≤ n)). inr (r.0, r.1, (let most = r.2 in omega arith)))
      (answering.told_last (ran_well end) k.setup.first number k.sight u (told visible))

  syncs : TellsSyncsOnThreads k.setup.first done k.sight u
  syncs = record {
    follow = follow;
    from = of_both (λ d. IsTrue (is_sync d.request) → k.setup.first ≤ d.number)
        (λ d c sync. (All-contains (λ x. IsTrue (is_sync x.request) → (k.setup.first ≤ x.number) × (x.number ≤ synced)) threads d are.syncs c sync).0)
        (λ e c sync. let least = All-contains (λ x. IsTrue (is_sync x.request) → last ≤ x.number) collected e behind.least c sync in omega arith);
    told = λ visible. of_both (λ d. IsTrue (is_sync d.request) → IsDurable k.setup.first k.sight u d.number)
        (thread_durable visible)
        (λ e c sync. let r = All-contains (λ x. IsTrue (is_sync x.request) → (n : ℕ) × WasToldLast n t u × (x.number ≤ n)) collected e (behind.syncs (run.later.is_visible ∙ visible)) c sync in
        inr (r.0, told_since r.0 true k.sight t u run.ran visible r.1, r.2));
  }

  -- ---- where it is known what the transactions read
  module _ (known : k.setup.is_told ≡ true) (db : Database) (stands : StandsAt k db) where
    through : LeadsThrough k.setup.first k.sizes k.setup.opening db es
    through = answering.through k.setup k.sizes es last last true k.sight t run synced firsts threads are_first upto db stands known

    answered : AreNumbered k.setup.first firsts threads × AreDatabases k.setup.first k.sizes.calls db threads through.databases × AreAnswered k.sizes.calls through.databases threads
    unfolding through
    answered = answering.answered k.setup k.sizes es last last true k.sight t run synced firsts threads are_first upto db stands known

    abbrev base : Database
    base = through.databases last

    base_stands : StandsFor k.sizes words base
    base_stands =
        let v = values known in
        let same = through.words last words (v.size ∙ stands.size) (λ i lt. v.words i (subst (λ (n : ℕ). i < n) (sym stands.size) lt)) in
        subst (λ (array : List ℕ). StandsFor k.sizes array base) (sym same) (through.stands last)

    its : AnswersFiles (reopening k.sizes last base) (rests_of rests.parts) collected
    its = behind.answers base base_stands

    performs : PerformsRests k.setup.first k.sizes.calls last db at rests.parts through.databases threads its.performs.performed collected done
    performs = record {
      lengths = rests.lengths;
      answered = record { all = rests.all; numbered = answered.0; ends = record { leads = answered.1; from = first; upto = threads_under }; answers = answered.2 };
      performs = its.performs.performs;
      collects = its.performs.collects;
      union = union;
    }

    both : AreAnsweredOn k.setup.first k.sizes.calls last db (files_of rests.parts) its.performs.performed done through.databases
    both = on k.setup.first k.sizes.calls last db at rests.parts through.databases threads its.performs.performed collected done performs

    replies : RepliesOfOneThread k.setup.first k.sizes.calls db files done
    replies = law_replies k.setup.first k.sizes.calls db files done both.further numbered both.leads both.answers

    prints : PrintsAt k.setup.first k.sizes.calls db done both.further
    prints = (law_databases k.setup.first k.sizes.calls db files done both.further numbered).0 both.leads

    -- an image of the threads' part
    image_before : (before : ℕ) (said image : List ℕ) (r : RecoversUpTo k.setup es last k.sizes before said image) → RecoversAt (opening_of k db) prints.order image r.number
    image_before before said image r =
        let size = through.words r.number r.array (r.values.size ∙ stands.size) (λ i lt. r.values.words i (subst (λ (n : ℕ). i < n) (sym stands.size) lt)) in
        let is : StandsFor k.sizes r.array (through.databases r.number) = subst (λ (array : List ℕ). StandsFor k.sizes array (through.databases r.number)) (sym size) (through.stands r.number) in
        record {
          array = r.array;
          recovered = r.recovered;
          same_sizes = r.same_sizes;
          stands = subst (λ (d : Database). StandsFor k.sizes r.array d) (sym (prints.along r.number r.from ∙ both.go_on.upto r.number r.upto)) is;
        }

    -- an image of what was run behind it
    image_behind : (order : List Done) (image : List ℕ) (n : ℕ) → IsPrintedOrder collected order → last ≤ n → RecoversAt (reopening k.sizes last base) order image n → RecoversAt (opening_of k db) prints.order image n
    unfolding both
    image_behind order image n printed le r = record {
      array = r.array;
      recovered = r.recovered;
      same_sizes = r.same_sizes;
      stands = subst (λ (d : Database). StandsFor k.sizes r.array d)
          (along_behind k.setup.first k.sizes.calls last db at rests.parts through.databases threads its.performs.performed collected done performs order printed n le ∙ sym (prints.along n (omega arith))) r.stands;
    }

    moments_told : (before : ℕ) → HoldsOpened before k.sizes k.setup.first k.setup.opening k.sight → AtEveryMoment (RecoversAmong (AnyNumber prints.order) before (opening_of k db) prints.order) k.sight u
    moments_told before held =
        let later = behind.moments base base_stands before (holds before held) in
        every_moment_then {P = RecoversAmong (AnyNumber prints.order) before (opening_of k db) prints.order}
        (every_moment_told {P = RecoversUpTo k.setup es last k.sizes (length (state_now k.sight).told)} {Q = RecoversAmong (AnyNumber prints.order) before (opening_of k db) prints.order} run.ran (λ visible said image more r.
        (r.number, r.from, floor_before before k.setup.first r.number (state_now k.sight).told said more (held.keeps.told refl visible) r.from r.floor, tt, image_before (length (state_now k.sight).told) said image r)) (run.images before held.keeps))
        (every_moment_weaker {Q = RecoversAmong (AnyNumber prints.order) before (opening_of k db) prints.order} (λ said image long r. (r.0, (let low = r.1 in omega arith), r.2, tt, image_behind later.0 image r.0 later.1 r.1 r.4)) later.2)

    -- few of the numbers are lost: images recover to none under the last one of the threads
    few_lost : LosesFew (most_lost end) (opening_of k db) k.setup.opening done k.sight u
    few_lost before held visible =
        let there = run.later.is_visible ∙ visible in
        let near = behind.few_lost base base_stands before (holds before held) there in
        let later = behind.moments base base_stands before (holds before held) in
        let behind_all : EveryImage u.len (RecoversAmong (IsUpToLast (reopening k.sizes last base) later.0) before (reopening k.sizes last base) later.0) (state_now u) =
        subst (λ (n : ℕ). EveryImage n (RecoversAmong (IsUpToLast (reopening k.sizes last base) later.0) before (reopening k.sizes last base) later.0) (state_now u)) (sym behind.len) (later.2.each there u.now later.2.later.now (omega arith)) in record {
          order = prints.order;
          printed = prints.printed;
          images = record {
            each = λ image is.
                let e = near.images.each image is in
                let r = behind_all.each image is in
                let same : e.0 ≡ r.0 = (same_replay image e.0 r.0 e.2.array r.4.array e.2.recovered r.4.recovered).0 in
                let low : last ≤ e.0 = (let from = r.1 in omega arith) in
                (e.0, (let close = e.1 in let greatest = greatest_done in omega arith), image_behind near.order image e.0 near.printed low e.2);
          };
        }

    end_told : end ≡ Whole → (before : ℕ) → HoldsOpened before k.sizes k.setup.first k.setup.opening k.sight → IsTrue k.sight.is_visible → End (opening_of k db) done number k.sight u
    end_told whole before held visible =
        let e = (behind.whole whole base base_stands).end before (holds before held) (run.later.is_visible ∙ visible) in record {
          told = told_since number true k.sight t u run.ran visible e.told;
          order = prints.order;
          printed = prints.printed;
          images = record { each = λ image is. image_behind e.order image number e.printed behind.from (e.images.each image is) };
        }

  moments : (db : Database) → StandsAt k db → RecoversOnThreads (opening_of k db) k.setup.opening done k.sight u
  moments db stands before held = ⊎_elim
      (λ (is : k.sight.is_visible ≡ true). let p = prints (seen is) db stands in (p.order, p.printed, moments_told (seen is) db stands before held))
      (λ (unseen : k.sight.is_visible ≡ false). let later = behind.moments behind.some.0 behind.some.1 before (holds before held) in
      (numbers.order, numbers.printed, record { later = later_then run.later later.2.later; each = λ visible m from most. absurd (both_ways k.sight.is_visible unseen visible) }))
      (cases_Bool k.sight.is_visible)

  from : k.setup.first ≤ number
  from = let from = behind.from in omega arith

  -- ---- all together
  pub ran_rests : (end ≡ Whole → MakesOperations k.state k.sight u) → RanFrom k files done end number u
  ran_rests operates = record {
    numbers = numbers;
    replies = λ known db stands. replies known db stands;
    syncs = syncs;
    moments = moments;
    len = behind.len ∙ run.later.len;
    whole = λ whole db stands. let w = behind.whole whole behind.some.0 behind.some.1 in record {
      all = subst (λ (fs : List (List Request)). AllAreDone fs done) rests.files_are (all_together at rests.parts threads collected done rests.lengths rests.all w.all union);
      none_over = of_both (λ d. d.number ≤ number)
          (λ d c. let low = All-contains (λ (x : Done). x.number ≤ last) threads d threads_under c in let from = behind.from in omega arith)
          (λ e c. let most = All-contains (λ (x : Done). x.number ≤ last_of last collected) collected e (greatest_all last collected) c in let is = w.last_is in omega arith);
      from = from;
      reaches = tt;
      end = λ before held visible. end_told (seen visible) db stands whole before held visible;
    };
    operates = operates;
    from = from;
    last_told = λ visible db. told visible;
    ran = (behind.ran.0, ran_then run.ran behind.ran.1, behind.ran.2);
    cause = λ device. risen_later k.sight.faults t.faults u.faults u.faults run.later.faults (behind.cause device) (omega arith);
    few_lost = λ well db stands before held visible. few_lost (seen visible) db stands before held visible;
  }
