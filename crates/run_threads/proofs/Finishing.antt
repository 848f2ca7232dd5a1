-- What is left of a run, by what its transactions left.
use Rattle.std.proofs.Common.{◌≡◌, ◌↔◌, ℕ, ◌≤◌, Bool, false, true, IsTrue, List, sym, ◌∙◌, subst, arith}
use Rattle.std.specs.List.{All}
use Rattle.std.proofs.lemmas.Bool.{true≢false}
use Rattle.pmem_trait.specs.Sights.{Risen, Sight, state_now}
use Rattle.tatp_model.specs.declared.done.Done.{Done}
use Rattle.tatp_model.specs.declared.request.Request.{Request}
use Rattle.tatp_model.specs.Database.{Database}
use Rattle.tatp_model.specs.OneThread.{AllAreDone}
use Rattle.back_store.specs.Operations.{MakesOperations}
use Rattle.back_store.specs.Told.{WereTold}
use Rattle.core_events.specs.Views.{Entry}
use Rattle.dude_engine.specs.declared.ran.RanEnd.{RanEnd}
use Rattle.dude_engine.specs.declared.ran.RanEnd.TheVariants.{Device, Whole}
use Rattle.dude_engine.specs.Endings.{End, WasToldLast}
use Rattle.dude_engine.specs.Plain.{LosesFew, most_lost, ran_well}
use Rattle.run_threads.specs.Ends.{AnyNumber, EndsWhole}
use Rattle.run_threads.specs.HasRun.{AreEntriesDone, HasRun}
use Rattle.run_threads.specs.Ran.{RanFrom, Start, StandsAt, opening_of}
use Rattle.run_threads.proofs.Answering as answering

-- what is left is the same by equal parts
pub ran_same : (k : Start) (files : List (List Request)) (done new : List Done) (e f : RanEnd) (last number : ℕ) (t u : Sight) → new ≡ done → f ≡ e → number ≡ last → u ≡ t → RanFrom k files done e last t → RanFrom k files new f number u
ran_same k files done new e f last number t u dones ends lasts sights ran =
    subst (λ (d : List Done). RanFrom k files d f number u) (sym dones)
    (subst (λ (x : RanEnd). RanFrom k files done x number u) (sym ends)
    (subst (λ (n : ℕ). RanFrom k files done e n u) (sym lasts)
    (subst (λ (x : Sight). RanFrom k files done e last x) (sym sights) ran)))

module _ (k : Start) (es : List Entry) (last durable : ℕ) (well : Bool) (t : Sight) (run : HasRun k.setup k.sizes es last durable well k.sight t)
    (synced : ℕ) (files : List (List Request)) (done : List Done) (are : AreEntriesDone k.sizes k.setup.first synced files es done) (upto : synced ≤ durable) (seen : IsTrue k.sight.is_visible → k.setup.is_told ≡ true) where
  -- where the last number was told last, none is lost
  pub none_lost : durable ≤ last → k.setup.first ≤ last → (IsTrue k.sight.is_visible → WasToldLast last k.sight t) → (most : ℕ) (db : Database) → StandsAt k db → LosesFew most (opening_of k db) k.setup.opening done k.sight t
  none_lost within first said most db stands before held visible =
      answering.none_lost k.setup k.sizes es last durable well k.sight t run synced files done are upto db stands (seen visible) within first most before held visible (said visible)

  -- what is left, however it ended
  left : (e : RanEnd) → well ≡ ran_well e → (well ≡ false) ↔ (e ≡ Device) → (e ≡ Device → Risen k.sight.faults t.faults)
      → (ran_well e ≡ true → (db : Database) → StandsAt k db → LosesFew (most_lost e) (opening_of k db) k.setup.opening done k.sight t)
      → (e ≡ Whole → (db : Database) → StandsAt k db → EndsWhole AnyNumber (opening_of k db) k.setup.opening files done durable k.sight t) → (e ≡ Whole → MakesOperations k.state k.sight t) → RanFrom k files done e durable t
  left e well_is device cause few whole operates = record {
    numbers = answering.numbers k.setup k.sizes es last durable well k.sight t run synced files done are upto;
    replies = λ told db stands. answering.replies k.setup k.sizes es last durable well k.sight t run synced files done are upto db stands told;
    syncs = answering.syncs k.setup k.sizes es last durable well k.sight t run synced files done are upto;
    moments = λ db stands. answering.moments k.setup k.sizes es last durable well k.sight t run synced files done are upto db stands seen;
    len = run.later.len;
    whole = whole;
    operates = operates;
    from = run.from;
    last_told = λ visible db. subst (λ (ok : Bool). WereTold ok k.setup.first durable (state_now k.sight).told (state_now t).told) well_is (run.told visible);
    ran = (well, run.ran, device);
    cause = cause;
    few_lost = few;
  }

  -- where it isn't whole
  pub unless_whole : (e : RanEnd) → (e ≡ Whole → ⊥) → well ≡ ran_well e → (well ≡ false) ↔ (e ≡ Device) → (e ≡ Device → Risen k.sight.faults t.faults)
      → (ran_well e ≡ true → (db : Database) → StandsAt k db → LosesFew (most_lost e) (opening_of k db) k.setup.opening done k.sight t) → RanFrom k files done e durable t
  unless_whole e not_whole well_is device cause few = left e well_is device cause few (λ whole. absurd (not_whole whole)) (λ whole. absurd (not_whole whole))

  -- where all is done, the last number was told last, and no call failed
  pub whole_run : well ≡ true → durable ≡ last → k.setup.first ≤ last → AllAreDone files done → (IsTrue k.sight.is_visible → WasToldLast last k.sight t) → MakesOperations k.state k.sight t → RanFrom k files done Whole durable t
  whole_run went all_durable first all said operates =
      left Whole went ((λ no. absurd (true≢false (sym went ∙ no))), (λ device. absurd (let no : ⊥ = cc in no))) (λ device. absurd (let no : ⊥ = cc in no)) (λ ok db stands. none_lost (omega arith) first said 0 db stands)
      (λ whole db stands. record {
        all = all;
        none_over = subst (λ (n : ℕ). All (λ d. d.number ≤ n) done) (sym all_durable) (answering.none_over k.setup k.sizes es last durable well k.sight t run synced files done are upto (omega arith));
        from = run.from;
        reaches = tt;
        end = λ before held visible. subst (λ (n : ℕ). End (opening_of k db) done n k.sight t) (sym all_durable)
            (answering.end k.setup k.sizes es last durable well k.sight t run synced files done are upto db stands (seen visible) before held visible (said visible));
      }) (λ whole. operates)
