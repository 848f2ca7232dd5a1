-- What the end of a run says of all that was done, in the order of files and in the printed order.
use Rattle.std.proofs.Common.{◌≡◌, ◌↔◌, ℕ, ◌≤◌, Bool, true, false, not, IsTrue, List, [], ◌∷◌, Result, Ok, Err, refl, sym, ap, ◌∙◌, subst, arith, ⊎_elim}
use Rattle.std.specs.List.{All, AllPairs, filter}
use Rattle.std.specs.Prelude.{IsPermutation, OnOk}
use Rattle.std.proofs.lemmas.Bool.{cases_Bool, both_ways}
use Rattle.std.proofs.lemmas.List.Elements.{All-nil, All-cons, All-head, All-tail, All-weaker}
use Rattle.std.proofs.lemmas.List.Sorted.{All-permutation, IsPermutation-sym}
use Rattle.pmem_trait.specs.declared.medium.Medium.{Ghosts}
use Rattle.pmem_trait.specs.Sights.{Sight, state_now, AtEveryMoment, Risen, SomeCalls}
use Rattle.pmem_trait.proofs.Laws.{every_moment_weaker}
use Rattle.word_space.specs.Flats.{words_of}
use Rattle.tatp_model.specs.declared.done.Done.{Done}
use Rattle.tatp_model.specs.declared.request.Request.{Request}
use Rattle.tatp_model.specs.Database.{Database}
use Rattle.tatp_model.specs.OneThread.{AllAreDone, RepliesAlong, RepliesOfOneThread, is_changed, is_sync}
use Rattle.tatp_model.specs.Transaction.{after_request}
use Rattle.tatp_layout.specs.StandsFor.{StandsFor}
use Rattle.run_order.specs.Runs.{AreFirstInRounds, Collects, Performs, PrecedesInRounds, PrintedLike, SyncsFollow}
use Rattle.run_order.proofs.Along.{sync_reply}
use Rattle.run_order.proofs.Law.{law}
use Rattle.dude_base.specs.declared.sizes.Sizes.{Sizes}
use Rattle.dude_base.specs.Image.{image_words}
use Rattle.back_store.specs.Back.{BackState}
use Rattle.back_store.specs.BackView.{state_of}
use Rattle.dude_recover.specs.declared.opened.Opened.{Opened}
use Rattle.dude_recover.specs.Opened.{HoldsOpened, IsOpened}
use Rattle.log_numbered.specs.declared.run_log.RunLog.{RunLog}
use Rattle.back_store.specs.Told.{WereTold}
use Rattle.log_numbered.specs.Arrays.{RecoversIn}
use Rattle.log_numbered.specs.RunLog.{Follows, IsAlive, log_back, log_durable, log_end, log_last, log_sizes}
use Rattle.log_numbered.proofs.Closing.{last_near}
use Rattle.log_numbered.proofs.GoingOn.{recovers_here}
use Rattle.dude_engine.specs.declared.run.Run.{Run}
use Rattle.dude_engine.specs.declared.run_fault.RunFault.{RunFault}
use Rattle.dude_engine.specs.declared.run_fault.RunFault.TheVariants.{Device, NoMemory}
use Rattle.dude_engine.specs.declared.ran.RanEnd.TheVariants.{Whole, Device as EndsOnDevice}
use Rattle.dude_engine.specs.Opening.{Opening, RecoversAt, RecoversFrom, last_of}
use Rattle.dude_engine.specs.Endings.{AreSyncsTold, WasToldLast}
use Rattle.dude_engine.specs.Plain.{IsOpeningOf, IsWhole, LosesFew, PerformsInRounds, RecoversOnTheRun, most_lost, most_lost_by, ran_well}
use Rattle.dude_engine.specs.Running.{AreAnswered, EndsNearLast, HasFailed, IsLeft, IsRunning, IsSettledRun, RecoversSoFar, end_by, last_performed, went_well}
use Rattle.dude_engine.proofs.Arrays.{near_at_end}
use Rattle.dude_engine.proofs.Numbering.{all_kept, all_upto, first_upto, greatest_all, greatest_from, greatest_within, last_within}
use Rattle.dude_engine.proofs.Steps.{running_start, visible_on}
use Rattle.dude_engine.proofs.Tellings.{syncs_told}

-- what holds at the end of every run
pub record Ended (ok : Bool) (opening : Opening) (words : List ℕ) (durable : ℕ) (performed : List Done) (s t : Sight) : Type 0 where
  pub answered : AreAnswered opening performed
  pub len : t.len ≡ s.len
  pub ran : SomeCalls ok s t
  pub rises : opening.number ≤ durable
  pub tells : IsTrue s.is_visible → WereTold ok opening.number durable (state_now s).told (state_now t).told
  pub syncs : IsTrue s.is_visible → AreSyncsTold performed s t
  pub moments : (before : ℕ) → HoldsOpened before opening.sizes opening.number words s → AtEveryMoment (RecoversSoFar before opening performed) s t

module _ {M : Type 0} {ghosts : Ghosts M} (opening : Opening) (words : List ℕ) (run : Run M ghosts) (s t : Sight) where
  running_ended : IsRunning opening words run.lay run.log (words_of run.words) run.done.items s t → Ended true opening words (log_durable run.log) run.done.items s t
  running_ended r = record { answered = r.answered; len = r.len; ran = r.ran; rises = r.rises; tells = r.tells; syncs = λ visible. syncs_told (log_durable run.log) run.done.items s t (r.syncs visible); moments = r.moments }

  failed_ended : HasFailed opening words (log_durable run.log) run.done.items s t → Ended false opening words (log_durable run.log) run.done.items s t
  failed_ended r = record { answered = r.answered; len = r.len; ran = r.ran; rises = r.rises; tells = r.tells; syncs = r.syncs; moments = r.moments }

  pub ended_by : (served : Result (Unit {0}) RunFault) → IsLeft served opening words run s t → Ended (went_well served) opening words (log_durable run.log) run.done.items s t
  ended_by (Ok done) left = running_ended left
  ended_by (Err NoMemory) left = running_ended left.0
  ended_by (Err Device) left = failed_ended left

  pub cause_by : (served : Result (Unit {0}) RunFault) → IsLeft served opening words run s t → end_by served ≡ EndsOnDevice → Risen s.faults t.faults
  cause_by (Ok done) left device = absurd (let no : ⊥ = cc in no)
  cause_by (Err NoMemory) left device = absurd (let no : ⊥ = cc in no)
  cause_by (Err Device) left device = left.cause

-- which numbers every image recovers to at the end
module _ {M : Type 0} {ghosts : Ghosts M} (opening : Opening) (words : List ℕ) (run : Run M ghosts) (s t : Sight) where
  near_rest : image_words (log_sizes run.log) ≤ t.len → IsRunning opening words run.lay run.log (words_of run.words) run.done.items s t → IsAlive run.log → EndsNearLast (most_lost_by true) opening words run.done.items s t
  near_rest room r alive before held visible =
      let f = r.follows before held in
      let low : opening.number ≤ log_end run.log = (let from = f.follows.carried.from in let first = f.has.first in omega arith) in
      near_at_end before (log_end run.log) (most_lost_by true) opening run.done.items (words_of run.words) f.arrays t t f.has low (omega (arith, f.has.last_is, r.last, last_near run.log alive)) (visible_on r.ran visible)
      (subst (λ (z : Sizes). AtEveryMoment (RecoversIn z f.arrays (log_end run.log) before) t t) r.sizes (recovers_here (log_back run.log) (log_end run.log) t room alive.leads before f.arrays tt f.follows.carried))

  near_settled : (durable : ℕ) → IsSettledRun opening words durable run.done.items s t → EndsNearLast 0 opening words run.done.items s t
  near_settled durable settled before held visible = record { each = λ image is. (durable, omega (arith, settled.durable_is), (settled.images before held visible).each image is) }

  pub near_by : (served : Result (Unit {0}) RunFault) (durable : ℕ) → image_words (log_sizes run.log) ≤ t.len → IsLeft served opening words run s t → OnOk served (IsSettledRun opening words durable run.done.items s t)
      → EndsNearLast (most_lost (end_by served)) opening words run.done.items s t
  near_by (Ok done) durable room left settled = near_settled durable settled
  near_by (Err NoMemory) durable room left settled = near_rest room left.0 left.1
  near_by (Err Device) durable room left settled = left.near

-- a call failed exactly where the run ends so
pub device_by : (served : Result (Unit {0}) RunFault) → (went_well served ≡ false) ↔ (end_by served ≡ EndsOnDevice)
device_by (Ok done) = ((λ h. cc), (λ h. cc))
device_by (Err NoMemory) = ((λ h. cc), (λ h. cc))
device_by (Err Device) = ((λ h. refl), (λ h. refl))

-- no call failed exactly where the run went well
pub well_by : (served : Result (Unit {0}) RunFault) → went_well served ≡ ran_well (end_by served)
well_by (Ok done) = refl
well_by (Err NoMemory) = refl
well_by (Err Device) = refl

all_both : {X : Type 0} (P Q : X → Type 0) (xs : List X) → All P xs → All Q xs → All (λ x. P x × Q x) xs
all_both P Q [] ps qs = All-nil (λ x. P x × Q x)
all_both P Q (x ∷ xs) ps qs = All-cons (λ y. P y × Q y) x xs (All-head P x xs ps, All-head Q x xs qs) (all_both P Q xs (All-tail P x xs ps) (All-tail Q x xs qs))

-- a request that wrote is no `SYNC`
wrote_no_sync : (limit : ℕ) (db : Database) (performed : List Done) → RepliesAlong limit db performed → All (λ d. d.wrote ≡ true → not (is_sync d.request) ≡ true) performed
wrote_no_sync limit db [] along = All-nil (λ d. d.wrote ≡ true → not (is_sync d.request) ≡ true)
wrote_no_sync limit db (d ∷ performed) along =
    All-cons (λ e. e.wrote ≡ true → not (is_sync e.request) ≡ true) d performed
    (λ wrote. ⊎_elim
    (λ (sync : is_sync d.request ≡ true). let durable = sync_reply limit db d.request sync in absurd (both_ways d.wrote (along.1 ∙ ap is_changed (along.0 ∙ durable)) wrote))
    (λ (other : is_sync d.request ≡ false). ap not other) (cases_Bool (is_sync d.request)))
    (wrote_no_sync limit (after_request limit db d.request) performed along.2)

module _ (opening : Opening) (files : List (List Request)) (performed done : List Done) (same : IsPermutation performed done) (collects : Collects files performed done) (rounds : AllPairs PrecedesInRounds performed) (answered : AreAnswered opening performed) where
  performs_of : Performs opening.number opening.sizes.calls opening.database performed
  performs_of = record { numbered = answered.numbered; replies = answered.replies; rounds = rounds }

  pub performs_in_rounds : AreFirstInRounds files done → PerformsInRounds opening files done
  performs_in_rounds first = record { performed = performed; performs = performs_of; collects = collects; first = first }

  pub replies_of : RepliesOfOneThread opening.number opening.sizes.calls opening.database files done
  replies_of = (law opening.number opening.sizes.calls opening.database files performed done performs_of collects).0

  pub printed_like : PrintedLike opening.sizes.calls opening.database performed done
  printed_like = (law opening.number opening.sizes.calls opening.database files performed done performs_of collects).1

  pub follow_of : SyncsFollow done
  follow_of = (law opening.number opening.sizes.calls opening.database files performed done performs_of collects).2

  pub from_of : All (λ d. IsTrue (is_sync d.request) → opening.number ≤ d.number) done
  from_of = (law opening.number opening.sizes.calls opening.database files performed done performs_of collects).3

  -- the last number is that of a request in the printed order, or the first
  last_in_order : last_performed opening.number performed ≤ last_of opening.number printed_like.order
  last_in_order =
      let bound = last_of opening.number printed_like.order in
      let order : All (λ d. d.number ≤ bound) printed_like.order = greatest_all opening.number printed_like.order in
      let others : All (λ d. d.number ≤ bound) (filter (λ d. not (is_sync d.request)) done) =
      All-permutation (λ d. d.number ≤ bound) printed_like.order (filter (λ d. not (is_sync d.request)) done) (IsPermutation-sym (filter (λ d. not (is_sync d.request)) done) printed_like.order printed_like.printed.same) order in
      let all : All (λ d. not (is_sync d.request) ≡ true → d.number ≤ bound) performed =
      All-permutation (λ d. not (is_sync d.request) ≡ true → d.number ≤ bound) done performed (IsPermutation-sym performed done same) (all_kept (λ d. not (is_sync d.request)) (λ d. d.number ≤ bound) done others) in
      last_within bound opening.number performed answered.numbered (greatest_from opening.number printed_like.order)
      (All-weaker (λ d. (d.wrote ≡ true → not (is_sync d.request) ≡ true) × (not (is_sync d.request) ≡ true → d.number ≤ bound)) (λ d. d.wrote ≡ true → d.number ≤ bound) (λ d h wrote. h.1 (h.0 wrote)) performed
      (all_both (λ d. d.wrote ≡ true → not (is_sync d.request) ≡ true) (λ d. not (is_sync d.request) ≡ true → d.number ≤ bound) performed (wrote_no_sync opening.sizes.calls opening.database performed answered.replies) all))

  -- it is the greatest number done
  last_is_greatest : last_performed opening.number performed ≡ last_of opening.number done
  last_is_greatest =
      let up : last_of opening.number done ≤ last_performed opening.number performed =
      greatest_within (last_performed opening.number performed) opening.number done (first_upto opening performed answered)
      (All-permutation (λ d. d.number ≤ last_performed opening.number performed) performed done same (all_upto opening performed answered)) in
      let down : last_performed opening.number performed ≤ last_of opening.number done =
      last_within (last_of opening.number done) opening.number performed answered.numbered (greatest_from opening.number done)
      (All-weaker (λ d. d.number ≤ last_of opening.number done) (λ d. d.wrote ≡ true → d.number ≤ last_of opening.number done) (λ d h wrote. h) performed
      (All-permutation (λ d. d.number ≤ last_of opening.number done) done performed (IsPermutation-sym performed done same) (greatest_all opening.number done))) in
      omega (arith, up, down)

  -- what an image recovers to is the same along the printed order
  pub recovers_printed : (image : List ℕ) (n : ℕ) → RecoversAt opening performed image n → RecoversAt opening printed_like.order image n
  recovers_printed image n r = record {
    array = r.array;
    recovered = r.recovered;
    same_sizes = r.same_sizes;
    stands = subst (λ (db : Database). StandsFor opening.sizes r.array db) (sym (printed_like.databases n)) r.stands;
  }

  pub recovers_of : (ok : Bool) (words : List ℕ) (durable : ℕ) (s t : Sight) → Ended ok opening words durable performed s t → RecoversOnTheRun opening words done s t
  recovers_of ok words durable s t ended = λ before held. (
    printed_like.order,
    printed_like.printed,
    every_moment_weaker {Q = RecoversFrom before opening printed_like.order} (λ told image size so_far.
        (so_far.number, so_far.from, so_far.floor, omega (arith, so_far.most, last_in_order), recovers_printed image so_far.number so_far.recovers)) (ended.moments before held),
  )

  pub whole_of : (words : List ℕ) (durable : ℕ) (s t : Sight) → AllAreDone files done → IsSettledRun opening words durable performed s t → IsWhole opening words files done durable s t
  whole_of words durable s t all settled = record {
    all = all;
    last_is = settled.durable_is ∙ last_is_greatest;
    end = λ before held visible. record {
      told = settled.told visible;
      order = printed_like.order;
      printed = printed_like.printed;
      images = record { each = λ image is. recovers_printed image durable ((settled.images before held visible).each image is) };
    };
  }

  pub few_lost_of : (most : ℕ) (words : List ℕ) (s t : Sight) → EndsNearLast most opening words performed s t → LosesFew most opening words done s t
  few_lost_of most words s t near before held visible = record {
    order = printed_like.order;
    printed = printed_like.printed;
    images = record { each = λ image is. let r = (near before held visible).each image is in (r.0, omega (arith, r.1, last_is_greatest), recovers_printed image r.0 r.2) };
  }

  pub syncs_of : (s t : Sight) → AreSyncsTold performed s t → AreSyncsTold done s t
  syncs_of s t syncs = All-permutation (λ d. IsTrue (is_sync d.request) → (n : ℕ) × WasToldLast n s t × (d.number ≤ n)) performed done same syncs

-- where a run ends whole, what holds where it went well
pub on_whole : {P : Type 0} (served : Result (Unit {0}) RunFault) → end_by served ≡ Whole → OnOk served P → P
on_whole (Ok done) whole holds = holds
on_whole (Err NoMemory) whole holds = absurd (let no : ⊥ = cc in no)
on_whole (Err Device) whole holds = absurd (let no : ⊥ = cc in no)

-- a run over an opened image begins at each of its openings
pub begins : {M : Type 0} {ghosts : Ghosts M} (o : Opened M ghosts) (opening : Opening) (lay : Sizes) (l : RunLog M ghosts) (current : List ℕ) (performed : List Done) (s t : Sight)
    → IsOpened o → IsOpeningOf o opening → lay ≡ o.lay → current ≡ o.words.items → performed ≡ [] → t ≡ s
    → IsAlive l → log_sizes l ≡ (state_of o.back).log.sizes → log_last l ≡ o.number → log_end l ≡ o.number → log_durable l ≡ o.number → image_words (state_of o.back).log.sizes ≤ s.len
    → ((before : ℕ) (words : List ℕ) → HoldsOpened before (state_of o.back).log.sizes o.number words s → Follows before (record { first = o.number; opening = words; others = [] }) l s)
    → IsRunning opening o.words.items lay l current performed s t
begins o opening lay l current performed s t opened is lay_is current_is none still alive sizes last end durable room follows =
    let back : (state_of o.back).log.sizes ≡ opening.sizes = ap (λ (v : BackState). v.log.sizes) opened.idle ∙ sym is.sizes in
    let start = running_start opening o.words.items lay l s (is.sizes ∙ sym opened.layout ∙ sym lay_is) (sizes ∙ back) (last ∙ sym is.number) (end ∙ sym is.number) (durable ∙ sym is.number) alive
    (subst (λ (z : Sizes). image_words z ≤ s.len) back room) (subst (λ (z : Sizes). StandsFor z o.words.items opening.database) (sym is.sizes) is.stands)
    (λ before held. subst (λ (n : ℕ). Follows before (record { first = n; opening = o.words.items; others = [] }) l s) (sym is.number)
    (follows before o.words.items (subst (λ (z : Sizes). HoldsOpened before z o.number o.words.items s) (sym back) (subst (λ (n : ℕ). HoldsOpened before opening.sizes n o.words.items s) is.number held)))) in
    subst (λ (u : Sight). IsRunning opening o.words.items lay l current performed s u) (sym still)
    (subst (λ (c : List ℕ). IsRunning opening o.words.items lay l c performed s s) (sym current_is)
    (subst (λ (p : List Done). IsRunning opening o.words.items lay l o.words.items p s s) (sym none) start))
