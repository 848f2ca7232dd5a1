-- What is left of transactions that set something aside, and behind an image that was opened again.
use Rattle.std.proofs.Common.{◌≡◌, ⊎_elim, ℕ, ◌+◌, ◌*◌, ◌<◌, ◌≤◌, Bool, false, true, IsTrue, List, [], ◌∷◌, ◌++◌, length, map, refl, sym, ap, ◌∙◌, subst, arith}
use Rattle.std.specs.Prelude.{◌==◌, ◌^◌, IsPermutation, if◌then◌else◌, not, slice_index}
use Rattle.std.specs.List.{All, AllPairs}
use Rattle.std.proofs.lemmas.Bool.{true≢false}
use Rattle.std.proofs.lemmas.List.Elements.{All-head, All-tail, All-cons, All-nil}
use Rattle.dude_base.specs.declared.limits.TheConstants.{MAX_NUMBER, PAGE}
use Rattle.dude_base.specs.declared.sizes.Sizes.{Sizes}
use Rattle.dude_base.specs.Image.{image_words}
use Rattle.pmem_trait.specs.Words.{AtLeast}
use Rattle.pmem_trait.specs.Sights.{Sight, state_now}
use Rattle.pmem_trait.specs.declared.call.Call.{Call}
use Rattle.pmem_trait.specs.declared.medium.Medium.{Ghosts}
use Rattle.pmem_trait.proofs.Told.{calls_told, last_image}
use Rattle.tatp_model.specs.declared.done.Done.{Done}
use Rattle.tatp_model.specs.declared.request.Request.{Request}
use Rattle.tatp_model.specs.Database.{Database}
use Rattle.tatp_model.specs.Request.{IsInRange}
use Rattle.tatp_model.specs.OneThread.{HoldsPrefixes, PrecedesInFiles}
use Rattle.run_order.specs.Runs.{StandApart}
use Rattle.run_order.proofs.FileOrder.{in_files_from_holding}
use Rattle.run_order.proofs.Pairs.{all_behind}
use Rattle.run_order.specs.Rests.{IsUnion, files_of, firsts_of, rests_of, shifted}
use Rattle.dude_recover.specs.declared.opened.Opened.{Opened}
use Rattle.dude_recover.specs.Opened.{HasParts, HoldsOpened, IsOpened}
use Rattle.back_store.specs.declared.back.Back.{Back}
use Rattle.back_store.specs.Backlog.{without_records_to}
use Rattle.back_store.specs.Back.{BackState, idle}
use Rattle.back_store.specs.Images.{HoldsStore}
use Rattle.back_store.specs.BackView.{medium_of, sight_of, state_of}
use Rattle.back_store.specs.Operations.{MakesOperations, OperatesLog, OperatesLog.rests, OperatesLog.persists, OperatesLog.announces, OperatesLog.reproduces, OperatesLog.reads, OperatesLog.renews}
use Rattle.back_store.proofs.Operations.{operates_on}
use Rattle.core_events.specs.Views.{Entry}
use Rattle.stm_slots.specs.Opening.{setup_of, start_sight}
use Rattle.stm_slots.specs.declared.opening.Opening.{Opening}
use Rattle.tiny_stm.specs.Ended.{IsKeptEnd}
use Rattle.tiny_stm.specs.declared.closed.Closed.{Closed}
use Rattle.run_threads.specs.Ended.{IsCutOff, IsEnded}
use Rattle.run_threads.specs.Home.{IsHome, MayReadHome}
use Rattle.run_threads.specs.Reopened.{HoldsReopened}
use Rattle.dude_engine.specs.declared.ran.RanEnd.{RanEnd}
use Rattle.dude_engine.specs.declared.ran.RanEnd.TheVariants as end
use Rattle.dude_engine.specs.Opening.{Opening as RunOpening}
use Rattle.dude_engine.specs.Plain.{AnswersFiles, EndsAs, IsOpeningOf, LosesFew, RecoversOnTheRun, TellsSyncs, most_lost}
use Rattle.dude_engine.specs.Requests.{AreInRange, HasNumberEach, request_count}
use Rattle.dude_engine.proofs.Numbering.{greatest_within}
use Rattle.run_threads.specs.Behind.{RanBehind}
use Rattle.run_threads.specs.HasRun.{HasRun}
use Rattle.run_threads.specs.Parts.{AreInParts, AreParts, AreRests, IsCounted}
use Rattle.run_threads.specs.Ran.{RanFrom, Start, StandsAt, opening_of}
use Rattle.run_threads.specs.SetAside.{HasSetAside}
use Rattle.run_threads.specs.Starts.{start_of}
use Rattle.run_threads.specs.Streamed.{StandFirst}
use Rattle.run_threads.proofs.Answering as answering
use Rattle.run_threads.proofs.Closing.{has_run, told_where}
use Rattle.run_threads.proofs.Finishing.{unless_whole}
use Rattle.run_threads.proofs.Parting.{as_many, count_done, count_held, count_parts}
use Rattle.run_threads.proofs.ReopenedRun.{ran_behind}
use Rattle.run_threads.proofs.RestsRun.{ran_rests}
use Rattle.run_threads.proofs.Standing.{stand_first}
use Rattle.run_threads.proofs.ToldOnTheWay.{floor_before, told_in}
use Rattle.run_threads.proofs.Uniting.{all_shifted, apart, counted, under_firsts}

-- ---- operations leave the sizes of the image
reproduced_sizes : (b : Bool) (v w : BackState) → w.log.sizes ≡ v.log.sizes → (if b then v else w).log.sizes ≡ v.log.sizes
reproduced_sizes true v w same = refl
reproduced_sizes false v w same = same

sizes_stay : {v w : BackState} {calls : List Call} → OperatesLog v w calls → w.log.sizes ≡ v.log.sizes
sizes_stay rests = refl
sizes_stay (persists ring bundle by rest) = sizes_stay rest ∙ ap (λ (x : BackState). x.log.sizes) by.back
sizes_stay (announces number rest) = sizes_stay rest
sizes_stay (reproduces {v = v} number by rest) = sizes_stay rest ∙ reproduced_sizes (number == v.log.reproduced) v (record v { log = without_records_to number v.log }) refl
sizes_stay (reads page inside rest) = sizes_stay rest
sizes_stay (renews none rest) = sizes_stay rest

-- ---- the rests of files in range
rests_in_range : (parts : List (List Request × List Request)) → AreInRange (files_of parts) → AreInRange (rests_of parts)
rests_in_range [] all = All-nil (All IsInRange)
rests_in_range (p ∷ parts) all =
    All-cons (All IsInRange) p.1 (rests_of parts) (all_behind IsInRange p.0 p.1 (All-head (All IsInRange) (p.0 ++ p.1) (files_of parts) all))
    (rests_in_range parts (All-tail (All IsInRange) (p.0 ++ p.1) (files_of parts) all))

module _ {M : Type 0} {ghosts : Ghosts M} (o : Opening M ghosts) (sizes : Sizes) (frames : ℕ) (files : List (List Request)) (c : Closed M ghosts) (done : List Done) (counts : List ℕ)
    (h : HasSetAside ghosts.sight o sizes frames files c done counts) where
  abbrev here : Start
  here = start_of ghosts.sight o sizes

  abbrev sight : M → Sight
  sight = ghosts.sight

  abbrev parts : List (List Request × List Request)
  parts = h.rests.parts

  pub are_parts : AreParts files counts parts
  are_parts = record { files_are = h.rests.files_are; lengths = h.rests.lengths; counted = h.rests.counted }

  pub in_parts : AreInParts files counts
  in_parts = (parts, are_parts)

  -- there is a number for each request of the rests
  numbers_left : c.number + request_count (rests_of parts) ≤ MAX_NUMBER
  numbers_left =
      let room = h.closed.room in let left = h.rests.draws_left in let both = count_parts parts in
      let whole = ap request_count h.rests.files_are in let first = count_done (firsts_of parts) done h.rests.all in
      let same = h.number in omega arith

  upto_at : (last : ℕ) → last ≡ c.number → All (λ e. e.number ≤ last) h.view.entries
  upto_at last is = subst (λ (n : ℕ). All (λ (e : Entry). e.number ≤ n) h.view.entries) (sym (is ∙ h.number)) h.closed.upto

  run : (last : ℕ) → last ≡ c.number → (b : Back M ghosts) → IsKeptEnd sight o h.view last b → HasRun (setup_of sight o) sizes h.view.entries last (state_of b).log.durable (not (state_of b).dead) (start_sight sight o) (sight (medium_of b))
  run last is b kept = has_run sight o h.view last h.closed.numbers h.closed.legal (upto_at last is) b kept sizes h.starts.room

  -- ---- a call on the medium failed
  pub cut_off : (last : ℕ) → last ≡ c.number → (b : Back M ghosts) → IsCutOff sight o h.view last b → RanFrom here files done end.Device (state_of b).log.durable (sight (medium_of b))
  cut_off last is b cut =
      let failed : not (state_of b).dead ≡ false = ap not cut.dead in
      unless_whole here h.view.entries last (state_of b).log.durable (not (state_of b).dead) (sight (medium_of b)) (run last is b cut.kept) h.view.turn.durable files done h.are cut.kept.raised (told_where sight o)
      end.Device (λ whole. let no : ⊥ = cc in no) failed ((λ f. refl), (λ d. failed)) (λ d. cut.cause) (λ well. absurd (let no : ⊥ = cc in no))

  -- ---- all is in the home
  module _ (last : ℕ) (is : last ≡ c.number) (b : Back M ghosts) (ended : IsEnded sight o h.view last b) where
    went : not (state_of b).dead ≡ true
    went = ap not ended.alive

    ran : HasRun (setup_of sight o) sizes h.view.entries last last true (start_sight sight o) (sight (medium_of b))
    ran = subst (λ (ok : Bool). HasRun (setup_of sight o) sizes h.view.entries last last ok (start_sight sight o) (sight (medium_of b))) went
        (subst (λ (n : ℕ). HasRun (setup_of sight o) sizes h.view.entries last n (not (state_of b).dead) (start_sight sight o) (sight (medium_of b))) ended.durable (run last is b ended.kept))

    raised : h.view.turn.durable ≤ last
    raised = let low = ended.kept.raised in let same = ended.durable in omega arith

    -- no number that images recover to is under the last one
    floor : IsTrue (start_sight sight o).is_visible → (n : ℕ) → o.terms.first ≤ n → AtLeast (length (state_now (start_sight sight o)).told) (state_now (sight (medium_of b))).told n → last ≤ n
    floor visible n from least =
        let either = answering.told_last true o.terms.first last (start_sight sight o) (sight (medium_of b)) (ran.told visible) in
        ⊎_elim (λ none. omega arith)
        (λ some. let low = least some.0 (told_in some.0 (length (state_now (start_sight sight o)).told) some.1.0 (state_now (sight (medium_of b))).told some.1.1 some.1.2) in let upto = some.2 in omega arith) either

    none_lost : (most : ℕ) (db : Database) → StandsAt here db → LosesFew most (opening_of here db) o.terms.opening done (start_sight sight o) (sight (medium_of b))
    none_lost most db stands before held visible =
        answering.near (setup_of sight o) sizes h.view.entries last last true (start_sight sight o) (sight (medium_of b)) ran h.view.turn.durable files done h.are raised db stands (told_where sight o visible) most before held visible
        (λ n from least.
        let greatest = greatest_within last o.terms.first done ended.first (answering.none_over (setup_of sight o) sizes h.view.entries last last true (start_sight sight o) (sight (medium_of b)) ran h.view.turn.durable files done h.are raised (omega arith)) in
        let low = floor visible n from least in omega arith)

    -- want of memory
    pub no_memory : RanFrom here files done end.NoMemory last (sight (medium_of b))
    no_memory =
        unless_whole here h.view.entries last last true (sight (medium_of b)) ran h.view.turn.durable files done h.are raised (told_where sight o)
        end.NoMemory (λ whole. let no : ⊥ = cc in no) refl ((λ f. absurd (true≢false f)), (λ d. absurd (let no : ⊥ = cc in no))) (λ d. absurd (let no : ⊥ = cc in no))
        (λ well. none_lost (most_lost end.NoMemory))

    same_sizes : (state_of b).log.sizes ≡ sizes
    same_sizes = sizes_stay (ended.kept.by_entries.known.is.operates ended.alive).1 ∙ ap (λ (v : BackState). v.log.sizes) h.starts.state

    -- calls behind them begin at an idle back
    operates : (u : Sight) → MakesOperations (idle sizes last) (sight (medium_of b)) u → MakesOperations (state_of o.back.value) (start_sight sight o) u
    operates u more =
        let v = state_of b in let w = more.0 in let calls = more.1.0 in
        let at : OperatesLog (idle v.log.sizes v.log.reproduced) w calls =
        subst (λ (z : Sizes). OperatesLog (idle z v.log.reproduced) w calls) (sym same_sizes) (subst (λ (n : ℕ). OperatesLog (idle sizes n) w calls) (sym ended.reproduced) more.1.1) in
        (w, operates_on (ended.kept.by_entries.known.is.operates ended.alive) (calls, renews ended.none at, more.1.2))

    -- what an opening at the start holds, one behind them holds
    holds : (words : List ℕ)
        → ((first before : ℕ) → HoldsStore first (idle sizes o.terms.first) (start_sight sight o) → (IsTrue (sight (medium_of b)).is_visible → AtLeast before (state_now (sight (medium_of b))).told last) → HoldsOpened before sizes last words (sight (medium_of b)))
        → (before : ℕ) → HoldsOpened before sizes o.terms.first o.terms.opening (start_sight sight o) → HoldsOpened before sizes last words (sight (medium_of b))
    holds words reopened before held = reopened before before held.keeps (λ seen.
        let visible = sym ran.later.is_visible ∙ seen in
        let r = (last_image (ran.images before held.keeps) visible).1 in
        let least = floor_before before o.terms.first r.number (state_now (start_sight sight o)).told (state_now (sight (medium_of b))).told (calls_told ran.ran.1 visible) (held.keeps.told refl visible) r.from r.floor in
        λ x among. let low = least x among in let high = r.upto in omega arith)

  pub may_read : MayReadHome sight frames c
  may_read = record {
    opening = o;
    view = h.view;
    ended = h.ended;
    size = h.ended.words.size ∙ h.starts.lawful.1.size ∙ sym (ap (λ (z : Sizes). z.pages * PAGE) (same_sizes c.number refl c.back h.ended.ended));
  }

  -- ---- at home
  module _ (new : Closed M ghosts) (number : new.number ≡ c.number) (home : IsHome sight o h.view new) where
    pub room : image_words sizes ≤ (sight (medium_of new.back)).len
    room = let had = h.starts.room in let long = home.ended.kept.images.later.len in omega arith

    pub small : new.number ≤ MAX_NUMBER
    small = let left = numbers_left in omega arith

    pub size : length new.words.items ≡ sizes.pages * PAGE
    size = home.words.size ∙ h.starts.lawful.1.size

  -- ---- the rests
  module _ (rests : List (List Request)) (are : AreRests files counts rests) where
    rests_are : rests ≡ rests_of parts
    rests_are = are parts are_parts

    pub few : request_count rests ≤ MAX_NUMBER
    few = let left = numbers_left in let same = ap request_count rests_are in omega arith

    pub as_long : length rests ≡ length files
    as_long = ap (λ (l : List (List Request)). length l) rests_are ∙ as_many parts ∙ ap (λ (l : List (List Request)). length l) h.rests.files_are

    pub in_range : AreInRange files → AreInRange rests
    in_range all = subst AreInRange (sym rests_are) (rests_in_range parts (subst AreInRange (sym h.rests.files_are) all))

    pub numbers : (number : ℕ) → number ≡ c.number → HasNumberEach number rests
    numbers number is = let left = numbers_left in let same = ap request_count rests_are in omega arith

    -- ---- an image is opened behind them, and the rests are run
    module _ (new : Closed M ghosts) (number : new.number ≡ c.number) (home : IsHome sight o h.view new) (opened : Opened M ghosts) (is : IsOpened opened × HasParts sizes new.number new.words.items opened)
        (medium : medium_of opened.back ≡ medium_of new.back) (reopened : HoldsReopened sight sizes new) (collected : List Done) (ends : RanEnd) (last : ℕ) (u : Sight)
        (replies : (opening : RunOpening) → IsOpeningOf opened opening → AnswersFiles opening rests collected) (syncs : TellsSyncs opened.number collected (sight_of opened.back) u)
        (moments : (opening : RunOpening) → IsOpeningOf opened opening → RecoversOnTheRun opening opened.words.items collected (sight_of opened.back) u) (end_as : EndsAs opened rests collected ends last u) where
      behind : RanBehind sizes new.number new.words.items (rests_of parts) collected ends last (sight (medium_of new.back)) u
      behind = subst (λ (l : List (List Request)). RanBehind sizes new.number new.words.items l collected ends last (sight (medium_of new.back)) u) rests_are
          (ran_behind opened is.0 rests collected ends last u replies syncs moments end_as sizes new.number new.words.items (sight (medium_of new.back)) is.1 (ap sight medium))

      held : HoldsPrefixes (rests_of parts) collected
      held = (behind.answers behind.some.0 behind.some.1).performs.collects.held

      -- there is room for what was done of them
      pub fits : length collected ≤ request_count rests
      fits = let few = count_held (rests_of parts) collected held in let same = ap request_count rests_are in omega arith

      pub all_counted : All (λ f. length f < 2 ^ 64) files → All (IsCounted counts) collected
      all_counted small = counted files counts parts collected are_parts small held

      -- all together
      pub ran_all : (all : List Done) → IsPermutation (done ++ map (shifted (slice_index counts)) collected) all → (AllPairs StandApart (done ++ map (shifted (slice_index counts)) collected) → AllPairs PrecedesInFiles all) → RanFrom here files all ends last u
      ran_all all same sorted =
          let union : IsUnion (slice_index counts) done collected all = record { same = same; sorted = sorted (apart (slice_index counts) parts done collected h.rests.lengths h.rests.all held) } in
          ran_rests here h.view.entries new.number (sight (medium_of new.back)) (ran new.number number new.back home.ended) home.ended.first (told_where sight o) h.view.turn.durable files done h.are
          (raised new.number number new.back home.ended) counts h.view.draws h.rests new.words.items home.words.values collected all union ends last u behind
          (holds new.number number new.back home.ended new.words.items (λ first before. reopened o h.view first before home))
          (λ whole. operates new.number number new.back home.ended u (behind.operates whole))

      -- what threads did stands first in it
      pub first_of_all : (all : List Done) → IsPermutation (done ++ map (shifted (slice_index counts)) collected) all → (AllPairs StandApart (done ++ map (shifted (slice_index counts)) collected) → AllPairs PrecedesInFiles all) → StandFirst done all
      first_of_all all same sorted =
          let union : IsUnion (slice_index counts) done collected all = record { same = same; sorted = sorted (apart (slice_index counts) parts done collected h.rests.lengths h.rests.all held) } in
          stand_first (slice_index counts) done collected all (in_files_from_holding (firsts_of parts) done h.rests.all) (under_firsts (slice_index counts) (firsts_of parts) done h.rests.lengths h.rests.all)
          (all_shifted (slice_index counts) collected) (in_files_from_holding held.0 collected held.2) union
