-- An opened image as the start of a run, and what is said of the run for it.
use Rattle.std.proofs.Common.{◌≡◌, ◌⊎◌, ◌||◌, ◌==◌, inl, inr, ⊎_elim, ℕ, ◌*◌, ◌<◌, ◌≤◌, Bool, false, true, IsTrue, List, [], length, refl, sym, ap, ◌∙◌, subst, eq-eqb, arith}
use Rattle.std.specs.List.{Contains}
use Rattle.std.proofs.lemmas.Bool.{cases_lt, true≢false}
use Rattle.std.proofs.lemmas.List.Elements.{All-nil}
use Rattle.dude_base.specs.declared.limits.TheConstants.{PAGE}
use Rattle.dude_base.specs.declared.run.Run.{Run}
use Rattle.dude_base.specs.declared.sizes.Sizes.{Sizes}
use Rattle.pmem_trait.specs.Sights.{Sight, state_now}
use Rattle.pmem_trait.specs.declared.medium.Medium.{Ghosts}
use Rattle.pmem_trait.proofs.Laws.{every_moment_weaker}
use Rattle.pmem_trait.proofs.Runs.{later_here, ran_here}
use Rattle.tatp_model.specs.declared.done.Done.{Done}
use Rattle.tatp_model.specs.declared.request.Request.{Request}
use Rattle.tatp_model.specs.Database.{Database}
use Rattle.back_store.proofs.EmptyLanes.{none_waiting}
use Rattle.back_store.specs.declared.back.Back.{Back}
use Rattle.back_store.specs.Back.{BackState, home_now, waiting_now}
use Rattle.back_store.specs.BackView.{medium_of, sight_of, state_of}
use Rattle.back_store.specs.Images.{HoldsStore}
use Rattle.back_store.proofs.ToldNumbers.{tells_none}
use Rattle.core_events.specs.Entries.{HaveNumbers, read_at}
use Rattle.core_events.specs.Setups.{Setup}
use Rattle.core_events.specs.Views.{Entry}
use Rattle.stm_slots.specs.Calls.{IsKnownBy, StartsKnown}
use Rattle.stm_slots.specs.Known.{Since}
use Rattle.stm_slots.specs.Records.{HasRecord, IsReached}
use Rattle.stm_slots.specs.declared.opening.Opening.{Opening}
use Rattle.tiny_stm.specs.Ended.{RecoversUpTo}
use Rattle.tiny_stm.specs.Started.{IsAtRest, terms_of}
use Rattle.dude_recover.specs.declared.opened.Opened.{Opened}
use Rattle.dude_recover.specs.Opened.{IsOpened}
use Rattle.dude_engine.specs.declared.ran.Ran.{Ran}
use Rattle.dude_engine.specs.declared.ran.RanEnd.TheVariants.{NoMemory}
use Rattle.dude_engine.specs.Opening.{Opening as RunOpening, last_of}
use Rattle.dude_engine.specs.Plain.{IsLastTold, IsOpeningOf, LosesFew, most_lost}
use Rattle.dude_engine.proofs.Numbering.{greatest_within}
use Rattle.run_threads.specs.Answers.{AnswersOnThreads, KnowsReads}
use Rattle.run_threads.specs.Ends.{AnyNumber, EndsWhole, IsAsOpened, RecoversOnThreads}
use Rattle.run_threads.specs.HasRun.{HasRun}
use Rattle.run_threads.specs.Ran.{RanFrom, Start, StandsAt, opening_of}
use Rattle.run_threads.specs.RunsOnThreads.{RunsOnThreads}
use Rattle.run_threads.specs.Starts.{start_of}
use Rattle.run_threads.proofs.Answering as answering
use Rattle.run_threads.proofs.Finishing.{unless_whole}
use Rattle.run_threads.proofs.NothingDone.{none_done}

told_or : (b c : Bool) → (b ≡ true) ⊎ (c ≡ true) → (b || c) ≡ true
told_or true c h = refl
told_or false c (inl e) = absurd (true≢false (sym e))
told_or false c (inr e) = e

-- where no record was handed over only the first number is reached
none_reached : (first n : ℕ) → IsReached first [] n → n ≤ first
none_reached first n reached = ⊎_elim (λ (over : first < n). let has : HasRecord [] n = reached n over (omega arith) in absurd (let no : ⊥ = cc in no)) (λ (low : n ≤ first). low) (cases_lt first n)

module _ {M : Type 0} {ghosts : Ghosts M} (o : Opened M ghosts) (run : Run) (threads : ℕ) (opened : IsOpened o) (held : IsAsOpened o) where
  abbrev s : Sight
  s = sight_of o.back

  abbrev terms : Setup
  terms = terms_of o.words.items (state_of o.back).log.sizes.pages o.number run threads

  -- what a run from a back with these terms starts from
  abbrev started : Back M ghosts → Setup → Sizes → Start
  started back z sizes = record { setup = record z { is_told = (ghosts.sight (medium_of back)).is_visible || (z.frames == z.pages); may_fail = true }; sizes = sizes; state = state_of back; sight = ghosts.sight (medium_of back) }

  abbrev pub start : Start
  start = started o.back terms o.sizes

  sizes_are : (state_of o.back).log.sizes ≡ o.sizes
  sizes_are = ap (λ (v : BackState). v.log.sizes) opened.idle

  none_waits : (w : _) → Contains (waiting_now (state_of o.back)) w → ⊥
  none_waits w among = none_waiting o.sizes w (subst (λ (v : BackState). Contains (waiting_now v) w) opened.idle among)

  keeps : HoldsStore (length (state_now s).told) (state_of o.back) s
  keeps = subst (λ (v : BackState). HoldsStore (length (state_now s).told) v s) (sym opened.idle) held.keeps

  home : IsTrue s.is_visible → home_now (state_of o.back).log.sizes s ≡ o.words.items
  home seen = subst (λ (z : Sizes). home_now z s ≡ o.words.items) (sym sizes_are) (held.home seen)

  pub at_rest : IsAtRest o.back o.words.items o.number
  at_rest = record {
    alive = ap (λ (v : BackState). v.dead) opened.idle;
    none = none_waits;
    durable = ap (λ (v : BackState). v.log.durable) opened.idle;
    reproduced = ap (λ (v : BackState). v.log.reproduced) opened.idle;
    size = opened.lawful.1.size ∙ sym (ap (λ (z : Sizes). z.pages * PAGE) sizes_are);
    home = home;
    keeps = keeps;
  }

  -- the table was made over the image
  pub started_by : (key : Opening M ghosts) → key.back.value ≡ o.back → key.terms ≡ terms → start_of ghosts.sight key o.lay ≡ start
  started_by key backs terms_are = ap (λ (b : Back M ghosts). started b key.terms o.lay) backs ∙ ap (λ (z : Setup). started o.back z o.lay) terms_are ∙ ap (λ (l : Sizes). started o.back terms l) opened.layout

  -- it is known what the transactions read
  knows : KnowsReads o.sizes run s → start.setup.is_told ≡ true
  knows k = told_or s.is_visible (run.frames == (state_of o.back).log.sizes.pages)
      (⊎_elim (λ (seen : IsTrue s.is_visible). inl seen) (λ (all : run.frames ≡ o.sizes.pages). inr (eq-eqb run.frames (state_of o.back).log.sizes.pages (all ∙ sym (ap (λ (z : Sizes). z.pages) sizes_are)))) k)

  pub seen_told : IsTrue s.is_visible → start.setup.is_told ≡ true
  seen_told seen = knows (inl seen)

  -- what holds with the image's number and sizes holds of its opening
  at_opening : (P : RunOpening → Type 0) (opening : RunOpening) → IsOpeningOf o opening → P (record { number = o.number; sizes = o.sizes; database = opening.database }) → P opening
  at_opening P opening is holds =
      subst (λ (n : ℕ). P (record { number = n; sizes = opening.sizes; database = opening.database })) (sym is.number)
      (subst (λ (z : Sizes). P (record { number = o.number; sizes = z; database = opening.database })) (sym is.sizes) holds)

  -- ---- what is left of a run from there
  -- it is what the calls that run on threads ensure
  pub as_ensured : {files : List (List Request)} (r : Ran M) → RanFrom start files r.done.items r.end r.last (ghosts.sight r.medium) → RunsOnThreads o run files r
  as_ensured {files} r ran = record {
    replies = λ opening is. at_opening (λ (x : RunOpening). AnswersOnThreads run x files r.done.items s) opening is (record { numbers = ran.numbers; replies = λ k. ran.replies (knows k) opening.database is.stands });
    syncs = ran.syncs;
    moments = λ opening is. at_opening (λ (x : RunOpening). RecoversOnThreads x o.words.items r.done.items s (ghosts.sight r.medium)) opening is (ran.moments opening.database is.stands);
    end = record {
      len = ran.len;
      whole = λ whole opening is. at_opening (λ (x : RunOpening). EndsWhole AnyNumber x o.words.items files r.done.items r.last s (ghosts.sight r.medium)) opening is (ran.whole whole opening.database is.stands);
      operates = ran.operates;
      from = ran.from;
      last_told = λ visible opening is. at_opening (λ (x : RunOpening). IsLastTold r.end x r.last s (ghosts.sight r.medium)) opening is (ran.last_told visible opening.database);
      ran = ran.ran;
      cause = ran.cause;
      few_lost = λ well opening is. at_opening (λ (x : RunOpening). LosesFew (most_lost r.end) x o.words.items r.done.items s (ghosts.sight r.medium)) opening is (ran.few_lost well opening.database is.stands);
    };
  }

  -- ---- no table was made
  module _ (known : StartsKnown o.back) where
    abbrev since : Since
    since = record { start = s; state = state_of o.back; opening = o.words.items; first = o.number }

    known_here : IsKnownBy since [] o.back
    known_here = known since (record { alive = at_rest.alive; none = none_waits; durable = at_rest.durable; reproduced = at_rest.reproduced; start = refl; state = refl; room = o.back.room; keeps = keeps; home = home })

    none_numbered : HaveNumbers o.number []
    none_numbered = record { over = All-nil (λ (e : Entry). e.wrote ≡ true → o.number < e.number); once = tt; from = All-nil (λ (e : Entry). o.number ≤ read_at e) }

    nothing_ran : HasRun start.setup o.sizes [] o.number o.number true s s
    nothing_ran = record {
      numbers = none_numbered;
      legal = λ told. record { numbers = none_numbered; read = All-nil (λ (e : Entry). _) };
      upto = All-nil (λ (e : Entry). e.number ≤ o.number);
      later = later_here s;
      images = λ before holds. every_moment_weaker {Q = RecoversUpTo start.setup [] o.number o.sizes (length (state_now s).told)} (λ told image long r. record {
        number = r.number;
        array = r.array;
        recovered = r.recovered;
        same_sizes = r.same_sizes ∙ sizes_are;
        values = record { size = r.values.size; words = r.values.words };
        from = r.from;
        upto = none_reached o.number r.number r.reached;
        floor = r.floor;
      }) known_here.is.moments;
      ran = ran_here s;
      told = λ seen. tells_none true o.number o.number (state_now s).told (state_now s).told refl refl;
      from = omega arith;
    }

    none_lost : (files : List (List Request)) (most : ℕ) (db : Database) → StandsAt start db → LosesFew most (opening_of start db) o.words.items [] s s
    none_lost files most db stands before held_so visible =
        answering.near start.setup o.sizes [] o.number o.number true s s nothing_ran o.number files [] (none_done o.sizes o.number o.number files) (omega arith) db stands (seen_told visible) most before held_so visible
        (λ n from floor. let greatest : last_of o.number [] ≤ n = greatest_within n o.number [] from (All-nil (λ (d : Done). d.number ≤ n)) in omega arith)

    pub nothing_done : (files : List (List Request)) → RanFrom start files [] NoMemory o.number s
    nothing_done files =
        unless_whole start [] o.number o.number true s nothing_ran o.number files [] (none_done o.sizes o.number o.number files) (omega arith) seen_told
        NoMemory (λ e. let no : ⊥ = cc in no) refl ((λ e. absurd (true≢false e)), (λ e. absurd (let no : ⊥ = cc in no))) (λ e. absurd (let no : ⊥ = cc in no))
        (λ well db stands. none_lost files (most_lost NoMemory) db stands)
