-- The bundles that a run keeps, from request to request.
use Rattle.std.proofs.Common.{◌≡◌, ℕ, ◌-◌, ◌≤◌, List, [], ◌∷◌, None, get_or, Result, Ok, Err, refl, sym, ap, ◌∙◌, subst, arith}
use Rattle.dude_base.specs.declared.sizes.Sizes.{Sizes}
use Rattle.dude_base.specs.Records.{RedoBundle}
use Rattle.dude_base.specs.Image.{image_words}
use Rattle.pmem_trait.specs.declared.failed.Failed.{Failed}
use Rattle.pmem_trait.specs.declared.medium.Medium.{Ghosts}
use Rattle.pmem_trait.specs.Words.{EveryImage}
use Rattle.pmem_trait.specs.Sights.{Sight, state_now}
use Rattle.redo_record.proofs.WaitingRecords.{consecutive_up}
use Rattle.tatp_model.specs.declared.done.Done.{Done}
use Rattle.tatp_layout.specs.StandsFor.{StandsFor}
use Rattle.word_space.specs.Flats.{words_of}
use Rattle.log_numbered.specs.declared.kept_bundles.KeptBundles.{KeptBundles}
use Rattle.log_numbered.specs.declared.run_log.RunLog.{RunLog}
use Rattle.log_numbered.specs.Arrays.{RunArrays, RecoversIn, array_at}
use Rattle.log_numbered.specs.KeptBundles.{LeadThrough, are_kept, kept_bundles}
use Rattle.log_numbered.specs.Keeping.{ClosesRun, EndsFrom, KeepsAll}
use Rattle.log_numbered.specs.RunLog.{IsAlive, OpenLeads, log_end, log_last, log_medium, log_open, log_sizes}
use Rattle.log_numbered.proofs.Keeping.{through_none}
use Rattle.dude_engine.specs.declared.run.Run.{Run}
use Rattle.dude_engine.specs.declared.run_fault.RunFault.{RunFault}
use Rattle.dude_engine.specs.declared.run_fault.RunFault.TheVariants.{Device, NoMemory}
use Rattle.dude_engine.specs.Opening.{Opening}
use Rattle.dude_engine.specs.Shipping.{RecoversOver}
use Rattle.dude_engine.specs.Keeping.{EndsOver, KeepsBy, KeepsFailed, KeepsRun, LeavesKept}
use Rattle.dude_engine.specs.Running.{HasArrays, IsRunning, LeavesRun, Runs, run_sight}
use Rattle.dude_engine.proofs.Arrays.{arrays_start, images_rest}
use Rattle.dude_engine.proofs.Serving.{serves_from}
use Rattle.dude_engine.proofs.Steps.{runs_same, visible_on}

-- ---- what images recover to

-- images of the log's arrays recover to databases of the run
over_among : (before least : ℕ) (opening : Opening) (performed : List Done) (words : List ℕ) (a : RunArrays) (t : Sight) → HasArrays opening performed words a → opening.number ≤ least
    → EveryImage t.len (RecoversIn opening.sizes a least before) (state_now t) → EveryImage t.len (λ told image. RecoversOver least opening performed image) (state_now t)
over_among before least opening performed words a t has low every = record {
  each = λ image is.
      let among = every.each image is in (
        among.number,
        among.from,
        record { array = array_at a among.number; recovered = among.recovered; same_sizes = among.same_sizes; stands = has.stand among.number (let from = among.from in omega arith) among.most },
      );
}

-- the number that the bundles lead to isn't under the opening one
pub end_from : (opening : Opening) (performed : List Done) (current : List ℕ) (a : RunArrays) (z : Sizes) (end : ℕ) (bundles : List RedoBundle) → HasArrays opening performed current a → LeadThrough z a end bundles → opening.number ≤ end
end_from opening performed current a z end bundles has through = let up = consecutive_up a.first end bundles through.lead in let first = has.first in omega arith

module _ {M : Type 0} {ghosts : Ghosts M} (opening : Opening) (words : List ℕ) where
  -- a call that failed
  pub failed_over : (lay : Sizes) (l later : RunLog M ghosts) (current new : List ℕ) (performed done : List Done) (more : RunArrays → RunArrays) (s t u : Sight) → IsRunning opening words lay l current performed s t
      → ((a : RunArrays) → HasArrays opening performed current a → HasArrays opening done new (more a)) → opening.number ≤ log_end later → EndsFrom more l t later u → EndsOver (log_end later) opening words done s u
  failed_over lay l later current new performed done more s t u run arrays low ends before held visible =
      let f = run.follows before held in
      over_among before (log_end later) opening done new (more f.arrays) u (arrays f.arrays f.has) low
      (subst (λ (z : Sizes). EveryImage u.len (RecoversIn z (more f.arrays) (log_end later) before) (state_now u)) run.sizes (ends before f.arrays f.follows (visible_on run.ran visible)))

  -- a run at rest
  pub rest_over : (lay : Sizes) (l : RunLog M ghosts) (current : List ℕ) (performed : List Done) (s t : Sight) → image_words (log_sizes l) ≤ t.len → IsAlive l → opening.number ≤ log_end l → IsRunning opening words lay l current performed s t
      → EndsOver (log_end l) opening words performed s t
  rest_over lay l current performed s t room alive low run before held visible =
      let f = run.follows before held in
      over_among before (log_end l) opening performed current f.arrays t f.has low
      (subst (λ (z : Sizes). EveryImage t.len (RecoversIn z f.arrays (log_end l) before) (state_now t)) run.sizes (images_rest before f.arrays l t room alive f.follows (visible_on run.ran visible)))

  -- ---- the bundles kept

  -- in the fields of a run
  pub keeps_as : (run : Run M ghosts) (l : RunLog M ghosts) (current : List ℕ) (performed : List Done) (bundles : List RedoBundle) (a : RunArrays) → run.log ≡ l → words_of run.words ≡ current → run.done.items ≡ performed → kept_bundles run.packets ≡ bundles
      → HasArrays opening performed current a → a.opening ≡ words → KeepsAll a bundles l → KeepsRun opening words run
  keeps_as run l current performed bundles a log_is words_are done_is kept_are has opening_is keeps = record {
    arrays = a;
    has =
        subst (λ (done : List Done). HasArrays opening done (words_of run.words) a) (sym done_is)
        (subst (λ (ws : List ℕ). HasArrays opening performed ws a) (sym words_are) has);
    opening_is = opening_is;
    keeps = subst (λ (x : RunLog M ghosts). KeepsAll a (kept_bundles run.packets) x) (sym log_is) (subst (λ (bs : List RedoBundle). KeepsAll a bs l) (sym kept_are) keeps);
  }

  -- none at the start
  pub keeps_start : (run : Run M ghosts) → StandsFor opening.sizes words opening.database → words_of run.words ≡ words → run.done.items ≡ [] → kept_bundles run.packets ≡ [] → log_last run.log ≡ opening.number → log_end run.log ≡ opening.number
      → log_open run.log ≡ None → KeepsRun opening words run
  keeps_start run stands words_are none_done none_kept last end none_open =
      let a : RunArrays = record { first = opening.number; opening = words; others = [] } in
      let at : opening.number - opening.number ≡ 0 = omega arith in
      let first : array_at a opening.number ≡ words = ap (λ (i : ℕ). get_or (words ∷ []) i []) at in
      keeps_as run run.log words [] [] a refl words_are none_done none_kept (arrays_start opening words stands) refl
      (record {
        last = last ∙ omega arith;
        through = through_none (log_sizes run.log) a (log_end run.log) (sym end) first (omega (arith, end));
        leads_on = subst (λ x. OpenLeads a (log_end run.log) x) (sym none_open) (end ∙ omega arith);
      })

  -- by an answer
  pub kept_device : (result : Result (Unit {0}) RunFault) (run : Run M ghosts) (s t : Sight) → result ≡ Err Device → KeepsFailed opening words run s t → KeepsBy result opening words run s t
  kept_device result run s t is failed = subst (λ (r : Result (Unit {0}) RunFault). KeepsBy r opening words run s t) (sym is) failed

  pub kept_memory : (result : Result (Unit {0}) RunFault) (run : Run M ghosts) (s t : Sight) → result ≡ Err NoMemory → KeepsRun opening words run → KeepsBy result opening words run s t
  kept_memory result run s t is keeps = subst (λ (r : Result (Unit {0}) RunFault). KeepsBy r opening words run s t) (sym is) keeps

  -- what is left of the bundles where the last call failed
  pub keeps_failed : (run : Run M ghosts) (l later : RunLog M ghosts) (current new : List ℕ) (performed done : List Done) (bundles : List RedoBundle) (more : RunArrays → RunArrays) (a : RunArrays) (lay : Sizes) (s t u : Sight)
      → IsRunning opening words lay l current performed s t → ((b : RunArrays) → HasArrays opening performed current b → HasArrays opening done new (more b)) → EndsFrom more l t later u → log_sizes later ≡ log_sizes l
      → run.log ≡ later → run.done.items ≡ done → kept_bundles run.packets ≡ bundles
      → HasArrays opening performed current a → (more a).opening ≡ words → LeadThrough (log_sizes later) (more a) (log_end later) bundles → KeepsFailed opening words run s u
  keeps_failed run l later current new performed done bundles more a lay s t u running arrays ends sizes log_is done_is kept_are has opening_is through =
      let here = arrays a has in
      record {
        arrays = more a;
        current = new;
        has = subst (λ (d : List Done). HasArrays opening d new (more a)) (sym done_is) here;
        opening_is = opening_is;
        through =
            subst (λ (x : RunLog M ghosts). LeadThrough opening.sizes (more a) (log_end x) (kept_bundles run.packets)) (sym log_is)
            (subst (λ (bs : List RedoBundle). LeadThrough opening.sizes (more a) (log_end later) bs) (sym kept_are)
            (subst (λ (z : Sizes). LeadThrough z (more a) (log_end later) bundles) (sizes ∙ running.sizes) through));
        ends =
            subst (λ (x : RunLog M ghosts). EndsOver (log_end x) opening words run.done.items s u) (sym log_is)
            (subst (λ (d : List Done). EndsOver (log_end later) opening words d s u) (sym done_is)
            (failed_over lay l later current new performed done more s t u running arrays (end_from opening done new (more a) (log_sizes later) (log_end later) bundles here through) ends));
      }

module _ {M : Type 0} {ghosts : Ghosts M} where
  -- nothing was done
  pub kept_here : (run : Run M ghosts) → LeavesKept (Ok tt) run run
  kept_here run = record { kept = refl; all = λ kept opening words s runs keeps. keeps }

  -- some requests, and then others
  pub kept_then : (result : Result (Unit {0}) RunFault) (k l m : Run M ghosts) → ((opening : Opening) (words : List ℕ) (s : Sight) → Runs opening words k s (run_sight k) → Runs opening words l s (run_sight l)) → LeavesKept (Ok tt) k l
      → LeavesKept result l m → LeavesKept result k m
  kept_then result k l m left one other = record {
    kept = other.kept ∙ one.kept;
    all = λ kept opening words s runs keeps. other.all (one.kept ∙ kept) opening words s (left opening words s runs) (one.all kept opening words s runs keeps);
  }

  -- by an equal answer
  pub kept_same : (result other : Result (Unit {0}) RunFault) (k l : Run M ghosts) → result ≡ other → LeavesKept other k l → LeavesKept result k l
  kept_same result other k l is kept = subst (λ (r : Result (Unit {0}) RunFault). LeavesKept r k l) (sym is) kept

  -- from a run with the same parts
  pub kept_from : (run other later : Run M ghosts) (result : Result (Unit {0}) RunFault) → other.log ≡ run.log → other.lay ≡ run.lay → words_of other.words ≡ words_of run.words → other.done.items ≡ run.done.items
      → are_kept other.packets ≡ are_kept run.packets → kept_bundles other.packets ≡ kept_bundles run.packets → LeavesKept result other later → LeavesKept result run later
  kept_from run other later result log_is lay_is words_are done_is kept_is bundles_are is = record {
    kept = is.kept ∙ kept_is;
    all = λ were opening words s runs keeps.
        is.all (kept_is ∙ were) opening words s
        (runs_same opening words other run.lay run.log (words_of run.words) run.done.items s (run_sight run) (run_sight other) lay_is log_is words_are done_is (ap (λ (l : RunLog M ghosts). ghosts.sight (log_medium l)) log_is) runs)
        (keeps_as opening words other run.log (words_of run.words) run.done.items (kept_bundles run.packets) keeps.arrays log_is words_are done_is bundles_are keeps.has keeps.opening_is keeps.keeps);
  }

  -- such a run served some requests, and what follows comes to this
  pub kept_served : (run other served later : Run M ghosts) (result : Result (Unit {0}) RunFault) → other.log ≡ run.log → other.lay ≡ run.lay → words_of other.words ≡ words_of run.words → other.done.items ≡ run.done.items
      → are_kept other.packets ≡ are_kept run.packets → kept_bundles other.packets ≡ kept_bundles run.packets
      → ((opening : Opening) (words : List ℕ) (s : Sight) → Runs opening words other s (run_sight other) → Runs opening words served s (run_sight served)) → LeavesKept (Ok tt) other served
      → LeavesKept result served later → LeavesKept result run later
  kept_served run other served later result log_is lay_is words_are done_is kept_is bundles_are left one rest =
      kept_from run other later result log_is lay_is words_are done_is kept_is bundles_are (kept_then result other served later left one rest)

  -- the log was told to persist its open bundle: that failed, or went well
  pub kept_failed : (result : Result (Unit {0}) RunFault) {fault : Failed} (run : Run M ghosts) (log : RunLog M ghosts) (packets : KeptBundles) → result ≡ Err Device → ClosesRun (Err fault) run.log run.packets log packets
      → LeavesKept result run (record run { log = log; packets = packets })
  kept_failed result run log packets is closes = record {
    kept = closes.keeps.kept;
    all = λ kept opening words s runs keeps.
        let later : Run M ghosts = record run { log = log; packets = packets } in
        kept_device opening words result later s (run_sight later) is
        (keeps_failed opening words later run.log log (words_of run.words) (words_of run.words) run.done.items run.done.items (kept_bundles packets) (λ a. a) keeps.arrays run.lay s (run_sight run) (run_sight later) runs (λ a has. has)
        (closes.ends refl) closes.goes_on.sizes refl refl refl keeps.has keeps.opening_is (closes.keeps.all kept keeps.arrays keeps.keeps));
  }

  pub kept_closed : {number : ℕ} (run : Run M ghosts) (log : RunLog M ghosts) (packets : KeptBundles) → ClosesRun (Ok number) run.log run.packets log packets → LeavesKept (Ok tt) run (record run { log = log; packets = packets })
  kept_closed run log packets closes = record {
    kept = closes.keeps.kept;
    all = λ kept opening words s runs keeps.
        keeps_as opening words (record run { log = log; packets = packets }) log (words_of run.words) run.done.items (kept_bundles packets) keeps.arrays refl refl refl refl keeps.has keeps.opening_is (closes.keeps.all kept keeps.arrays keeps.keeps);
  }

  -- from a run with other room for bundles
  module _ (run : Run M ghosts) (packets : KeptBundles) (kept : are_kept packets ≡ are_kept run.packets) (same : kept_bundles packets ≡ kept_bundles run.packets) where
    -- it keeps them still
    pub keeps_reserved : (opening : Opening) (words : List ℕ) → KeepsRun opening words run → KeepsRun opening words (record run { packets = packets })
    keeps_reserved opening words keeps = record {
      arrays = keeps.arrays;
      has = keeps.has;
      opening_is = keeps.opening_is;
      keeps = subst (λ (bs : List RedoBundle). KeepsAll keeps.arrays bs run.log) (sym same) keeps.keeps;
    }

    pub leaves_reserved : (result : Result (Unit {0}) RunFault) (later : Run M ghosts) → LeavesRun result (record run { packets = packets }) later → LeavesRun result run later
    leaves_reserved result later is = record {
      ready = is.ready;
      lay = is.lay;
      room = is.room;
      left = is.left;
      calls = serves_from (run_sight run) (run_sight later) run (record run { packets = packets }) later result refl refl refl is.calls;
    }

    -- it keeps them, where what follows does so
    pub kept_over : (result : Result (Unit {0}) RunFault) (later : Run M ghosts) → LeavesKept result (record run { packets = packets }) later → LeavesKept result run later
    kept_over result later is = record {
      kept = is.kept ∙ kept;
      all = λ were opening words s runs keeps. is.all (kept ∙ were) opening words s runs (keeps_reserved opening words keeps);
    }

    -- there was no memory for more
    pub kept_full : (result : Result (Unit {0}) RunFault) → result ≡ Err NoMemory → LeavesKept result run (record run { packets = packets })
    kept_full result is = record {
      kept = kept;
      all = λ were opening words s runs keeps. kept_memory opening words result (record run { packets = packets }) s (run_sight run) is (keeps_reserved opening words keeps);
    }
