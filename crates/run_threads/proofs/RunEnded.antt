-- What is left where the threads' ending succeeded, or was cut off.
use Rattle.std.proofs.Common.{◌≡◌, ℕ, false, true, IsTrue, List, refl, sym, ap, ◌∙◌, arith}
use Rattle.std.specs.Prelude.{not}
use Rattle.std.proofs.lemmas.Bool.{true≢false}
use Rattle.pmem_trait.specs.Sights.{Sight}
use Rattle.pmem_trait.specs.declared.medium.Medium.{Ghosts}
use Rattle.dude_base.specs.declared.sizes.Sizes.{Sizes}
use Rattle.tatp_model.specs.declared.request.Request.{Request}
use Rattle.back_store.specs.declared.back.Back.{Back}
use Rattle.back_store.specs.BackView.{medium_of, state_of}
use Rattle.stm_slots.specs.Opening.{setup_of, start_sight}
use Rattle.stm_slots.specs.declared.opening.Opening.{Opening}
use Rattle.tiny_stm.specs.Ended.{IsKeptEnd}
use Rattle.tiny_stm.specs.declared.closed.Closed.{Closed}
use Rattle.run_threads.specs.Ended.{IsCutOff, IsEnded, KeepsClosed}
use Rattle.run_workers.specs.declared.work_end.WorkEnd.TheVariants.{Whole, SetAside, Device}
use Rattle.dude_engine.specs.declared.ran.RanEnd.TheVariants as end
use Rattle.dude_engine.specs.Endings.{WasToldLast}
use Rattle.dude_engine.specs.Plain.{most_lost}
use Rattle.run_threads.specs.HasRun.{HasRun}
use Rattle.run_threads.specs.Ran.{RanFrom, Start}
use Rattle.run_threads.specs.Served.{HasServed}
use Rattle.run_threads.specs.SetAside.{HasSetAside}
use Rattle.run_threads.specs.Starts.{start_of}
use Rattle.run_threads.specs.declared.served.Served.{Served}
use Rattle.run_threads.proofs.Closing.{has_run, told_where}
use Rattle.run_threads.proofs.Finishing.{none_lost, unless_whole, whole_run}

module _ {M : Type 0} {ghosts : Ghosts M} (sight : M → Sight) (o : Opening M ghosts) (sizes : Sizes) (files : List (List Request)) (r : Served M ghosts) (h : HasServed sight o sizes files r) (b : Back M ghosts) where
  abbrev here : Start
  here = start_of sight o sizes

  run : (kept : IsKeptEnd sight o h.view r.closed.number b) → HasRun (setup_of sight o) sizes h.view.entries r.closed.number (state_of b).log.durable (not (state_of b).dead) (start_sight sight o) (sight (medium_of b))
  run kept = has_run sight o h.view r.closed.number h.closed.numbers h.closed.legal h.closed.upto b kept sizes h.starts.room

  pub cut_off : IsCutOff sight o h.view r.closed.number b → RanFrom here files r.done.items end.Device (state_of b).log.durable (sight (medium_of b))
  cut_off cut =
      let failed : not (state_of b).dead ≡ false = ap not cut.dead in
      unless_whole here h.view.entries r.closed.number (state_of b).log.durable (not (state_of b).dead) (sight (medium_of b)) (run cut.kept) h.view.turn.durable files r.done.items h.are cut.kept.raised (told_where sight o)
      end.Device (λ whole. let no : ⊥ = cc in no) failed ((λ f. refl), (λ d. failed)) (λ d. cut.cause) (λ well. absurd (true≢false (sym well)))

  module _ (ended : IsEnded sight o h.view r.closed.number b) where
    went : not (state_of b).dead ≡ true
    went = ap not ended.alive

    module _ (said : IsTrue (start_sight sight o).is_visible → WasToldLast r.closed.number (start_sight sight o) (sight (medium_of b))) where
      -- want of memory
      pub no_memory : RanFrom here files r.done.items end.NoMemory (state_of b).log.durable (sight (medium_of b))
      no_memory =
          unless_whole here h.view.entries r.closed.number (state_of b).log.durable (not (state_of b).dead) (sight (medium_of b)) (run ended.kept) h.view.turn.durable files r.done.items h.are ended.kept.raised (told_where sight o)
          end.NoMemory (λ whole. let no : ⊥ = cc in no) went ((λ f. absurd (true≢false (sym went ∙ f))), (λ d. absurd (let no : ⊥ = cc in no))) (λ d. absurd (let no : ⊥ = cc in no))
          (λ well. none_lost here h.view.entries r.closed.number (state_of b).log.durable (not (state_of b).dead) (sight (medium_of b)) (run ended.kept) h.view.turn.durable files r.done.items h.are ended.kept.raised (told_where sight o)
          (let is = ended.durable in omega arith) ended.first said (most_lost end.NoMemory))

      -- all is done
      pub whole : r.end ≡ Whole → RanFrom here files r.done.items end.Whole (state_of b).log.durable (sight (medium_of b))
      whole all =
          whole_run here h.view.entries r.closed.number (state_of b).log.durable (not (state_of b).dead) (sight (medium_of b)) (run ended.kept) h.view.turn.durable files r.done.items h.are ended.kept.raised (told_where sight o)
          went ended.durable ended.first (h.whole all) said (state_of b, ended.kept.by_entries.known.is.operates ended.alive)

    -- no worker met a fault
    pub no_fault : r.end ≡ Device → ⊥
    no_fault device = true≢false (sym (ended.kept.fault (h.device device)) ∙ ended.alive)

    -- some requests are left
    pub set_aside : (c : Closed M ghosts) → KeepsClosed r.closed c → c.back ≡ b → (frames : ℕ) → o.terms.frames ≡ frames → r.end ≡ SetAside → HasSetAside sight o sizes frames files c r.done.items r.counts.items
    set_aside c keeps back frames frames_are aside = record {
      ended = record {
        ended = rw (keeps.number, back) ended;
        frames_are = frames_are;
        words = rw (keeps.number, keeps.words) h.closed.words;
      };
      starts = h.starts;
      view = h.view;
      before = r.closed;
      closed = h.closed;
      number = keeps.number;
      are = h.are;
      rests = h.rests aside;
    }
