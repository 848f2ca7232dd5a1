-- What the threads of a run did, and what they left.
use Rattle.std.specs.Prelude.{◌≡◌, ℕ, true, List}
use Rattle.dude_base.specs.declared.sizes.Sizes.{Sizes}
use Rattle.pmem_trait.specs.Sights.{Sight}
use Rattle.pmem_trait.specs.declared.medium.Medium.{Ghosts}
use Rattle.tatp_model.specs.declared.request.Request.{Request}
use Rattle.tatp_model.specs.OneThread.{AllAreDone}
use Rattle.core_events.specs.Views.{View}
use Rattle.stm_slots.specs.declared.opening.Opening.{Opening}
use Rattle.tiny_stm.specs.Ended.{HasClosed}
use Rattle.run_workers.specs.declared.work_end.WorkEnd.TheVariants.{Whole, SetAside, Device}
use Rattle.dude_engine.specs.declared.ran.Ran.{Ran}
use Rattle.run_threads.specs.HasRests.{HasRests}
use Rattle.run_threads.specs.HasRun.{AreEntriesDone}
use Rattle.run_threads.specs.Ran.{RanFrom}
use Rattle.run_threads.specs.Starts.{StartsOver, start_of}
use Rattle.run_threads.specs.declared.served.Served.{Served}

module _ {M : Type 0} {ghosts : Ghosts M} (sight : M → Sight) where
  -- The threads served first requests of these files, and were closed.
  pub record HasServed (o : Opening M ghosts) (sizes : Sizes) (files : List (List Request)) (r : Served M ghosts) : Type 0 where
    pub starts : StartsOver sight o sizes
    pub view : View
    pub closed : HasClosed sight o view r.closed
    pub are : AreEntriesDone sizes o.terms.first view.turn.durable files view.entries r.done.items
    -- all requests are done
    pub whole : r.end ≡ Whole → AllAreDone files r.done.items
    -- or some are left
    pub rests : r.end ≡ SetAside → HasRests files r.counts.items view.draws view.entries r.done.items
    -- or the back met a fault
    pub device : r.end ≡ Device → view.turn.met_fault ≡ true

  -- whatever was served so, with so many frames, it ran so
  abbrev pub RunsOn : Sizes → ℕ → List (List Request) → Served M ghosts → Ran M → Type 0
  RunsOn sizes frames files served ran = (o : Opening M ghosts) → o.terms.frames ≡ frames → HasServed o sizes files served
      → RanFrom (start_of sight o sizes) files ran.done.items ran.end ran.last (sight ran.medium)

  -- some transactions, with so many frames, served first requests of these files
  abbrev pub WasServed : Sizes → ℕ → List (List Request) → Served M ghosts → Type 0
  WasServed sizes frames files served = (o : Opening M ghosts) × (o.terms.frames ≡ frames) × HasServed o sizes files served
