-- What threads set aside, behind an ending that succeeded.
use Rattle.std.specs.Prelude.{◌≡◌, ℕ, List}
use Rattle.dude_base.specs.declared.sizes.Sizes.{Sizes}
use Rattle.pmem_trait.specs.Sights.{Sight}
use Rattle.pmem_trait.specs.declared.medium.Medium.{Ghosts}
use Rattle.tatp_model.specs.declared.done.Done.{Done}
use Rattle.tatp_model.specs.declared.request.Request.{Request}
use Rattle.core_events.specs.Views.{View}
use Rattle.stm_slots.specs.declared.opening.Opening.{Opening}
use Rattle.tiny_stm.specs.Ended.{HasClosed}
use Rattle.tiny_stm.specs.declared.closed.Closed.{Closed}
use Rattle.run_threads.specs.Home.{HasEnded}
use Rattle.dude_engine.specs.declared.ran.Ran.{Ran}
use Rattle.run_threads.specs.HasRun.{AreEntriesDone}
use Rattle.run_threads.specs.Ran.{RanFrom}
use Rattle.run_threads.specs.HasRests.{HasRests}
use Rattle.run_threads.specs.Starts.{StartsOver, start_of}

module _ {M : Type 0} {ghosts : Ghosts M} (sight : M → Sight) where
  -- Transactions with so many frames were closed, and their ending succeeded: they served first requests of these files, and some are left.
  pub record HasSetAside (o : Opening M ghosts) (sizes : Sizes) (frames : ℕ) (files : List (List Request)) (c : Closed M ghosts) (done : List Done) (counts : List ℕ) : Type 0 where
    pub starts : StartsOver sight o sizes
    pub view : View
    -- as they were closed, over the back as it was before the ending
    pub before : Closed M ghosts
    pub closed : HasClosed sight o view before
    pub number : c.number ≡ before.number
    pub ended : HasEnded sight frames o view c
    pub are : AreEntriesDone sizes o.terms.first view.turn.durable files view.entries done
    pub rests : HasRests files counts view.draws view.entries done

  -- whatever was set aside so, it ran so
  abbrev pub RunsBehind : Sizes → ℕ → List (List Request) → Closed M ghosts → List Done → List ℕ → Ran M → Type 0
  RunsBehind sizes frames files c done counts ran = (o : Opening M ghosts) → HasSetAside o sizes frames files c done counts
      → RanFrom (start_of sight o sizes) files ran.done.items ran.end ran.last (sight ran.medium)

  -- some transactions set something aside
  abbrev pub WasSetAside : Sizes → ℕ → List (List Request) → Closed M ghosts → List Done → List ℕ → Type 0
  WasSetAside sizes frames files c done counts = (o : Opening M ghosts) × HasSetAside o sizes frames files c done counts
