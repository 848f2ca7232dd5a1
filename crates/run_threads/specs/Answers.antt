-- What a run on threads answers.
use Rattle.std.specs.Prelude.{◌≡◌, ◌⊎◌, ℕ, ◌≤◌, All, IsTrue, List}
use Rattle.dude_base.specs.declared.run.Run.{Run}
use Rattle.dude_base.specs.declared.sizes.Sizes.{Sizes}
use Rattle.pmem_trait.specs.Sights.{Sight, state_now}
use Rattle.tatp_model.specs.declared.done.Done.{Done}
use Rattle.tatp_model.specs.declared.request.Request.{Request}
use Rattle.tatp_model.specs.OneThread.{RepliesOfOneThread, is_sync}
use Rattle.run_order.specs.Runs.{SyncsFollow}
use Rattle.run_order.specs.Printed.{NumbersOfOneThread}
use Rattle.dude_engine.specs.Opening.{Opening}
use Rattle.dude_engine.specs.Endings.{WasToldLast}

-- it is known what the transactions read: the medium is visible, or all pages are in frames
abbrev pub KnowsReads : Sizes → Run → Sight → Type 0
KnowsReads sizes run s = IsTrue s.is_visible ⊎ (run.frames ≡ sizes.pages)

-- Replies: what is done, from this opening on.
pub record AnswersOnThreads (run : Run) (opening : Opening) (files : List (List Request)) (done : List Done) (s : Sight) : Type 0 where
  -- each request is done once, with numbers along which each file keeps its order
  pub numbers : NumbersOfOneThread opening.number files done
  -- and answered as one thread answers along the printed order
  pub replies : KnowsReads opening.sizes run s → RepliesOfOneThread opening.number opening.sizes.calls opening.database files done

-- the number is at most the last number told in this call; or it is the opening one, and no number was told
abbrev pub IsDurable : ℕ → Sight → Sight → ℕ → Type 0
IsDurable first s t number = ((number ≡ first) × ((state_now t).told ≡ (state_now s).told))
    ⊎ ((n : ℕ) × WasToldLast n s t × (number ≤ n))

-- the number of each `SYNC` is durable
abbrev pub AreSyncsDurable : ℕ → List Done → Sight → Sight → Type 0
AreSyncsDurable first done s t = All (λ d. IsTrue (is_sync d.request) → IsDurable first s t d.number) done

-- Sync: the numbers of the `SYNC`s.
pub record TellsSyncsOnThreads (first : ℕ) (done : List Done) (s t : Sight) : Type 0 where
  -- each is at least each earlier number of its file
  pub follow : SyncsFollow done
  -- and the opening number
  pub from : All (λ d. IsTrue (is_sync d.request) → first ≤ d.number) done
  -- and durable
  pub told : IsTrue s.is_visible → AreSyncsDurable first done s t
