-- What transactions that ran left, as plain data.
use Rattle.std.specs.Prelude.{◌≡◌, ℕ, ◌≤◌, All, Bool, true, IsTrue, List, length}
use Rattle.dude_base.specs.declared.sizes.Sizes.{Sizes}
use Rattle.pmem_trait.specs.Sights.{AtEveryMoment, Extends, Sight, SomeCalls, state_now}
use Rattle.tatp_model.specs.declared.done.Done.{Done}
use Rattle.tatp_model.specs.declared.request.Request.{Request}
use Rattle.tatp_model.specs.OneThread.{is_sync}
use Rattle.run_order.specs.Runs.{SyncsFollow}
use Rattle.legal_entries.specs.Served.{AreDoneBy, IsServed}
use Rattle.core_events.specs.Entries.{HaveNumbers, IsLegal}
use Rattle.core_events.specs.Setups.{Setup}
use Rattle.core_events.specs.Views.{Entry}
use Rattle.back_store.specs.Back.{idle}
use Rattle.back_store.specs.Images.{HoldsStore}
use Rattle.back_store.specs.Told.{WereTold}
use Rattle.tiny_stm.specs.Ended.{RecoversUpTo}

-- Their entries, up to a last number; what every image recovers to at each moment from s to t; and which numbers were told, up to the
-- durable one.
pub record HasRun (z : Setup) (sizes : Sizes) (es : List Entry) (last durable : ℕ) (well : Bool) (s t : Sight) : Type 0 where
  -- the entries are numbered, and legal where it is known what the medium gives
  pub numbers : HaveNumbers z.first es
  pub legal : z.is_told ≡ true → IsLegal z.first z.opening es
  pub upto : All (λ e. e.number ≤ last) es
  -- the medium went on, and where it was as an idle back left it, every image recovers so at each moment
  pub later : Extends s t
  pub images : (before : ℕ) → HoldsStore before (idle sizes z.first) s → AtEveryMoment (RecoversUpTo z es last sizes (length (state_now s).told)) s t
  -- calls were made, of which at most the last one failed
  pub ran : SomeCalls well s t
  pub told : IsTrue s.is_visible → WereTold well z.first durable (state_now s).told (state_now t).told
  pub from : z.first ≤ durable

-- What was done is what these entries did, and each `SYNC`, which has a number from the first one to one that was made durable.
pub record AreEntriesDone (sizes : Sizes) (first synced : ℕ) (files : List (List Request)) (es : List Entry) (done : List Done) : Type 0 where
  pub served : All (IsServed sizes) es
  pub done_by : AreDoneBy files es done
  pub follow : SyncsFollow done
  pub syncs : All (λ d. IsTrue (is_sync d.request) → (first ≤ d.number) × (d.number ≤ synced)) done
