-- What is told in a call, and what the medium is at its end.
use Rattle.std.specs.Prelude.{◌≡◌, ℕ, ◌+◌, ◌≤◌, IsTrue, List, [], ◌∷◌, ◌++◌, length, All}
use Rattle.pmem_trait.specs.Words.{EveryImage}
use Rattle.pmem_trait.specs.Sights.{Sight, state_now}
use Rattle.tatp_model.specs.declared.done.Done.{Done}
use Rattle.tatp_model.specs.OneThread.{is_sync, IsPrintedOrder}
use Rattle.dude_engine.specs.Opening.{Opening, RecoversAt, last_of}

-- this number was told last, in this call
abbrev pub WasToldLast : ℕ → Sight → Sight → Type 0
WasToldLast last s t =
    (earlier : List ℕ) × ((state_now t).told ≡ earlier ++ last ∷ []) × (length (state_now s).told ≤ length earlier)

-- the number of each `SYNC` is at most the last number told in this call
abbrev pub AreSyncsTold : List Done → Sight → Sight → Type 0
AreSyncsTold done s t = All (λ d. IsTrue (is_sync d.request) → (n : ℕ) × WasToldLast n s t × (d.number ≤ n)) done

-- End: this number was told last, and every image at exit recovers to it
pub record End (opening : Opening) (done : List Done) (last : ℕ) (s t : Sight) : Type 0 where
  pub told : WasToldLast last s t
  pub order : List Done
  pub printed : IsPrintedOrder done order
  pub images : EveryImage t.len (λ told image. RecoversAt opening order image last) (state_now t)

-- the image recovers so to a number that is at most so many under the greatest one done
abbrev pub RecoversNear : ℕ → Opening → List Done → List Done → List ℕ → Type 0
RecoversNear most opening done order image = (n : ℕ) × (last_of opening.number done ≤ n + most) × RecoversAt opening order image n

-- At exit every image recovers to a number that is at most so many under the greatest one done: no more numbers are lost.
pub record LosesAtMost (most : ℕ) (opening : Opening) (done : List Done) (t : Sight) : Type 0 where
  pub order : List Done
  pub printed : IsPrintedOrder done order
  pub images : EveryImage t.len (λ told image. RecoversNear most opening done order image) (state_now t)
