-- What a run starts from, and what images recover to while it goes on.
use Rattle.std.specs.Prelude.{ℕ, ◌≤◌, max, List, length, fold}
use Rattle.dude_base.specs.declared.limits.TheConstants.{MAX_NUMBER}
use Rattle.dude_base.specs.declared.sizes.Sizes.{Sizes}
use Rattle.dude_base.specs.Sizes.{IsAccepted}
use Rattle.pmem_trait.specs.Words.{AtLeast}
use Rattle.tatp_model.specs.declared.done.Done.{Done}
use Rattle.tatp_model.specs.Database.{Database, IsInOrder}
use Rattle.tatp_model.specs.OneThread.{after_number}
use Rattle.image_recovery.specs.Recovered.{RecoversTo}

-- The opening number, the sizes of the image, and its tables. At most `sizes.calls` call rows may stand.
pub record Opening : Type 0 where
  pub number : ℕ
  pub sizes : Sizes
  pub database : Database

-- what each opening has: a number in its range, accepted sizes, tables in order, and no more call rows than allowed
pub record IsOpening (opening : Opening) : Type 0 where
  pub small : opening.number ≤ MAX_NUMBER
  pub accepted : IsAccepted opening.sizes
  pub in_order : IsInOrder opening.database
  pub room : length opening.database.calls ≤ opening.sizes.calls

-- the greatest number of the requests done, or the opening number
abbrev pub last_of : ℕ → List Done → ℕ
last_of first done = fold (λ last d. max last d.number) first done

-- the image recovers to this number, and to the database after the requests of the order that wrote with numbers up to it
abbrev pub RecoversAt : Opening → List Done → List ℕ → ℕ → Type 0
RecoversAt opening order image n = RecoversTo image n opening.sizes (after_number opening.sizes.calls opening.database order n)

-- The image recovers so to a number from the opening one on that is at least every number told behind the first `before`
-- ones, and one that the run may come to.
abbrev pub RecoversAmong : (ℕ → Type 0) → ℕ → Opening → List Done → List ℕ → List ℕ → Type 0
RecoversAmong Reaches before opening order told image =
    (n : ℕ) × (opening.number ≤ n) × AtLeast before told n × Reaches n × RecoversAt opening order image n

-- a run on one thread comes to no number over the greatest one done, or the opening one
abbrev pub IsUpToLast : Opening → List Done → ℕ → Type 0
IsUpToLast opening done n = n ≤ last_of opening.number done

-- so on one thread
abbrev pub RecoversFrom : ℕ → Opening → List Done → List ℕ → List ℕ → Type 0
RecoversFrom before opening order = RecoversAmong (IsUpToLast opening order) before opening order
