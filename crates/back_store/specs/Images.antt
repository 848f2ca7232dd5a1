-- What every image is that a crash may leave of a back's medium.
use Rattle.std.specs.Prelude.{◌≡◌, ℕ, ◌≤◌, false, IsTrue, List}
use Rattle.dude_base.specs.declared.limits.TheConstants.{MARK, VERSION}
use Rattle.dude_base.specs.declared.sizes.Sizes.{Sizes}
use Rattle.pmem_trait.specs.Words.{State, AtLeast, settled_at}
use Rattle.pmem_trait.specs.Sights.{Sight, state_now, AtEveryMoment}
use Rattle.redo_record.specs.Waiting.{IsArrayAt}
use Rattle.redo_record.specs.LogState.{HoldsLog, RecoversAmong}
use Rattle.redo_record.specs.Rest.{RestsAt}
use Rattle.redo_record.specs.BackLaws.{HasNoHeads}
use Rattle.back_store.specs.Backlog.{log_of}
use Rattle.back_store.specs.Back.{BackState, IsEnd, home_now, waiting_now}

-- The medium is as a back that isn't dead left it: where it is visible it holds the log, with the home that reads give,
-- and no number was told behind the first `before` ones that is over the durable number.
pub record HoldsStore (before : ℕ) (v : BackState) (s : Sight) : Type 0 where
  pub holds : v.dead ≡ false → IsTrue s.is_visible → HoldsLog (log_of v.log (home_now v.log.sizes s)) (state_now s)
  pub told : v.dead ≡ false → IsTrue s.is_visible → AtLeast before (state_now s).told v.log.durable

-- From s to t, where a back v that wasn't dead made calls by which it was to become w: at each moment every image recovers
-- to a number from the end of v to the end of w and to the array at that number, the waiting records being those of w.
abbrev pub RecoversOnTheWay : BackState → BackState → Sight → Sight → Type 0
RecoversOnTheWay v w s t = (before low high : ℕ) → v.dead ≡ false → HoldsStore before v s → IsEnd v low → IsEnd w high
    → AtEveryMoment (RecoversAmong (log_of w.log (home_now v.log.sizes s)) before low high) s t

-- The medium is settled at an image of these sizes, with the mark at this number and no head over it; and no greater number
-- was told behind the first `before` ones.
pub record IsIdleMedium (before : ℕ) (s : Sizes) (number : ℕ) (home : List ℕ) (p : State) : Type 0 where
  pub rest : RestsAt VERSION s number home p
  pub heads : HasNoHeads s number p
  pub told : AtLeast before p.told number

-- where the medium was as v left it, it is so for w
abbrev pub StillHoldsStore : BackState → BackState → Sight → Sight → Type 0
StillHoldsStore v w s t = (before : ℕ) → HoldsStore before v s → HoldsStore before w t

-- the home stays
abbrev pub HomeStays : BackState → Sight → Sight → Type 0
HomeStays v s t = (before : ℕ) → HoldsStore before v s → v.dead ≡ false → IsTrue s.is_visible → home_now v.log.sizes t ≡ home_now v.log.sizes s

-- From v to w records were reproduced up to this number: the home is the array at it, at which the mark is settled; and
-- from there on the arrays stay.
pub record IsReproduced (v w : BackState) (number : ℕ) (s t : Sight) : Type 0 where
  pub home : IsArrayAt (waiting_now v) v.log.reproduced (home_now v.log.sizes s) number (home_now v.log.sizes t)
  pub mark : (state_now t).word MARK ≡ settled_at number
  pub arrays : (n : ℕ) (array : List ℕ) → number ≤ n → IsArrayAt (waiting_now v) v.log.reproduced (home_now v.log.sizes s) n array
      → IsArrayAt (waiting_now w) w.log.reproduced (home_now v.log.sizes t) n array

-- Where the medium holds the store and the back is alive: the home is the array at this number, at which the mark is settled, and the arrays from there on stay.
abbrev pub HasReproduced : BackState → BackState → ℕ → Sight → Sight → Type 0
HasReproduced v w number s t = (before : ℕ) → HoldsStore before v s → v.dead ≡ false → IsTrue s.is_visible → IsReproduced v w number s t
