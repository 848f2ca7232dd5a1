-- How a back and its medium hold the arrays of a run, and how calls leave them.
use Rattle.std.specs.Prelude.{◌≡◌, ℕ, ◌≤◌, Bool, false, IsTrue, List, length}
use Rattle.std.specs.List.{Contains}
use Rattle.dude_base.specs.declared.limits.TheConstants.{MAX_NUMBER}
use Rattle.dude_base.specs.Records.{RedoBundle}
use Rattle.pmem_trait.specs.Sights.{Sight, state_now, AtEveryMoment, Risen, SomeCalls}
use Rattle.redo_record.specs.Waiting.{IsArrayAt, Waiting}
use Rattle.back_store.specs.Backlog.{IsLawful}
use Rattle.back_store.specs.Back.{BackState, IsEnd, IsRingFull, home_now, waiting_now}
use Rattle.back_store.specs.Images.{HoldsStore}
use Rattle.back_store.specs.Told.{WereTold}
use Rattle.log_numbered.specs.Arrays.{RunArrays, RecoversIn, array_at, last_number}

-- Whatever the medium: the back is alive, and what waits in it is lawful; the bundles that wait lead up to this number, and
-- none is over it.
pub record LeadsUpTo (v : BackState) (last : ℕ) : Type 0 where
  pub alive : v.dead ≡ false
  pub lawful : IsLawful v.log
  pub end : IsEnd v last
  pub small : last ≤ MAX_NUMBER
  pub none_over : (w : Waiting) → Contains (waiting_now v) w → w.redo.last ≤ last

-- Where the medium is visible, the array at each end, to which waiting bundles lead, is one of these.
pub record HoldsArrays (a : RunArrays) (v : BackState) (s : Sight) : Type 0 where
  pub from : a.first ≤ v.log.reproduced
  pub size : length a.opening ≡ length (home_now v.log.sizes s)
  pub arrays : (n : ℕ) (array : List ℕ) → IsArrayAt (waiting_now v) v.log.reproduced (home_now v.log.sizes s) n array → array ≡ array_at a n

-- The back, which leads up to this number, has these arrays so far: its medium holds those at its ends, and nothing over its
-- durable number was told behind the first `before` numbers.
pub record Carries (before : ℕ) (a : RunArrays) (v : BackState) (end : ℕ) (s : Sight) : Type 0 where
  pub from : a.first ≤ end
  pub upto : end ≤ last_number a
  pub keeps : HoldsStore before v s
  pub holds : IsTrue s.is_visible → HoldsArrays a v s

-- this holds of any arrays
abbrev pub Any : RunArrays → Type 0
Any a = Unit {0}

-- from one back, its end and its medium to another: it has such arrays where it had them
abbrev pub CarriesOn : (RunArrays → Type 0) → BackState → ℕ → Sight → BackState → ℕ → Sight → Type 0
CarriesOn P v end s w new_end t = (before : ℕ) (a : RunArrays) → P a → Carries before a v end s → Carries before a w new_end t

-- at each moment every image recovers to a number from the end of v on, and to one of such arrays
abbrev pub RecoversAlong : (RunArrays → Type 0) → BackState → ℕ → Sight → Sight → Type 0
RecoversAlong P v end s t = (before : ℕ) (a : RunArrays) → P a → Carries before a v end s → AtEveryMoment (RecoversIn v.log.sizes a end before) s t

-- the home is the array at this number
abbrev pub HomeIsAt : BackState → ℕ → Sight → Sight → Type 0
HomeIsAt v end s t = (before : ℕ) (a : RunArrays) → Carries before a v end s → IsTrue s.is_visible → home_now v.log.sizes t ≡ array_at a end

-- The ring had no room for the bundle, and nothing was done.
pub record WasFull (ring : ℕ) (b : RedoBundle) (v : BackState) (end : ℕ) (s : Sight) (w : BackState) (new_end : ℕ) (t : Sight) : Type 0 where
  pub full : IsRingFull v ring b
  pub back : w ≡ v
  pub end_stays : new_end ≡ end
  pub sight : t ≡ s

-- What a call leaves whatever the medium: the medium's length, the sizes, and a durable number that is no less.
pub record LogGoesOn (ok : Bool) (v : BackState) (s : Sight) (w : BackState) (t : Sight) : Type 0 where
  pub len : t.len ≡ s.len
  pub sizes : w.log.sizes ≡ v.log.sizes
  pub rises : v.log.durable ≤ w.log.durable
  pub ran : SomeCalls ok s t
  pub cause : ok ≡ false → Risen s.faults t.faults
  pub tells : IsTrue s.is_visible → WereTold ok v.log.durable w.log.durable (state_now s).told (state_now t).told
