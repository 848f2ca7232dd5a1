-- What a call on the medium makes of the data of a store.
use Rattle.std.specs.Prelude.{ℕ, ◌≡◌, ◌∷◌, ◌++◌, [], Bool, true, false, List, Result, Ok, Err}
use Rattle.std.specs.declared.alloc.AllocError.{AllocError}
use Rattle.pmem_trait.specs.declared.call.Call.{Call}
use mathlib.Core.Option.{some}
use lib.ListN.{get_elem?}
use Rattle.core_events.specs.Setups.{Setup}
use Rattle.core_events.specs.Views.{View}
use Rattle.core_events.specs.Words.{State}
use Rattle.core_medium.specs.BackCalls.{BackCall, MayCall, calls_of}
use Rattle.dude_core.specs.declared.core_refusal.CoreRefusal.{CoreRefusal}
use Rattle.dude_core.specs.declared.core_refusal.CoreRefusal.TheVariants.{NoMemory}
use Rattle.dude_core.specs.Named.{Tells}
use Rattle.dude_core.specs.StoreData.{StoreData, log_of}
use Rattle.dude_core.specs.Effects.{Effect, called_by, left_of, data_after}
use Rattle.dude_core.specs.Stands.{store_of, effect_of}
use Rattle.dude_core.specs.Turns.{HasTurn}

-- the call of the back is allowed, and this call is its next one; these are left of it
pub record GoesOnWith (z : Setup) (c : State) (a : StoreData) (call : Call) (b : BackCall) (left : List Call) : Type 0 where
  pub may : MayCall z c.boxes c.records (log_of a) (store_of z a).rest.told b
  pub whole : calls_of z c.records a.sizes (store_of z a).next b ≡ a.calls ++ call ∷ left

-- the call is made; `ends` says whether it is the effect's last one
abbrev pub made_by : Effect → Call → Bool → StoreData → StoreData
made_by e call true a = left_of e (called_by e call a)
made_by e call false a = called_by e call a

-- the call is the next one of a call of the back that is allowed, and is made
pub record HasMade (z : Setup) (c : State) (a : StoreData) (call : Call) (d : StoreData) : Type 0 where
  pub back : BackCall
  pub left : List Call
  pub goes : GoesOnWith z c a call back left
  pub made : d ≡ data_after (effect_of z c.records back) call left a

-- the call isn't the next one of a call of the back that is allowed
abbrev pub MakesNone : Setup → State → StoreData → Call → Type 0
MakesNone z c a call = (b : BackCall) (left : List Call) → GoesOnWith z c a call b left → ⊥

-- the call is the next one of a call of the back with this effect; `ends` says whether it is the last one
pub record IsNext (z : Setup) (c : State) (a : StoreData) (call : Call) (e : Effect) (ends : Bool) : Type 0 where
  pub back : BackCall
  pub left : List Call
  pub goes : GoesOnWith z c a call back left
  pub effect_is : effect_of z c.records back ≡ e
  pub ends_is : Tells ends (left ≡ [])

-- a want of memory, as a refusal
abbrev pub refused_as : Result (Unit {0}) AllocError → Result (Unit {0}) CoreRefusal
refused_as (Ok x) = Ok x
refused_as (Err e) = Err NoMemory

-- the view `who` is v, and has the turn
abbrev pub HasTurnAt : State → ℕ → View → Type 0
HasTurnAt c who v = (get_elem? c.views who ≡ some v) × HasTurn v
