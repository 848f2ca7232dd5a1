-- What is done to a store as data is done to the store that it stands for.
use Rattle.std.specs.Prelude.{◌≡◌, ◌↔◌, ℕ, ◌<◌, List, ◌∷◌, ◌++◌, length}
use Rattle.dude_base.specs.declared.sizes.Sizes.{Sizes}
use Rattle.dude_base.specs.Records.{RedoRecord}
use Rattle.pmem_trait.specs.declared.call.Call.{Call}
use Rattle.redo_record.specs.LogState.{HoldsLog}
use Rattle.core_events.specs.Setups.{Setup}
use Rattle.core_medium.specs.KeptLog.{IsOnMedium}
use Rattle.core_medium.specs.BackCalls.{BackCall, MayCall, calls_of, device_after}
use Rattle.core_medium.specs.KeptStore.{opening_medium, start_machine}
use Rattle.dude_core.specs.StoreData.{StoreData, start_data, tells, log_of, HasOnMedium}
use Rattle.dude_core.specs.Effects.{effect_calls, data_after}
use Rattle.dude_core.specs.Stands.{store_of, effect_of}

-- the data at the start stands for the store at the start
abbrev pub LawOfStartData : Type 0
LawOfStartData = (z : Setup) (s : Sizes) → store_of z (start_data z s) ≡ (start_machine z s (opening_medium z s)).store

-- the calls of a call of the back are those of what it writes, tells or reads
abbrev pub LawOfEffectCalls : Type 0
LawOfEffectCalls = (z : Setup) (records : List RedoRecord) (a : StoreData) (b : BackCall)
    → effect_calls a (effect_of z records b) ≡ calls_of z records a.sizes (store_of z a).next b

-- Where a call of the back is allowed and its next call on the medium is made, the data is led to what stands for the store that is led to:
-- threads have rings, and the medium holds the log
abbrev pub LawOfEffects : Type 0
LawOfEffects = (z : Setup) (boxes : List ℕ) (records : List RedoRecord) (a : StoreData) (b : BackCall) (call : Call) (left : List Call)
    → length a.rings ≡ a.sizes.rings → ((t : ℕ) → t < z.threads → t < a.sizes.rings)
    → HoldsLog (log_of a) (store_of z a).rest → MayCall z boxes records (log_of a) (store_of z a).rest.told b
    → calls_of z records a.sizes (store_of z a).next b ≡ a.calls ++ call ∷ left
    → store_of z (data_after (effect_of z records b) call left a) ≡ device_after z records b call left (store_of z a)

-- the numbers told at rest: the opening one, and those told since
abbrev pub LawOfTold : Type 0
LawOfTold = (z : Setup) (a : StoreData) → (store_of z a).rest.told ≡ z.first ∷ tells a.ended

-- a number that the data has on the medium is on it in the log, and conversely
abbrev pub LawOfOnMedium : Type 0
LawOfOnMedium = (a : StoreData) (n : ℕ) → HasOnMedium a n ↔ IsOnMedium (log_of a) n
