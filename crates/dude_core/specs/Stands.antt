-- What a store as data stands for, and what a call of the back is to it.
use Rattle.std.specs.Prelude.{List}
use Rattle.dude_base.specs.Records.{RedoRecord}
use Rattle.pmem_trait.specs.Words.{State as MediumState, after_all}
use Rattle.core_events.specs.Setups.{Setup}
use Rattle.core_events.specs.Words.{State}
use Rattle.core_medium.specs.BoxBundles.{bundle_in}
use Rattle.core_medium.specs.Stores.{Store}
use Rattle.core_medium.specs.Machines.{Machine}
use Rattle.core_medium.specs.BackCalls.{BackCall, persisting, announcing, reproducing, reading}
use Rattle.core_medium.specs.KeptStore.{opening_medium}
use Rattle.dude_core.specs.StoreData.{StoreData, ring_at, log_of}
use Rattle.dude_core.specs.Effects.{Effect, appends, tells_number, replays, reads_page}

-- the store that the data stands for, over a medium that began so
abbrev pub store_over : MediumState → StoreData → Store
store_over p a = record {
  log = log_of a;
  next = λ ring. (ring_at a ring).next;
  rest = after_all a.ended p;
  calls = a.calls;
  marks = a.marks;
  read = a.read;
}

-- the store that the data stands for, in a setup: its medium began as the opening one
abbrev pub store_of : Setup → StoreData → Store
store_of z a = store_over (opening_medium z a.sizes) a

-- what this call of the back writes, tells or reads
abbrev pub effect_of : Setup → List RedoRecord → BackCall → Effect
effect_of z records (persisting t j more) = appends t (bundle_in z records t j more)
effect_of z records (announcing n) = tells_number n
effect_of z records (reproducing rs ws n) = replays ws n
effect_of z records (reading p) = reads_page p

-- words and views, with the store that the data stands for
abbrev pub machine_over : Setup → State → StoreData → Machine
machine_over z c a = record { core = c; store = store_of z a }
