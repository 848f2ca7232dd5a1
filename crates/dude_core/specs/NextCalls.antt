-- Which call of the back a call on the medium goes on with.
use Rattle.std.specs.Prelude.{◌≡◌, ◌<◌, ◌≤◌, ◌+◌, ℕ, Bool, List, [], length}
use Rattle.std.specs.List.{Contains}
use Rattle.dude_base.specs.declared.write.Write.{Write}
use Rattle.dude_base.specs.Image.{cell_at}
use Rattle.dude_base.specs.Records.{RedoRecord, RedoBundle, first_of}
use Rattle.pmem_trait.specs.declared.call.Call.{Call}
use Rattle.redo_record.specs.Record.{cells_for}
use Rattle.redo_record.specs.Fits.{cells_used}
use Rattle.redo_record.specs.Waiting.{Waiting, AreDisjoint, IsContiguousEnd}
use Rattle.redo_record.specs.Calls.{append_calls}
use Rattle.redo_record.specs.BackCalls.{announce_calls, reproduce_calls, read_page_calls}
use Rattle.core_events.specs.Setups.{Setup}
use Rattle.core_medium.specs.BoxBundles.{joined, AllJoin}
use Rattle.core_medium.specs.BackCalls.{MayReproduce}
use Rattle.dude_core.specs.CallFits.{GoesOn, IsFront, IsApart}
use Rattle.dude_core.specs.StoreData.{StoreData, ring_at, log_of}

-- waiting bundles have no number in common, and each begins over this number
pub record AreApartOver (from : ℕ) (waiting : List Waiting) : Type 0 where
  pub distinct : AreDisjoint waiting
  pub over : (w : Waiting) → Contains waiting w → from < first_of w.redo

-- ---- a page is read
-- the page is one of the home, and the call goes on with its reads
pub record ReadsOn (a : StoreData) (call : Call) (page : ℕ) (ends : Bool) : Type 0 where
  pub inside : page < a.sizes.pages
  pub front : IsFront (read_page_calls a.sizes page) a.calls call ends

-- ---- a number is announced
-- the number is the contiguous end, and the call is all that announces it
pub record Announces (a : StoreData) (call : Call) (number : ℕ) : Type 0 where
  pub end : IsContiguousEnd a.waiting a.reproduced number
  pub goes : GoesOn (announce_calls number) a.calls call []

-- ---- bundles are reproduced
-- bundles up to the number may be reproduced by these writes, and the call goes on with that
pub record Replays (told : List ℕ) (a : StoreData) (call : Call) (writes : List Write) (number : ℕ) (ends : Bool) : Type 0 where
  pub bundles : List RedoBundle
  pub may : MayReproduce (log_of a) told bundles writes number
  pub front : IsFront (reproduce_calls a.sizes writes number) a.calls call ends

-- the call goes on with no reproduction up to this number
abbrev pub ReplaysNoneTo : List ℕ → StoreData → Call → ℕ → Type 0
ReplaysNoneTo told a call number = (rs : List RedoBundle) (ws : List Write) → MayReproduce (log_of a) told rs ws number → IsApart (reproduce_calls a.sizes ws number) a.calls call

-- ---- a bundle of records in boxes is persisted
-- the ring has room for the bundle behind its others
abbrev pub HasRoom : StoreData → ℕ → RedoBundle → Type 0
HasRoom a ring b = cells_used (ring_at a ring).logged + cells_for (length b.writes) ≤ a.sizes.cells

-- the calls that append the bundle to the ring
abbrev pub bundle_calls : StoreData → ℕ → RedoBundle → List Call
bundle_calls a ring b = append_calls a.sizes (cell_at ring (ring_at a ring).next) b

-- the ring has room for the bundle, and the call goes on with what appends it
pub record AppendsOn (a : StoreData) (call : Call) (ring : ℕ) (b : RedoBundle) (ends : Bool) : Type 0 where
  pub room : HasRoom a ring b
  pub front : IsFront (bundle_calls a ring b) a.calls call ends

-- the call doesn't go on with what appends the bundle to the ring, where there is room
abbrev pub AppendsNone : StoreData → Call → ℕ → RedoBundle → Type 0
AppendsNone a call ring b = HasRoom a ring b → IsApart (bundle_calls a ring b) a.calls call

-- the result is the bundle with the records of more boxes, and the call goes on with what appends it
pub record GathersOn (z : Setup) (boxes : List ℕ) (records : List RedoRecord) (a : StoreData) (call : Call) (ring : ℕ) (b result : RedoBundle) (ends : Bool) : Type 0 where
  pub more : List (ℕ × ℕ)
  pub join : AllJoin z boxes records (log_of a) b more
  pub result_is : result ≡ joined z records b more
  pub appends : AppendsOn a call ring result ends

-- with no more boxes the call goes on with what appends the bundle and their records
abbrev pub GathersNone : Setup → List ℕ → List RedoRecord → StoreData → Call → ℕ → RedoBundle → Type 0
GathersNone z boxes records a call ring b = (more : List (ℕ × ℕ)) → AllJoin z boxes records (log_of a) b more → AppendsNone a call ring (joined z records b more)
