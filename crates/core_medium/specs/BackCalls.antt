-- The calls of the back: where each is allowed, which calls on the medium it is, and what it leaves when it has ended.
use Rattle.std.specs.Prelude.{◌≡◌, ◌==◌, ℕ, ◌+◌, ◌*◌, ◌<◌, ◌≤◌, nat_lt, List, [], ◌∷◌, ◌++◌, All, AllPairs, length, if◌then◌else◌}
use Rattle.std.specs.List.{filter}
use Rattle.dude_base.specs.declared.limits.TheConstants.{PAGE}
use Rattle.dude_base.specs.declared.write.Write.{Write}
use Rattle.dude_base.specs.declared.sizes.Sizes.{Sizes}
use Rattle.dude_base.specs.Image.{Cell, home_word, cell_at}
use Rattle.dude_base.specs.Records.{RedoRecord, RedoBundle, first_of, overwritten_by_all}
use Rattle.dude_base.specs.Writes.{overwritten}
use Rattle.pmem_trait.specs.declared.call.Call.{Call}
use Rattle.pmem_trait.specs.Words.{IsIn, value_of}
use Rattle.redo_record.specs.Record.{cells_for}
use Rattle.redo_record.specs.Fits.{Logged, cells_used}
use Rattle.redo_record.specs.RingLaws.{slot_after}
use Rattle.redo_record.specs.Calls.{append_calls}
use Rattle.redo_record.specs.AppendLaw.{logged_as}
use Rattle.redo_record.specs.BackCalls.{announce_calls, reproduce_calls, read_page_calls}
use Rattle.redo_record.specs.BackLaws.{with_last, released_upto, with_waiting, with_rings, reproduced_to}
use Rattle.redo_record.specs.LogState.{RingRecords, LogState}
use Rattle.redo_record.specs.Waiting.{Waiting, Lead, IsContiguousEnd}
use Rattle.core_events.specs.Setups.{Setup}
use Rattle.core_events.specs.Keyed.{change}
use Rattle.core_medium.specs.BoxBundles.{bundle_in, MayGather}
use Rattle.core_medium.specs.Stores.{Store, medium_of}

-- a call of the back
pub data BackCall : Type 0 where
  -- the bundle of the record in this box of a thread and of those in more boxes, into the ring of the thread
  persisting : ℕ → ℕ → List (ℕ × ℕ) → BackCall
  -- the number up to which waiting bundles lead
  announcing : ℕ → BackCall
  -- these bundles, by these writes, up to this number
  reproducing : List RedoBundle → List Write → ℕ → BackCall
  -- a page of the home
  reading : ℕ → BackCall

-- A bundle of records in boxes may be persisted: its first number is over all numbers of the ring, and there is room behind the ring's
-- last bundle
pub record MayPersist (z : Setup) (boxes : List ℕ) (records : List RedoRecord) (l : LogState) (t j : ℕ) (more : List (ℕ × ℕ)) : Type 0 where
  pub gather : MayGather z boxes records l t j more
  pub newest : All (λ k. k.last < first_of (bundle_in z records t j more)) (l.rings t).logged
  pub room : cells_used (l.rings t).logged + cells_for (length (bundle_in z records t j more).writes) ≤ l.sizes.cells

-- Some of the next durable bundles, those up to a number that was told, and the last write of each of their words, in rising order of word
pub record MayReproduce (l : LogState) (told : List ℕ) (rs : List RedoBundle) (ws : List Write) (n : ℕ) : Type 0 where
  pub lead : Lead l.waiting l.reproduced rs n
  pub some : l.reproduced < n
  pub durable : (x : ℕ) × IsIn x told × (n ≤ x)
  pub rising : AllPairs (λ v w. v.at < w.at) ws
  pub inside : All (λ w. w.at < l.sizes.pages * PAGE) ws
  pub effect : (array : List ℕ) → length array ≡ l.sizes.pages * PAGE → overwritten ws array ≡ overwritten_by_all rs array

-- the call of the back is allowed, by the boxes, the log at rest and the numbers told
abbrev pub MayCall : Setup → List ℕ → List RedoRecord → LogState → List ℕ → BackCall → Type 0
MayCall z boxes records l told (persisting t j more) = MayPersist z boxes records l t j more
MayCall z boxes records l told (announcing n) = IsContiguousEnd l.waiting l.reproduced n
MayCall z boxes records l told (reproducing rs ws n) = MayReproduce l told rs ws n
MayCall z boxes records l told (reading p) = p < l.sizes.pages

-- the whole list of its calls on the medium
abbrev pub calls_of : Setup → List RedoRecord → Sizes → (ℕ → ℕ) → BackCall → List Call
calls_of z records s next (persisting t j more) = append_calls s (cell_at t (next t)) (bundle_in z records t j more)
calls_of z records s next (announcing n) = announce_calls n
calls_of z records s next (reproducing rs ws n) = reproduce_calls s ws n
calls_of z records s next (reading p) = read_page_calls s p

-- ---- what it leaves
-- one ring has a bundle more, the last
abbrev pub adding : ℕ → Logged → (ℕ → RingRecords) → ℕ → RingRecords
adding t k rings ring = if ring == t then with_last k (rings ring) else rings ring

-- a bundle that waits in the ring of a thread
abbrev pub waiting_as : ℕ → RedoBundle → Waiting
waiting_as t b = record { ring = t; redo = b }

-- the log with the bundle in its ring, from this cell on
abbrev pub persisted_log : Cell → RedoBundle → LogState → LogState
persisted_log head b l = with_waiting l (adding head.ring (logged_as head b) l.rings) (l.waiting ++ waiting_as head.ring b ∷ [])

-- the log whose home has these writes, with nothing left of bundles up to the number
abbrev pub reproduced_log : List Write → ℕ → LogState → LogState
reproduced_log ws n l = with_rings (reproduced_to l ws n (filter (λ w. nat_lt n w.redo.last) l.waiting)) (λ ring. released_upto n (l.rings ring))

-- all calls that were made have ended
abbrev pub at_rest : Store → Store
at_rest d = record d { rest = medium_of d; calls = [] }

-- what the whole call of the back leaves, when all its calls on the medium were made
abbrev pub left_by : Setup → List RedoRecord → BackCall → Store → Store
left_by z records (persisting t j more) d = record (at_rest d) {
  log = persisted_log (cell_at t (d.next t)) (bundle_in z records t j more) d.log;
  next = change d.next t (slot_after d.log.sizes (d.next t) (cells_for (length (bundle_in z records t j more).writes)));
}
left_by z records (announcing n) d = at_rest d
left_by z records (reproducing rs ws n) d = record (at_rest d) { log = reproduced_log ws n d.log; marks = n ∷ d.marks }
left_by z records (reading p) d = at_rest d

-- ---- one call on the medium
-- the k-th read of a page gives its k-th word
abbrev pub read_by : BackCall → Store → List (ℕ × ℕ)
read_by (reading p) d = (p * PAGE + length d.calls, value_of ((medium_of d).word (home_word d.log.sizes (p * PAGE + length d.calls)))) ∷ d.read
read_by b d = d.read

-- one call more was made
abbrev pub with_call : BackCall → Call → Store → Store
with_call b call d = record d { calls = d.calls ++ call ∷ []; read = read_by b d }

-- the call is made, and these are left of the back's call
abbrev pub device_after : Setup → List RedoRecord → BackCall → Call → List Call → Store → Store
device_after z records b call [] d = left_by z records b (with_call b call d)
device_after z records b call (x ∷ xs) d = with_call b call d

-- the store behind some calls, the last ones of the back's call
abbrev pub store_behind : Setup → List RedoRecord → BackCall → Store → List Call → Store
store_behind z records b d [] = d
store_behind z records b d (call ∷ []) = device_after z records b call [] d
store_behind z records b d (call ∷ next ∷ later) = store_behind z records b (with_call b call d) (next ∷ later)
