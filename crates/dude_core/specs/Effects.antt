-- What a call of the back does to a store as data, by what it writes.
use Rattle.std.specs.Prelude.{ℕ, ◌+◌, ◌*◌, nat_lt, List, [], ◌∷◌, ◌++◌, length, map, max, slice_index, slice_set}
use Rattle.std.specs.List.{filter}
use Rattle.dude_base.specs.declared.limits.TheConstants.{PAGE}
use Rattle.dude_base.specs.declared.sizes.Sizes.{Sizes}
use Rattle.dude_base.specs.declared.write.Write.{Write}
use Rattle.dude_base.specs.Image.{cell_at}
use Rattle.dude_base.specs.Records.{RedoBundle}
use Rattle.dude_base.specs.Writes.{overwritten}
use Rattle.pmem_trait.specs.declared.call.Call.{Call}
use Rattle.redo_record.specs.Record.{cells_for}
use Rattle.redo_record.specs.RingLaws.{slot_after}
use Rattle.redo_record.specs.Calls.{append_calls}
use Rattle.redo_record.specs.AppendLaw.{logged_as}
use Rattle.redo_record.specs.BackCalls.{announce_calls, reproduce_calls, read_page_calls}
use Rattle.dude_core.specs.StoreData.{RingData, StoreData, ring_at}

-- what a call of the back writes, tells or reads
pub data Effect : Type 0 where
  -- a bundle, into a ring
  appends : ℕ → RedoBundle → Effect
  tells_number : ℕ → Effect
  -- home words, and the mark
  replays : List Write → ℕ → Effect
  -- a page of the home
  reads_page : ℕ → Effect

-- the calls on the medium of an effect
abbrev pub effect_calls : StoreData → Effect → List Call
effect_calls a (appends t b) = append_calls a.sizes (cell_at t (ring_at a t).next) b
effect_calls a (tells_number n) = announce_calls n
effect_calls a (replays ws n) = reproduce_calls a.sizes ws n
effect_calls a (reads_page p) = read_page_calls a.sizes p

-- one call more was made
abbrev pub called : Call → StoreData → StoreData
called call a = record a { calls = a.calls ++ call ∷ [] }

-- all calls that were made have ended
abbrev pub rested : StoreData → StoreData
rested a = record a { ended = a.ended ++ a.calls; calls = [] }

-- the ring t with this bundle behind the others
abbrev pub added : Sizes → ℕ → RedoBundle → RingData → RingData
added s t b r = record {
  logged = r.logged ++ logged_as (cell_at t r.next) b ∷ [];
  next = slot_after s r.next (cells_for (length b.writes));
}

-- with this bundle in its ring
abbrev pub persisted : ℕ → RedoBundle → StoreData → StoreData
persisted t b a = record a { rings = slice_set a.rings t (added a.sizes t b (ring_at a t)); waiting = a.waiting ++ record { ring = t; redo = b } ∷ [] }

-- a ring without its bundles up to a number
abbrev pub ring_released : ℕ → RingData → RingData
ring_released n r = record { logged = filter (λ k. nat_lt n k.last) r.logged; next = r.next }

-- with these writes in the home, and nothing left of bundles up to the number
abbrev pub reproduced : List Write → ℕ → StoreData → StoreData
reproduced ws n a = record a {
  rings = map (ring_released n) a.rings;
  waiting = filter (λ w. nat_lt n w.redo.last) a.waiting;
  home = overwritten ws a.home;
  reproduced = n;
  released = max a.released n;
  marks = n ∷ a.marks;
}

-- the word of a page that is read next, and its value
abbrev pub next_word : ℕ → StoreData → ℕ × ℕ
next_word p a = (p * PAGE + length a.calls, slice_index a.home (p * PAGE + length a.calls))

-- one call more of this effect was made
abbrev pub called_by : Effect → Call → StoreData → StoreData
called_by (appends t b) call a = called call a
called_by (tells_number n) call a = called call a
called_by (replays ws n) call a = called call a
called_by (reads_page p) call a = record (called call a) { read = next_word p a ∷ a.read }

-- what the whole effect leaves
abbrev pub left_of : Effect → StoreData → StoreData
left_of (appends t b) a = persisted t b (rested a)
left_of (tells_number n) a = rested a
left_of (replays ws n) a = reproduced ws n (rested a)
left_of (reads_page p) a = rested a

-- the call is made, and these are left of the effect's
abbrev pub data_after : Effect → Call → List Call → StoreData → StoreData
data_after e call [] a = left_of e (called_by e call a)
data_after e call (x ∷ xs) a = called_by e call a
