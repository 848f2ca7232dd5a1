-- The bundles of a lane, by their entries and the places of their writes: as in the ring, three for each cell.
use Rattle.std.specs.Prelude.{◌≡◌, ◌≢◌, ℕ, ◌+◌, ◌*◌, ◌/◌, ◌%◌, ◌<◌, List, map, slice_index_or}
use Rattle.std.specs.List.{range_with_len}
use Rattle.dude_base.specs.declared.write.Write.{Write}
use Rattle.dude_base.specs.Records.{RedoBundle}
use Rattle.redo_record.specs.Record.{cells_for}
use Rattle.redo_record.specs.Fits.{Logged}
use Rattle.back_store.specs.declared.entry.Entry.{Entry}

-- where the write at this index stands, of a bundle with its head in this slot of a ring of so many cells
abbrev pub write_place : ℕ → ℕ → ℕ → ℕ
write_place cells slot i = 3 * ((slot + i / 3) % cells) + i % 3

-- a write that stands for none
abbrev pub no_write : Write
no_write = record { at = 0; value = 0 }

-- so many writes of a bundle with its head in this slot
abbrev pub writes_in : ℕ → List Write → ℕ → ℕ → List Write
writes_in cells writes slot count = map (λ i. slice_index_or writes (write_place cells slot i) no_write) (range_with_len 0 count)

-- the places of no other bundle are changed than of one with its head in this slot and so many writes
abbrev pub LeavesOthers : ℕ → ℕ → ℕ → List Write → List Write → Type 0
LeavesOthers cells slot count old new = (at : ℕ) (d : Write)
    → ((i : ℕ) → i < count → at ≢ write_place cells slot i) → slice_index_or new at d ≡ slice_index_or old at d

-- the bundle of an entry
abbrev pub bundle_in : ℕ → List Write → Entry → RedoBundle
bundle_in cells writes e = record { last = e.last; span = e.span; writes = writes_in cells writes e.slot e.count }

-- the bundle of an entry, as one of a ring
abbrev pub logged_of : Entry → Logged
logged_of e = record { last = e.last; span = e.span; slot = e.slot; cells = cells_for e.count }
