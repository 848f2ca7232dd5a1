-- The kept state, the layer of values: what shown words, confirmed reads, waiting values, filled words and the reads of entries are.
-- It is said where it is known what the medium below gives.
use Rattle.std.specs.Prelude.{◌≡◌, ℕ, ◌*◌, ◌<◌, ◌⊎◌, true, false, List, map, All, Option, Some, None, slice_index}
use mathlib.Core.Option.{some}
use lib.ListN.{get_elem?}
use Rattle.dude_base.specs.declared.limits.TheConstants.{PAGE}
use Rattle.dude_base.specs.Writes.{written}
use Rattle.core_events.specs.Setups.{Setup, lock_of, page_of, cell_of}
use Rattle.core_events.specs.Keyed.{find, has}
use Rattle.core_events.specs.Views.{Entry, Hand, Transaction, View}
use Rattle.core_events.specs.Words.{State}
use Rattle.core_events.specs.Entries.{History, value, read_at}
use Rattle.core_events.specs.Events.{own_word}
use Rattle.core_events.specs.Conditions.{IsFilled}
use Rattle.core_events.specs.Ghosts.{Hold, writing, version, IsWriting, Ghost}
use Rattle.core_events.specs.KeptLocks.{hand_of}

-- A word of a page that is in a frame is the value at the clock, or its lock is owned by a view whose decided number hasn't stored it
pub record ShownWords (z : Setup) (hist : History) (lock : ℕ → Hold) (frame : ℕ → Option ℕ) (clock : ℕ) (cells : List ℕ) (hands : List Hand) : Type 0 where
  pub shown : (i f : ℕ) → i < z.pages * PAGE → frame (page_of i) ≡ Some f
      → (slice_index cells (cell_of f i) ≡ value z.opening hist clock i)
      ⊎ ((j : ℕ) × (u : ℕ) × (h : Hand) × (x : ℕ) × (lock (lock_of z i) ≡ writing j u) × (get_elem? hands j ≡ some h) × (written h.writes i ≡ Some x) × (has h.stored i ≡ false))

-- Confirmed reads are the values at the snapshot. A value that waits for its second look is too, or that look will show:
-- the lock is being written, or its version rose, or the look was the thread's own word and the lock isn't its own
pub record ReadValues (z : Setup) (hist : History) (lock : ℕ → Hold) (thread : Option ℕ) (x : Transaction) : Type 0 where
  pub read : x.is_open ≡ true → All (λ r. r.1 ≡ value z.opening hist x.snapshot r.0) x.reads
  pub waits : (i y : ℕ) → x.loaded ≡ Some (i, y)
      → (y ≡ value z.opening hist x.snapshot i)
      ⊎ (((u : ℕ) × (x.look ≡ Some (lock_of z i, 2 * u)) × (IsWriting (lock (lock_of z i)) ⊎ (u < version (lock (lock_of z i))))) ⊎ ((x.look ≡ Some (lock_of z i, own_word thread)) × (find x.owned (lock_of z i) ≡ None)))

-- A word that the view with the turn filled is the value at the clock
pub record FilledWords (z : Setup) (hist : History) (clock : ℕ) (cells : List ℕ) (filled : List (ℕ × ℕ)) : Type 0 where
  pub filled_with : (i f : ℕ) → IsFilled filled i f → slice_index cells (cell_of f i) ≡ value z.opening hist clock i

-- The reads of an entry are the values at the number where it read
pub record EntryReads (z : Setup) (hist : History) (e : Entry) : Type 0 where
  pub read : All (λ r. r.1 ≡ value z.opening hist (read_at e) r.0) e.reads

-- The layer of values: of shown words, of what views read and filled, and of the reads of entries.
pub record ValuesKept (z : Setup) (g : Ghost) (c : State) : Type 0 where
  pub shown : ShownWords z g.claims.hist g.claims.lock g.frame c.clock c.cells (map hand_of c.views)
  pub reads : (j : ℕ) (v : View) → get_elem? c.views j ≡ some v → ReadValues z g.claims.hist g.claims.lock v.part.thread v.tx
  pub filled : (j : ℕ) (v : View) → get_elem? c.views j ≡ some v → v.turn.has_it ≡ true → FilledWords z g.claims.hist c.clock c.cells v.turn.filled
  pub entries : (j : ℕ) (v : View) → get_elem? c.views j ≡ some v → All (EntryReads z g.claims.hist) v.entries
