-- A store as data, for code: no part of it is a function. The medium is the record of the calls made on it.
use Rattle.std.specs.Prelude.{ℕ, ◌*◌, ◌<◌, ◌≤◌, ◌⊎◌, List, [], ◌∷◌, All, replicate, slice_index_or}
use Rattle.std.specs.List.{Contains}
use Rattle.dude_base.specs.declared.limits.TheConstants.{PAGE}
use Rattle.dude_base.specs.declared.sizes.Sizes.{Sizes}
use Rattle.dude_base.specs.Records.{Covers}
use Rattle.pmem_trait.specs.declared.call.Call.{Call}
use Rattle.pmem_trait.specs.declared.call.Call.TheVariants.{Read, Put, Flush, Fence, Tell}
use Rattle.pmem_trait.specs.Words.{IsIn}
use Rattle.redo_record.specs.Fits.{Logged}
use Rattle.redo_record.specs.LogState.{RingRecords, LogState}
use Rattle.redo_record.specs.Waiting.{Waiting}
use Rattle.core_events.specs.Setups.{Setup}

-- a ring: its bundles, and the slot behind the last one
pub record RingData : Type 0 where
  pub logged : List Logged
  pub next : ℕ

-- a store
pub record StoreData : Type 0 where
  pub sizes : Sizes
  pub rings : List RingData
  pub waiting : List Waiting
  pub home : List ℕ
  pub reproduced : ℕ
  -- the greatest number that rings released; they release together
  pub released : ℕ
  -- the calls of calls of the back that ended, and those since
  pub ended : List Call
  pub calls : List Call
  -- the numbers at which the mark was settled, the newest first
  pub marks : List ℕ
  -- home words that were read, with their values, the newest first
  pub read : List (ℕ × ℕ)

-- a ring without bundles
abbrev pub no_ring : RingData
no_ring = record { logged = []; next = 0 }

-- the ring with this number
abbrev pub ring_at : StoreData → ℕ → RingData
ring_at a ring = slice_index_or a.rings ring no_ring

-- what the log has of a ring
abbrev pub records_at : StoreData → ℕ → RingRecords
records_at a ring = record { logged = (ring_at a ring).logged; released = a.released }

-- the log
abbrev pub log_of : StoreData → LogState
log_of a = record {
  sizes = a.sizes;
  reproduced = a.reproduced;
  home = a.home;
  rings = records_at a;
  waiting = a.waiting;
}

-- the number is on the medium: the home has its writes, or a waiting bundle covers it
abbrev pub HasOnMedium : StoreData → ℕ → Type 0
HasOnMedium a n = (n ≤ a.reproduced) ⊎ ((w : Waiting) × Contains a.waiting w × Covers w.redo n)

-- waiting bundles write words of the image's home
abbrev pub AreInside : Sizes → List Waiting → Type 0
AreInside s waiting = All (λ w. All (λ v. v.at < s.pages * PAGE) w.redo.writes) waiting

-- the numbers that these calls told
abbrev pub tells : List Call → List ℕ
tells [] = []
tells (Read at ∷ cs) = tells cs
tells (Put at value ∷ cs) = tells cs
tells (Flush line ∷ cs) = tells cs
tells (Fence ∷ cs) = tells cs
tells (Tell number ∷ cs) = number ∷ tells cs

-- a number from this one on is among those told
abbrev pub ToldFrom : ℕ → List ℕ → Type 0
ToldFrom number told = (x : ℕ) × IsIn x told × (number ≤ x)

-- at the start: no bundles, the opening words as home, and the mark at the opening number
abbrev pub start_data : Setup → Sizes → StoreData
start_data z s = record {
  sizes = s;
  rings = replicate s.rings no_ring;
  waiting = [];
  home = z.opening;
  reproduced = z.first;
  released = 0;
  ended = [];
  calls = [];
  marks = z.first ∷ [];
  read = [];
}
