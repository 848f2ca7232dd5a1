-- By which calls on its medium a log takes records, announces and settles, and what its back and its open bundle are then.
use Rattle.std.specs.Prelude.{◌≡◌, ◌⊎◌, ℕ, ◌+◌, ◌≤◌, List, [], ◌++◌, Option, Some, None}
use Rattle.dude_base.specs.Joins.{CanJoin, places_of}
use Rattle.dude_base.specs.Records.{RedoBundle, RedoRecord, bundle_of, first_of, with_next}
use Rattle.pmem_trait.specs.declared.call.Call.{Call}
use Rattle.redo_record.specs.Record.{cells_for}
use Rattle.redo_record.specs.BackCalls.{announce_calls}
use Rattle.back_store.specs.Back.{BackState, IsEnd, IsRingFull}
use Rattle.back_store.specs.Answers.{announced, reproduced}
use Rattle.back_store.specs.Operations.{BroughtHomeBy, PersistedBy}
use Rattle.log_numbered.specs.declared.open_bundle.OpenBundle.{OpenBundle}

-- ---- the back

-- the back where all up to this number is announced, and the home has it
abbrev pub settled : BackState → ℕ → BackState
settled v number = reproduced (announced v number) number

-- These calls announce the number to which waiting bundles lead, and then reproduce the bundles up to it.
pub record SettledBy (v : BackState) (number : ℕ) (calls : List Call) : Type 0 where
  pub is_end : IsEnd v number
  pub reproducing : List Call
  pub home : BroughtHomeBy (announced v number) number reproducing
  pub calls_are : calls ≡ announce_calls number ++ reproducing

-- The ring had no room, so the back was settled at the number before the bundle's first, and the bundle then put in the ring.
pub record PersistedBehindSettling (ring : ℕ) (b : RedoBundle) (v w : BackState) (calls : List Call) : Type 0 where
  pub full : IsRingFull v ring b
  pub last : ℕ
  pub next : first_of b ≡ last + 1
  pub settling : List Call
  pub settled_by : SettledBy v last settling
  pub persisting : List Call
  pub persisted_by : PersistedBy ring b (settled v last) w persisting
  pub calls_are : calls ≡ settling ++ persisting

-- These calls persist the bundle in this ring: the back is settled before exactly where the ring has no room.
abbrev pub BundlePersistedBy : ℕ → RedoBundle → BackState → BackState → List Call → Type 0
BundlePersistedBy ring b v w calls = PersistedBy ring b v w calls ⊎ PersistedBehindSettling ring b v w calls

-- ---- the open bundle

-- A log as its calls depend on it: its back, and its open bundle.
pub record LogParts : Type 0 where
  pub back : BackState
  pub current : Option OpenBundle

-- the log behind these calls where its open bundle is closed: it is persisted; where none is open there is no call
abbrev pub ClosedBy : Option OpenBundle → BackState → BackState → List Call → Type 0
ClosedBy None v w calls = (w ≡ v) × (calls ≡ [])
ClosedBy (Some o) v w calls = BundlePersistedBy o.ring o.bundle v w calls

-- The open bundle takes the record, and doesn't get too long for a ring by it.
pub record Joins (cells : ℕ) (o : OpenBundle) (r : RedoRecord) : Type 0 where
  pub can : CanJoin o.bundle r
  pub short : cells_for (places_of o.bundle r) ≤ cells

-- the open bundle with the record of the next number
abbrev pub with_joined : OpenBundle → RedoRecord → OpenBundle
with_joined o r = record o { bundle = with_next o.bundle r }

-- The open bundle takes the record, without a call.
pub record JoinedBy (r : RedoRecord) (k l : LogParts) (calls : List Call) : Type 0 where
  pub joined : OpenBundle
  pub was : k.current ≡ Some joined
  pub joins : Joins k.back.log.sizes.cells joined r
  pub now : l.current ≡ Some (with_joined joined r)
  pub back : l.back ≡ k.back
  pub calls_are : calls ≡ []

-- No open bundle takes the record: the open one is closed, and a new one begun in this ring.
pub record BegunBy (ring : ℕ) (r : RedoRecord) (k l : LogParts) (calls : List Call) : Type 0 where
  pub apart : (o : OpenBundle) → k.current ≡ Some o → Joins k.back.log.sizes.cells o r → ⊥
  pub closed_by : ClosedBy k.current k.back l.back calls
  pub now : l.current ≡ Some (record { ring = ring; bundle = bundle_of r })

-- the record is taken by these calls
abbrev pub AppendedBy : ℕ → RedoRecord → LogParts → LogParts → List Call → Type 0
AppendedBy ring r k l calls = JoinedBy r k l calls ⊎ BegunBy ring r k l calls

-- These calls close the open bundle, and announce the number.
pub record AnnouncedBy (k : LogParts) (number : ℕ) (l : LogParts) (calls : List Call) : Type 0 where
  pub back : BackState
  pub closing : List Call
  pub closed_by : ClosedBy k.current k.back back closing
  pub now : l ≡ record { back = announced back number; current = None }
  pub calls_are : calls ≡ closing ++ announce_calls number

-- These calls close the open bundle, and announce and reproduce all up to the number.
pub record CheckpointedBy (k : LogParts) (number : ℕ) (l : LogParts) (calls : List Call) : Type 0 where
  pub back : BackState
  pub closing : List Call
  pub closed_by : ClosedBy k.current k.back back closing
  pub settling : List Call
  pub settled_by : SettledBy back number settling
  pub now : l ≡ record { back = settled back number; current = None }
  pub calls_are : calls ≡ closing ++ settling
