-- What the back of the store knows of its medium between two of its calls: header, mark and home are settled, the rings
-- fit, and their records over the mark are the ones that wait.
use Rattle.std.specs.Prelude.{◌≡◌, ℕ, ◌+◌, ◌<◌, ◌≤◌, List, All, AllPairs}
use Rattle.std.specs.List.{Contains}
use Rattle.dude_base.specs.declared.limits.TheConstants.{LINE, MAX_NUMBER, VERSION}
use Rattle.dude_base.specs.declared.sizes.Sizes.{Sizes}
use Rattle.dude_base.specs.Sizes.{IsAccepted}
use Rattle.dude_base.specs.Image.{cell_at, cell_start}
use Rattle.dude_base.specs.Records.{RedoBundle, first_of}
use Rattle.pmem_trait.specs.Words.{State, MayHold, AtLeast, settled_at}
use Rattle.redo_record.specs.Images.{sizes_of}
use Rattle.redo_record.specs.Fits.{Logged, first_logged, head_of, HasHead, FitsRing}
use Rattle.redo_record.specs.Recovery.{Recovers}
use Rattle.redo_record.specs.Rest.{RestsAt}
use Rattle.redo_record.specs.SettledRecords.{HoldSettled}
use Rattle.redo_record.specs.Waiting.{Waiting, IsArrayAt, AreDisjoint}

-- What a ring has: its records, and the greatest number released.
pub record RingRecords : Type 0 where
  pub logged : List Logged
  pub released : ℕ

-- A log and its home, in an image of the newest version: the sizes of the image, the number up to which the home has all
-- writes, the home, what each ring has, and the records that wait.
pub record LogState : Type 0 where
  pub sizes : Sizes
  pub reproduced : ℕ
  pub home : List ℕ
  pub rings : ℕ → RingRecords
  pub waiting : List Waiting

-- From a state p to a state q the cells of the rings stay: each tag might have been what it may be, and each settled word
-- is as it was.
pub record KeepsCells (s : Sizes) (p q : State) : Type 0 where
  pub tags : (ring slot tag : ℕ) → ring < s.rings → slot < s.cells → MayHold (q.word (cell_start s (cell_at ring slot))) tag → MayHold (p.word (cell_start s (cell_at ring slot))) tag
  pub stay : (ring slot j x : ℕ) → ring < s.rings → slot < s.cells → j < LINE → p.word (cell_start s (cell_at ring slot) + j) ≡ settled_at x
      → q.word (cell_start s (cell_at ring slot) + j) ≡ settled_at x

-- The cells of this record of the ring hold one that waits.
pub record IsWaiting (s : Sizes) (waiting : List Waiting) (ring : ℕ) (p : State) (l : Logged) : Type 0 where
  pub slot_is : l.slot < s.cells
  pub redo : RedoBundle
  pub waits : Contains waiting (record { ring = ring; redo = redo })
  pub held : HoldSettled s (head_of ring l) redo p

-- The waiting record begins over the mark, and its ring has a record with its last number.
pub record IsLogged (l : LogState) (w : Waiting) : Type 0 where
  pub ring_is : w.ring < l.sizes.rings
  pub over : l.reproduced < first_of w.redo
  pub slot : ℕ
  pub has : HasHead w.redo.last slot (l.rings w.ring).logged

-- The medium holds the log: sizes are accepted, the mark is in its limits; header, mark and home are settled; every ring
-- fits, with bundles of rising numbers; those over the mark are the waiting ones, which have no number in common.
pub record HoldsLog (l : LogState) (p : State) : Type 0 where
  pub accepted : IsAccepted l.sizes
  pub small : l.reproduced ≤ MAX_NUMBER
  pub rest : RestsAt VERSION l.sizes l.reproduced l.home p
  pub fits : (ring : ℕ) → ring < l.sizes.rings → FitsRing l.sizes ring (l.rings ring).logged (l.rings ring).released p
  pub rising : (ring : ℕ) → ring < l.sizes.rings → AllPairs (λ k m. k.last < first_logged m) (l.rings ring).logged
  pub logged : (ring : ℕ) → ring < l.sizes.rings → All (λ k. l.reproduced < k.last → IsWaiting l.sizes l.waiting ring p k) (l.rings ring).logged
  pub waits : (w : Waiting) → Contains l.waiting w → IsLogged l w
  pub distinct : AreDisjoint l.waiting

-- The image recovers to a number from low to high, and to the array at that number; and nothing greater was told behind
-- the first `before` numbers.
pub record RecoversAmong (l : LogState) (before low high : ℕ) (told image : List ℕ) : Type 0 where
  pub number : ℕ
  pub array : List ℕ
  pub recovered : Recovers image number array
  pub same_sizes : sizes_of image ≡ l.sizes
  pub is_array : IsArrayAt l.waiting l.reproduced l.home number array
  pub least : low ≤ number
  pub most : number ≤ high
  pub floor : AtLeast before told number
