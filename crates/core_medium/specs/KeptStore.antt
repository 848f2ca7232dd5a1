-- The kept state, the layer of the store: the medium holds the log, what was told and settled bounds the words, and the calls under way are
-- the front of those of one call of the back.
use Rattle.std.specs.Prelude.{◌≡◌, ◌==◌, nat_lt, slice_index, if◌then◌else◌, ℕ, ◌-◌, ◌*◌, ◌<◌, ◌≤◌, ◌⊎◌, true, List, [], ◌∷◌, ◌++◌, Some}
use Rattle.dude_base.specs.declared.limits.TheConstants.{MARK, PAGE, VERSION}
use Rattle.dude_base.specs.declared.sizes.Sizes.{Sizes}
use Rattle.dude_base.specs.Records.{RedoRecord}
use Rattle.dude_base.specs.Sizes.{IsAccepted}
use Rattle.dude_base.specs.Image.{header_words, home_word}
use Rattle.pmem_trait.specs.declared.call.Call.{Call}
use Rattle.pmem_trait.specs.Words.{State as MediumState, IsIn, last_told, settled_at}
use Rattle.redo_record.specs.LogState.{LogState, HoldsLog}
use Rattle.redo_record.specs.Rest.{RestsAt}
use Rattle.redo_record.specs.BackLaws.{no_records, HasNoHeads}
use Rattle.log_ring.specs.Laid.{AreLaid}
use Rattle.core_events.specs.Setups.{Setup}
use Rattle.core_events.specs.Words.{State}
use Rattle.core_events.specs.Entries.{History, value}
use Rattle.core_events.specs.Conditions.{IsFilled}
use Rattle.core_events.specs.Partings.{start}
use Rattle.core_events.specs.Ghosts.{Ghost}
use Rattle.core_events.specs.KeptValues.{ValuesKept}
use Rattle.core_events.specs.Kept.{LayersKept}
use Rattle.core_medium.specs.KeptLog.{IsOnMedium, LogIn}
use Rattle.core_medium.specs.Stores.{Store}
use Rattle.core_medium.specs.BackCalls.{BackCall, MayCall, calls_of}
use Rattle.core_medium.specs.Machines.{Machine}

-- All numbers up to one that was told are on the medium, and the last one told is the greatest; the durable word and the settled mark are at
-- most a number told; the mark was settled at no greater number than now, and the reproduced word is at most that. A word that was read is
-- the value at a number from the reproduced word to the settled mark
pub record ToldKept (z : Setup) (hist : History) (durable reproduced : ℕ) (d : Store) : Type 0 where
  pub told : (x n : ℕ) → IsIn x d.rest.told → n ≤ x → IsOnMedium d.log n
  pub last : (t : ℕ) × (last_told d.rest.told ≡ Some t) × ((x : ℕ) → IsIn x d.rest.told → x ≤ t)
  pub durable_told : (x : ℕ) × IsIn x d.rest.told × (durable ≤ x)
  pub marked_told : (x : ℕ) × IsIn x d.rest.told × (d.log.reproduced ≤ x)
  pub marks : (x : ℕ) → IsIn x d.marks → x ≤ d.log.reproduced
  pub reproduced_upto : reproduced ≤ d.log.reproduced
  pub read : (i x : ℕ) → IsFilled d.read i x
      → (i < z.pages * PAGE) × ((m : ℕ) × (reproduced ≤ m) × (m ≤ d.log.reproduced) × (x ≡ value z.opening hist m i))

-- the calls made since the last one of the back ended are the front of those of one that is allowed, and at least one is left
pub record IsUnderWay (z : Setup) (boxes : List ℕ) (records : List RedoRecord) (l : LogState) (told : List ℕ)
    (next : ℕ → ℕ) (calls : List Call) : Type 0 where
  pub back : BackCall
  pub may : MayCall z boxes records l told back
  pub call : Call
  pub later : List Call
  pub whole : calls_of z records l.sizes next back ≡ calls ++ call ∷ later

-- the image has a ring for each thread, and the home's pages
pub record HasPlaces (z : Setup) (s : Sizes) : Type 0 where
  pub rings : z.threads ≤ s.rings
  pub pages : s.pages ≡ z.pages

-- The layer of the store: the medium holds the log, whose rings are laid; the log stands to the numbers; and what was told and what is under
-- way is as said
pub record StoreKept (z : Setup) (g : Ghost) (c : State) (d : Store) : Type 0 where
  pub places : HasPlaces z d.log.sizes
  pub holds : HoldsLog d.log d.rest
  pub laid : (ring : ℕ) → ring < d.log.sizes.rings → AreLaid d.log.sizes (d.next ring) (d.log.rings ring).logged
  pub next_in : (ring : ℕ) → ring < d.log.sizes.rings → d.next ring < d.log.sizes.cells
  pub stands : LogIn z g c d.log
  pub told : ToldKept z g.claims.hist c.durable c.reproduced d
  pub under : (d.calls ≡ []) ⊎ IsUnderWay z c.boxes c.records d.log d.rest.told d.next d.calls

-- The kept state with its store: with some ghost beside it all layers hold.
pub record MachineKept (z : Setup) (m : Machine) : Type 0 where
  pub ghost_is : Ghost
  pub layers : LayersKept z ghost_is m.core
  -- where it is known what the medium gives
  pub values : z.is_told ≡ true → ValuesKept z ghost_is m.core
  pub store : StoreKept z ghost_is m.core m.store

-- ---- the start
-- the log of an image without bundles, with the opening words as home and the mark at the opening number
abbrev pub start_log : Setup → Sizes → LogState
start_log z s = record { sizes = s; reproduced = z.first; home = z.opening; rings = λ ring. no_records; waiting = [] }

-- the machine at the start, over a medium
abbrev pub start_machine : Setup → Sizes → MediumState → Machine
start_machine z s p = record {
  core = start z;
  store = record { log = start_log z s; next = λ ring. 0; rest = p; calls = []; marks = z.first ∷ []; read = [] };
}

-- The medium is settled at an image of these sizes, of the newest version, with the mark at the opening number, no head over it, and the
-- opening words as home; and the opening number is told
pub record IsStart (z : Setup) (s : Sizes) (p : MediumState) : Type 0 where
  pub accepted : IsAccepted s
  pub places : HasPlaces z s
  pub rests : RestsAt VERSION s z.first z.opening p
  pub no_heads : HasNoHeads s z.first p
  pub told : p.told ≡ z.first ∷ []

-- the words of such an image, with 0 in all cells and in the words that aren't read
abbrev pub opening_word : Setup → Sizes → ℕ → ℕ
opening_word z s k =
    if nat_lt k MARK then slice_index (header_words VERSION s) k
    else if k == MARK then z.first
    else if nat_lt k (home_word s 0) then 0
    else slice_index z.opening (k - home_word s 0)

-- a medium that is settled at them
abbrev pub opening_medium : Setup → Sizes → MediumState
opening_medium z s = record { word = λ k. settled_at (opening_word z s k); told = z.first ∷ [] }
