-- What running transactions leave when they are closed.
use Rattle.std.specs.Prelude.{◌≡◌, ◌⊎◌, ℕ, ◌+◌, ◌-◌, ◌*◌, ◌<◌, ◌≤◌, not, true, false, IsTrue, All, List, length, map, slice_index, Some}
use Rattle.std.specs.List.{Contains}
use Rattle.std.specs.List.Sorted.{IsStrictlyIncreasing}
use Rattle.dude_base.specs.declared.limits.TheConstants.{MAX_NUMBER, PAGE}
use Rattle.dude_base.specs.declared.sizes.Sizes.{Sizes}
use Rattle.dude_base.specs.Records.{RedoBundle, RedoRecord, first_of}
use Rattle.dude_base.specs.Writes.{written, IsWriteList}
use Rattle.pmem_trait.specs.Words.{AtLeast}
use Rattle.pmem_trait.specs.Sights.{Sight, state_now, SomeCalls, AtEveryMoment}
use Rattle.pmem_trait.specs.declared.medium.Medium.{Ghosts}
use Rattle.redo_record.specs.Images.{sizes_of}
use Rattle.redo_record.specs.Recovery.{Recovers}
use Rattle.redo_record.specs.Waiting.{Waiting, IsArrayAt}
use Rattle.back_store.specs.declared.back.Back.{Back}
use Rattle.back_store.specs.Back.{BackState, home_now, waiting_now, waiting_of_ring}
use Rattle.back_store.specs.BackView.{medium_of, state_of}
use Rattle.back_store.specs.Told.{WereTold}
use Rattle.core_events.specs.Setups.{Setup}
use Rattle.core_events.specs.Views.{Entry, View}
use Rattle.core_events.specs.Entries.{HaveNumbers, IsLegal, value_at, writes_of}
use Rattle.stm_slots.specs.Known.{Known, told_before}
use Rattle.stm_slots.specs.KnownLists.{lists}
use Rattle.stm_slots.specs.Records.{HasRecord, last_written, writes_in}
use Rattle.stm_slots.specs.KeptBack.{IsWaiting}
use Rattle.stm_slots.specs.Opening.{setup_of, since_of, start_sight}
use Rattle.stm_slots.specs.declared.opening.Opening.{Opening}
use Rattle.tiny_stm.specs.Posts.{IsAmong, number_of}
use Rattle.tiny_stm.specs.declared.closed.Closed.{Closed}
use Rattle.tiny_stm.specs.declared.posted.Posted.{Posted}

-- each word of the array is the value at the number, by entries
pub record HasValuesAt (z : Setup) (es : List Entry) (n : ℕ) (array : List ℕ) : Type 0 where
  pub size : length array ≡ length z.opening
  pub words : (i : ℕ) → i < length z.opening → slice_index array i ≡ value_at z.opening es n i

-- ---- the rest
-- A record of the rest: its ring exists, its number was drawn, and it has the writes of the entry with that number, or none; all are of home words
pub record IsOfRest (z : Setup) (rings : ℕ) (es : List Entry) (last : ℕ) (q : Posted) : Type 0 where
  pub thread : q.ring < z.threads
  pub ring : q.ring < rings
  pub over : z.first < number_of q
  pub upto : number_of q ≤ last
  pub writes : q.redo.writes ≡ writes_of es (number_of q)
  pub list : IsWriteList q.redo.writes
  pub home : (i x : ℕ) → written q.redo.writes i ≡ Some x → i < z.pages * PAGE

-- the rest, in rising order of number
pub record IsRest (z : Setup) (rings : ℕ) (es : List Entry) (last : ℕ) (qs : List Posted) : Type 0 where
  pub each : All (IsOfRest z rings es last) qs
  pub rising : IsStrictlyIncreasing (map number_of qs)

-- ---- the back
-- The image recovers to the values at a number up to the last one, which is at least each told behind the first ones
pub record RecoversUpTo (z : Setup) (es : List Entry) (last : ℕ) (sizes : Sizes) (before : ℕ) (told image : List ℕ) : Type 0 where
  pub number : ℕ
  pub array : List ℕ
  pub recovered : Recovers image number array
  pub same_sizes : sizes_of image ≡ sizes
  pub values : HasValuesAt z es number array
  pub from : z.first ≤ number
  pub upto : number ≤ last
  pub floor : AtLeast before told number

-- Of a back that isn't dead, and the rest beside it
pub record IsLiveEnd (z : Setup) (es : List Entry) (last : ℕ) (v : BackState) (rest : List Posted) : Type 0 where
  -- all up to the durable number is in the home
  pub reproduced : v.log.reproduced ≡ v.log.durable
  pub from : z.first ≤ v.log.reproduced
  pub upto : v.log.reproduced ≤ last
  -- each number over the reproduced one, and no other, is in the rest or waits, and not in both
  pub placed : (n : ℕ) → v.log.reproduced < n → n ≤ last → IsAmong rest n ⊎ IsWaiting v n
  pub waits : (n : ℕ) → IsWaiting v n → (v.log.reproduced < n) × (n ≤ last)
  pub stood : (n : ℕ) → IsAmong rest n → v.log.reproduced < n
  pub apart : (n : ℕ) → IsAmong rest n → IsWaiting v n → ⊥
  -- a record of the rest is over all that waits in its ring
  pub newest : (q : Posted) (b : RedoBundle) → Contains rest q → Contains (waiting_of_ring v q.ring) b → b.last < number_of q
  -- what waits has of each word the last write of the entries of its numbers
  pub writes : (w : Waiting) → Contains (waiting_now v) w → (i : ℕ)
      → written w.redo.writes i ≡ last_written (writes_of es) (first_of w.redo) (w.redo.last + 1 - first_of w.redo) i

module _ {M : Type 0} {ghosts : Ghosts M} (sight : M → Sight) (o : Opening M ghosts) where
  -- What is known of the back by the records that it was handed: each has the writes of the entry with its number
  pub record IsKnownByEntries (es : List Entry) (last : ℕ) (b : Back M ghosts) : Type 0 where
    pub records : List RedoRecord
    pub known : Known (since_of sight o) (lists (state_of b) records) (sight (medium_of b))
    pub listed : (n : ℕ) → HasRecord records n → (n ≤ last) × (writes_in records n ≡ writes_of es n)

  -- The back is kept since the start
  pub record IsKeptEnd (v : View) (last : ℕ) (b : Back M ghosts) : Type 0 where
    -- at each moment every image recovers so
    pub images : AtEveryMoment (RecoversUpTo (setup_of sight o) v.entries last (state_of b).log.sizes (told_before (since_of sight o))) (start_sight sight o) (sight (medium_of b))
    -- the pass raised no greater durable number than the back's; where it met a fault, the back is dead
    pub raised : v.turn.durable ≤ (state_of b).log.durable
    pub fault : v.turn.met_fault ≡ true → (state_of b).dead ≡ true
    -- calls were made, of which none failed but the last one of a dead back
    pub ran : SomeCalls (not (state_of b).dead) (start_sight sight o) (sight (medium_of b))
    -- the durable number was told last, unless it is the opening one
    pub told : IsTrue (sight (medium_of b)).is_visible → WereTold (not (state_of b).dead) o.terms.first (state_of b).log.durable (state_now (start_sight sight o)).told (state_now (sight (medium_of b))).told
    -- of a live one: the home, and each array to which what waits leads, have the values
    pub home : (state_of b).dead ≡ false → IsTrue (sight (medium_of b)).is_visible → HasValuesAt (setup_of sight o) v.entries (state_of b).log.reproduced (home_now (state_of b).log.sizes (sight (medium_of b)))
    pub arrays : (state_of b).dead ≡ false → IsTrue (sight (medium_of b)).is_visible → (n : ℕ) (array : List ℕ)
        → IsArrayAt (waiting_now (state_of b)) (state_of b).log.reproduced (home_now (state_of b).log.sizes (sight (medium_of b))) n array → HasValuesAt (setup_of sight o) v.entries n array
    pub by_entries : IsKnownByEntries v.entries last b
    pub pages : (state_of b).log.sizes.pages ≡ o.terms.pages

  -- ---- the words
  -- Those of a page that stood in a frame are the values at the last number, where it is known what the medium gives; where all pages did, all are
  pub record AreLastWords (es : List Entry) (last : ℕ) (words : List ℕ) : Type 0 where
    pub size : length words ≡ length o.terms.opening
    pub each : (i : ℕ) → i < length o.terms.opening → (slice_index words i ≡ slice_index o.terms.opening i)
        ⊎ ((setup_of sight o).is_told ≡ true → slice_index words i ≡ value_at o.terms.opening es last i)
    pub all : o.terms.frames ≡ o.terms.pages → (i : ℕ) → i < length o.terms.opening → slice_index words i ≡ value_at o.terms.opening es last i

  -- Transactions were closed by the pass with this view, over what they began with
  pub record HasClosed (v : View) (c : Closed M ghosts) : Type 0 where
    -- no entry is over the last number, and no draw leads over the greatest number
    pub upto : All (λ e. e.number ≤ c.number) v.entries
    pub room : c.number + v.draws ≤ MAX_NUMBER
    -- the entries are numbered, those that wrote differently
    pub numbers : HaveNumbers o.terms.first v.entries
    -- where it is known what the medium gives, each entry read what it says
    pub legal : (setup_of sight o).is_told ≡ true → IsLegal o.terms.first o.terms.opening v.entries
    pub rest : IsRest (setup_of sight o) (state_of c.back).log.sizes.rings v.entries c.number c.rest.items
    pub back : IsKeptEnd v c.number c.back
    pub live : (state_of c.back).dead ≡ false → IsLiveEnd (setup_of sight o) v.entries c.number (state_of c.back) c.rest.items
    pub words : AreLastWords v.entries c.number c.words.items
