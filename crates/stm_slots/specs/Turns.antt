-- What the steps of the turn tell the seat that makes them, which move slots or change what it keeps beside its view.
use Rattle.std.specs.Prelude.{◌≡◌, ◌==◌, ◌⊎◌, ◌*◌, ℕ, ◌<◌, ◌≤◌, Bool, true, false, List, [], ◌∷◌, ◌++◌, Some, None, MatchBool, slice_index, All, length, if◌then◌else◌}
use Rattle.std.specs.List.{Contains}
use Rattle.dude_base.specs.declared.limits.TheConstants.{PAGE, MAX_NUMBER}
use Rattle.dude_base.specs.Records.{Covers, RedoBundle, RedoRecord, first_of}
use Rattle.dude_base.specs.Writes.{IsWriteList}
use Rattle.pmem_trait.specs.Sights.{Sight}
use Rattle.pmem_trait.specs.declared.medium.Medium.{Ghosts}
use Rattle.back_store.specs.Back.{waiting_of_ring}
use Rattle.atomic_table.specs.Table.{Me}
use Rattle.core_events.specs.Setups.{Setup, box_of, frame_in, without_pins}
use Rattle.core_events.specs.Views.{View}
use Rattle.core_events.specs.Events.{Event, take_turn, give_turn, see_full, kept_entry, view_after}
use Rattle.core_events.specs.Telling.{IsTold, IsSeated}
use Rattle.core_table.specs.Known.{Known, known_after}
use Rattle.shadow_pages.specs.PageMap.{PageMap, map_with}
use Rattle.stm_slots.specs.KnownLists.{BackLists, LawfulLists}
use Rattle.stm_slots.specs.Records.{AreNew, HasRecord, LacksRecord, writes_in}
use Rattle.stm_slots.specs.Beside.{Hands, Beside}
use Rattle.stm_slots.specs.Queues.{back_slot, place_at}
use Rattle.stm_slots.specs.Opening.{setup_of}
use Rattle.stm_slots.specs.Rule.{IsHome}
use Rattle.stm_slots.specs.declared.home.Home.{Home as TheHome}
use Rattle.stm_slots.specs.declared.slot.Slot.{Slot}
use Rattle.stm_slots.specs.declared.slot.Slot.TheVariants.{Record, Home}
use Rattle.stm_slots.specs.declared.opening.Opening.{Opening}

-- ---- records whose slots are out
-- the record was taken from the box that is so far behind the front of the thread's queue
pub record IsTaken (z : Setup) (next : List ℕ) (taken : List (ℕ × RedoRecord)) (thread i : ℕ) (r : RedoRecord) : Type 0 where
  pub inside : thread < z.threads
  pub near : i < z.boxes
  pub among : Contains taken (box_of z thread (place_at z (slice_index next thread) i), r)

-- the record, and all before it in the thread's queue, were taken and handed over
pub record IsHanded (z : Setup) (next : List ℕ) (taken : List (ℕ × RedoRecord)) (records : List RedoRecord) (thread n : ℕ) : Type 0 where
  pub i : ℕ
  pub r : RedoRecord
  pub number : r.number ≡ n
  pub taken_is : IsTaken z next taken thread i r
  pub upto : (h : ℕ) → h ≤ i → (p : RedoRecord) × IsTaken z next taken thread h p × HasRecord records p.number

-- The bundle begins with such a record, and all that it covers was handed over
pub record BeginsHanded (z : Setup) (next : List ℕ) (taken : List (ℕ × RedoRecord)) (records : List RedoRecord) (thread : ℕ) (b : RedoBundle) : Type 0 where
  pub begins : IsHanded z next taken records thread (first_of b)
  pub covered : (n : ℕ) → Covers b n → HasRecord records n

-- The second lists are those of a back that made calls since the first: it may have been handed records that were taken
pub record Follows (z : Setup) (next : List ℕ) (taken : List (ℕ × RedoRecord)) (l m : BackLists) : Type 0 where
  pub lawful : LawfulLists z.first m
  pub sizes : m.state.log.sizes ≡ l.state.log.sizes
  pub durable : l.state.log.durable ≤ m.state.log.durable
  pub reproduced : l.state.log.reproduced ≤ m.state.log.reproduced
  pub dead : l.state.dead ≡ true → m.state.dead ≡ true
  -- the records handed over since
  pub more : List RedoRecord
  pub records : m.records ≡ more ++ l.records
  pub new : AreNew z.first l.records more
  pub among : (n : ℕ) → HasRecord more n → (k : ℕ) × Contains taken (k, record { number = n; writes = writes_in more n })
  -- what waits in a ring waited before, or begins with a record of the thread that was taken, and covers what was handed over
  pub waiting : m.state.dead ≡ false → (t : ℕ) (q : RedoBundle) → t < z.threads → Contains (waiting_of_ring m.state t) q
      → Contains (waiting_of_ring l.state t) q ⊎ BeginsHanded z next taken m.records t q

-- these are the boxes that were taken, without this one
pub record Leaves (taken : List (ℕ × RedoRecord)) (k : ℕ) (left : List (ℕ × RedoRecord)) : Type 0 where
  pub stays : (j : ℕ) (r : RedoRecord) → Contains taken (j, r) → (j ≡ k) ⊎ Contains left (j, r)
  pub was : (j : ℕ) (r : RedoRecord) → Contains left (j, r) → Contains taken (j, r) × (j ≡ k → ⊥)

-- What is known of a record that was taken from a thread's box: it may be handed over, in its turn
pub record MayBeHanded (z : Setup) (l : BackLists) (thread : ℕ) (r : RedoRecord) : Type 0 where
  pub list : IsWriteList r.writes
  pub home : All (λ w. w.at < z.pages * PAGE) r.writes
  pub over : z.first < r.number
  pub small : r.number ≤ MAX_NUMBER
  pub lacks : l.state.dead ≡ false → LacksRecord l.records r.number
  pub newest : l.state.dead ≡ false → All (λ q. q.last < r.number) (waiting_of_ring l.state thread)

-- ---- the map of pages
-- the map where the entry n of a page was found by an eviction: the page leaves its frame where it has no pins and is still in the frame that
-- the view kept
abbrev pub map_evicted : ℕ → View → PageMap → ℕ → PageMap
map_evicted p v map n = if n == without_pins (kept_entry v p) then map_with map (frame_in n) None else map

-- ---- what the steps tell
-- what a seat of the table has: what it knows, and slots
abbrev pub Seated : (M : Type 0) → Ghosts M → Type 0
Seated M ghosts = Me (Slot M ghosts) (Known Beside)

module _ {M : Type 0} {ghosts : Ghosts M} (sight : M → Sight) where
  -- The turn was taken, and what the back's slot has with it
  pub record Took (o : Opening M ghosts) (m w : Seated M ghosts) : Type 0 where
    pub hands : Hands
    pub home : TheHome M ghosts
    pub is : IsHome sight o home hands
    pub lawful : LawfulLists (setup_of sight o).first hands.lists
    pub rings : (setup_of sight o).threads ≤ hands.lists.state.log.sizes.rings
    pub pages : hands.lists.state.log.sizes.pages ≡ (setup_of sight o).pages
    pub places : (u : ℕ) → u < (setup_of sight o).threads → slice_index hands.next u < (setup_of sight o).boxes
    pub wide : (setup_of sight o).threads ≤ length hands.next
    pub view : w.0.view ≡ view_after (setup_of sight o) take_turn m.0.view 0
    pub beside : w.0.beside ≡ record m.0.beside { turn = Some hands }
    pub slots : w.1 ≡ (back_slot (setup_of sight o), Home home) ∷ m.1

  -- what the step tells that takes the turn where the word is 0
  abbrev pub TookTurn : Opening M ghosts → Seated M ghosts → ℕ → Seated M ghosts → Type 0
  TookTurn o m n w = IsTold (setup_of sight o) take_turn m.0.view n
      × MatchBool (n == 0) (Took o m w) (w ≡ (known_after (setup_of sight o) take_turn m.0 n, m.1))

  -- what the step tells that gives the turn
  pub record GaveTurn (o : Opening M ghosts) (failed : Bool) (m : Seated M ghosts) (n : ℕ) (w : Seated M ghosts) : Type 0 where
    pub seated : IsSeated (setup_of sight o) w.0.view
    pub view : w.0.view ≡ view_after (setup_of sight o) (give_turn failed) m.0.view 0
    pub beside : w.0.beside ≡ record m.0.beside { turn = None }
    pub slots : w.1 ≡ []

  -- A record was found in a box of a thread, and its slot is out
  pub record SawRecord (o : Opening M ghosts) (thread place : ℕ) (hands : Hands) (m : Seated M ghosts) (n : ℕ) (w : Seated M ghosts) : Type 0 where
    pub redo : RedoRecord
    pub number : n ≡ redo.number
    pub may : MayBeHanded (setup_of sight o) hands.lists thread redo
    pub beside : w.0.beside ≡ record m.0.beside { turn = Some (record hands { boxes = (box_of (setup_of sight o) thread place, redo) ∷ hands.boxes }) }
    pub slots : w.1 ≡ (box_of (setup_of sight o) thread place, Record redo) ∷ m.1

  -- What a look at a box tells the holder of the turn, who has these hands then
  pub record SawFull (o : Opening M ghosts) (thread place : ℕ) (hands : Hands) (m : Seated M ghosts) (n : ℕ) (w : Seated M ghosts) : Type 0 where
    pub told : IsTold (setup_of sight o) (see_full thread place) m.0.view n
    pub view : w.0.view ≡ view_after (setup_of sight o) (see_full thread place) m.0.view n
    pub what : MatchBool (n == 0) ((w.0.beside ≡ record m.0.beside { turn = Some hands }) × (w.1 ≡ m.1)) (SawRecord o thread place hands m n w)

  -- What a look at a box tells that takes its record only where the box has this number. The box wasn't among those that were taken
  pub record SawNumber (o : Opening M ghosts) (thread place number : ℕ) (hands : Hands) (m : Seated M ghosts) (n : ℕ) (w : Seated M ghosts) : Type 0 where
    pub told : IsTold (setup_of sight o) (see_full thread place) m.0.view n
    pub view : w.0.view ≡ view_after (setup_of sight o) (see_full thread place) m.0.view n
    pub what : MatchBool (n == number)
        (SawRecord o thread place hands m n w × ((q : RedoRecord) → Contains hands.boxes (box_of (setup_of sight o) thread place, q) → ⊥))
        ((w.0.beside ≡ record m.0.beside { turn = Some hands }) × (w.1 ≡ m.1))

  -- what a step tells that leaves the holder of the turn with these hands and these slots
  pub record WentOn (o : Opening M ghosts) (e : Event) (hands : Hands) (left : List (ℕ × Slot M ghosts)) (m : Seated M ghosts) (n : ℕ) (w : Seated M ghosts) : Type 0 where
    pub told : IsTold (setup_of sight o) e m.0.view n
    pub view : w.0.view ≡ view_after (setup_of sight o) e m.0.view n
    pub beside : w.0.beside ≡ record m.0.beside { turn = Some hands }
    pub slots : w.1 ≡ left

  -- what a step on a page's entry tells that leaves the holder of the turn with a map made of what it found
  abbrev pub MappedTo : Opening M ghosts → Event → Hands → (ℕ → PageMap) → Seated M ghosts → ℕ → Seated M ghosts → Type 0
  MappedTo o e hands map_after m n w = WentOn o e (record hands { map = map_after n }) m.1 m n w

  -- what a step tells that moves a slot of a box, and leaves all else of the seat: it has these slots then
  pub record Moved (o : Opening M ghosts) (e : Event) (left : List (ℕ × Slot M ghosts)) (m : Seated M ghosts) (n : ℕ) (w : Seated M ghosts) : Type 0 where
    pub told : IsTold (setup_of sight o) e m.0.view n
    pub view : w.0.view ≡ view_after (setup_of sight o) e m.0.view n
    pub beside : w.0.beside ≡ m.0.beside
    pub made : w.0.made ≡ e ∷ m.0.made
    pub slots : w.1 ≡ left
