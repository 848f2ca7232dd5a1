-- Where an event is allowed, and the state after it.
use Rattle.std.specs.Prelude.{◌≡◌, ◌≢◌, ℕ, ◌*◌, ◌<◌, ◌≤◌, ◌⊎◌, true, false, List, [], ◌∷◌, length, map, All, Some, None, slice_index, slice_index_or, slice_set, if◌then◌else◌}
use mathlib.Core.Option.{some}
use lib.ListN.{get_elem?}
use Rattle.dude_base.specs.declared.limits.TheConstants.{PAGE}
use Rattle.dude_base.specs.Records.{RedoRecord}
use Rattle.dude_base.specs.declared.write.Write.{Write}
use Rattle.dude_base.specs.Writes.{written, IsWriteList}
use Rattle.core_events.specs.Setups.{Setup, lock_of, page_of, box_of, frame_in}
use Rattle.core_events.specs.Keyed.{find, has}
use Rattle.core_events.specs.Views.{Hand, Transaction, View}
use Rattle.core_events.specs.Words.{State, found, put}
use Rattle.core_events.specs.Entries.{value_at, all_entries}
use Rattle.core_events.specs.Events.{Event, number, begin, extend, look, load, check, finish, take, draw, decide, store, release, restore, see_box, post, take_turn, give_turn, see_full, empty_box, raise_durable, raise_reproduced, entry, pin, unpin, touch, load_touch, evict, fill, show, is_good, next_box, name, word_after, view_after}

-- ---- what a view says
-- the list has an entry for the key k
abbrev pub Keeps : List (ℕ × ℕ) → ℕ → Type 0
Keeps xs k = (n : ℕ) × (find xs k ≡ Some n)

-- the view has a thread's number
abbrev pub HasThread : View → Type 0
HasThread v = (t : ℕ) × (v.part.thread ≡ Some t)

-- no transaction is open, or one that has no number, owns no lock and has no pin
pub record IsIdle (v : View) : Type 0 where
  pub no_number : v.tx.hand.number ≡ 0
  pub no_lock : v.tx.owned ≡ []
  pub no_pin : v.paging.pins ≡ []

-- a transaction is open that has drawn no number
pub record IsUndrawn (x : Transaction) : Type 0 where
  pub is_open : x.is_open ≡ true
  pub no_number : x.hand.number ≡ 0

-- a transaction is open that has drawn no number and has no extension
pub record IsSteady (x : Transaction) : Type 0 where
  pub undrawn : IsUndrawn x
  pub no_extension : x.extension ≡ None

-- the number drawn is neither decided nor void
pub record IsUndecided (h : Hand) : Type 0 where
  pub number : 0 < h.number
  pub not_decided : h.decided ≡ false
  pub not_void : h.void ≡ false

-- the last look was of the lock k, and good
abbrev pub LooksGood : View → ℕ → Type 0
LooksGood v k = (y : ℕ) × (v.tx.look ≡ Some (k, y)) × (is_good v.part.thread v.tx.snapshot y ≡ true)

-- the last look was of the lock k, which was unowned and no newer than the snapshot
abbrev pub LooksUnowned : View → ℕ → Type 0
LooksUnowned v k = (u : ℕ) × (v.tx.look ≡ Some (k, 2 * u)) × (u ≤ v.tx.snapshot)

-- the transaction of the view owns the lock k
abbrev pub Owns : View → ℕ → Type 0
Owns v k = Keeps v.tx.owned k

-- the view pins the page p
abbrev pub Pins : View → ℕ → Type 0
Pins v p = Keeps v.paging.pins p

-- the number wrote to the home word i
abbrev pub Writes : View → ℕ → Type 0
Writes v i = (x : ℕ) × (written v.tx.hand.writes i ≡ Some x)

-- the kept entry of the page isn't 0
abbrev pub KeepsFrame : View → ℕ → Type 0
KeepsFrame v p = (n : ℕ) × (find v.paging.entries p ≡ Some n) × (0 < n)

-- the home word i is filled into the frame
abbrev pub IsFilled : List (ℕ × ℕ) → ℕ → ℕ → Type 0
IsFilled [] i f = ⊥
IsFilled (x ∷ xs) i f = ((x.0 ≡ i) × (x.1 ≡ f)) ⊎ IsFilled xs i f

-- the check of the lock k after a draw or in an extension: it is the lock of a read
pub record IsRecheck (z : Setup) (k : ℕ) (x : Transaction) : Type 0 where
  pub no_value : x.loaded ≡ None
  pub of_read : has (map (λ r. lock_of z r.0) x.reads) k ≡ true
  pub why : ((s : ℕ) × (x.extension ≡ Some s)) ⊎ ((x.extension ≡ None) × IsUndecided x.hand)

-- the writes of a draw: 1 to MAX_WRITES, at distinct home words, each lock owned and each page pinned
pub record MayDraw (z : Setup) (ws : List Write) (v : View) : Type 0 where
  pub steady : IsSteady v.tx
  pub some_write : 0 < length ws
  pub list : IsWriteList ws
  pub inside : All (λ w. w.at < z.pages * PAGE) ws
  pub owned : (i x : ℕ) → written ws i ≡ Some x → Owns v (lock_of z i)
  pub pinned : (i x : ℕ) → written ws i ≡ Some x → Pins v (page_of i)
  pub box : v.box.is_empty ≡ true
  pub draw_left : 0 < v.draws

-- the words of the page that a decided number wrote are stored, and its touch is made
pub record IsStoredAndTouched (v : View) (p : ℕ) : Type 0 where
  pub each : (i x : ℕ) → v.tx.hand.decided ≡ true → written v.tx.hand.writes i ≡ Some x → page_of i ≡ p → (has v.tx.hand.stored i ≡ true) × (has v.paging.touched p ≡ true)

-- ---- what a view allows
-- the locks, words, pages, frames and boxes that the event names exist
abbrev pub Names : Setup → Event → Type 0
Names z (look k) = k < z.locks
Names z (load i) = i < z.pages * PAGE
Names z (check k) = k < z.locks
Names z (take k) = k < z.locks
Names z (store i) = i < z.pages * PAGE
Names z (release k) = k < z.locks
Names z (restore k) = k < z.locks
Names z (see_full t j) = (t < z.threads) × (j < z.boxes)
Names z (empty_box t j) = (t < z.threads) × (j < z.boxes)
Names z (entry p) = p < z.pages
Names z (pin p) = p < z.pages
Names z (unpin p) = p < z.pages
Names z (touch p) = p < z.pages
Names z (load_touch p) = p < z.pages
Names z (evict p) = p < z.pages
Names z (fill p f i x) = (p < z.pages) × (f < z.frames) × (i < z.pages * PAGE)
Names z (show p f) = (p < z.pages) × (f < z.frames)
Names z e = Unit {0}

-- the view allows the event
abbrev pub Can : Setup → Event → View → Type 0
Can z number v = v.part.thread ≡ None
Can z begin v = IsIdle v
Can z extend v = IsUndrawn v.tx
Can z (look k) v = IsSteady v.tx
Can z (load i) v = IsSteady v.tx × LooksGood v (lock_of z i) × Pins v (page_of i)
Can z (check k) v = ((i x : ℕ) × (v.tx.loaded ≡ Some (i, x)) × (k ≡ lock_of z i)) ⊎ IsRecheck z k v.tx
Can z (finish a) v = IsSteady v.tx × (v.tx.owned ≡ []) × (v.paging.pins ≡ [])
Can z (take k) v = IsSteady v.tx × LooksUnowned v k
Can z (draw a ws) v = MayDraw z ws v
Can z decide v = IsUndecided v.tx.hand × All (λ r. has v.tx.checked (lock_of z r.0) ≡ true) v.tx.reads
Can z (store i) v = (v.tx.hand.decided ≡ true) × Writes v i × Owns v (lock_of z i) × Pins v (page_of i)
Can z (release k) v = (v.tx.hand.decided ≡ true) × Owns v k × ((i x : ℕ) → written v.tx.hand.writes i ≡ Some x → lock_of z i ≡ k → has v.tx.hand.stored i ≡ true)
Can z (restore k) v = Owns v k × ((v.tx.hand.void ≡ true) ⊎ (v.tx.hand.number ≡ 0))
Can z see_box v = IsIdle v
Can z post v = ((v.tx.hand.decided ≡ true) ⊎ (v.tx.hand.void ≡ true)) × (v.tx.owned ≡ []) × (v.paging.pins ≡ [])
Can z take_turn v = (v.turn.has_it ≡ false) × (v.paging.pins ≡ [])
Can z (give_turn failed) v = (v.turn.has_it ≡ true) × (failed ≡ true → z.may_fail ≡ true)
Can z (see_full t j) v = v.turn.has_it ≡ true
Can z (empty_box t j) v = v.turn.has_it ≡ true
Can z (raise_durable x) v = v.turn.has_it ≡ true
Can z (raise_reproduced x) v = v.turn.has_it ≡ true
Can z (entry p) v = (v.tx.is_open ≡ true) ⊎ (v.turn.has_it ≡ true)
Can z (pin p) v = (v.tx.is_open ≡ true) × KeepsFrame v p × (find v.paging.pins p ≡ None) × (v.turn.has_it ≡ false)
Can z (unpin p) v = Pins v p × (IsUndecided v.tx.hand → ⊥) × IsStoredAndTouched v p
Can z (touch p) v = (v.tx.hand.decided ≡ true) × ((i : ℕ) × Writes v i × (page_of i ≡ p)) × Pins v p
Can z (load_touch p) v = (v.turn.has_it ≡ true) × (find v.paging.entries p ≡ Some 0)
Can z (evict p) v = (v.turn.has_it ≡ true) × KeepsFrame v p
Can z (fill p f i x) v = (v.turn.has_it ≡ true) × (page_of i ≡ p) × Keeps v.turn.touches p
Can z (show p f) v = (v.turn.has_it ≡ true) × ((i : ℕ) → page_of i ≡ p → IsFilled v.turn.filled i f)

-- the view has a thread's number; the event that draws one asks for none
abbrev pub Threaded : Event → View → Type 0
Threaded number v = Unit {0}
Threaded e v = HasThread v

-- the view may make the event
pub record May (z : Setup) (e : Event) (v : View) : Type 0 where
  pub live : v.part.is_spent ≡ false
  pub threaded : Threaded e v
  pub named : Names z e
  pub can : Can z e v

-- ---- what the event asks of the rest of the state
-- no entry names the frame
abbrev pub IsFree : Setup → State → ℕ → Type 0
IsFree z c f = (p : ℕ) → p < z.pages → 0 < slice_index c.entries p → frame_in (slice_index c.entries p) ≢ f

-- a box that is emptied is full; the durable and the reproduced number don't fall, and are numbers that were drawn; a word
-- is filled into a free frame, once the home has all writes of its page; every other event asks nothing
abbrev pub Fits : Setup → Event → State → View → Type 0
Fits z (empty_box t j) c v = 0 < slice_index c.boxes (box_of z t j)
Fits z (raise_durable x) c v = (c.durable ≤ x) × (x ≤ c.clock)
Fits z (raise_reproduced x) c v = (c.reproduced ≤ x) × (x ≤ c.clock)
Fits z (fill p f i x) c v = IsFree z c f × ((y : ℕ) → find v.turn.touches p ≡ Some y → y ≤ c.reproduced) × (z.is_told ≡ true → x ≡ value_at z.opening (all_entries c.views) c.reproduced i)
Fits z e c v = Unit {0}

-- the view `who` may make the event in this state
pub record IsAllowed (z : Setup) (c : State) (who : ℕ) (e : Event) (v : View) : Type 0 where
  pub is_there : get_elem? c.views who ≡ some v
  pub may : May z e v
  pub fits : Fits z e c v

-- the definitions don't allow the event
abbrev pub IsOff : Setup → State → ℕ → Event → Type 0
IsOff z c who e = (v : View) → IsAllowed z c who e v → ⊥

-- ---- the state after
-- the record of a number: its writes, or none where it is void
abbrev pub record_of : Hand → RedoRecord
record_of h = record { number = h.number; writes = if h.decided then h.writes else [] }

-- what an empty box has in place of a record
abbrev pub no_record : RedoRecord
no_record = record { number = 0; writes = [] }

-- what lies in the boxes: a post puts the record of the view's number into its next box, an emptying takes one out
abbrev pub records_after : Setup → Event → State → View → List RedoRecord
records_after z post c v = slice_set c.records (next_box z v) (record_of v.tx.hand)
records_after z (empty_box t j) c v = slice_set c.records (box_of z t j) no_record
records_after z e c v = c.records

-- the persisted records: an emptying puts the record of its box before the others
abbrev pub persisted_after : Setup → Event → State → List RedoRecord
persisted_after z (empty_box t j) c = slice_index_or c.records (box_of z t j) no_record ∷ c.persisted
persisted_after z e c = c.persisted

-- the state after an event of the view v, which has the number who
abbrev pub after : Setup → State → ℕ → View → Event → State
after z c who v e =
    let n = found c (name z e v) in
    let d = put c (name z e v) (word_after e v n) in
    record d { views = slice_set c.views who (view_after z e v n); records = records_after z e c v; persisted = persisted_after z e c }
