-- What a step of a kept state tells the view that makes it. A program that takes the steps knows its view alone; this is what it learns
-- of the rest.
use Rattle.std.specs.Prelude.{◌≡◌, ℕ, ◌+◌, ◌*◌, ◌/◌, ◌<◌, ◌≤◌, ◌⊎◌, true, false, length, All, Some}
use mathlib.Core.Option.{some}
use lib.ListN.{get_elem?}
use Rattle.dude_base.specs.declared.limits.TheConstants.{PAGE, MAX_NUMBER}
use Rattle.dude_base.specs.Writes.{written, IsWriteList}
use Rattle.core_events.specs.Setups.{Setup, box_of, entry_with}
use Rattle.core_events.specs.Keyed.{find, has, Distinct}
use Rattle.core_events.specs.Views.{Word, the_lock, the_entry, the_touch, the_cell, the_box, View}
use Rattle.core_events.specs.Words.{State}
use Rattle.core_events.specs.Events.{Event, number, begin, extend, look, check, take, draw, post, take_turn, give_turn, see_full, empty_box, raise_durable, raise_reproduced, entry, pin, unpin, evict, show, own_word, thread_of, view_after}
use Rattle.core_events.specs.Entries.{writes_of, all_entries, HaveNumbers, IsLegal}
use Rattle.core_events.specs.Conditions.{Owns}
use Rattle.core_events.specs.KeptThreads.{held_of}
use Rattle.core_events.specs.KeptNumbers.{numbers_of}

-- the word exists
abbrev pub IsInside : Setup → Word → Type 0
IsInside z (the_lock k) = k < z.locks
IsInside z (the_entry p) = p < z.pages
IsInside z (the_touch p) = p < z.pages
IsInside z (the_cell i) = i < z.frames * PAGE
IsInside z (the_box k) = k < z.threads * z.boxes
IsInside z x = Unit {0}

-- how many words there are of each kind
pub record IsSized (z : Setup) (c : State) : Type 0 where
  pub locks : length c.locks ≡ z.locks
  pub entries : length c.entries ≡ z.pages
  pub touches : length c.touches ≡ z.pages
  pub cells : length c.cells ≡ z.frames * PAGE
  pub boxes : length c.boxes ≡ z.threads * z.boxes
  pub records : length c.records ≡ z.threads * z.boxes

-- What holds of a view of a kept state. An old word of a lock that it owns is even, and half of it is the version
pub record IsSeated (z : Setup) (v : View) : Type 0 where
  pub thread : (t : ℕ) → v.part.thread ≡ Some t → t < z.threads
  pub snapshot : v.tx.is_open ≡ true → (z.first ≤ v.tx.snapshot) × (v.tx.snapshot ≤ MAX_NUMBER)
  pub owned : (k o : ℕ) → find v.tx.owned k ≡ Some o → (k < z.locks) × (o ≡ 2 * (o / 2)) × (o / 2 ≤ v.tx.snapshot)
  pub number : 0 < v.tx.hand.number → (v.tx.is_open ≡ true) × (v.tx.snapshot < v.tx.hand.number) × (v.tx.hand.number ≤ MAX_NUMBER) × (v.box.is_empty ≡ true)
  pub no_number : v.tx.hand.number ≡ 0 → (v.tx.hand.decided ≡ false) × (v.tx.hand.void ≡ false)
  pub pins : (p f : ℕ) → find v.paging.pins p ≡ Some f → (p < z.pages) × (f < z.frames)
  pub next : v.box.next < z.boxes
  pub entries : All (λ e. e.number ≤ MAX_NUMBER) v.entries
  pub draws : v.draws ≤ MAX_NUMBER
  pub splits : v.part.splits ≤ z.threads

-- the clock, which is at least every number that the view saw, and leaves room for its draws
pub record ClockTold (z : Setup) (v : View) (n : ℕ) : Type 0 where
  pub from : z.first ≤ n
  pub room : n + v.draws ≤ MAX_NUMBER
  pub entries : All (λ e. e.number ≤ n) v.entries
  pub snapshot : v.tx.is_open ≡ true → v.tx.snapshot ≤ n
  pub drawn : (m : ℕ) → has v.drawn m ≡ true → (0 < m) × (m ≤ n)
  -- a version that was looked at
  pub looked : (k u : ℕ) → v.tx.look ≡ Some (k, 2 * u) → u ≤ n

-- the word of the lock k: a version, or a thread's; the own word shows the locks that the view owns, and no others
pub record LockTold (z : Setup) (v : View) (k n : ℕ) : Type 0 where
  pub shape : ((u : ℕ) × (n ≡ 2 * u) × (u ≤ MAX_NUMBER)) ⊎ ((t : ℕ) × (n ≡ 2 * t + 1) × (t < z.threads))
  pub own : v.tx.hand.decided ≡ false → n ≡ own_word v.part.thread → Owns v k
  pub owned : Owns v k → n ≡ own_word v.part.thread

-- the entry of a page: 0, or a frame with fewer pins than there is room for
abbrev pub EntryTold : Setup → ℕ → Type 0
EntryTold z n = (n ≡ 0) ⊎ ((f : ℕ) × (pins : ℕ) × (n ≡ entry_with f pins) × (f < z.frames) × (pins ≤ z.threads))

-- what it tells, by event, that the number n was found in the word
abbrev pub WordTold : Setup → Event → View → ℕ → Type 0
WordTold z number v n = n < z.threads
WordTold z begin v n = ClockTold z v n
WordTold z extend v n = ClockTold z v n
WordTold z (draw a ws) v n = ClockTold z v n
WordTold z (look k) v n = LockTold z v k n
WordTold z (check k) v n = LockTold z v k n
WordTold z (take k) v n = LockTold z v k n
WordTold z post v n = n ≡ 0
WordTold z take_turn v n = n ≤ z.threads
WordTold z (give_turn failed) v n = n ≡ thread_of v + 1
WordTold z (see_full t j) v n = (m : ℕ) → find v.turn.full (box_of z t j) ≡ Some m → n ≡ m
WordTold z (empty_box t j) v n = (0 < n) × ((m : ℕ) → find v.turn.full (box_of z t j) ≡ Some m → n ≡ m)
WordTold z (raise_durable x) v n = (v.turn.durable ≤ n) × (n ≤ x) × (x ≤ MAX_NUMBER)
WordTold z (raise_reproduced x) v n = (z.first ≤ n) × (n ≤ x)
WordTold z (entry p) v n = EntryTold z n
WordTold z (pin p) v n = EntryTold z n
WordTold z (unpin p) v n = EntryTold z n × (0 < n)
WordTold z (evict p) v n = EntryTold z n
WordTold z (show p f) v n = n ≡ 0
WordTold z e v n = Unit {0}

-- what the step tells where it found the word n
pub record IsTold (z : Setup) (e : Event) (v : View) (n : ℕ) : Type 0 where
  pub before : IsSeated z v
  pub word : WordTold z e v n
  pub after : IsSeated z (view_after z e v n)

-- ---- the read-out at the end
-- the view has all threads' numbers and all splits: every other one was joined into it, through others or not
abbrev pub HasAll : Setup → View → Type 0
HasAll z v = held_of v.part + v.part.splits ≡ z.threads

-- All entries are those of the view, and they are numbered; they are legal, where it is known what the medium gives. Each number over the opening one and up to
-- the clock is in one box or persisted, and its record has the writes of its entry, or none
pub record IsReadOut (z : Setup) (c : State) (v : View) : Type 0 where
  pub all : all_entries c.views ≡ v.entries
  pub numbers : HaveNumbers z.first v.entries
  pub legal : z.is_told ≡ true → IsLegal z.first z.opening v.entries
  pub upto : All (λ e. e.number ≤ c.clock) v.entries
  pub room : c.clock + v.draws ≤ MAX_NUMBER
  pub placed : (n : ℕ) → z.first < n → n ≤ c.clock → ((k : ℕ) × (get_elem? c.boxes k ≡ some n)) ⊎ (has (numbers_of c.persisted) n ≡ true)
  pub once : Distinct (numbers_of c.persisted)
  pub boxes : (n k : ℕ) → get_elem? c.boxes k ≡ some n → 0 < n → (z.first < n) × (n ≤ c.clock) × (has (numbers_of c.persisted) n ≡ false) × ((j : ℕ) → get_elem? c.boxes j ≡ some n → j ≡ k)
      × (get_elem? c.records k ≡ some (record { number = n; writes = writes_of v.entries n }))
  pub persisted : All (λ r. (z.first < r.number) × (r.number ≤ c.clock) × (r.writes ≡ writes_of v.entries r.number)) c.persisted
  -- what a number wrote is a list of writes of different home words
  pub writes : (n : ℕ) → IsWriteList (writes_of v.entries n) × ((i x : ℕ) → written (writes_of v.entries n) i ≡ Some x → i < z.pages * PAGE)
