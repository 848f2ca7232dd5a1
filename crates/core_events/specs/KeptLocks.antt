-- The kept state, the layer of locks and reads: who has which lock, what undecided numbers write, and what a view knows of its reads and looks.
-- Values have a layer of their own.
use Rattle.std.specs.Prelude.{◌≡◌, ℕ, ◌+◌, ◌*◌, ◌<◌, ◌≤◌, ◌⊎◌, Bool, true, false, List, [], length, map, All, Option, Some, None, slice_index}
use mathlib.Core.Option.{some}
use lib.ListN.{get_elem?}
use Rattle.dude_base.specs.declared.limits.TheConstants.{PAGE, MAX_NUMBER}
use Rattle.dude_base.specs.Writes.{written, IsWriteList}
use Rattle.core_events.specs.Setups.{Setup, lock_of}
use Rattle.core_events.specs.Keyed.{find, has, total}
use Rattle.core_events.specs.Views.{Hand, Transaction, View}
use Rattle.core_events.specs.Entries.{History}
use Rattle.core_events.specs.Events.{own_word}
use Rattle.core_events.specs.Conditions.{IsUndrawn, IsUndecided}
use Rattle.core_events.specs.Ghosts.{Hold, taken, writing, version, word_of, Claims}

-- the number that a view drew and has not posted, with its writes
abbrev pub hand_of : View → Hand
hand_of v = v.tx.hand

-- how many numbers a view may still draw
abbrev pub draws_of : View → ℕ
draws_of v = v.draws

-- ---- of the words
-- Locks: a lock's word shows its owner or its version, which is up to the clock; a decided number over the version that wrote under it
-- is the open one of the owner
pub record LocksOwned (z : Setup) (hist : History) (lock : ℕ → Hold) (thread : ℕ → ℕ) (clock : ℕ) (locks : List ℕ) (hands : List Hand) : Type 0 where
  pub shows : (k : ℕ) → k < z.locks → slice_index locks k ≡ word_of thread (lock k)
  pub upto : (k : ℕ) → version (lock k) ≤ clock
  pub covered : (n i x : ℕ) → version (lock (lock_of z i)) < n → written (hist n) i ≡ Some x → (j : ℕ) × (u : ℕ) × (h : Hand) × (lock (lock_of z i) ≡ writing j u) × (get_elem? hands j ≡ some h) × (h.number ≡ n)

-- Undecided numbers: their writes are under locks that their views have taken
pub record UndecidedExclusive (z : Setup) (pending : History) (lock : ℕ → Hold) (hands : List Hand) : Type 0 where
  pub waiting : (n i x : ℕ) → written (pending n) i ≡ Some x → (j : ℕ) × (u : ℕ) × (h : Hand) × (lock (lock_of z i) ≡ taken j u) × (get_elem? hands j ≡ some h) × (h.number ≡ n) × (0 < n)

-- (to be inductive) only drawn numbers over the opening one wrote, at home words
pub record NumbersBounded (z : Setup) (hist pending : History) (clock : ℕ) (locks : List ℕ) : Type 0 where
  pub some_lock : 0 < z.locks
  pub from : z.first ≤ clock
  pub sized : length locks ≡ z.locks
  pub later : (n : ℕ) → clock < n → (hist n ≡ []) × (pending n ≡ [])
  pub before : (n : ℕ) → n ≤ z.first → (hist n ≡ []) × (pending n ≡ [])
  pub inside : (n i x : ℕ) → (written (hist n) i ≡ Some x) ⊎ (written (pending n) i ≡ Some x) → i < z.pages * PAGE
  pub lists : (n : ℕ) → IsWriteList (hist n) × IsWriteList (pending n)

-- ---- of the view j
-- Locks that it owns: it keeps an old word with a version up to its snapshot for each, and no other lock is its own
pub record OwnLocks (locks : ℕ) (lock : ℕ → Hold) (j : ℕ) (thread : Option ℕ) (is_open : Bool) (snapshot : ℕ) (decided : Bool) (owned : List (ℕ × ℕ)) : Type 0 where
  pub owns : (k o : ℕ) → find owned k ≡ Some o → (u : ℕ) × (o ≡ 2 * u) × (u ≤ snapshot) × (decided ≡ false → lock k ≡ taken j u) × (decided ≡ true → lock k ≡ writing j u)
  pub has_taken : (k u : ℕ) → lock k ≡ taken j u → (decided ≡ false) × (find owned k ≡ Some (2 * u))
  pub has_writing : (k u : ℕ) → lock k ≡ writing j u → (decided ≡ true) × (find owned k ≡ Some (2 * u))
  -- (to be inductive) only a view with an open transaction and a thread's number owns locks
  pub owner : (k o : ℕ) → find owned k ≡ Some o → (is_open ≡ true) × ((t : ℕ) × (thread ≡ Some t))
  pub inside : (k o : ℕ) → find owned k ≡ Some o → k < locks

-- (to be inductive) Its open number: it drew it, over its snapshot; what it wrote, by its state
pub record OpenNumber (hist pending : History) (who : ℕ → ℕ) (settled : ℕ → Bool) (clock j : ℕ) (is_open : Bool) (snapshot : ℕ) (h : Hand) : Type 0 where
  pub numbered : 0 < h.number → (snapshot < h.number) × (h.number ≤ clock) × (is_open ≡ true) × (who h.number ≡ j)
  pub blank : h.number ≡ 0 → (h.decided ≡ false) × (h.void ≡ false)
  pub undecided : IsUndecided h → (hist h.number ≡ []) × (pending h.number ≡ h.writes) × (h.stored ≡ []) × (settled h.number ≡ false)
  pub decided : h.decided ≡ true → (0 < h.number) × (h.void ≡ false) × (hist h.number ≡ h.writes) × (settled h.number ≡ true) × (pending h.number ≡ [])
  pub voided : h.void ≡ true → (0 < h.number) × (h.decided ≡ false) × (hist h.number ≡ []) × (settled h.number ≡ false) × (pending h.number ≡ [])

-- Reads: no undecided number up to the snapshot writes what was read
pub record ReadsApart (pending : History) (is_open : Bool) (snapshot : ℕ) (reads : List (ℕ × ℕ)) : Type 0 where
  pub apart : is_open ≡ true → (n : ℕ) → n ≤ snapshot → All (λ r. written (pending n) r.0 ≡ None) reads

-- the number n writes nothing at the home word i, be it decided or undecided
abbrev pub Unwritten : History → History → ℕ → ℕ → Type 0
Unwritten hist pending i n = (written (hist n) i ≡ None) × (written (pending n) i ≡ None)

-- Snapshots: from the opening number to the clock. In an extension, and after a draw, no number over the snapshot writes under a lock that
-- was found good
pub record ReadsConfirmed (z : Setup) (hist pending : History) (clock : ℕ) (x : Transaction) : Type 0 where
  pub snap : x.is_open ≡ true → (z.first ≤ x.snapshot) × (x.snapshot ≤ clock)
  pub extended : (s : ℕ) → x.extension ≡ Some s
      → (x.is_open ≡ true) × (x.loaded ≡ None) × (x.hand.number ≡ 0) × (x.snapshot ≤ s) × (s ≤ clock) × ((i n : ℕ) → has x.checked (lock_of z i) ≡ true → x.snapshot < n → n ≤ s → Unwritten hist pending i n)
  pub valid : IsUndecided x.hand → (i n : ℕ) → has x.checked (lock_of z i) ≡ true → x.snapshot < n → n < x.hand.number → Unwritten hist pending i n

-- Looks: a version that was looked at is up to that of its lock; a value waits only in an open transaction without number and extension,
-- after a look that was good
pub record LookPending (z : Setup) (lock : ℕ → Hold) (thread : Option ℕ) (x : Transaction) : Type 0 where
  pub looked : (k y u : ℕ) → x.look ≡ Some (k, y) → y ≡ 2 * u → u ≤ version (lock k)
  pub waits : (i y : ℕ) → x.loaded ≡ Some (i, y)
      → IsUndrawn x × (x.extension ≡ None) × (((u : ℕ) × (x.look ≡ Some (lock_of z i, 2 * u)) × (u ≤ x.snapshot)) ⊎ ((x.look ≡ Some (lock_of z i, own_word thread)) × ((t : ℕ) × (thread ≡ Some t))))

-- What holds of the view j: of the locks that it owns, its open number, its reads, its snapshot and its last look.
pub record Knows (z : Setup) (q : Claims) (clock j : ℕ) (thread : Option ℕ) (x : Transaction) : Type 0 where
  pub owns : OwnLocks z.locks q.lock j thread x.is_open x.snapshot x.hand.decided x.owned
  pub number : OpenNumber q.hist q.pending q.who q.settled clock j x.is_open x.snapshot x.hand
  pub apart : ReadsApart q.pending x.is_open x.snapshot x.reads
  pub confirmed : ReadsConfirmed z q.hist q.pending clock x
  pub look : LookPending z q.lock thread x

-- ---- the layer
-- The layer of locks and reads: of the words, of undecided numbers and of each view; there is room for all draws.
pub record LocksKept (z : Setup) (q : Claims) (thread : ℕ → ℕ) (clock : ℕ) (locks : List ℕ) (views : List View) : Type 0 where
  pub owned : LocksOwned z q.hist q.lock thread clock locks (map hand_of views)
  pub undecided : UndecidedExclusive z q.pending q.lock (map hand_of views)
  pub numbers : NumbersBounded z q.hist q.pending clock locks
  pub each : (j : ℕ) (v : View) → get_elem? views j ≡ some v → Knows z q clock j v.part.thread v.tx
  -- (to be inductive) each owner is there
  pub seated : (k j u : ℕ) → (q.lock k ≡ taken j u) ⊎ (q.lock k ≡ writing j u) → j < length views
  pub bounded : clock + total draws_of views ≤ MAX_NUMBER
