-- What stands beside the state, and what an event makes of it. No code has it.
use Rattle.std.specs.Prelude.{◌≡◌, ◌==◌, ℕ, ◌+◌, ◌*◌, Bool, true, false, [], Option, Some, None, slice_index, if◌then◌else◌}
use Rattle.core_events.specs.Setups.{Setup, box_of, without_pins}
use Rattle.core_events.specs.Keyed.{change}
use Rattle.core_events.specs.Views.{View}
use Rattle.core_events.specs.Words.{State}
use Rattle.core_events.specs.Entries.{History}
use Rattle.core_events.specs.Events.{Event, number, check, take, draw, decide, release, restore, post, empty_box, evict, show, looked_word, is_good, kept_entry, next_box, thread_of, place_behind}

-- Who has a lock, by the number of its view, and the version under it. `writing` is an owner whose number is decided
pub data Hold : Type 0 where
  free : ℕ → Hold
  taken : ℕ → ℕ → Hold
  writing : ℕ → ℕ → Hold

-- the version under the lock
abbrev pub version : Hold → ℕ
version (free u) = u
version (taken j u) = u
version (writing j u) = u

-- the lock's word; `thread` gives a view's thread
abbrev pub word_of : (ℕ → ℕ) → Hold → ℕ
word_of thread (free u) = 2 * u
word_of thread (taken j u) = 2 * thread j + 1
word_of thread (writing j u) = 2 * thread j + 1

-- the owner has decided its number
abbrev pub IsWriting : Hold → Type 0
IsWriting h = (j : ℕ) × (u : ℕ) × (h ≡ writing j u)

-- where a drawn number is
pub data Place : Type 0 where
  in_view : ℕ → Place
  in_box : ℕ → Place
  behind_boxes : Place

-- what was claimed by numbers and by owners
pub record Claims : Type 0 where
  -- the writes of decided and of undecided numbers
  pub hist : History
  pub pending : History
  -- which view drew the number
  pub who : ℕ → ℕ
  -- whether it was decided
  pub settled : ℕ → Bool
  pub lock : ℕ → Hold

-- the claims, whose entries have each decided number, where each number is, the threads of views, the frames of pages
-- and the places of threads
pub record Ghost : Type 0 where
  pub claims : Claims
  -- in whose entries a decided number is
  pub author : ℕ → ℕ
  pub place : ℕ → Place
  -- the thread of each view, and the view that has a thread's number, or has it among its ended threads
  pub thread : ℕ → ℕ
  pub home : ℕ → ℕ
  -- the frame of each page that is in one
  pub frame : ℕ → Option ℕ
  -- the place of each thread's next box
  pub next : ℕ → ℕ

-- the locks that the view id has taken become those of a writer
abbrev pub promote : ℕ → Hold → Hold
promote id (free u) = free u
promote id (taken j u) = if j == id then writing j u else taken j u
promote id (writing j u) = writing j u

-- a check after the draw of a lock that isn't good makes the number void
abbrev pub voids : Option (ℕ × ℕ) → Option ℕ → Bool → ℕ → History → History
voids (Some p) s good n pending = pending
voids None (Some s) good n pending = pending
voids None None true n pending = pending
voids None None false n pending = change pending n []

-- what the event makes of the claims: a check after the draw, a take, a draw, a decision, a release and a restore
-- change some, and every other event leaves them
abbrev pub claims_after : Setup → Claims → State → ℕ → View → Event → Claims
claims_after z q c who v (check k) = record q { pending = voids v.tx.loaded v.tx.extension (is_good v.part.thread v.tx.snapshot (slice_index c.locks k)) v.tx.hand.number q.pending }
claims_after z q c who v (take k) = record q { lock = if slice_index c.locks k == looked_word v.tx.look then change q.lock k (taken who (version (q.lock k))) else q.lock }
claims_after z q c who v (draw a ws) = record q {
  pending = change q.pending (c.clock + 1) ws;
  who = change q.who (c.clock + 1) who;
  settled = change q.settled (c.clock + 1) false;
}
claims_after z q c who v decide = record q {
  hist = change q.hist v.tx.hand.number v.tx.hand.writes;
  pending = change q.pending v.tx.hand.number [];
  settled = change q.settled v.tx.hand.number true;
  lock = λ k. promote who (q.lock k);
}
claims_after z q c who v (release k) = record q { lock = change q.lock k (free v.tx.hand.number) }
claims_after z q c who v (restore k) = record q { lock = change q.lock k (free (version (q.lock k))) }
claims_after z q c who v e = q

-- a decided number is in the entries of the view that decided it
abbrev pub author_after : (ℕ → ℕ) → ℕ → View → Event → ℕ → ℕ
author_after author who v decide = change author v.tx.hand.number who
author_after author who v e = author

-- a number that is drawn is in its view, one that is posted in a box, one whose box is emptied behind the boxes
abbrev pub place_after : Setup → (ℕ → Place) → State → ℕ → View → Event → ℕ → Place
place_after z place c who v (draw a ws) = change place (c.clock + 1) (in_view who)
place_after z place c who v post = change place v.tx.hand.number (in_box (next_box z v))
place_after z place c who v (empty_box t j) = change place (slice_index c.boxes (box_of z t j)) behind_boxes
place_after z place c who v e = place

-- the view that draws a thread's number has that thread
abbrev pub thread_after : (ℕ → ℕ) → State → ℕ → Event → ℕ → ℕ
thread_after thread c who number = change thread who c.threads
thread_after thread c who e = thread

-- a thread's number is at the view that drew it
abbrev pub home_after : (ℕ → ℕ) → State → ℕ → Event → ℕ → ℕ
home_after home c who number = change home c.threads who
home_after home c who e = home

-- an eviction that succeeds leaves the page in no frame, and a page that is shown is in its frame
abbrev pub frame_after : (ℕ → Option ℕ) → State → View → Event → ℕ → Option ℕ
frame_after frame c v (evict p) = if slice_index c.entries p == without_pins (kept_entry v p) then change frame p None else frame
frame_after frame c v (show p f) = change frame p (Some f)
frame_after frame c v e = frame

-- a post brings its thread to the following place
abbrev pub next_after : Setup → (ℕ → ℕ) → View → Event → ℕ → ℕ
next_after z next v post = change next (thread_of v) (place_behind z v.box.next)
next_after z next v e = next

-- what the event makes of all that is kept beside the state
abbrev pub ghost_after : Setup → Ghost → State → ℕ → View → Event → Ghost
ghost_after z g c who v e = record {
  claims = claims_after z g.claims c who v e;
  author = author_after g.author who v e;
  place = place_after z g.place c who v e;
  thread = thread_after g.thread c who e;
  home = home_after g.home c who e;
  frame = frame_after g.frame c v e;
  next = next_after z g.next v e;
}

-- what was at the view `other` is at the view `who`
abbrev pub moved : (ℕ → ℕ) → ℕ → ℕ → ℕ → ℕ
moved f who other t = if f t == other then who else f t

-- after a join, the threads and the entries that were at the view `other` are at the view `who`
abbrev pub ghost_joined : Ghost → ℕ → ℕ → Ghost
ghost_joined g who other = record g { home = moved g.home who other; author = moved g.author who other }
