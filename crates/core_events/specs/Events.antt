-- The events of the machine. Each is one step on one word by one view: which word it is, what the word becomes, and what the view becomes,
-- from the number found. The names are those of the kinds; `begin` and `extend` are the two forms of a clock that is loaded.
use Rattle.std.specs.Prelude.{ℕ, ◌+◌, ◌-◌, ◌*◌, ◌/◌, ◌%◌, ◌==◌, ◌||◌, ◌&&◌, Bool, true, false, not, List, [], ◌∷◌, ◌++◌, max, Option, Some, None, if◌then◌else◌, leb}
use prog.Atomic.{either}
use Rattle.tatp_model.specs.declared.request.Request.TheVariants.{Sync}
use Rattle.tatp_model.specs.declared.reply.Reply.TheVariants.{Durable}
use Rattle.dude_base.specs.declared.write.Write.{Write}
use Rattle.dude_base.specs.Writes.{written}
use Rattle.pmem_trait.specs.Faults.{up_to_last}
use Rattle.core_events.specs.Setups.{Setup, lock_of, page_of, cell_of, box_of, entry_with, frame_in, without_pins}
use Rattle.core_events.specs.Keyed.{find, without, has, or_else}
use Rattle.core_events.specs.Views.{Word, the_threads, the_clock, the_turn, the_durable, the_reproduced, the_lock, the_entry, the_touch, the_cell, the_box, About, Entry, Hand, Transaction, Paging, Turn, View}

-- the kinds of step, each with the locks, words, pages, frames, boxes and numbers that it names
pub data Event : Type 0 where
  number : Event
  begin : Event
  extend : Event
  look : ℕ → Event
  load : ℕ → Event
  check : ℕ → Event
  finish : About → Event
  take : ℕ → Event
  draw : About → List Write → Event
  decide : Event
  store : ℕ → Event
  release : ℕ → Event
  restore : ℕ → Event
  see_box : Event
  post : Event
  take_turn : Event
  give_turn : Bool → Event
  see_full : ℕ → ℕ → Event
  empty_box : ℕ → ℕ → Event
  raise_durable : ℕ → Event
  raise_reproduced : ℕ → Event
  entry : ℕ → Event
  pin : ℕ → Event
  unpin : ℕ → Event
  touch : ℕ → Event
  load_touch : ℕ → Event
  evict : ℕ → Event
  -- a page, a frame, a home word and its value
  fill : ℕ → ℕ → ℕ → ℕ → Event
  show : ℕ → ℕ → Event

-- ---- what a view says
-- what stands in place of a request where no number is drawn
abbrev pub no_about : About
no_about = record { file = 0; index = 0; request = Sync; reply = Durable }

-- what a view has where it drew no number
abbrev pub no_hand : Hand
no_hand = record { number = 0; decided = false; void = false; about = no_about; writes = []; stored = [] }

-- the number of the view's thread; 0 where it has none
abbrev pub thread_of : View → ℕ
thread_of v = or_else v.part.thread 0

-- the word of a lock that the view's thread owns
abbrev pub own_word : Option ℕ → ℕ
own_word thread = 2 * or_else thread 0 + 1

-- the word that was looked at; 1 where there is none
abbrev pub looked_word : Option (ℕ × ℕ) → ℕ
looked_word None = 1
looked_word (Some p) = p.1

-- a lock's word is the thread's own, or unowned with a version up to the snapshot
abbrev pub is_good : Option ℕ → ℕ → ℕ → Bool
is_good thread snapshot n = (n == own_word thread) || ((n == 2 * (n / 2)) && leb (n / 2) snapshot)

-- the first of the locks owned; 0 where there is none
abbrev pub first_lock : List (ℕ × ℕ) → ℕ
first_lock [] = 0
first_lock (x ∷ xs) = x.0

-- the frame of a page that the view pins
abbrev pub pinned_frame : View → ℕ → ℕ
pinned_frame v page = or_else (find v.paging.pins page) 0

-- the entry of a page that the view keeps; 0 where it keeps none
abbrev pub kept_entry : View → ℕ → ℕ
kept_entry v page = or_else (find v.paging.entries page) 0

-- the view's next box
abbrev pub next_box : Setup → View → ℕ
next_box z v = box_of z (thread_of v) v.box.next

-- ---- the word
-- which word the event is a step on
abbrev pub name : Setup → Event → View → Word
name z number v = the_threads
name z begin v = the_clock
name z extend v = the_clock
name z (look k) v = the_lock k
name z (load i) v = the_cell (cell_of (pinned_frame v (page_of i)) i)
name z (check k) v = the_lock k
name z (finish a) v = the_threads
name z (take k) v = the_lock k
name z (draw a ws) v = the_clock
name z decide v = the_lock (first_lock v.tx.owned)
name z (store i) v = the_cell (cell_of (pinned_frame v (page_of i)) i)
name z (release k) v = the_lock k
name z (restore k) v = the_lock k
name z see_box v = the_box (next_box z v)
name z post v = the_box (next_box z v)
name z take_turn v = the_turn
name z (give_turn failed) v = the_turn
name z (see_full t j) v = the_box (box_of z t j)
name z (empty_box t j) v = the_box (box_of z t j)
name z (raise_durable x) v = the_durable
name z (raise_reproduced x) v = the_reproduced
name z (entry p) v = the_entry p
name z (pin p) v = the_entry p
name z (unpin p) v = the_entry p
name z (touch p) v = the_touch p
name z (load_touch p) v = the_touch p
name z (evict p) v = the_entry p
name z (fill p f i x) v = the_cell (cell_of f i)
name z (show p f) v = the_entry p

-- what the word becomes; `either b x y` is x where b is true, else y
abbrev pub word_after : Event → View → ℕ → ℕ
word_after number v n = n + 1
word_after begin v n = n
word_after extend v n = n
word_after (look k) v n = n
word_after (load i) v n = n
word_after (check k) v n = n
word_after (finish a) v n = n
word_after (take k) v n = either (n == looked_word v.tx.look) (own_word v.part.thread) n
word_after (draw a ws) v n = n + 1
word_after decide v n = n
word_after (store i) v n = or_else (written v.tx.hand.writes i) n
word_after (release k) v n = 2 * v.tx.hand.number
word_after (restore k) v n = or_else (find v.tx.owned k) n
word_after see_box v n = n
word_after post v n = v.tx.hand.number
word_after take_turn v n = either (n == 0) (thread_of v + 1) n
word_after (give_turn failed) v n = 0
word_after (see_full t j) v n = n
word_after (empty_box t j) v n = 0
word_after (raise_durable x) v n = x
word_after (raise_reproduced x) v n = x
word_after (entry p) v n = n
word_after (pin p) v n = either (n == kept_entry v p) (kept_entry v p + 1) n
word_after (unpin p) v n = n - 1
word_after (touch p) v n = max n v.tx.hand.number
word_after (load_touch p) v n = n
word_after (evict p) v n = either (n == without_pins (kept_entry v p)) 0 n
word_after (fill p f i x) v n = x
word_after (show p f) v n = entry_with f 0

-- ---- the view
-- one more; a count stays at its last value
abbrev pub one_more : ℕ → ℕ
one_more count = up_to_last (count + 1)

-- the word n was found
abbrev pub noticed : Word → ℕ → View → View
noticed x n v = record v { found = Some (x, n); count = one_more v.count }

-- the number n was found in the word, where the exchange wasn't made
abbrev pub noticed_unless : Bool → Word → ℕ → View → View
noticed_unless made x n v = record v { found = if made then v.found else Some (x, n); count = if made then v.count else one_more v.count }

-- the number n was found in the entry of the page p, and is the one kept of it
abbrev pub seen_entry : ℕ → ℕ → View → View
seen_entry p n v = noticed (the_entry p) n (record v { paging = record v.paging { entries = (p, n) ∷ v.paging.entries } })

-- the transaction, which has no number, owns no lock and has no pin, is dropped
abbrev pub dropped : Transaction → Transaction
dropped x = record x { is_open = false; extension = None; reads = []; loaded = None }

-- each lock of the reads stands among the locks ks
abbrev pub all_checked : Setup → List ℕ → List (ℕ × ℕ) → Bool
all_checked z ks [] = true
all_checked z ks (r ∷ rs) = has ks (lock_of z r.0) && all_checked z ks rs

-- an extension to s, which ends where each lock of the reads was found good
abbrev pub reaching : Bool → ℕ → Transaction → Transaction
reaching true s x = record x { snapshot = s; extension = None }
reaching false s x = record x { extension = Some s }

-- the lock k is checked in an extension to s; it fails at the first lock that isn't good
abbrev pub extending : Setup → Bool → ℕ → ℕ → Transaction → Transaction
extending z true s k x = reaching (all_checked z (k ∷ x.checked) x.reads) s (record x { checked = k ∷ x.checked })
extending z false s k x = record x { extension = None }

-- the lock k is checked after the draw; one that isn't good makes the number void
abbrev pub validating : Bool → ℕ → Transaction → Transaction
validating true k x = record x { checked = k ∷ x.checked }
validating false k x = record x { hand = record x.hand { void = true } }

-- a second look at the lock k, by what the view keeps: a value that waits joins the reads, or is dropped
abbrev pub checking : Setup → Option (ℕ × ℕ) → Option ℕ → Option ℕ → ℕ → ℕ → Transaction → Transaction
checking z (Some p) extension thread k n x = record x { reads = if n == looked_word x.look then x.reads ++ p ∷ [] else x.reads; loaded = None }
checking z None (Some s) thread k n x = extending z (is_good thread x.snapshot n) s k x
checking z None None thread k n x = validating (is_good thread x.snapshot n) k x

-- a lock is taken, or its word is the last look
abbrev pub taking : Bool → ℕ → ℕ → Transaction → Transaction
taking true k n x = record x { loaded = None; owned = (k, n) ∷ x.owned }
taking false k n x = record x { look = Some (k, n); loaded = None }

-- a page is pinned, or its entry is the kept one
abbrev pub pinning : Bool → ℕ → ℕ → Paging → Paging
pinning true p n g = record g { pins = (p, frame_in n) ∷ g.pins }
pinning false p n g = record g { entries = (p, n) ∷ g.entries }

-- a turn begins, and what was kept in an earlier one is dropped
abbrev pub turning : Bool → Turn → Turn
turning true t = record t { has_it = true; count = one_more t.count; full = []; touches = []; filled = [] }
turning false t = t

-- where a turn begins, the page entries that were kept are dropped
abbrev pub forgetting : Bool → Paging → Paging
forgetting true g = record g { entries = [] }
forgetting false g = g

-- filled words without those of the page p
abbrev pub unfilled : ℕ → List (ℕ × ℕ) → List (ℕ × ℕ)
unfilled p [] = []
unfilled p (x ∷ xs) = if page_of x.0 == p then unfilled p xs else (x ∷ unfilled p xs)

-- filled words without those that other pages than p have in the frame f
abbrev pub refilled : ℕ → ℕ → List (ℕ × ℕ) → List (ℕ × ℕ)
refilled p f [] = []
refilled p f (x ∷ xs) = if (x.1 == f) && not (page_of x.0 == p) then refilled p f xs else (x ∷ refilled p f xs)

-- the entry of the page p was replaced: what is kept of it in the turn is dropped
abbrev pub replacing : Bool → ℕ → Turn → Turn
replacing made p t = record t { touches = if made then without t.touches p else t.touches; filled = if made then unfilled p t.filled else t.filled }

-- the place behind this one, round the boxes
abbrev pub place_behind : Setup → ℕ → ℕ
place_behind z place = (place + 1) % z.boxes

-- the entry of a transaction that read, at its snapshot
abbrev pub read_entry : About → View → Entry
read_entry a v = record { number = v.tx.snapshot; wrote = false; about = a; reads = v.tx.reads; writes = [] }

-- the entry of a transaction that wrote, at its number
abbrev pub write_entry : View → Entry
write_entry v = record { number = v.tx.hand.number; wrote = true; about = v.tx.hand.about; reads = v.tx.reads; writes = v.tx.hand.writes }

-- what the view becomes
abbrev pub view_after : Setup → Event → View → ℕ → View
view_after z number v n = record v { part = record v.part { thread = Some n } }
view_after z begin v n = noticed the_clock n (record v { tx = record v.tx { is_open = true; snapshot = n; extension = None; reads = []; loaded = None } })
view_after z extend v n = noticed the_clock n (record v { tx = reaching (all_checked z [] v.tx.reads) n (record v.tx { checked = []; loaded = None }) })
view_after z (look k) v n = noticed (the_lock k) n (record v { tx = record v.tx { look = Some (k, n); loaded = None } })
view_after z (load i) v n = noticed (name z (load i) v) n (record v { tx = record v.tx { loaded = Some (i, n) } })
view_after z (check k) v n = noticed (the_lock k) n (record v { tx = checking z v.tx.loaded v.tx.extension v.part.thread k n v.tx })
view_after z (finish a) v n = noticed the_threads n (record v { tx = record v.tx { is_open = false; loaded = None }; entries = v.entries ++ read_entry a v ∷ [] })
view_after z (take k) v n = let made = n == looked_word v.tx.look in noticed_unless made (the_lock k) n (record v { tx = taking made k n v.tx })
view_after z (draw a ws) v n =
    record v {
      tx = record v.tx { loaded = None; hand = record { number = n + 1; decided = false; void = false; about = a; writes = ws; stored = [] }; checked = [] };
      draws = v.draws - 1;
      drawn = v.drawn ++ (n + 1) ∷ [];
    }
view_after z decide v n = noticed (name z decide v) n (record v { tx = record v.tx { hand = record v.tx.hand { decided = true } }; entries = v.entries ++ write_entry v ∷ [] })
view_after z (store i) v n = record v { tx = record v.tx { hand = record v.tx.hand { stored = i ∷ v.tx.hand.stored } } }
view_after z (release k) v n = record v { tx = record v.tx { owned = without v.tx.owned k } }
view_after z (restore k) v n = record v { tx = record v.tx { owned = without v.tx.owned k } }
view_after z see_box v n = noticed (name z see_box v) n (record v { tx = dropped v.tx; box = record v.box { is_empty = n == 0 } })
view_after z post v n =
    record v {
      tx = record (dropped v.tx) { hand = no_hand };
      paging = record v.paging { touched = [] };
      box = record { next = place_behind z v.box.next; is_empty = false };
    }
view_after z take_turn v n = let made = n == 0 in noticed_unless made the_turn n (record v { paging = forgetting made v.paging; turn = turning made v.turn })
view_after z (give_turn failed) v n = record v { turn = record v.turn { has_it = false; met_fault = v.turn.met_fault || failed } }
view_after z (see_full t j) v n =
    noticed (name z (see_full t j) v) n (record v { turn = record v.turn { full = if n == 0 then v.turn.full else ((box_of z t j, n) ∷ v.turn.full) } })
view_after z (empty_box t j) v n = record v { turn = record v.turn { full = without v.turn.full (box_of z t j) } }
view_after z (raise_durable x) v n = record v { turn = record v.turn { durable = x } }
view_after z (raise_reproduced x) v n = v
view_after z (entry p) v n = seen_entry p n v
view_after z (pin p) v n = let made = n == kept_entry v p in noticed_unless made (the_entry p) n (record v { paging = pinning made p n v.paging })
view_after z (unpin p) v n = record v { paging = record v.paging { pins = without v.paging.pins p } }
view_after z (touch p) v n = record v { paging = record v.paging { touched = p ∷ v.paging.touched } }
view_after z (load_touch p) v n = noticed (the_touch p) n (record v { turn = record v.turn { touches = (p, n) ∷ v.turn.touches } })
view_after z (evict p) v n =
    let made = n == without_pins (kept_entry v p) in
    noticed_unless made (the_entry p) n (record v { paging = record v.paging { entries = (p, if made then 0 else n) ∷ v.paging.entries }; turn = replacing made p v.turn })
view_after z (fill p f i x) v n = record v { turn = record v.turn { filled = (i, f) ∷ refilled p f v.turn.filled } }
view_after z (show p f) v n = record v { paging = record v.paging { entries = (p, entry_with f 0) ∷ v.paging.entries }; turn = replacing true p v.turn }
