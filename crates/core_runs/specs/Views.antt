-- What the first seat of a short history knows, after each part of it. Numbers are those that the test expects to find.
use Rattle.std.specs.Prelude.{◌≡◌, ℕ, List, [], ◌∷◌, replicate, true, false}
use Rattle.atomic_table.specs.declared.shared.Seat.{Seat}
use Rattle.dude_base.specs.declared.limits.TheConstants.{PAGE}
use Rattle.dude_base.specs.declared.write.Write.{Write}
use Rattle.tatp_model.specs.declared.request.Request.TheVariants.{Sync}
use Rattle.tatp_model.specs.declared.reply.Reply.TheVariants.{Durable}
use Rattle.core_events.specs.Setups.{Setup}
use Rattle.core_events.specs.Views.{View}
use Rattle.core_events.specs.Events.{Event, number, see_box, begin, entry, pin, look, load, check, finish, take, draw, decide, store, touch, release, unpin, post, take_turn, see_full, empty_box, raise_durable, raise_reproduced, give_turn, extend, restore, evict, load_touch, view_after}
use Rattle.core_events.specs.Partings.{newcomer, left_of, both_of}
use Rattle.core_table.specs.Known.{Known}
use Rattle.core_table.specs.Layout.{TableSight}
use Rattle.core_table.specs.Seats.{opener}
use Rattle.core_table.specs.Steps.{BelongsTo}
use Rattle.core_table.specs.Abouts.{about}

-- two threads, one lock, page, frame and box; all words are 0
abbrev pub two : Setup
two = record { threads = 2; locks = 1; pages = 1; frames = 1; boxes = 1; opening = replicate PAGE 0; first = 0; is_told = true; may_fail = true }

-- these terms, where it is known what the medium gives, and a turn may fail
abbrev pub told_all : Setup → Setup
told_all z = record z { is_told = true; may_fail = true }

-- A seat stands in a short history: its table is the one of `two`, it is of that table, and it knows this.
pub record Stands {S X K : Type 0} (table : TableSight K) (s : Seat S (Known X)) (knows : View) : Type 0 where
  pub setup : table.setup ≡ two
  pub seat : BelongsTo table s
  pub view : s.me.0.view ≡ knows

-- the writes of the transaction: 7 to word 3
abbrev pub one_write : List Write
one_write = record { at = 3; value = 7 } ∷ []

-- the view after events that found these numbers
abbrev pub after_all : List (Event × ℕ) → View → View
after_all [] v = v
after_all (x ∷ xs) v = after_all xs (view_after two x.0 v x.1)

-- the first seat, once it has a number of a thread
abbrev pub entered : View
entered = view_after two number (left_of 0 (opener two)) 0

-- the second seat, once it has a number of a thread
abbrev pub entered_too : View
entered_too = view_after two number (newcomer two 0 0) 1

-- the first seat, once it has begun a transaction, pinned the page and looked at its lock
abbrev pub looked : View
looked = after_all ((begin, 0) ∷ (entry 0, 65_536) ∷ (pin 0, 65_536) ∷ (look 0, 0) ∷ []) entered

-- the first seat, once it has read word 3 and answered that it only read
abbrev pub read_out : View
read_out = after_all ((load 3, 0) ∷ (check 0, 0) ∷ (unpin 0, 65_537) ∷ (finish (about 0 0 Sync Durable), 2) ∷ []) looked

-- the first seat, once it has seen its box empty, begun another transaction and pinned the page
abbrev pub ready : View
ready = after_all ((see_box, 0) ∷ (begin, 0) ∷ (entry 0, 65_536) ∷ (pin 0, 65_536) ∷ []) read_out

-- the first seat, once it has drawn number 1 and decided it
abbrev pub decided : View
decided = after_all ((look 0, 0) ∷ (take 0, 0) ∷ (draw (about 0 1 Sync Durable) one_write, 0) ∷ (decide, 1) ∷ []) ready

-- the first seat, once it has stored, shown and posted number 1
abbrev pub posted : View
posted = after_all ((store 3, 0) ∷ (touch 0, 0) ∷ (release 0, 0) ∷ (unpin 0, 65_537) ∷ (post, 0) ∷ []) decided

-- the first seat, once it has taken the turn and number 1 has left its box
abbrev pub emptied : View
emptied = after_all ((take_turn, 0) ∷ (see_full 0 0, 1) ∷ (empty_box 0 0, 0) ∷ (see_box, 0) ∷ []) posted

-- the first seat, once number 1 is durable and reproduced
abbrev pub settled : View
settled = after_all ((raise_durable 1, 0) ∷ (raise_reproduced 1, 0) ∷ (give_turn false, 0) ∷ []) emptied

-- the first seat, once the second one has joined it
abbrev pub joined : View
joined = both_of settled entered_too

-- the first seat, once it has read word 3 again, which has the 7
abbrev pub read_back : View
read_back = after_all ((begin, 1) ∷ (entry 0, 65_536) ∷ (pin 0, 65_536) ∷ (look 0, 2) ∷ (load 3, 7) ∷ (check 0, 2) ∷ []) joined

-- a history of the other kinds, by one seat: it has a number of a thread
abbrev pub alone : View
alone = view_after two number (opener two) 0

-- the one seat of that history, once it has extended its snapshot and given a lock back
abbrev pub given_back : View
given_back = after_all ((begin, 0) ∷ (extend, 0) ∷ (look 0, 0) ∷ (take 0, 0) ∷ (restore 0, 0) ∷ (finish (about 0 0 Sync Durable), 1) ∷ []) alone

-- the one seat of that history, once it has evicted a page in its turn
abbrev pub dropped : View
dropped = after_all ((take_turn, 0) ∷ (entry 0, 65_536) ∷ (evict 0, 65_536) ∷ (load_touch 0, 0) ∷ (give_turn false, 0) ∷ []) given_back
