-- The events as steps of the machine with its medium.
use Rattle.std.specs.Prelude.{◌≡◌, ◌≢◌, ℕ, true, false, List, Option, Some, None, unwrap_or}
use Rattle.tatp_model.specs.declared.request.Request.{Request}
use Rattle.tatp_model.specs.declared.reply.Reply.{Reply}
use Rattle.core_events.specs.Views.{About}
use Rattle.core_events.specs.Events.{Event as Made, number, begin, extend, look, load, check, finish, take, draw, decide, store, release, restore, see_box, post, take_turn, give_turn, see_full, empty_box, raise_durable, raise_reproduced, entry, pin, unpin, touch, load_touch, evict, fill, show}
use Rattle.core_events.specs.Keyed.{find}
use Rattle.core_events.specs.Partings.{event, parting, joining}
use Rattle.core_medium.specs.Machines.{MachineStep, on_words, device}
use Rattle.dude_core.specs.declared.event.Event.{Event}
use Rattle.dude_core.specs.declared.event.Event.TheVariants.{Split, Join, Number, Clock, Look, Load, Check, Finish, Take, Draw, Decide, Store, Release, Restore, SeeBox, Post, TakeTurn, GiveTurn, SeeFull, EmptyBox, RaiseDurable, RaiseReproduced, Entry, Pin, Unpin, Touch, LoadTouch, Evict, Fill, Show, Device}

-- the request at this place of a file, and its reply
abbrev pub about : ℕ → ℕ → Request → Reply → About
about file index request reply = record { file = file; index = index; request = request; reply = reply }

-- the step by the view `who`, where these words were read; a word is filled with the value that was read of it
abbrev pub step_of : List (ℕ × ℕ) → ℕ → Event → MachineStep
step_of read who (Split draws) = on_words (parting who draws)
step_of read who (Join other) = on_words (joining who other)
step_of read who Number = on_words (event who number)
step_of read who (Clock true) = on_words (event who extend)
step_of read who (Clock false) = on_words (event who begin)
step_of read who (Look k) = on_words (event who (look k))
step_of read who (Load i) = on_words (event who (load i))
step_of read who (Check k) = on_words (event who (check k))
step_of read who (Finish f i q y) = on_words (event who (finish (about f i q y)))
step_of read who (Take k) = on_words (event who (take k))
step_of read who (Draw f i q y r) = on_words (event who (draw (about f i q y) r.writes))
step_of read who Decide = on_words (event who decide)
step_of read who (Store i) = on_words (event who (store i))
step_of read who (Release k) = on_words (event who (release k))
step_of read who (Restore k) = on_words (event who (restore k))
step_of read who SeeBox = on_words (event who see_box)
step_of read who Post = on_words (event who post)
step_of read who TakeTurn = on_words (event who take_turn)
step_of read who (GiveTurn failed) = on_words (event who (give_turn failed))
step_of read who (SeeFull t j) = on_words (event who (see_full t j))
step_of read who (EmptyBox t j) = on_words (event who (empty_box t j))
step_of read who (RaiseDurable x) = on_words (event who (raise_durable x))
step_of read who (RaiseReproduced x) = on_words (event who (raise_reproduced x))
step_of read who (Entry p) = on_words (event who (entry p))
step_of read who (Pin p) = on_words (event who (pin p))
step_of read who (Unpin p) = on_words (event who (unpin p))
step_of read who (Touch p) = on_words (event who (touch p))
step_of read who (LoadTouch p) = on_words (event who (load_touch p))
step_of read who (Evict p) = on_words (event who (evict p))
step_of read who (Fill p f i) = on_words (event who (fill p f i (unwrap_or (find read i) 0)))
step_of read who (Show p f) = on_words (event who (show p f))
step_of read who (Device call) = device who call

-- the event made is this one of the definitions, whoever makes it, where these words were read
abbrev pub IsEventOf : List (ℕ × ℕ) → Event → Made → Type 0
IsEventOf read d e = (who : ℕ) → step_of read who d ≡ on_words (event who e)

-- ---- the groups of events
-- splits, joins and calls on the medium; the events of a transaction that reads, of one that writes, of boxes and the turn, and of pages
pub data Group : Type 0 where
  other_group : Group
  reading : Group
  writing : Group
  turning : Group
  paging : Group

-- the group that an event is in
abbrev pub group_of : Event → Group
group_of (Split draws) = other_group
group_of (Join other) = other_group
group_of (Device call) = other_group
group_of Number = reading
group_of (Clock b) = reading
group_of (Look k) = reading
group_of (Load i) = reading
group_of (Check k) = reading
group_of (Finish f i q y) = reading
group_of (Take k) = writing
group_of (Draw f i q y r) = writing
group_of Decide = writing
group_of (Store i) = writing
group_of (Release k) = writing
group_of (Restore k) = writing
group_of SeeBox = turning
group_of Post = turning
group_of (SeeFull t j) = turning
group_of (EmptyBox t j) = turning
group_of TakeTurn = turning
group_of (GiveTurn failed) = turning
group_of (RaiseDurable x) = turning
group_of (RaiseReproduced x) = turning
group_of (Entry p) = paging
group_of (Pin p) = paging
group_of (Unpin p) = paging
group_of (Touch p) = paging
group_of (LoadTouch p) = paging
group_of (Evict p) = paging
group_of (Fill p f i) = paging
group_of (Show p f) = paging

-- the event is made as this one of the definitions, whatever was read; or it is in another group
abbrev pub IsMadeIn : {D : Type 0} → Group → (D → Made) → Event → Option D → Type 0
IsMadeIn g made d (Some deed) = (read : List (ℕ × ℕ)) → IsEventOf read d (made deed)
IsMadeIn g made d None = group_of d ≢ g
