-- What the laws of a log against a history say.
use Rattle.std.specs.Prelude.{◌≡◌, ℕ, ◌*◌, ◌<◌, ◌≤◌, List, length, slice_index}
use Rattle.dude_base.specs.declared.limits.TheConstants.{PAGE}
use Rattle.dude_base.specs.declared.write.Write.{Write}
use Rattle.dude_base.specs.Records.{RedoBundle}
use Rattle.redo_record.specs.LogState.{RingRecords, LogState}
use Rattle.redo_record.specs.Waiting.{Waiting, IsArrayAt, AddsWaiting, KeepsOver}
use Rattle.redo_record.specs.BackLaws.{CanReproduce, with_waiting, with_rings, reproduced_to}
use Rattle.core_events.specs.Setups.{Setup, box_of}
use Rattle.core_events.specs.Views.{View}
use Rattle.core_events.specs.Words.{State}
use Rattle.core_events.specs.Entries.{value_at, all_entries}
use Rattle.core_events.specs.Events.{Event, empty_box}
use Rattle.core_events.specs.Conditions.{IsAllowed, after}
use Rattle.core_events.specs.Partings.{MaySplit, MayJoin, split, join}
use Rattle.core_events.specs.Ghosts.{Ghost, ghost_after, ghost_joined}
use Rattle.core_events.specs.KeptNumbers.{numbers_of}
use Rattle.core_events.specs.Kept.{LayersKept}
use Rattle.core_medium.specs.KeptLog.{IsOnMedium, IsPosted, LogIn}
use Rattle.core_medium.specs.BoxBundles.{bundle_in, MayGather}

-- a box is emptied only where its number is on the medium; every other event asks nothing
abbrev pub EmptiesPersisted : Setup → Event → State → LogState → Type 0
EmptiesPersisted z (empty_box t j) c l = IsOnMedium l (slice_index c.boxes (box_of z t j))
EmptiesPersisted z e c l = Unit {0}

-- each allowed event, that empties no box before its number is on the medium, leaves the log standing to what it leads to
abbrev pub LawOfLogEvents : Type 0
LawOfLogEvents = (z : Setup) (g : Ghost) (c : State) (l : LogState) (who : ℕ) (e : Event) (v : View) → LayersKept z g c → LogIn z g c l
    → IsAllowed z c who e v → EmptiesPersisted z e c l → LogIn z (ghost_after z g c who v e) (after z c who v e) l

-- so does a split of a view
abbrev pub LawOfLogSplits : Type 0
LawOfLogSplits = (z : Setup) (g : Ghost) (c : State) (l : LogState) (who draws : ℕ) (v : View) → LogIn z g c l → MaySplit c who v draws
    → LogIn z g (split z c who v draws) l

-- and so does a join of two views
abbrev pub LawOfLogJoins : Type 0
LawOfLogJoins = (z : Setup) (g : Ghost) (c : State) (l : LogState) (who other : ℕ) (v w : View) → LogIn z g c l → MayJoin c who v other w
    → LogIn z (ghost_joined g who other) (join z c who v other w) l

-- an allowed event leaves what may be gathered, with the same bundle, where it empties no box before its number is on the medium
abbrev pub LawOfGathering : Type 0
LawOfGathering = (z : Setup) (g : Ghost) (c : State) (l : LogState) (who : ℕ) (e : Event) (v : View) → LayersKept z g c
    → IsAllowed z c who e v → EmptiesPersisted z e c l → (t j : ℕ) (more : List (ℕ × ℕ)) → MayGather z c.boxes c.records l t j more →
    let d = after z c who v e in MayGather z d.boxes d.records l t j more × (bundle_in z d.records t j more ≡ bundle_in z c.records t j more)

-- a bundle of records in boxes is put among the waiting ones, in the ring of its first number's thread
abbrev pub LawOfLogPersists : Type 0
LawOfLogPersists = (z : Setup) (g : Ghost) (c : State) (l : LogState) (t j : ℕ) (more : List (ℕ × ℕ))
    → (rings : ℕ → RingRecords) (waiting : List Waiting) → LayersKept z g c → LogIn z g c l → MayGather z c.boxes c.records l t j more
    → AddsWaiting (record { ring = t; redo = bundle_in z c.records t j more }) l.waiting waiting → LogIn z g c (with_waiting l rings waiting)

-- waiting bundles are reproduced up to a number
abbrev pub LawOfLogReproduces : Type 0
LawOfLogReproduces = (z : Setup) (g : Ghost) (c : State) (l : LogState) (records : List RedoBundle) (ws : List Write) (number : ℕ)
    → (rings : ℕ → RingRecords) (waiting : List Waiting) → LogIn z g c l → l.sizes.pages ≡ z.pages → length l.home ≡ z.pages * PAGE
    → CanReproduce l records ws number → KeepsOver number l.waiting waiting → LogIn z g c (with_rings (reproduced_to l ws number waiting) rings)

-- an array at a number has the values there, and each number up to it is posted
abbrev pub LawOfArrayValues : Type 0
LawOfArrayValues = (z : Setup) (g : Ghost) (c : State) (l : LogState) (number : ℕ) (array : List ℕ) → LayersKept z g c → LogIn z g c l
    → length l.home ≡ z.pages * PAGE → IsArrayAt l.waiting l.reproduced l.home number array
    → ((i : ℕ) → i < z.pages * PAGE → slice_index array i ≡ value_at z.opening (all_entries c.views) number i)
    × ((n : ℕ) → z.first < n → n ≤ number → IsPosted c.boxes (numbers_of c.persisted) n)
