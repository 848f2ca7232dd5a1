-- What is said of the view with a number, in a list of views or in a state, and what splits, joins and events make of the lists.
use Rattle.std.specs.Prelude.{◌≡◌, ◌≢◌, ℕ, ◌-◌, ◌<◌, List, [], ◌∷◌, ◌++◌, slice_index, slice_index_or, slice_set}
use mathlib.Core.Option.{some}
use lib.ListN.{get_elem?}
use Rattle.dude_base.specs.declared.limits.TheConstants.{MAX_NUMBER}
use Rattle.dude_base.specs.Records.{RedoRecord}
use Rattle.core_events.specs.Setups.{Setup, frame_in}
use Rattle.core_events.specs.Views.{View, Word}
use Rattle.core_events.specs.Words.{State, found}
use Rattle.core_events.specs.Events.{Event, name, view_after, thread_of}
use Rattle.core_events.specs.Conditions.{no_record}
use Rattle.core_events.specs.Partings.{newcomer, left_of, both_of}
use Rattle.dude_core.specs.declared.deed.Deed.{Deed}
use Rattle.dude_core.specs.Named.{event_of}
use Rattle.dude_core.specs.Small.{AreSmall}

-- what is said of the view `who`, if it is there
abbrev pub OfView : List View → ℕ → (View → Type 0) → Type 0
OfView vs who P = (v : View) → get_elem? vs who ≡ some v → P v

-- this is the word that the event of the view `who` is a step on
abbrev pub IsNameAt : Setup → State → ℕ → Event → Word → Type 0
IsNameAt z c who e w = (v : View) → get_elem? c.views who ≡ some v → w ≡ name z e v

-- the event of the view `who` finds this number in its word
abbrev pub IsFoundAt : Setup → State → ℕ → Event → ℕ → Type 0
IsFoundAt z c who e n = (v : View) → get_elem? c.views who ≡ some v → n ≡ found c (name z e v)

-- the view `who` is as after the event, which found the number n, and nothing else changed
abbrev pub HasAdvanced : Setup → State → ℕ → Deed → ℕ → State → Type 0
HasAdvanced z c who e n d = (v : View) → get_elem? c.views who ≡ some v → d ≡ record c { views = slice_set c.views who (view_after z (event_of e) v n) }

-- the thread and the next box of the view are numbers of a thread and of a box
abbrev pub HasBoxInside : Setup → View → Type 0
HasBoxInside z v = (thread_of v < z.threads) × (v.box.next < z.boxes)

-- the views after a split of the view `who`, with so many draws for the new one, which comes last
abbrev pub AreSplit : Setup → List View → ℕ → ℕ → List View → Type 0
AreSplit z vs who draws ws = (v : View) → get_elem? vs who ≡ some v → ws ≡ slice_set vs who (left_of draws v) ++ newcomer z 0 draws ∷ []

-- what the two views count can be added
abbrev pub AreSmallAt : List View → ℕ → ℕ → Type 0
AreSmallAt vs who other = (v w : View) → get_elem? vs who ≡ some v → get_elem? vs other ≡ some w → AreSmall v w

-- the views after a join of the view `other` into the view `who`, where s stands in its place
abbrev pub AreJoined : List View → ℕ → ℕ → View → List View → Type 0
AreJoined vs who other s ws = (v w : View) → get_elem? vs who ≡ some v → get_elem? vs other ≡ some w → ws ≡ slice_set (slice_set vs who (both_of v w)) other s

-- the first view at the start, with all draws and all splits
abbrev pub first_view : Setup → View
first_view z = newcomer z (z.threads - 1) (MAX_NUMBER - z.first)

-- ---- what an event asks of the rest of the state
-- no entry of a page names the frame
abbrev pub NoneNames : Setup → List ℕ → ℕ → Type 0
NoneNames z entries frame = (p : ℕ) → p < z.pages → 0 < slice_index entries p → frame_in (slice_index entries p) ≢ frame

-- ---- records that leave their boxes
-- the record at the place joins those that left their boxes
abbrev pub persisted_from : State → ℕ → State
persisted_from c at = record c { persisted = slice_index_or c.records at no_record ∷ c.persisted }

-- the record that left its box last is forgotten
abbrev pub HasForgotten : State → State → Type 0
HasForgotten c d = (r : RedoRecord) (rs : List RedoRecord) → c.persisted ≡ r ∷ rs → d ≡ record c { persisted = rs }
