-- What the laws of the kept state say: which steps keep it, what follows of entries, and what it tells a program that takes the steps.
use Rattle.std.specs.Prelude.{◌≡◌, ℕ, ◌+◌, ◌<◌, ◌≤◌, true, List, [], ◌∷◌, Some, slice_index}
use mathlib.Core.Option.{some}
use lib.ListN.{get_elem?}
use Rattle.dude_base.specs.declared.limits.TheConstants.{MAX_NUMBER}
use Rattle.core_events.specs.Setups.{Setup, IsSetup, page_of, cell_of}
use Rattle.core_events.specs.Keyed.{find, has, total}
use Rattle.core_events.specs.Views.{Entry, View}
use Rattle.core_events.specs.Words.{State, found}
use Rattle.core_events.specs.Entries.{value_at, all_entries, IsLegal}
use Rattle.core_events.specs.Events.{Event, name, show}
use Rattle.core_events.specs.Conditions.{IsAllowed, May, after}
use Rattle.core_events.specs.Partings.{MaySplit, MayJoin, split, join, Step, AllLead, all_made, start}
use Rattle.core_events.specs.Kept.{Kept}
use Rattle.core_events.specs.Telling.{IsInside, IsSeated, IsTold, HasAll, IsReadOut}
use Rattle.core_events.specs.OneCommit.{smallest, commit_steps, commit_entry}

-- ---- which steps keep the state
-- the state after an allowed event of a kept one is kept
abbrev pub LawOfEvents : Type 0
LawOfEvents = (z : Setup) (e : Event) (c : State) (who : ℕ) (v : View) → Kept z c → IsAllowed z c who e v → Kept z (after z c who v e)

-- the state after a split of a view of a kept one is kept
abbrev pub LawOfSplits : Type 0
LawOfSplits = (z : Setup) (c : State) (who draws : ℕ) (v : View) → Kept z c → MaySplit c who v draws → Kept z (split z c who v draws)

-- the state after a join of two views of a kept one is kept
abbrev pub LawOfJoins : Type 0
LawOfJoins = (z : Setup) (c : State) (who other : ℕ) (v w : View) → Kept z c → MayJoin c who v other w → Kept z (join z c who v other w)

-- where it is known what the medium gives, each word of a page that is shown is the value at the clock
abbrev pub LawOfShownPages : Type 0
LawOfShownPages = (z : Setup) (c : State) (who p f : ℕ) (v : View) → Kept z c → z.is_told ≡ true → IsAllowed z c who (show p f) v → (i : ℕ) → page_of i ≡ p →
    let d = after z c who v (show p f) in slice_index d.cells (cell_of f i) ≡ value_at z.opening (all_entries d.views) c.clock i

-- the entries of all views of a kept state are legal, where it is known what the medium gives
abbrev pub LawOfKeptEntries : Type 0
LawOfKeptEntries = (z : Setup) (c : State) → Kept z c → z.is_told ≡ true → IsLegal z.first z.opening (all_entries c.views)

-- ---- any list of steps
-- after every list of allowed steps the state is kept
abbrev pub LawOfSteps : Type 0
LawOfSteps = (z : Setup) (ss : List Step) (c : State) → IsSetup z → AllLead z (start z) ss c → Kept z c

-- after every list of allowed steps the entries of all views are legal, where it is known what the medium gives
abbrev pub LawOfLegalEntries : Type 0
LawOfLegalEntries = (z : Setup) (ss : List Step) (c : State) → IsSetup z → z.is_told ≡ true → AllLead z (start z) ss c → IsLegal z.first z.opening (all_entries c.views)

-- after every list of allowed steps the views have the entries that the steps made, each once: however entries are
-- weighed, both weigh the same
abbrev pub LawOfEntriesMade : Type 0
LawOfEntriesMade = (z : Setup) (ss : List Step) (c : State) (h : AllLead z (start z) ss c) (f : Entry → ℕ) → total f (all_entries c.views) ≡ total f (all_made z ss (start z) c h)

-- ---- what a kept state tells
-- each view is as its thread may rely on
abbrev pub LawOfSeats : Type 0
LawOfSeats = (z : Setup) (c : State) (who : ℕ) (v : View) → Kept z c → get_elem? c.views who ≡ some v → IsSeated z v

-- the word of an event that a view may make exists
abbrev pub LawOfNames : Type 0
LawOfNames = (z : Setup) (e : Event) (v : View) → 0 < z.locks → IsSeated z v → May z e v → IsInside z (name z e v)

-- each allowed event tells something of the word that it finds
abbrev pub LawOfFoundWords : Type 0
LawOfFoundWords = (z : Setup) (e : Event) (c : State) (who : ℕ) (v : View) → Kept z c → IsAllowed z c who e v → IsTold z e v (found c (name z e v))

-- a view that has all threads' numbers and all splits, and no number of its own open, has all entries
abbrev pub LawOfReadOut : Type 0
LawOfReadOut = (z : Setup) (c : State) (who : ℕ) (v : View) → Kept z c → get_elem? c.views who ≡ some v → HasAll z v → v.tx.hand.number ≡ 0 → IsReadOut z c v

-- ---- what a view alone tells of the rest of a kept state
-- what is said of each view of a kept state, by the view and the rest
abbrev pub OfEachView : (Setup → State → View → Type 0) → Type 0
OfEachView Says = (z : Setup) (c : State) (who : ℕ) (v : View) → Kept z c → get_elem? c.views who ≡ some v → Says z c v

-- a box whose number the view with the turn keeps is full, with this number
abbrev pub KeepsFull : Setup → State → View → Type 0
KeepsFull z c v = v.turn.has_it ≡ true → (k n : ℕ) → find v.turn.full k ≡ Some n → (slice_index c.boxes k ≡ n) × (0 < n)

-- where the view may draw all numbers over x, none of them was drawn
abbrev pub LeavesDraws : Setup → State → View → Type 0
LeavesDraws z c v = (x : ℕ) → MAX_NUMBER ≤ v.draws + x → c.clock ≤ x

-- a number that the view drew isn't 0, and is at most the clock
abbrev pub HasDrawn : Setup → State → View → Type 0
HasDrawn z c v = (n : ℕ) → has v.drawn n ≡ true → (0 < n) × (n ≤ c.clock)

-- the durable and the reproduced word are from the opening number to the clock, and the durable one is at least that of the view
pub record HasRaised (z : Setup) (c : State) (v : View) : Type 0 where
  pub durable : (v.turn.durable ≤ c.durable) × (z.first ≤ c.durable) × (c.durable ≤ c.clock)
  pub reproduced : (z.first ≤ c.reproduced) × (c.reproduced ≤ c.clock)

-- ---- one commit
-- all steps of the commit are allowed and lead to this state, which has its one entry and its word, durable and reproduced
pub record IsCommitted (c : State) : Type 0 where
  pub led : AllLead smallest (start smallest) commit_steps c
  pub entries : all_entries c.views ≡ commit_entry ∷ []
  pub durable : c.durable ≡ 1
  pub reproduced : c.reproduced ≡ 1
  pub word : slice_index c.cells 3 ≡ 7
