-- Records in hand of consecutive numbers, and the bundle that joins them.
use Rattle.std.specs.Prelude.{◌≡◌, ℕ, ◌+◌, ◌<◌, ◌≤◌, ◌*◌, ◌⊎◌, List, [], ◌∷◌, All, length, slice_index, slice_set}
use Rattle.std.specs.List.{Contains}
use Rattle.dude_base.specs.declared.limits.TheConstants.{MAX_NUMBER, MAX_SPAN, PAGE}
use Rattle.dude_base.specs.Joins.{CanJoin, places_of}
use Rattle.dude_base.specs.Records.{RedoBundle, RedoRecord, bundle_of, first_of, with_next}
use Rattle.redo_record.specs.Record.{cells_for}
use Rattle.core_events.specs.Setups.{Setup}
use Rattle.stm_slots.specs.Records.{HasRecord, JoinsJust, writes_in}
use Rattle.stm_slots.specs.Queues.{place_at}
use Rattle.stm_turns.specs.Holding.{Held, box_held, boxes_held}
use Rattle.stm_turns.specs.Turns.{place_after}
use Rattle.stm_turns.specs.declared.gathering.Gathering.{Gathering}

-- ---- what a gathering begins with, and takes
-- one record, from the front of a thread's boxes
pub record BeginsWith (thread : ℕ) (r : RedoRecord) (next : List ℕ) (boxes : ℕ) (g : Gathering) : Type 0 where
  pub ring : g.ring ≡ thread
  pub bundle : g.bundle ≡ bundle_of r
  pub threads : slice_index g.threads 0 ≡ thread
  pub count : g.count ≡ 1
  pub ahead : g.ahead ≡ slice_set next thread (place_after boxes (slice_index next thread))

-- the record of the next number, from the front of a thread's boxes, where a ring of so many cells is long enough
pub record TakesNext (thread : ℕ) (r : RedoRecord) (cells boxes : ℕ) (g h : Gathering) : Type 0 where
  pub can : CanJoin g.bundle r
  pub room : g.count ≤ MAX_SPAN
  pub short : cells_for (length h.bundle.writes) ≤ cells
  pub ring : h.ring ≡ g.ring
  pub bundle : h.bundle ≡ with_next g.bundle r
  pub threads : h.threads ≡ slice_set g.threads g.count thread
  pub count : h.count ≡ g.count + 1
  pub ahead : h.ahead ≡ slice_set g.ahead thread (place_after boxes (slice_index g.ahead thread))

-- the record isn't taken: there are as many numbers as a bundle covers, a ring of so many cells is too short for the bundle then, or the bundle doesn't take it
abbrev pub LeavesNext : RedoRecord → ℕ → Gathering → Type 0
LeavesNext r cells g = (MAX_SPAN < g.count) ⊎ (cells < cells_for (places_of g.bundle r)) ⊎ (CanJoin g.bundle r → ⊥)

-- ---- the records in hand
-- their threads stand in the list from a place on, up to this many
abbrev pub AreThreads : List ℕ → ℕ → ℕ → List Held → Type 0
AreThreads threads count i [] = i ≡ count
AreThreads threads count i (p ∷ hand) = (slice_index threads i ≡ p.thread) × AreThreads threads count (i + 1) hand

-- each was taken from the front of its thread's boxes behind those before it; the places behind all are those ahead
abbrev pub AreFronts : Setup → List ℕ → List Held → List ℕ → Type 0
AreFronts z next [] ahead = ahead ≡ next
AreFronts z next (p ∷ hand) ahead = (p.thread < z.threads) × (p.place ≡ slice_index next p.thread)
    × AreFronts z (slice_set next p.thread (place_at z p.place 1)) hand ahead

-- they are from different boxes
abbrev pub AreApart : Setup → List Held → Type 0
AreApart z [] = Unit {0}
AreApart z (p ∷ hand) = ((q : RedoRecord) → Contains (boxes_held z hand) (box_held z p, q) → ⊥) × AreApart z hand

-- The bundle joins them, and goes to the ring of the thread of the first one
pub record IsJoined (z : Setup) (hand : List Held) (ring : ℕ) (b : RedoBundle) : Type 0 where
  pub records : List RedoRecord
  pub joins : JoinsJust records b
  pub has : (p : Held) → Contains hand p → HasRecord records p.redo.number × (writes_in records p.redo.number ≡ p.redo.writes)
  pub only : (n : ℕ) → HasRecord records n → (p : Held) × Contains hand p × (p.redo ≡ record { number = n; writes = writes_in records n })
  -- the first one, and those behind it
  pub first : Held
  pub others : List Held
  pub hand_is : hand ≡ first ∷ others
  pub ring_is : first.thread ≡ ring
  pub first_is : first.redo.number ≡ first_of b
  pub span : b.span ≤ b.last
  pub small : b.last ≤ MAX_NUMBER
  pub home : All (λ w. w.at < z.pages * PAGE) b.writes

-- The records in hand are those of a gathering, whose bundle fits into a ring of so many cells
pub record IsGathered (z : Setup) (next : List ℕ) (cells : ℕ) (hand : List Held) (g : Gathering) : Type 0 where
  pub joined : IsJoined z hand g.ring g.bundle
  pub fronts : AreFronts z next hand g.ahead
  pub apart : AreApart z hand
  pub threads : AreThreads g.threads g.count 0 hand
  pub short : cells_for (length g.bundle.writes) ≤ cells
  pub few : g.count ≤ MAX_SPAN + 1
  pub some : 0 < g.count

-- the gathering begins with the same record still
pub record BeginsAlike (g h : Gathering) : Type 0 where
  pub ring : h.ring ≡ g.ring
  pub first : first_of h.bundle ≡ first_of g.bundle
