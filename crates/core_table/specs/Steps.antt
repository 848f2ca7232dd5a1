-- What a step asks of its seat, and what it tells.
use Rattle.std.specs.Prelude.{◌≡◌, ℕ, ◌+◌, ◌-◌, ◌^◌, ◌<◌, ◌≤◌, ◌==◌, max, List, [], ◌∷◌, map}
use mathlib.Core.Option.{Option, some}
use prog.Atomic.{either}
use Rattle.atomic_table.specs.Table.{Me, Final, Seen, rest}
use Rattle.atomic_table.specs.declared.shared.Seat.{Seat}
use Rattle.core_events.specs.Setups.{Setup, IsSetup}
use Rattle.core_events.specs.Words.{State}
use Rattle.core_events.specs.Events.{Event, name, word_after, view_after}
use Rattle.core_events.specs.Conditions.{May}
use Rattle.core_events.specs.Partings.{newcomer, start}
use Rattle.core_events.specs.Telling.{IsSeated, IsTold}
use Rattle.core_table.specs.declared.change.Change.{Change}
use Rattle.core_table.specs.declared.change.Change.TheVariants.{Exchange, Add, Subtract, Raise}
use Rattle.core_table.specs.Known.{Known, known_with, known_after}
use Rattle.core_table.specs.Layout.{TableSight, IsSmall, IsSameStart}
use Rattle.core_table.specs.Places.{index, count}
use Rattle.core_table.specs.Rules.{Holds, Outlasts, Foreseen, Acts}
use Rattle.core_table.specs.Seats.{opener}

-- ---- what a `Play` says
module _ {S X : Type 0} where
  -- the event was made, and found the number n
  abbrev pub Does : Setup → Event → Me S (Known X) → ℕ → Me S (Known X) → Type 0
  Does z e m n w = (w ≡ (known_after z e m.0 n, m.1)) × IsTold z e m.0.view n

  -- an event that isn't told what it found was made
  abbrev pub Puts : Setup → Event → Me S (Known X) → Me S (Known X) → Type 0
  Puts z e m w = (w ≡ (known_after z e m.0 0, m.1)) × IsSeated z w.0.view

  -- nothing was changed, and the view is as views of a kept state are
  abbrev pub Rests : Setup → Me S (Known X) → Me S (Known X) → Type 0
  Rests z m w = (w ≡ m) × IsSeated z m.0.view

-- ---- what a contract says
-- The seat is of this table, and its view is as views of a kept state are
pub record BelongsTo {S X K : Type 0} (t : TableSight K) (s : Seat S (Known X)) : Type 0 where
  pub table : s.table_id ≡ t.id
  pub small : IsSmall t.setup
  pub seated : IsSeated t.setup s.me.0.view

-- The seat may make the event: it is of this table, its view allows the event, and the fact of the slots outlasts it
pub record MayStep {S X K : Type 0} (slot_fact : K → State → List X → List (Option S) → Type 0) (t : TableSight K) (e : Event) (s : Seat S (Known X)) : Type 0 where
  pub seat : BelongsTo t s
  pub may : May t.setup e s.me.0.view
  pub slots : Outlasts (slot_fact t.key) t.setup e

-- The seat may make the event as an act on slots: it is of this table, its view allows the event, and the act keeps the fact of the slots and
-- tells `then`
pub record MayAct {S X K : Type 0} (slot_fact : K → State → List X → List (Option S) → Type 0) (t : TableSight K) (e : Event) (s : Seat S (Known X)) (then : ℕ → Me S (Known X) → Type 0) : Type 0 where
  pub seat : BelongsTo t s
  pub may : May t.setup e s.me.0.view
  pub acts : Acts (slot_fact t.key) t.setup e s.id s.me then

-- whatever the table is while the seat knows this, the state has what the event asks of it beside the view
abbrev pub IsForeseen : {S X K : Type 0} → (K → State → List X → List (Option S) → Type 0) → TableSight K → Event → Seat S (Known X) → Type 0
IsForeseen slot_fact t e s = Foreseen (slot_fact t.key) t.setup e s.id s.me.0

module _ {S X K : Type 0} (t : TableSight K) (e : Event) (s : Seat S (Known X)) where
  -- the place of the word that the event of the seat is a step on
  abbrev pub place_at : ℕ
  place_at = index t.setup (name t.setup e s.me.0.view)

  -- the setup is that of the table, and the place that of the word that the event of the seat is a step on
  pub record StepsAt (z : Setup) (i : ℕ) : Type 0 where
    pub setup : z ≡ t.setup
    pub place : i ≡ place_at

  -- whatever number the event may find in its word, this becomes of it
  abbrev pub WordBecomes : (ℕ → ℕ) → Type 0
  WordBecomes f = (n : ℕ) → IsTold t.setup e s.me.0.view n → word_after e s.me.0.view n ≡ f n

  -- it becomes greater by so much, and is still a number of 64 bits
  abbrev pub WordRises : ℕ → Type 0
  WordRises more = (n : ℕ) → IsTold t.setup e s.me.0.view n → (word_after e s.me.0.view n ≡ n + more) × (n + more < 2 ^ 64)

  -- it becomes less by so much, and had as much
  abbrev pub WordFalls : ℕ → Type 0
  WordFalls less = (n : ℕ) → IsTold t.setup e s.me.0.view n → (word_after e s.me.0.view n ≡ n - less) × (0 < less) × (less ≤ n)

  -- the change makes this of it
  abbrev pub WordChanges : Change → Type 0
  WordChanges (Exchange from to) = WordBecomes (λ n. either (n == from) to n)
  WordChanges (Add more) = WordRises more
  WordChanges (Subtract less) = WordFalls less
  WordChanges (Raise least) = WordBecomes (λ n. max n least)

  -- what becomes of the view is the same whatever number was found
  abbrev pub IsBlind : Type 0
  IsBlind = (n : ℕ) → view_after t.setup e s.me.0.view n ≡ view_after t.setup e s.me.0.view 0

  -- the view of the seat is as after the event, which found the number n
  abbrev pub IsAfter : Seat S (Known X) → ℕ → Type 0
  IsAfter new n = new.me.0.view ≡ view_after t.setup e s.me.0.view n

-- The seat may make the event by a step at this place, and the state has what the event asks of it beside the view
pub record MayStepAt {S X K : Type 0} (slot_fact : K → State → List X → List (Option S) → Type 0) (t : TableSight K) (e : Event) (s : Seat S (Known X)) (z : Setup) (i : ℕ) : Type 0 where
  pub at : StepsAt t e s z i
  pub may : MayStep slot_fact t e s
  pub fits : IsForeseen slot_fact t e s

-- The seat made the event, and keeps its number, what it has beside its view, and its slots
pub record HasMade {S X K : Type 0} (t : TableSight K) (e : Event) (old new : Seat S (Known X)) : Type 0 where
  pub belongs : BelongsTo t new
  pub id : new.id ≡ old.id
  pub beside : new.me.0.beside ≡ old.me.0.beside
  pub slots : new.me.1 ≡ old.me.1
  pub made : new.me.0.made ≡ e ∷ old.me.0.made

-- The event found the number n: what that tells
pub record HasFound {S X K : Type 0} (t : TableSight K) (e : Event) (old new : Seat S (Known X)) (n : ℕ) : Type 0 where
  pub made : HasMade t e old new
  pub told : IsTold t.setup e old.me.0.view n

-- The step was the event, which found the number n: the view after it, and what that tells
pub record StepFinds {S X K : Type 0} (t : TableSight K) (e : Event) (old new : Seat S (Known X)) (n : ℕ) : Type 0 where
  pub view : IsAfter t e old new n
  pub found : HasFound t e old new n

-- The step was the event, and isn't told what it found: the view after it, and what else is known of the seat
pub record StepMakes {S X K : Type 0} (t : TableSight K) (e : Event) (old new : Seat S (Known X)) : Type 0 where
  pub view : IsAfter t e old new 0
  pub made : HasMade t e old new

-- the seat is of the same table, and has the same number
abbrev pub IsSameSeat : {S X : Type 0} → Seat S (Known X) → Seat S (Known X) → Type 0
IsSameSeat old new = (new.table_id ≡ old.table_id) × (new.id ≡ old.id)

-- the slot that the seat took last is this one
abbrev pub HasSlot : {S X : Type 0} → Seat S (Known X) → ℕ → Type 0
HasSlot {S} s slot = (x : S) × (s.me.1 ≡ (slot, x) ∷ rest s.me.1)

-- ---- seats that are made, split and joined, and a table that ends
-- The machine of this key can start with these terms and these slots
pub record MayOpen {S X K : Type 0} (setup_of : K → Setup) (slot_fact : K → State → List X → List (Option S) → Type 0) (x : X) (key : K) (terms : Setup) (first_slots : List S) : Type 0 where
  pub setup : IsSetup (setup_of key)
  pub pages : (setup_of key).pages ≤ 2 ^ 32
  -- the terms are those of the key
  pub terms_are : IsSameStart terms (setup_of key)
  -- the fact of the slots holds at the start, where the first seat has x beside its view
  pub slots : slot_fact key (start (setup_of key)) (x ∷ []) (map some first_slots)

module _ {S X K : Type 0} (setup_of : K → Setup) (x : X) (t : TableSight K) where
  -- the table of this key at its start, and its first seat, which has x beside its view
  pub record IsOpened (key : K) (s : Seat S (Known X)) : Type 0 where
    pub key_is : t.key ≡ key
    pub setup_is : t.setup ≡ setup_of key
    pub belongs : BelongsTo t s
    pub me : s.me ≡ (known_with (opener (setup_of key)) x, [])

module _ {S X K : Type 0} (x : X) (t : TableSight K) where
  -- a seat that was split off with so many draws, and has x beside its view
  abbrev pub IsSplitOff : ℕ → Seat S (Known X) → Type 0
  IsSplitOff draws s = BelongsTo t s × (s.me ≡ (known_with (newcomer t.setup 0 draws) x, []))

-- the seat is of this table, has kept its number and its slots, and knows this
abbrev pub NowKnows : {S X K : Type 0} → TableSight K → Seat S (Known X) → Seat S (Known X) → Known X → Type 0
NowKnows t old new k = BelongsTo t new × (new.id ≡ old.id) × (new.me ≡ (k, old.me.1))

-- a table that ends has so many words and slots
abbrev pub HasCounts : {K : Type 0} → TableSight K → ℕ → ℕ → Type 0
HasCounts t words slots = (words ≡ count t.setup) × (slots ≡ t.id.slots)

-- the words and slots of a table that ended are those of a state that keeps the rule, in which the seat knew what it knows
abbrev pub EndsWith : {S X K : Type 0} → (K → State → List X → List (Option S) → Type 0) → TableSight K → Seat S (Known X) → List ℕ → List S → Type 0
EndsWith slot_fact t s words slots = Final (Seen (Holds (slot_fact t.key) t.setup) s.id s.me.0) words slots
