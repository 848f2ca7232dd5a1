-- What contracts see of a pass.
use Rattle.std.specs.Prelude.{◌≡◌, ℕ, ◌<◌, true, false, List, [], ◌∷◌, map, max}
use mathlib.Core.Option.{Option as MaybeSlot}
use Rattle.atomic_table.specs.Seated.{TableId}
use Rattle.atomic_table.specs.declared.shared.Seat.{Seat}
use Rattle.pmem_trait.specs.Faults.{up_to_last}
use Rattle.core_events.specs.Setups.{Setup}
use Rattle.core_events.specs.Words.{State}
use Rattle.core_events.specs.Views.{Entry, View}
use Rattle.core_events.specs.Events.{begin, number, see_box, view_after}
use Rattle.core_events.specs.Partings.{newcomer}
use Rattle.core_events.specs.Conditions.{IsIdle}
use Rattle.core_events.specs.Telling.{IsSeated}
use Rattle.core_table.specs.Known.{Known}
use Rattle.core_table.specs.Layout.{TableSight, IsSmall}
use Rattle.core_table.specs.Rules.{no_setup, Outlasts, OutlastsSplit, OutlastsJoin}
use Rattle.stm_transactions.specs.Seats.{IsOf}
use Rattle.stm_transactions.specs.declared.pass_numbers.PassNumbers.{PassNumbers}
use Rattle.stm_transactions.specs.Numbers.{bit, with_refusals}

-- the table of its seat, what the seat knows, or nothing while the seat is out, and the numbers
pub record PassSight (X : Type 0) : Type 0 where
  pub table : TableId
  pub known : List (Known X)
  pub numbers : PassNumbers

-- the view of the one that is known
abbrev pub first_view : {X : Type 0} → List (Known X) → View
first_view [] = newcomer no_setup 0 0
first_view (k ∷ ks) = k.view

-- the view of a pass that has its seat
abbrev pub pass_view : {X : Type 0} → PassSight X → View
pass_view p = first_view p.known

-- the pass has its seat
abbrev pub HasSeat : {X : Type 0} → PassSight X → Type 0
HasSeat {X} p = (k : Known X) × (p.known ≡ k ∷ [])

-- a pass with this seat and these numbers
abbrev pub is_given : {S X : Type 0} → Seat S (Known X) → PassNumbers → PassSight X
is_given s f = record { table = s.table_id; known = s.me.0 ∷ []; numbers = f }

-- the seat of the pass p is out; q is the pass without it
pub record GivesSeat {S X : Type 0} (p q : PassSight X) (s : Seat S (Known X)) : Type 0 where
  pub table : s.table_id ≡ p.table
  pub known : p.known ≡ s.me.0 ∷ []
  pub slots : s.me.1 ≡ []
  pub out : q.known ≡ []
  pub numbers : q.numbers ≡ p.numbers

-- the greatest of the numbers and d
abbrev pub greatest : ℕ → List ℕ → ℕ
greatest d [] = d
greatest d (x ∷ xs) = max x (greatest d xs)

-- the numbers of entries
abbrev pub entry_numbers : List Entry → List ℕ
entry_numbers es = map (λ e. e.number) es

-- what the numbers say of the view
pub record Describes (z : Setup) (f : PassNumbers) (v : View) : Type 0 where
  pub of : IsOf f.thread v
  pub next : v.box.next ≡ f.next
  pub last : f.last ≡ greatest z.first (entry_numbers v.entries)
  pub drawn : f.drawn ≡ greatest 0 v.drawn
  pub left : v.draws ≡ f.left
  pub splits : v.part.splits ≡ f.splits
  pub durable : v.turn.durable ≡ f.durable
  pub met_fault : v.turn.met_fault ≡ f.met_fault
  pub few : up_to_last f.refused ≡ f.refused
  pub opening : f.opening ≡ z.first

-- The pass is of this table, and no transaction of it is open
pub record IsResting {X K : Type 0} (t : TableSight K) (p : PassSight X) : Type 0 where
  pub table : p.table ≡ t.id
  pub small : IsSmall t.setup
  pub seat : HasSeat p
  pub idle : IsIdle (pass_view p)
  pub no_turn : (pass_view p).turn.has_it ≡ false
  pub seated : IsSeated t.setup (pass_view p)
  pub numbers : Describes t.setup p.numbers (pass_view p)

-- The fact of the slots outlasts what passes do where no transaction is open; a new seat has x beside its view
pub record OutlastsPasses {S X K : Type 0} (slot_fact : K → State → List X → List (MaybeSlot S) → Type 0) (x : X) (t : TableSight K) : Type 0 where
  pub split : (draws : ℕ) → OutlastsSplit (slot_fact t.key) t.setup draws x
  pub join : OutlastsJoin (slot_fact t.key) t.setup x
  pub number : Outlasts (slot_fact t.key) t.setup number
  pub see_box : Outlasts (slot_fact t.key) t.setup see_box
  pub begin : Outlasts (slot_fact t.key) t.setup begin

-- q is p after a look at its next box, where this was seen
pub record HasSeen {X K : Type 0} (t : TableSight K) (seen : ℕ) (p q : PassSight X) : Type 0 where
  pub rests : IsResting t q
  pub view : pass_view q ≡ view_after t.setup see_box (pass_view p) seen

-- the box was empty
pub record FindsEmpty {X K : Type 0} (t : TableSight K) (p q : PassSight X) : Type 0 where
  pub looked : HasSeen t 0 p q
  pub empty : (pass_view q).box.is_empty ≡ true
  pub numbers : q.numbers ≡ p.numbers

-- It was full. That counts where the pass had a turn since it last drew a number
pub record IsRefused {X K : Type 0} (t : TableSight K) (seen : ℕ) (p q : PassSight X) : Type 0 where
  pub full : 0 < seen
  pub looked : HasSeen t seen p q
  pub numbers : q.numbers ≡ with_refusals (bit p.numbers.had_turn) p.numbers
