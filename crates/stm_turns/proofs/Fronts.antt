-- Fronts that are found one after another, and those that are left.
use Rattle.std.proofs.Common.{◌≡◌, ℕ, suc, ◌+◌, ◌<◌, ◌≤◌, inl, inr, List, [], ◌∷◌, length, get_or, set, slice_index, refl, sym, ap, ◌∙◌, subst, add-one, arith}
use Rattle.std.proofs.lemmas.Bool.{cases_eq}
use Rattle.std.specs.Prelude.{zero, Option, Some, None}
use Rattle.std.proofs.lemmas.List.{get_or-set_same, get_or-set_other}
use Rattle.core_events.specs.Setups.{Setup}
use Rattle.core_events.specs.Views.{View}
use Rattle.core_events.specs.Events.{Event, view_after}
use Rattle.stm_turns.specs.declared.gathers.TheConstants.{LEFT}
use Rattle.stm_turns.specs.InFront.{AreLeft, InOrder, IsLeast, NoneToTake}
use Rattle.stm_slots.specs.Queues.{place_at}
use Rattle.stm_turns.specs.Gathered.{AreFronts, AreThreads}
use Rattle.stm_turns.specs.Holding.{Held}

-- the least number to take of the first so many threads; LEFT where there is none
abbrev pub KnowsLeast : List ℕ → ℕ → Option ℕ → ℕ → Type 0
KnowsLeast fronts k None n = NoneToTake fronts k × (n ≡ LEFT)
KnowsLeast fronts k (Some t) n = IsLeast fronts k t × (n ≡ get_or fronts t 0)

pub left_none : (threads fronts : List ℕ) → AreLeft threads 0 fronts fronts
left_none threads fronts = record { left = λ i low. absurd (omega (arith, low)); others = λ u none. refl }

-- one thread more is left
pub left_more : (threads old new : List ℕ) (k : ℕ) → slice_index threads k < length new → AreLeft threads k old new → AreLeft threads (k + 1) old (set new (slice_index threads k) LEFT)
left_more threads old new k inside before = record {
  left = λ i low. elim (cases_eq (slice_index threads i) (slice_index threads k)) [
    | inl same ↦ ap (λ x. get_or (set new (slice_index threads k) LEFT) x 0) same ∙ get_or-set_same new (slice_index threads k) LEFT 0 inside
    | inr other ↦ get_or-set_other new (slice_index threads k) (slice_index threads i) LEFT 0 other
        ∙ before.left i (elim (cases_eq i k) [ inl at ↦ absurd (other (ap (λ x. slice_index threads x) at)) | inr past ↦ omega (arith, low, past) ])
  ];
  others = λ u none. get_or-set_other new (slice_index threads k) u LEFT 0 (λ e. none k (omega arith) (sym e)) ∙ before.others u (λ i low. none i (omega (arith, low)));
}

-- the threads of records in hand lie below those of the setup
pub hand_below : (z : Setup) (threads : List ℕ) (count i : ℕ) (next ahead : List ℕ) (hand : List Held) → AreThreads threads count i hand → AreFronts z next hand ahead → (j : ℕ) → i ≤ j → j < count → slice_index threads j < z.threads
hand_below z threads count i next ahead [] are fronts j low high = absurd (omega (arith, are, low, high))
hand_below z threads count i next ahead (p ∷ hand) are fronts j low high = elim (cases_eq i j) [
  | inl here ↦ let same = ap (λ x. slice_index threads x) (sym here) ∙ are.0 in let below = fronts.0 in omega (arith, same, below)
  | inr past ↦ hand_below z threads count (i + 1) (set next p.thread (place_at z p.place 1)) ahead hand are.1 fronts.2 j (omega (arith, low, past)) high
]

-- an event by the setup of the table
pub after_on : (z y : Setup) → z ≡ y → (e : Event) (v w : View) (n : ℕ) → w ≡ view_after y e v n → w ≡ view_after z e v n
after_on z y same e v w n is = subst (λ (a : Setup). w ≡ view_after a e v n) (sym same) is

-- steps that imply others
in_order_weaker : {V : Type 0} (P Q : ℕ → V → V → Type 0) (k : ℕ) → ((u : ℕ) (v w : V) → u < k → P u v w → Q u v w) → (v w : V) → InOrder P k v w → InOrder Q k v w
in_order_weaker P Q zero f v w is = is
in_order_weaker P Q (suc k) f v w is = (is.0, in_order_weaker P Q k (λ u a b lt. f u a b (omega arith)) v is.0 is.1, f k is.0 w (omega arith) is.2)

-- one step more, where each tells of its thread's front
pub in_order_set : {V : Type 0} (P : ℕ → V → V → ℕ → Type 0) (k n : ℕ) (fronts : List ℕ) (v u w : V) → k < length fronts → InOrder (λ i a b. P i a b (get_or fronts i 0)) k v u → P k u w n → InOrder (λ i a b. P i a b (get_or (set fronts k n) i 0)) (k + 1) v w
in_order_set {V} P k n fronts v u w inside before one =
    let Q : ℕ → V → V → Type 0 = λ i a b. P i a b (get_or (set fronts k n) i 0) in
    rw add-one (
      u,
      in_order_weaker (λ i a b. P i a b (get_or fronts i 0)) Q k (λ i a b lt is. subst (P i a b) (sym (get_or-set_other fronts k i n 0 (omega arith))) is) v u before,
      subst (P k u w) (sym (get_or-set_same fronts k n 0 inside)) one,
    )
