-- A step on the table that is an event of the machine keeps the rule; so does a split of a seat, and a join of two.
use Rattle.std.proofs.Common.{◌≡◌, ℕ, ◌<◌, ◌^◌, List, ◌∷◌, get_or, map, set, refl, sym, ap, ◌∙◌, arith}
use Rattle.std.proofs.lemmas.List.{map-set, set-get_or}
use mathlib.Core.Option.{Option, some}
use lib.ListN.{get_elem?}
use Rattle.atomic_table.specs.Table.{Me, keeps, Allows}
use Rattle.core_events.specs.Setups.{Setup}
use Rattle.core_events.specs.Views.{View, Word}
use Rattle.core_events.specs.Words.{State, found}
use Rattle.core_events.specs.Events.{Event, name, word_after, view_after}
use Rattle.core_events.specs.Conditions.{May, IsAllowed, after}
use Rattle.core_events.specs.Telling.{IsInside, IsTold}
use Rattle.core_events.proofs.Lists.{set_again, at_map}
use Rattle.core_events.proofs.Keeps.{event_keeps}
use Rattle.core_events.proofs.Telling.{added, kept_sized, kept_seated, subtracted, word_inside, tells}
use Rattle.atomic_table.specs.Seated.{TableId}
use Rattle.atomic_table.specs.declared.shared.Seat.{Seat}
use Rattle.core_table.specs.Changes.{changed}
use Rattle.core_table.specs.declared.change.Change.{Change}
use Rattle.core_table.specs.declared.change.Change.TheVariants.{Exchange, Add, Subtract, Raise}
use Rattle.core_table.specs.Places.{index, count}
use Rattle.core_table.specs.Layout.{TableSight}
use Rattle.core_table.specs.Steps.{Does, Puts, Rests, MayAct, IsForeseen, StepsAt, MayStepAt, IsBlind, WordChanges}
use Rattle.core_table.specs.Known.{Known, view_of, beside_of, known_after}
use Rattle.core_table.specs.Rules.{Holds, Outlasts, Foreseen, Acts}
use Rattle.core_table.proofs.Flat.{flat_found, flat_put, placed}

module _ {S X : Type 0} (slot_fact : State → List X → List (Option S) → Type 0) (z : Setup) where
  -- a step whose word becomes what the event says is allowed
  pub by_acting : (e : Event) (f : ℕ → ℕ) (then : ℕ → Me S (Known X) → Type 0) (slots id : ℕ) (me : Me S (Known X)) → IsInside z (name z e me.0.view) → May z e me.0.view → Foreseen slot_fact z e id me.0
      → ((n : ℕ) → n < 2 ^ 64 → IsTold z e me.0.view n → f n ≡ word_after e me.0.view n)
      → Acts slot_fact z e id me then
      → Allows (Holds slot_fact z) slots id me (index z (name z e me.0.view)) f then
  by_acting e f then slots id me inside may fits word acts s h _ at small =
      let c : State = h.core in let v : View = me.0.view in let x : Word = name z e v in
      let n : ℕ = found c x in
      let is_there : get_elem? c.views id ≡ some v = rw (← h.views) (at_map view_of s.views id me.0 at) in
      let sized = kept_sized z c h.kept in
      let here : get_or s.words (index z x) 0 ≡ n = ap (λ (l : List ℕ). get_or l (index z x) 0) h.words ∙ flat_found z c sized x inside in
      let allowed : IsAllowed z c id e v = record { is_there = is_there; may = may; fits = fits s h at } in
      let told = tells z e c id v h.kept allowed in
      let same : f n ≡ word_after e v n = word n (rw (← here) small) told in
      let a = acts c (map beside_of s.views) s.homes h.kept allowed (at_map beside_of s.views id me.0 at) h.slots in
      let w : Known X = record { view = view_after z e v n; beside = a.1; made = e ∷ me.0.made } in
      rw here (
        w,
        a.0,
        a.2,
        record {
          core = after z c id v e;
          words = rw (h.words, same) (flat_put z c sized x (word_after e v n) inside);
          views = map-set view_of s.views id w ∙ ap (λ (l : List View). set l id (view_after z e v n)) h.views;
          kept = event_keeps z e c id v h.kept allowed;
          slots = rw (map-set beside_of s.views id w) (a.3);
        },
        a.4 told,
      )

  -- an act of a step that moves no slot
  pub by_keeping : (e : Event) (then : ℕ → Me S (Known X) → Type 0) (id : ℕ) (me : Me S (Known X)) → Outlasts slot_fact z e → ((n : ℕ) → IsTold z e me.0.view n → then n (known_after z e me.0 n, me.1)) → Acts slot_fact z e id me then
  by_keeping e then id me outlasts told c xs homes k allowed at fact =
      (keeps, me.0.beside, tt, rw (set_again xs id me.0.beside at) (outlasts c id me.0.view xs homes k allowed fact), (λ t. told (found c (name z e me.0.view)) t))

  -- a load by which nothing changes
  pub by_resting : (slots id : ℕ) (me : Me S (Known X)) → Allows (Holds slot_fact z) slots id me 0 (λ n. n) (λ n w. Rests z me w)
  by_resting slots id me s h _ at small =
      let is_there : get_elem? h.core.views id ≡ some me.0.view = rw (← h.views) (at_map view_of s.views id me.0 at) in
      let same : set s.views id me.0 ≡ s.views = set_again s.views id me.0 at in (
        me.0,
        keeps,
        tt,
        record {
          core = h.core;
          words = set-get_or s.words 0 0 ∙ h.words;
          views = ap (map view_of) same ∙ h.views;
          kept = h.kept;
          slots = rw same h.slots;
        },
        (refl, kept_seated z h.core h.kept id me.0.view is_there),
      )

-- the key of a table is the one that it was made with, and its setup that of the key
module _ {K : Type 0} (setup_of : K → Setup) (t : TableSight K) (key : K) (id : TableId) (same : record { id = id; key = key; setup = setup_of key } ≡ t) where
  pub key_of : key ≡ t.key
  key_of = ap (λ (u : TableSight K). u.key) same

  pub setup_of_key : setup_of t.key ≡ t.setup
  setup_of_key = ap setup_of (sym key_of) ∙ ap (λ (u : TableSight K). u.setup) same

-- a change makes what the event says, of each number that it may find
pub changes : {S X K : Type 0} (t : TableSight K) (e : Event) (s : Seat S (Known X)) (x : Change) → WordChanges t e s x → (n : ℕ) → n < 2 ^ 64 → IsTold t.setup e s.me.0.view n → changed x n ≡ word_after e s.me.0.view n
changes t e s (Exchange from to) word n _ told = sym (word n told)
changes t e s (Add more) word n _ told = let w = word n told in added n more w.1 ∙ sym w.0
changes t e s (Subtract less) word n small told = let w = word n told in subtracted n less w.1 w.2 small ∙ sym w.0
changes t e s (Raise least) word n _ told = sym (word n told)

-- what a step on a table owes, in the words of its contract
module _ {S X K : Type 0} (setup_of : K → Setup) (fact_of : K → State → List X → List (Option S) → Type 0) (t : TableSight K) (key : K) (id : TableId) (same : record { id = id; key = key; setup = setup_of key } ≡ t) (wide : id.words ≡ count (setup_of key)) where
  key_is : key ≡ t.key
  key_is = key_of setup_of t key id same

  setup_is : setup_of t.key ≡ t.setup
  setup_is = setup_of_key setup_of t key id same

  -- the step at this place that makes f of the word may tell this
  abbrev pub MayTell : ℕ → Seat S (Known X) → (ℕ → ℕ) → (ℕ → Me S (Known X) → Type 0) → Type 0
  MayTell place seat f then = (seat.table_id ≡ id) × (place < id.words) × Allows (Holds (fact_of key) (setup_of key)) id.slots seat.id seat.me place f then

  module _ (z : Setup) (e : Event) (place : ℕ) (seat : Seat S (Known X)) (at : StepsAt t e seat z place) (fits : IsForeseen fact_of t e seat) (f : ℕ → ℕ) (word : (n : ℕ) → n < 2 ^ 64 → IsTold t.setup e seat.me.0.view n → f n ≡ word_after e seat.me.0.view n) where
    pub step_acting : (then : ℕ → Me S (Known X) → Type 0) → MayAct fact_of t e seat then → MayTell place seat f then
    step_acting then may =
        let inside : IsInside t.setup (name t.setup e seat.me.0.view) = word_inside t.setup e seat.me.0.view may.seat.small.some_lock may.seat.seated may.may in (
          may.seat.table ∙ sym (ap (λ (u : TableSight K). u.id) same),
          (let lt = placed t.setup (name t.setup e seat.me.0.view) inside in let at_place = at.place in let w : id.words ≡ count t.setup = wide ∙ (ap (λ (k : K). count (setup_of k)) key_is ∙ ap count setup_is) in omega arith),
          rw (at.place, key_is, setup_is) (by_acting (fact_of t.key) t.setup e f then id.slots seat.id seat.me inside may.may fits word may.acts),
        )

  -- an event that moves no slot
  module _ (z : Setup) (e : Event) (place : ℕ) (seat : Seat S (Known X)) (may : MayStepAt fact_of t e seat z place) (f : ℕ → ℕ) (word : (n : ℕ) → n < 2 ^ 64 → IsTold t.setup e seat.me.0.view n → f n ≡ word_after e seat.me.0.view n) where
    step_keeping : (then : ℕ → Me S (Known X) → Type 0) → ((n : ℕ) → IsTold t.setup e seat.me.0.view n → then n (known_after t.setup e seat.me.0 n, seat.me.1)) → MayTell place seat f then
    step_keeping then told =
        step_acting z e place seat may.at may.fits f word then (record { seat = may.may.seat; may = may.may.may; acts = by_keeping (fact_of t.key) t.setup e then seat.id seat.me may.may.slots told })

    pub step_does : MayTell place seat f (Does z e seat.me)
    step_does = step_keeping (Does z e seat.me) (λ n told. rw may.at.setup (refl, told))

    pub step_puts : IsBlind t e seat → MayTell place seat f (λ _ w. Puts z e seat.me w)
    step_puts blind = step_keeping (λ _ w. Puts z e seat.me w)
        (λ n told. rw may.at.setup (ap (λ (v : View). (record { view = v; beside = seat.me.0.beside; made = e ∷ seat.me.0.made }, seat.me.1)) (blind n), told.after))
