-- A draw and a post as steps of a seat of the table.
use Rattle.std.proofs.Common.{◌≡◌, ℕ, ◌<◌, ◌⊎◌, List, ◌∷◌, sym, ap, ◌∙◌, subst, ⊎_elim, arith, true}
use Rattle.std.specs.Prelude.{Some}
use Rattle.std.proofs.lemmas.Bool.{false≢true}
use mathlib.Core.Logic.{dite}
use native.Mathlib.Decide.{dec_lt}
use Rattle.dude_base.specs.Records.{RedoRecord}
use Rattle.dude_base.specs.declared.write.Write.{Write}
use Rattle.pmem_trait.specs.Sights.{Sight}
use Rattle.pmem_trait.specs.declared.medium.Medium.{Ghosts}
use Rattle.atomic_table.specs.Table.{rest, carried_after}
use Rattle.atomic_table.specs.declared.shared.Seat.{Seat}
use Rattle.core_events.specs.Setups.{Setup, box_of}
use Rattle.core_events.specs.Keyed.{or_else}
use Rattle.core_events.specs.Views.{View, About}
use Rattle.core_events.specs.Words.{found}
use Rattle.core_events.specs.Events.{Event, draw, post, name, next_box, view_after}
use Rattle.core_events.specs.Conditions.{May, record_of}
use Rattle.core_events.specs.Telling.{IsSeated, IsTold}
use Rattle.core_table.specs.Known.{Known}
use Rattle.core_table.specs.Layout.{TableSight}
use Rattle.core_table.specs.Rules.{Acts}
use Rattle.core_table.specs.Steps.{BelongsTo, MayAct}
use Rattle.stm_transactions.specs.Boxes.{HasMoved}
use Rattle.stm_slots.specs.Beside.{Beside}
use Rattle.stm_slots.specs.Opening.{setup_of}
use Rattle.stm_slots.specs.QuietSteps.{fact_of}
use Rattle.stm_slots.specs.Turns.{Seated, Moved}
use Rattle.stm_slots.specs.declared.slot.Slot.{Slot}
use Rattle.stm_slots.specs.declared.slot.Slot.TheVariants.{Empty, Record}
use Rattle.stm_slots.specs.declared.opening.Opening.{Opening}
use Rattle.stm_slots.proofs.BoxActs.{draw_acts, post_acts}

-- a decided or void number is one
pub some_number : (z : Setup) (v : View) → IsSeated z v → (v.tx.hand.decided ≡ true) ⊎ (v.tx.hand.void ≡ true) → 0 < v.tx.hand.number
some_number z v s why = dite (dec_lt 0 v.tx.hand.number) (λ pos. pos) (λ ge. absurd (let none = s.no_number (omega arith) in ⊎_elim (λ d. false≢true (sym none.0 ∙ d)) (λ d. false≢true (sym none.1 ∙ d)) why))

module _ {M : Type 0} {ghosts : Ghosts M} (sight : M → Sight) (t : TableSight (Opening M ghosts)) (setup : t.setup ≡ setup_of sight t.key) where
  abbrev SlotSeat : Type 0
  SlotSeat = Seat (Slot M ghosts) (Known Beside)

  -- the number of the next box, by the thread
  box_is : (z : Setup) (v : View) (th : ℕ) → v.part.thread ≡ Some th → box_of z th v.box.next ≡ next_box z v
  box_is z v th e = ap (λ d. box_of z (or_else d 0) v.box.next) (sym e)

  pub draw_on : (seat : SlotSeat) (a : About) (ws : List Write) → BelongsTo t seat → May t.setup (draw a ws) seat.me.0.view
      → Acts (fact_of sight t.key) t.setup (draw a ws) seat.id seat.me (Moved sight t.key (draw a ws) ((next_box t.setup seat.me.0.view, Empty) ∷ seat.me.1) seat.me)
  draw_on seat a ws belongs may =
      let z = setup_of sight t.key in let v = seat.me.0.view in let th = may.threaded in
      let inside : th.0 < z.threads = subst (λ (y : Setup). th.0 < y.threads) setup (belongs.seated.thread th.0 th.1) in
      rw setup (subst (λ (b : ℕ). Acts (fact_of sight t.key) z (draw a ws) seat.id seat.me (Moved sight t.key (draw a ws) ((b, Empty) ∷ seat.me.1) seat.me)) (box_is z v th.0 th.1) (draw_acts sight t.key seat.id th.0 seat.me th.1 inside a ws))

  -- what was told at the number found is told at 0, where that was found
  told_at_none : (me : Seated M ghosts) (left : List (ℕ × Slot M ghosts)) (n : ℕ) (w : Seated M ghosts) → Moved sight t.key post left me n w → Moved sight t.key post left me 0 w
  told_at_none me left n w m = subst (λ (d : ℕ). Moved sight t.key post left me d w) m.told.word m

  pub post_on : (seat : SlotSeat) (left : List (ℕ × Slot M ghosts)) → BelongsTo t seat → May t.setup post seat.me.0.view → seat.me.1 ≡ (next_box t.setup seat.me.0.view, Record (record_of seat.me.0.view.tx.hand)) ∷ left
      → Acts (fact_of sight t.key) t.setup post seat.id seat.me (λ n. Moved sight t.key post left seat.me 0)
  post_on seat left belongs may slots =
      let z = setup_of sight t.key in let v = seat.me.0.view in let th = may.threaded in
      let inside : th.0 < z.threads = subst (λ (y : Setup). th.0 < y.threads) setup (belongs.seated.thread th.0 th.1) in
      let pos = some_number t.setup v belongs.seated may.can.0 in
      let here : seat.me.1 ≡ (box_of z th.0 v.box.next, Record (record_of v.tx.hand)) ∷ left = slots ∙ ap (λ (b : ℕ). (b, Record (record_of v.tx.hand)) ∷ left) (ap (λ (y : Setup). next_box y v) setup ∙ sym (box_is z v th.0 th.1)) in
      let acts = post_acts sight t.key seat.id th.0 seat.me th.1 inside left here pos in
      rw setup (λ c xs homes k allowed at f. let a = acts c xs homes k allowed at f in (a.0, a.1, a.2, a.3, (λ told. told_at_none seat.me left (found c (name z post v)) (record { view = view_after z post v (found c (name z post v)); beside = a.1; made = post ∷ seat.me.0.made }, carried_after seat.me.1 a.0) (a.4 told))))

  pub has_moved : (old new : SlotSeat) (e : Event) (left : List (ℕ × Slot M ghosts)) (n : ℕ) → BelongsTo t old → new.table_id ≡ old.table_id → new.id ≡ old.id → Moved sight t.key e left old.me n new.me → HasMoved t e left old new n
  has_moved old new e left n belongs table id m = record {
    belongs = record { table = table ∙ belongs.table; small = belongs.small; seated = rw (setup, m.view) m.told.after };
    id = id;
    view = rw setup m.view;
    beside = m.beside;
    made = m.made;
    slots_are = m.slots;
    told = rw setup m.told;
  }

  -- ---- a record was laid into the slot that a seat took last
  module _ (old mid : SlotSeat) (slot : ℕ) (r : RedoRecord) (belongs : BelongsTo t old) (table : mid.table_id ≡ old.table_id) (me : mid.me ≡ (old.me.0, (slot, Record r) ∷ rest old.me.1)) where
    known_is : mid.me.0 ≡ old.me.0
    known_is = ap (λ (m : Seated M ghosts). m.0) me

    slots_are : mid.me.1 ≡ (slot, Record r) ∷ rest old.me.1
    slots_are = ap (λ (m : Seated M ghosts). m.1) me

    left_is : rest mid.me.1 ≡ rest old.me.1
    left_is = ap (λ (l : List (ℕ × Slot M ghosts)). rest l) slots_are

    laid_belongs : BelongsTo t mid
    laid_belongs = record { table = table ∙ belongs.table; small = belongs.small; seated = subst (λ (k : Known Beside). IsSeated t.setup k.view) (sym known_is) belongs.seated }

    -- it may be posted
    pub may_post : (thread place : ℕ) → May t.setup post old.me.0.view → old.me.0.view.part.thread ≡ Some thread → old.me.0.view.box.next ≡ place → r ≡ record_of old.me.0.view.tx.hand → slot ≡ box_of t.setup thread place
        → MayAct (fact_of sight) t post mid (λ n. Moved sight t.key post (rest mid.me.1) mid.me 0)
    may_post thread place may mine next record_is slot_is =
        let v = old.me.0.view in
        let box : slot ≡ next_box t.setup v = slot_is ∙ (ap (box_of t.setup thread) (sym next) ∙ box_is t.setup v thread mine) in
        let here : mid.me.1 ≡ (next_box t.setup mid.me.0.view, Record (record_of mid.me.0.view.tx.hand)) ∷ rest mid.me.1 =
        slots_are ∙ (ap (λ (b : ℕ). (b, Record r) ∷ rest old.me.1) box ∙ (ap (λ (q : RedoRecord). (next_box t.setup v, Record q) ∷ rest old.me.1) record_is
        ∙ (ap (λ (k : Known Beside). (next_box t.setup k.view, Record (record_of k.view.tx.hand)) ∷ rest old.me.1) (sym known_is) ∙ ap (λ (l : List (ℕ × Slot M ghosts)). (next_box t.setup mid.me.0.view, Record (record_of mid.me.0.view.tx.hand)) ∷ l) (sym left_is)))) in
        let may_mid : May t.setup post mid.me.0.view = subst (λ (k : Known Beside). May t.setup post k.view) (sym known_is) may in
        record { seat = laid_belongs; may = may_mid; acts = post_on mid (rest mid.me.1) laid_belongs may_mid here }

    -- it was posted
    pub was_posted : (new : SlotSeat) → mid.id ≡ old.id → new.table_id ≡ mid.table_id → new.id ≡ mid.id → Moved sight t.key post (rest mid.me.1) mid.me 0 new.me → HasMoved t post (rest old.me.1) old new 0
    was_posted new id table2 id2 m = let h = has_moved mid new post (rest mid.me.1) 0 laid_belongs table2 id2 m in record {
      belongs = h.belongs;
      id = h.id ∙ id;
      view = h.view ∙ ap (λ (k : Known Beside). view_after t.setup post k.view 0) known_is;
      beside = h.beside ∙ ap (λ (k : Known Beside). k.beside) known_is;
      made = h.made ∙ ap (λ (k : Known Beside). post ∷ k.made) known_is;
      slots_are = h.slots_are ∙ left_is;
      told = subst (λ (k : Known Beside). IsTold t.setup post k.view 0) known_is h.told;
    }
