-- Words of a page are filled into a frame: what the rest of the state has then, and what the view keeps.
use Rattle.std.proofs.Common.{◌≡◌, ◌==◌, ◌||◌, ◌⊎◌, ℕ, ◌+◌, ◌-◌, ◌*◌, ◌<◌, Bool, true, false, List, [], ◌∷◌, map, get_or, refl, sym, ap, ◌∙◌, subst, inl, inr, ⊎_elim, eq-eqb, ne_eqb, arith}
use Rattle.std.specs.Prelude.{Option, Some, None}
use mathlib.Core.Option.{some}
use mathlib.Core.Logic.{dite}
use native.Mathlib.Decide.{ℕ_discrete}
use lib.ListN.{get_elem?}
use Rattle.dude_base.specs.declared.limits.TheConstants.{PAGE}
use Rattle.pmem_trait.specs.Sights.{Sight}
use Rattle.pmem_trait.specs.declared.medium.Medium.{Ghosts}
use Rattle.atomic_table.specs.declared.shared.Seat.{Seat}
use Rattle.back_store.specs.BackView.{state_of}
use Rattle.core_events.specs.Setups.{Setup, page_of}
use Rattle.core_events.specs.Keyed.{total}
use Rattle.core_events.specs.Views.{View}
use Rattle.core_events.specs.Entries.{value_at, all_entries}
use Rattle.core_events.specs.Events.{fill, refilled}
use Rattle.core_events.specs.Conditions.{IsFilled}
use Rattle.core_events.specs.KeptPages.{entry_word, pins_at, pins_of}
use Rattle.core_events.proofs.Lists.{at_map, eq_of}
use Rattle.core_table.specs.Known.{Known, view_of, beside_of}
use Rattle.core_table.specs.Layout.{TableSight}
use Rattle.core_table.specs.Rules.{Foreseen}
use Rattle.stm_slots.specs.KnownLists.{lists}
use Rattle.shadow_pages.specs.PageMap.{Holds as HasPage}
use Rattle.shadow_pages.proofs.Pagers.{not_empty}
use Rattle.stm_slots.specs.Beside.{Hands, Beside}
use Rattle.stm_slots.specs.Lists.{ListsKept}
use Rattle.stm_slots.specs.Stage.{stage_of}
use Rattle.stm_slots.specs.Opening.{setup_of, start_sight}
use Rattle.stm_slots.specs.QuietSteps.{fact_of}
use Rattle.stm_slots.specs.declared.home.Home.{Home as TheHome}
use Rattle.stm_slots.specs.declared.slot.Slot.{Slot}
use Rattle.stm_slots.specs.declared.opening.Opening.{Opening}
use Rattle.stm_slots.proofs.Acting.{kept_by, now_lists}
use Rattle.stm_slots.proofs.KeptBacks.{same_values}
use Rattle.stm_turns.specs.Holding.{boxes_held, hands_of}
use Rattle.tiny_stm.specs.Filling.{IsFilledIn, MayFill}

-- ---- what the view keeps
-- a word of the page that was filled is so still
refilled_has : (p f : ℕ) (xs : List (ℕ × ℕ)) (i : ℕ) → page_of i ≡ p → IsFilled xs i f → IsFilled (refilled p f xs) i f
refilled_has p f [] i mine h = absurd h
refilled_has p f (x ∷ xs) i mine h = dite (ℕ_discrete (page_of x.0) p)
    (λ same. dite (ℕ_discrete x.1 f)
    (λ hit. rw (eq-eqb x.1 f hit, eq-eqb (page_of x.0) p same) (⊎_elim (λ t. inl t) (λ t. inr (refilled_has p f xs i mine t)) h))
    (λ miss. rw (ne_eqb x.1 f miss) (⊎_elim (λ t. inl t) (λ t. inr (refilled_has p f xs i mine t)) h)))
    (λ other. dite (ℕ_discrete x.1 f)
    (λ hit. rw (eq-eqb x.1 f hit, ne_eqb (page_of x.0) p other) (⊎_elim (λ t. absurd (other (ap page_of t.0 ∙ mine))) (λ t. refilled_has p f xs i mine t) h))
    (λ miss. rw (ne_eqb x.1 f miss) (⊎_elim (λ t. inl t) (λ t. inr (refilled_has p f xs i mine t)) h)))

-- the first words of the page are filled
abbrev pub FilledUpTo : View → ℕ → ℕ → ℕ → Type 0
FilledUpTo v page frame count = (k : ℕ) → k < count → IsFilled v.turn.filled (page * PAGE + k) frame

pub filled_more : (v w : View) (page frame k : ℕ) → k < PAGE → w.turn.filled ≡ (page * PAGE + k, frame) ∷ refilled page frame v.turn.filled → FilledUpTo v page frame k → FilledUpTo w page frame (k + 1)
filled_more v w page frame k small is before j lt =
    subst (λ xs. IsFilled xs (page * PAGE + j) frame) (sym is) (dite (ℕ_discrete j k)
    (λ e. inl (ap (λ (d : ℕ). page * PAGE + d) (sym e), refl))
    (λ less. inr (refilled_has page frame v.turn.filled (page * PAGE + j) (let b : page_of (page * PAGE + j) ≡ page = omega arith in b) (before j (omega arith)))))

pub filled_all : (v : View) (page frame : ℕ) → FilledUpTo v page frame PAGE → IsFilledIn v page frame
filled_all v page frame each i mine =
    let k : ℕ = i - page * PAGE in let low : k < PAGE = omega arith in let is : page * PAGE + k ≡ i = omega arith in
    subst (λ (d : ℕ). IsFilled v.turn.filled d frame) is (each k low)

-- ---- what the rest of the state has
absent_zero : (o : Option ℕ) (pins n : ℕ) → o ≡ None → n ≡ entry_word o pins → n ≡ 0
absent_zero o pins n none is = is ∙ ap (λ q. entry_word q pins) none

by_either : (a b : Bool) → (a || b) ≡ true → (a ≡ true) ⊎ (b ≡ true)
by_either true b e = inl refl
by_either false b e = inr e

same_some : (a b : ℕ) → Some a ≡ Some b → a ≡ b
same_some a b e = cc

module _ {M : Type 0} {ghosts : Ghosts M} (sight : M → Sight) (t : TableSight (Opening M ghosts)) where
  abbrev z : Setup
  z = setup_of sight t.key

  module _ (page frame : ℕ) (words : List ℕ) (seat : Seat (Slot M ghosts) (Known Beside)) (h : TheHome M ghosts) (m : MayFill sight t page frame words seat h) (inside : page < z.pages) (k : ℕ) (small : k < PAGE) where
    abbrev old : Hands
    old = record (hands_of sight h m.room.turn.holding.records m.room.turn.holding.shown (boxes_held z [])) { lists = m.room.turn.holding.stale }

    pub fill_fits : Foreseen (fact_of sight t.key) z (fill page frame (page * PAGE + k) (get_or words k 0)) seat.id seat.me.0
    fill_fits s hs at =
        let i = m.room.turn.holding in let v : View = seat.me.0.view in let c = hs.core in
        let there : get_elem? c.views seat.id ≡ some v = rw (← hs.views) (at_map view_of s.views seat.id seat.me.0 at) in
        let beside = at_map beside_of s.views seat.id seat.me.0 at in
        let kept = kept_by sight t.key c (map beside_of s.views) s.homes hs.kept hs.slots seat.id v seat.me.0.beside there beside i.turn old i.hands (lists (state_of h.back) i.records) i.follows in
        let now : ListsKept z (stage_of c) (lists (state_of h.back) i.records) [] = now_lists sight t.key c (map beside_of s.views) s.homes hs.kept hs.slots seat.id v seat.me.0.beside there beside i.turn old i.hands (lists (state_of h.back) i.records) i.follows in
        let number_is : c.reproduced ≡ m.number = kept.shown ∙ m.shown in
        let zero_word : get_or c.entries page 0 ≡ 0 = absent_zero (hs.kept.ghost_is.frame page) (total (pins_at page) (map pins_of c.views)) (get_or c.entries page 0)
        (((hs.kept.layers.pages.each seat.id v there).turn i.turn).absent page m.room.absent.seen) (hs.kept.layers.pages.pins.counted page inside) in (
          (λ q lt pos named. not_empty h.pager.frames frame q m.free (subst (λ (f : ℕ). HasPage h.pager f q) named (kept.pages.shows q lt pos))),
          (λ y e. let y_is : m.touch ≡ y = same_some m.touch y (sym m.touched ∙ e) in let le = m.reproduced in omega arith),
          (λ told. ⊎_elim
              (λ visible. m.values visible k small ∙ (same_values z c hs.kept (lists (state_of h.back) i.records) now m.number (page * PAGE + k) m.reached
              ∙ ap (λ (n : ℕ). value_at z.opening (all_entries c.views) n (page * PAGE + k)) (sym number_is)))
              (λ all. absurd (let pos = kept.pages.all (eq_of z.frames z.pages all) page inside in omega arith))
              (by_either (start_sight sight t.key).is_visible (z.frames == z.pages) told)),
        )
