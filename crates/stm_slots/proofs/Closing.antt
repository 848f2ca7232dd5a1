-- The table is closed: what was kept of the slots is handed on.
use Rattle.std.proofs.Common.{◌≡◌, ◌≢◌, ℕ, ◌*◌, ◌<◌, true, false, List, [], get_or, map, refl, sym, ap, ◌∙◌, subst, ⊎_elim, arith}
use Rattle.std.specs.Prelude.{Option, Some, None}
use Rattle.std.specs.List.{Contains}
use Rattle.std.proofs.lemmas.Bool.{true≢false, cases_eq}
use mathlib.Core.Option.{Option as Maybe, some, some-injective}
use mathlib.Core.Logic.{dite}
use native.Mathlib.Decide.{dec_lt, ℕ_discrete}
use lib.ListN.{get_elem?}
use Rattle.dude_base.specs.declared.limits.TheConstants.{PAGE}
use Rattle.dude_base.specs.Records.{RedoRecord}
use Rattle.pmem_trait.specs.Sights.{Sight}
use Rattle.pmem_trait.specs.declared.medium.Medium.{Ghosts}
use Rattle.atomic_table.specs.Table.{Final, Seen}
use Rattle.core_events.specs.Setups.{Setup, lock_of, page_of, cell_of, entry_with, frame_in, ENTRY}
use Rattle.core_events.specs.Keyed.{total}
use Rattle.core_events.specs.Views.{Entry, View}
use Rattle.core_events.specs.Words.{State}
use Rattle.core_events.specs.Entries.{value_at, writes_of}
use Rattle.core_events.specs.Conditions.{Owns}
use Rattle.core_events.specs.KeptThreads.{part_of, held_of, splits_of}
use Rattle.core_events.specs.KeptTurn.{Holder, holder_of}
use Rattle.core_events.specs.KeptPages.{entry_word, pins_of, pins_at}
use Rattle.core_events.specs.Kept.{Kept}
use Rattle.core_events.specs.Telling.{HasAll}
use Rattle.core_events.proofs.Filled.{counts_one, counts_two, frame_of_entry, one_at}
use Rattle.core_events.proofs.Lists.{at_map, of_map}
use Rattle.core_events.proofs.Pages.{few_pins}
use Rattle.core_events.proofs.Plain.{plain}
use Rattle.core_events.proofs.ReadOut.{read_out}
use Rattle.core_events.proofs.Telling.{kept_seated, kept_sized}
use Rattle.core_table.specs.Known.{Known, view_of}
use Rattle.core_table.specs.Rules.{Holds}
use Rattle.back_store.specs.BackView.{state_of}
use Rattle.stm_slots.specs.KnownLists.{BackLists, lists}
use Rattle.stm_slots.specs.Beside.{Beside}
use Rattle.stm_slots.specs.Stage.{Owner, owner_of, stage_of}
use Rattle.stm_slots.specs.Lists.{ListsKept}
use Rattle.stm_slots.specs.Queues.{back_slot}
use Rattle.stm_slots.specs.Opening.{setup_of}
use Rattle.stm_slots.specs.Rule.{SlotsKept}
use Rattle.stm_slots.specs.KeptBack.{InView}
use Rattle.stm_slots.specs.Pages.{IsMapped}
use Rattle.stm_slots.specs.Closed.{IsClosed}
use Rattle.stm_slots.specs.declared.slot.Slot.{Slot}
use Rattle.stm_slots.specs.declared.slot.Slot.TheVariants.{Empty, Record, Home}
use Rattle.stm_slots.specs.declared.opening.Opening.{Opening}
use Rattle.stm_slots.proofs.Taken.{contains_none}
use Rattle.stm_slots.proofs.KeptBacks.{home_known, home_lists, kept_by, listed, same_values}

-- no other view has a thread's number
module _ (z : Setup) (c : State) (k : Kept z c) (id : ℕ) (v : View) (at : get_elem? c.views id ≡ some v) (has_all : HasAll z v) where
  no_other : (j t : ℕ) (w : View) → get_elem? c.views j ≡ some w → j ≢ id → w.part.thread ≡ Some t → ⊥
  no_other j t w e o mine =
      let ps = map part_of c.views in
      let two = counts_two held_of ps id j v.part w.part (at_map part_of c.views id v at) (at_map part_of c.views j w e) (λ y. o (sym y)) in
      let splits = counts_one splits_of ps id v.part (at_map part_of c.views id v at) in
      let one = one_at w.part.thread t mine in
      let held = k.layers.threads.held in let counted = k.layers.threads.counted in omega arith

  turn_given : v.turn.has_it ≡ false → c.turn ≡ 0
  turn_given none = dite (dec_lt 0 c.turn)
      (λ some_turn. let h = k.layers.turn.turn.held some_turn in let j = h.0 in let u = of_map holder_of c.views j h.1 h.2 in
      let has : u.0.turn.has_it ≡ true = ap (λ (a : Holder). a.has_it) u.2 ∙ h.3 in
      let t = k.layers.turn.turn.holds j h.1 h.2 h.3 in
      let mine : u.0.part.thread ≡ Some t.0 = ap (λ (a : Holder). a.thread) u.2 ∙ t.1 in
      dite (ℕ_discrete j id)
      (λ same. let is : u.0 ≡ v = some-injective u.0 v (sym u.1 ∙ (ap (get_elem? c.views) same ∙ at)) in absurd (true≢false (sym has ∙ (ap (λ (a : View). a.turn.has_it) is ∙ none))))
      (λ other. absurd (no_other j t.0 u.0 u.1 other mine)))
      (λ zero_turn. omega arith)

  module _ (idle : v.tx.hand.number ≡ 0) where
    none_in_view : (n : ℕ) → 0 < n → InView c n → ⊥
    none_in_view n pos there =
        let j = there.0 in let w = there.1 in
        dite (ℕ_discrete j id)
        (λ same. let is : w ≡ v = some-injective w v (sym there.2 ∙ (ap (get_elem? c.views) same ∙ at)) in let e : v.tx.hand.number ≡ n = ap (λ (a : View). a.tx.hand.number) (sym is) ∙ there.3 in omega arith)
        (λ other. let seen = (k.layers.turn.each j w there.2).seen in let e = there.3 in let t = seen.empty (seen.drawn (omega arith)) in no_other j t.0 w there.2 other t.1)

    -- the last view has decided nothing, and no other has a lock
    no_writer : (n j : ℕ) (w : View) → get_elem? c.views j ≡ some w → Owns w n → w.tx.hand.decided ≡ true → ⊥
    no_writer n j w there owns decided = dite (ℕ_discrete j id)
        (λ same. let is : w ≡ v = some-injective w v (sym there ∙ (ap (get_elem? c.views) same ∙ at)) in true≢false (sym decided ∙ (ap (λ (a : View). a.tx.hand.decided) is ∙ ((kept_seated z c k id v at).no_number idle).0)))
        (λ other. let t = (plain z c k).locks.shows n j w there owns in no_other j t.0 w there other t.1)

    -- an entry that isn't 0 names a frame, with some pins
    framed : (p : ℕ) (f : Option ℕ) → k.ghost_is.frame p ≡ f → p < z.pages → 0 < get_or c.entries p 0 → (g : ℕ) × (pins : ℕ) × (get_or c.entries p 0 ≡ entry_with g pins) × (pins < ENTRY)
    framed p None is inside pos = absurd (let e : get_or c.entries p 0 ≡ 0 = k.layers.pages.pins.counted p inside ∙ ap (λ (f : Option ℕ). entry_word f (total (pins_at p) (map pins_of c.views))) is in omega arith)
    framed p (Some f) is inside pos =
        (f, total (pins_at p) (map pins_of c.views), k.layers.pages.pins.counted p inside ∙ ap (λ (f : Option ℕ). entry_word f (total (pins_at p) (map pins_of c.views))) is, few_pins z k.ghost_is c k.layers.threads k.layers.pages p)

    shown_value : z.is_told ≡ true → (i : ℕ) → i < z.pages * PAGE → 0 < get_or c.entries (page_of i) 0 → get_or c.cells (cell_of (frame_in (get_or c.entries (page_of i) 0)) i) 0 ≡ value_at z.opening v.entries c.clock i
    shown_value told i inside pos =
        let p : page_of i < z.pages = omega arith in
        let a = framed (page_of i) (k.ghost_is.frame (page_of i)) refl p pos in
        let f : frame_in (get_or c.entries (page_of i) 0) ≡ a.0 = ap frame_in a.2 ∙ frame_of_entry a.0 a.1 a.3 in
        ap (λ (f : ℕ). get_or c.cells (cell_of f i) 0) f
        ∙ (⊎_elim
        (λ same. same)
        (λ writer. absurd (no_writer (lock_of z i) writer.0 writer.2 writer.3 writer.4 writer.5))
        (((plain z c k).values told).shown i a.0 a.1 inside a.3 a.2)
        ∙ ap (λ (es : List Entry). value_at z.opening es c.clock i) (read_out z c k id v at has_all idle).all)

module _ {M : Type 0} {ghosts : Ghosts M} (sight : M → Sight) (o : Opening M ghosts) where
  abbrev z : Setup
  z = setup_of sight o

  abbrev fact : State → List Beside → List (Maybe (Slot M ghosts)) → Type 0
  fact c xs homes = SlotsKept sight o (stage_of c) xs homes

  -- no view has an open number
  none_open : (c : State) (k : Kept z c) (id : ℕ) (v : View) → get_elem? c.views id ≡ some v → HasAll z v → v.tx.hand.number ≡ 0 → (j t : ℕ) (p : Owner) → get_elem? (map owner_of c.views) j ≡ some p → 0 < p.number → p.thread ≡ Some t → ⊥
  none_open c k id v at has_all idle j t p at_p pos of_p =
      let u = of_map owner_of c.views j p at_p in
      ⊎_elim
      (λ same. let eq : u.0 ≡ v = some-injective u.0 v (sym u.1 ∙ (ap (get_elem? c.views) same ∙ at)) in
      let n : p.number ≡ 0 = ap (λ (a : Owner). a.number) (sym u.2) ∙ (ap (λ (a : View). a.tx.hand.number) eq ∙ idle) in absurd (omega arith))
      (λ other. no_other z c k id v at has_all j t u.0 u.1 other (ap (λ (a : Owner). a.thread) u.2 ∙ of_p))
      (cases_eq j id)

  pub closed : (id : ℕ) (kn : Known Beside) (words : List ℕ) (slots : List (Slot M ghosts)) → Final (Seen (Holds fact z) id kn) words slots → HasAll z kn.view → kn.view.turn.has_it ≡ false → kn.view.tx.hand.number ≡ 0 → IsClosed sight o kn.view words slots
  closed id kn words slots f has_all no_turn idle =
      let s = f.0 in let h = f.1.0 in let c : State = h.core in let v : View = kn.view in
      let at : get_elem? c.views id ≡ some v = rw (← h.views) (at_map view_of s.views id kn f.1.1) in
      let turn = turn_given z c h.kept id v at has_all no_turn in
      let home = h.slots.kept.home turn in let is = home.1 in let boxes = h.slots.kept.boxes in
      let out = read_out z c h.kept id v at has_all idle in
      let l : BackLists = lists (state_of home.0.back) h.slots.hands.lists.records in
      let ls : ListsKept z (stage_of c) l [] = home_lists sight o c h.kept home.0 h.slots.hands is h.slots.kept.lists in record {
        core = c;
        words_are = sym f.2 ∙ h.words;
        read_out = out;
        sized = kept_sized z c h.kept;
        is_view = (id, at);
        home = home.0;
        is_home = f.4 (back_slot z) (Home home.0) home.2;
        back = kept_by sight o c h.kept home.0 h.slots.hands is h.slots.kept.lists;
        records = h.slots.hands.lists.records;
        known = record { lawful = ls.lawful; is = home_known sight o c h.kept home.0 h.slots.hands is };
        listed = λ n has. let r = listed z c h.kept l ls n has in (r.upto, r.writes ∙ ap (λ (es : List Entry). writes_of es n) out.all);
        values = λ n i reached. same_values z c h.kept l ls n i reached ∙ ap (λ (es : List Entry). value_at z.opening es n i) out.all;
        rings = ls.rings;
        sizes = ls.pages;
        empty = λ k at_box. f.4 k Empty (⊎_elim (λ e. e) (λ w. absurd (none_open c h.kept id v at has_all idle w.0 w.1 w.2 w.3 w.4 w.5)) (boxes.free k at_box));
        full = λ k n at_box pos. ⊎_elim
            (λ e. absurd (contains_none (k, e.0) (subst (λ bs. Contains bs (k, e.0)) is.boxes e.1)))
            (λ r. let told = out.boxes n k at_box pos in
            let same : r.0 ≡ record { number = n; writes = writes_of v.entries n } = some-injective r.0 (record { number = n; writes = writes_of v.entries n }) (sym r.1.1 ∙ told.4) in
            subst (λ (q : RedoRecord). get_elem? slots k ≡ some (Record q)) same (f.4 k (Record r.0) r.2))
            (boxes.full k n at_box pos);
        no_view = none_in_view z c h.kept id v at has_all idle;
        pages = subst (IsMapped z (stage_of c)) (sym is.map) h.slots.kept.pages;
        shown = shown_value z c h.kept id v at has_all idle;
      }
