-- A page leaves its frame, or comes into one, by the holder of the turn: as acts, with which the rule of the slots is kept.
use Rattle.std.proofs.Common.{◌≡◌, ◌≢◌, ℕ, ◌*◌, ◌<◌, true, List, ◌∷◌, map, get_or, set, refl, sym, ap, ◌∙◌, subst, eq-eqb, ne_eqb, arith}
use Rattle.std.specs.Prelude.{Option, Some, None}
use Rattle.std.proofs.lemmas.List.{set-get_or}
use mathlib.Core.Option.{Option as Maybe, some}
use mathlib.Core.Logic.{dite}
use native.Mathlib.Decide.{ℕ_discrete}
use lib.ListN.{get_elem?}
use Rattle.dude_base.specs.declared.limits.TheConstants.{PAGE}
use Rattle.pmem_trait.specs.Sights.{Sight}
use Rattle.pmem_trait.specs.declared.medium.Medium.{Ghosts}
use Rattle.atomic_table.specs.Table.{Act, keeps, Valid, homes_after, carried_after}
use Rattle.core_events.specs.Setups.{Setup, page_of, frame_in, entry_with, without_pins}
use Rattle.core_events.specs.Keyed.{find, total}
use Rattle.core_events.specs.Views.{View}
use Rattle.core_events.specs.Words.{State}
use Rattle.core_events.specs.Events.{entry, evict, show, kept_entry, view_after}
use Rattle.core_events.specs.Conditions.{IsAllowed, after}
use Rattle.core_events.specs.Kept.{Kept}
use Rattle.core_events.specs.KeptPages.{entry_word, pins_at, pins_of}
use Rattle.core_events.specs.Telling.{IsTold}
use Rattle.core_events.proofs.Filled.{entry_some, frame_of_entry}
use Rattle.core_events.proofs.Lists.{unmoved}
use Rattle.core_events.proofs.Pages.{few_pins}
use Rattle.core_events.proofs.Telling.{kept_sized}
use Rattle.core_table.specs.Rules.{Acts}
use Rattle.shadow_pages.specs.PageMap.{PageMap, IsOneToOne, map_with}
use Rattle.stm_slots.specs.KnownLists.{BackLists}
use Rattle.stm_slots.specs.Beside.{Hands, Beside}
use Rattle.stm_slots.specs.Stage.{owner_of, stage_of}
use Rattle.stm_slots.specs.Opening.{setup_of}
use Rattle.stm_slots.specs.Pages.{IsMapped}
use Rattle.stm_slots.specs.Rule.{SlotsKept, SlotsKeptBy}
use Rattle.stm_slots.specs.Turns.{Seated, MappedTo, Follows, map_evicted}
use Rattle.stm_slots.specs.declared.slot.Slot.{Slot}
use Rattle.stm_slots.specs.declared.opening.Opening.{Opening}
use Rattle.stm_slots.proofs.Staged.{some_turn, alone}
use Rattle.stm_slots.proofs.Mapping.{map_left, map_shown, map_turned, remapped}
use Rattle.stm_slots.proofs.Acting.{kept_last, now_kept, now_at}

-- an absent page has the entry 0
absent_word : (o : Option ℕ) (pins n : ℕ) → o ≡ None → n ≡ entry_word o pins → n ≡ 0
absent_word o pins n none is = is ∙ ap (λ q. entry_word q pins) none

module _ {M : Type 0} {ghosts : Ghosts M} (sight : M → Sight) (o : Opening M ghosts) where
  abbrev z : Setup
  z = setup_of sight o

  abbrev fact : State → List Beside → List (Maybe (Slot M ghosts)) → Type 0
  fact c xs homes = SlotsKept sight o (stage_of c) xs homes

  module _ (id : ℕ) (me : Seated M ghosts) (has : me.0.view.turn.has_it ≡ true) (hands : Hands) (is : me.0.beside.turn ≡ Some hands) (m : BackLists) (follows : Follows z hands.next hands.boxes hands.lists m) (p : ℕ) (inside : p < z.pages) where
    abbrev now : Hands
    now = record hands { lists = m }

    abbrev v : View
    v = me.0.view

    abbrev x : Beside
    x = me.0.beside

    -- the holder of the turn keeps this map at last, where the entries are these, and nothing else changed that the rule reads
    keeps_map : (c s : State) (xs : List Beside) (homes : List (Maybe (Slot M ghosts))) (k : Kept z c) (there_v : get_elem? c.views id ≡ some v) (at : get_elem? xs id ≡ some x) (f : fact c xs homes) (entries : List ℕ) (w : PageMap) → IsMapped z (record (stage_of c) { entries = entries }) w
        → stage_of s ≡ record (stage_of c) { entries = entries } → fact s (set xs id (record x { turn = Some (record now { map = w }) })) homes
    keeps_map c s xs homes k there_v at f entries w mapped same =
        let y1 : Beside = record x { turn = Some now } in
        kept_last sight o xs id y1 (record x { turn = Some (record now { map = w }) }) homes (record now { map = w }) same
        (remapped sight o (stage_of c) (set xs id y1) homes now (now_kept sight o c xs homes k f id v x there_v at has hands is m follows) id y1 (now_at sight o c xs homes k f id v x there_v at has hands is m follows) (alone z c k id v there_v has) (some_turn z c k id v there_v has) entries w mapped)

    -- ---- the entry is looked at, where the hand of the map may have moved
    pub entry_acts : (w : PageMap) → w.pages ≡ now.map.pages → w.frames ≡ now.map.frames → (IsOneToOne now.map → IsOneToOne w) → Acts fact z (entry p) id me (MappedTo sight o (entry p) now (λ n. w) me)
    entry_acts w pages frames lawful c xs homes k allowed at f =
        let there_v = allowed.is_there in let n : ℕ = get_or c.entries p 0 in
        let kept = now_kept sight o c xs homes k f id v x there_v at has hands is m follows in
        let mapped : IsMapped z (record (stage_of c) { entries = c.entries }) w = map_turned z (stage_of c) now.map w kept.pages pages frames lawful in
        let same : stage_of (after z c id v (entry p)) ≡ stage_of c =
        ap (λ es. record (stage_of c) { entries = es; owners = map owner_of (set c.views id (view_after z (entry p) v n)) }) (set-get_or c.entries p 0)
        ∙ ap (λ os. record (stage_of c) { owners = os }) (unmoved owner_of c.views id v (view_after z (entry p) v n) there_v refl) in (
          keeps,
          record x { turn = Some (record now { map = w }) },
          tt,
          keeps_map c (after z c id v (entry p)) xs homes k there_v at f c.entries w mapped same,
          (λ told. record { told = told; view = refl; beside = refl; slots = refl }),
        )

    -- ---- a page leaves its frame, for one that is absent
    module _ (q : ℕ) (wanted : q < z.pages) (sees_absent : find v.paging.entries q ≡ Some 0) (some_frame : 0 < without_pins (kept_entry v p)) (c : State) (xs : List Beside) (homes : List (Maybe (Slot M ghosts))) (k : Kept z c) (allowed : IsAllowed z c id (evict p) v) (at : get_elem? xs id ≡ some x) (f : fact c xs homes) where
      abbrev n : ℕ
      n = get_or c.entries p 0

      abbrev Evicting : Type 0
      Evicting = (a : Act (Slot M ghosts)) × (y : Beside) × Valid homes me.1 a × fact (after z c id v (evict p)) (set xs id y) (homes_after homes me.1 a)
          × (IsTold z (evict p) v n → MappedTo sight o (evict p) now (map_evicted p v now.map) me n (record { view = view_after z (evict p) v n; beside = y; made = evict p ∷ me.0.made }, carried_after me.1 a))

      kept : SlotsKeptBy sight o (stage_of c) (set xs id (record x { turn = Some now })) homes now
      kept = now_kept sight o c xs homes k f id v x allowed.is_there at has hands is m follows

      -- not all pages are in frames
      fewer : z.frames ≡ z.pages → ⊥
      fewer e =
          let word = k.layers.pages.pins.counted q wanted in let none = ((k.layers.pages.each id v allowed.is_there).turn has).absent q sees_absent in
          let zero_word = absent_word (k.ghost_is.frame q) (total (pins_at q) (map pins_of c.views)) (get_or c.entries q 0) none word in
          let pos = kept.pages.all e q wanted in absurd (omega arith)

      evict_made : n ≡ without_pins (kept_entry v p) → Evicting
      evict_made e =
          let some_entry : 0 < n = omega arith in
          let mapped = map_left z (stage_of c) now.map kept.pages p inside (let l = (kept_sized z c k).entries in omega arith) some_entry fewer in
          let same : stage_of (after z c id v (evict p)) ≡ record (stage_of c) { entries = set c.entries p 0 } =
          ap (λ w. record (stage_of c) { entries = set c.entries p w; owners = map owner_of (set c.views id (view_after z (evict p) v n)) }) (rw (eq-eqb n (without_pins (kept_entry v p)) e) refl)
          ∙ ap (λ os. record (stage_of c) { entries = set c.entries p 0; owners = os }) (unmoved owner_of c.views id v (view_after z (evict p) v n) allowed.is_there refl) in (
            keeps,
            record x { turn = Some (record now { map = map_with now.map (frame_in n) None }) },
            tt,
            keeps_map c (after z c id v (evict p)) xs homes k allowed.is_there at f (set c.entries p 0) (map_with now.map (frame_in n) None) mapped same,
            (λ told. record { told = told; view = refl; beside = ap (λ mp. record x { turn = Some (record now { map = mp }) }) (sym map_is); slots = refl }),
          )
        where
          map_is : map_evicted p v now.map n ≡ map_with now.map (frame_in n) None
          map_is = rw (eq-eqb n (without_pins (kept_entry v p)) e) refl

      evict_missed : n ≢ without_pins (kept_entry v p) → Evicting
      evict_missed e =
          let y1 : Beside = record x { turn = Some now } in
          let same : stage_of (after z c id v (evict p)) ≡ stage_of c =
          ap (λ w. record (stage_of c) { entries = set c.entries p w; owners = map owner_of (set c.views id (view_after z (evict p) v n)) }) (rw (ne_eqb n (without_pins (kept_entry v p)) e) refl)
          ∙ (ap (λ es. record (stage_of c) { entries = es; owners = map owner_of (set c.views id (view_after z (evict p) v n)) }) (set-get_or c.entries p 0)
          ∙ ap (λ os. record (stage_of c) { owners = os }) (unmoved owner_of c.views id v (view_after z (evict p) v n) allowed.is_there refl)) in (
            keeps,
            y1,
            tt,
            record { hands = now; kept = subst (λ st. SlotsKeptBy sight o st (set xs id y1) homes now) (sym same) kept },
            (λ told. record { told = told; view = refl; beside = ap (λ mp. record x { turn = Some (record now { map = mp }) }) (sym map_is); slots = refl }),
          )
        where
          map_is : map_evicted p v now.map n ≡ now.map
          map_is = rw (ne_eqb n (without_pins (kept_entry v p)) e) refl

    pub evict_acts : (q : ℕ) → q < z.pages → find v.paging.entries q ≡ Some 0 → 0 < without_pins (kept_entry v p) → Acts fact z (evict p) id me (MappedTo sight o (evict p) now (map_evicted p v now.map) me)
    evict_acts q wanted sees_absent some_frame c xs homes k allowed at f = dite (ℕ_discrete (get_or c.entries p 0) (without_pins (kept_entry v p))) (evict_made q wanted sees_absent some_frame c xs homes k allowed at f) (evict_missed q wanted sees_absent some_frame c xs homes k allowed at f)

    -- ---- a page comes into a frame
    pub show_acts : (g : ℕ) → g < z.frames → Acts fact z (show p g) id me (MappedTo sight o (show p g) now (λ n. map_with now.map g (Some p)) me)
    show_acts g below c xs homes k allowed at f =
        let there_v = allowed.is_there in let l = k.layers in let can = allowed.may.can in
        let kept = now_kept sight o c xs homes k f id v x there_v at has hands is m follows in
        let first_word : page_of (p * PAGE) ≡ p = omega arith in
        let filled = ((l.pages.each id v there_v).turn has).filled_absent (p * PAGE) g (can.1 (p * PAGE) first_word) in
        let absent : get_or c.entries p 0 ≡ 0 = absent_word (k.ghost_is.frame p) (total (pins_at p) (map pins_of c.views)) (get_or c.entries p 0) (ap k.ghost_is.frame (sym first_word) ∙ filled.0) (l.pages.pins.counted p inside) in
        let free : (q : ℕ) → q < z.pages → 0 < get_or c.entries q 0 → frame_in (get_or c.entries q 0) ≢ g = (λ q lt pos named.
        let word = l.pages.pins.counted q lt in let some_frame = entry_some (k.ghost_is.frame q) (total (pins_at q) (map pins_of c.views)) (subst (λ (n : ℕ). 0 < n) word pos) in
        let entry_is : get_or c.entries q 0 ≡ entry_with some_frame.0 (total (pins_at q) (map pins_of c.views)) = word ∙ ap (λ r. entry_word r (total (pins_at q) (map pins_of c.views))) some_frame.1 in
        let frame : frame_in (get_or c.entries q 0) ≡ some_frame.0 = ap frame_in entry_is ∙ frame_of_entry some_frame.0 (total (pins_at q) (map pins_of c.views)) (few_pins z k.ghost_is c l.threads l.pages q) in
        filled.1 q (some_frame.1 ∙ ap (λ r. Some r) (sym frame ∙ named))) in
        let mapped = map_shown z (stage_of c) now.map kept.pages p inside (let s = (kept_sized z c k).entries in omega arith) g absent below free in
        let same : stage_of (after z c id v (show p g)) ≡ record (stage_of c) { entries = set c.entries p (entry_with g 0) } =
        ap (λ os. record (stage_of c) { entries = set c.entries p (entry_with g 0); owners = os }) (unmoved owner_of c.views id v (view_after z (show p g) v (get_or c.entries p 0)) there_v refl) in (
          keeps,
          record x { turn = Some (record now { map = map_with now.map g (Some p) }) },
          tt,
          keeps_map c (after z c id v (show p g)) xs homes k there_v at f (set c.entries p (entry_with g 0)) (map_with now.map g (Some p)) mapped same,
          (λ told. record { told = told; view = refl; beside = refl; slots = refl }),
        )
