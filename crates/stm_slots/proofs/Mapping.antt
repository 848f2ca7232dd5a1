-- A page leaves its frame, and one comes into a frame: the map of pages, and the rule of the slots with it.
use Rattle.std.proofs.Common.{◌≡◌, ◌≢◌, ℕ, ◌<◌, ◌⊎◌, true, List, length, get_or, set, sym, ap, ◌∙◌, subst, ⊎_elim, arith, length-set, get_or-set_same, get_or-set_other}
use Rattle.std.specs.Prelude.{Option, Some, None, slice_get}
use Rattle.std.proofs.lemmas.Option.{slice_get_within}
use mathlib.Core.Option.{Option as Maybe, some}
use mathlib.Core.Logic.{dite}
use native.Mathlib.Decide.{ℕ_discrete}
use lib.ListN.{get_elem?}
use Rattle.pmem_trait.specs.Sights.{Sight}
use Rattle.pmem_trait.specs.declared.medium.Medium.{Ghosts}
use Rattle.core_events.specs.Setups.{Setup, frame_in, entry_with}
use Rattle.core_events.proofs.Filled.{entry_positive, frame_of_entry}
use Rattle.shadow_pages.specs.PageMap.{PageMap, Holds, IsOneToOne, map_with}
use Rattle.shadow_pages.proofs.Elements.{set_same, set_other}
use Rattle.shadow_pages.proofs.Pagers.{same_value, set_has, unset_has}
use Rattle.stm_slots.specs.Beside.{Hands, Beside}
use Rattle.stm_slots.specs.Stage.{Owner, Stage}
use Rattle.stm_slots.specs.Opening.{setup_of}
use Rattle.stm_slots.specs.Pages.{IsMapped}
use Rattle.stm_slots.specs.Rule.{SlotsKeptBy}
use Rattle.stm_slots.specs.declared.slot.Slot.{Slot}
use Rattle.stm_slots.specs.declared.opening.Opening.{Opening}
use Rattle.stm_slots.proofs.Wording.{reworded_by}

-- only the hand moved
pub map_turned : (z : Setup) (s : Stage) (m w : PageMap) → IsMapped z s m → w.pages ≡ m.pages → w.frames ≡ m.frames → (IsOneToOne m → IsOneToOne w) → IsMapped z s w
map_turned z s m w k pages frames lawful =
    let same : (f p : ℕ) → Holds w f p ≡ Holds m f p = λ f p. ap (λ (fs : List (Option ℕ)). slice_get fs f ≡ Some (Some p)) frames in record {
      pages = pages ∙ k.pages;
      frames = ap (λ (fs : List (Option ℕ)). length fs) frames ∙ k.frames;
      one_to_one = lawful k.one_to_one;
      shows = λ p lt pos. rw (same (frame_in (get_or s.entries p 0)) p) (k.shows p lt pos);
      shown = λ p f h. k.shown p f (rw (same f p) at h);
      all = k.all;
    }

module _ (z : Setup) (s : Stage) (m : PageMap) (k : IsMapped z s m) (p : ℕ) (inside : p < z.pages) (sized : p < length s.entries) where
  -- the word of another page
  other_word : (n q : ℕ) → q ≢ p → get_or (set s.entries p n) q 0 ≡ get_or s.entries q 0
  other_word n q other = get_or-set_other s.entries p q n 0 other

  -- ---- the page leaves its frame
  module _ (there_is : 0 < get_or s.entries p 0) (fewer : z.frames ≡ z.pages → ⊥) where
    abbrev f : ℕ
    f = frame_in (get_or s.entries p 0)

    holds : Holds m f p
    holds = k.shows p inside there_is

    frame_below : f < length m.frames
    frame_below = slice_get_within m.frames f (Some p) holds

    left_in : (g q : ℕ) → Holds (map_with m f None) g q → Holds m g q × (g ≢ f)
    left_in g q h = let is = (unset_has m.frames f g q frame_below).0 h in (is.1, is.0)

    pub map_left : IsMapped z (record s { entries = set s.entries p 0 }) (map_with m f None)
    map_left = record {
      pages = k.pages;
      frames = length-set m.frames f None ∙ k.frames;
      one_to_one = record {
        once = λ g h q a b. k.one_to_one.once g h q (left_in g q a).0 (left_in h q b).0;
        inside = λ g q a. k.one_to_one.inside g q (left_in g q a).0;
        hand = (let a = k.one_to_one.hand in let b = length-set m.frames f None in omega arith);
      };
      shows = λ q lt pos. dite (ℕ_discrete q p)
          (λ e. absurd (let w : get_or (set s.entries p 0) q 0 ≡ 0 = ap (λ (d : ℕ). get_or (set s.entries p 0) d 0) e ∙ get_or-set_same s.entries p 0 0 sized in omega arith))
          (λ other. let w = other_word 0 q other in let old = k.shows q lt (omega arith) in
          subst (λ (n : ℕ). Holds (map_with m f None) (frame_in n) q) (sym w) (set_other m.frames f (frame_in (get_or s.entries q 0)) None (λ e. other (same_value m.frames f q p (subst (λ (d : ℕ). Holds m d q) e old) holds)) ∙ old));
      shown = λ q g h. let l = left_in g q h in let w = k.shown q g l.0 in
          let other : q ≢ p = (λ e. l.1 (k.one_to_one.once g f p (subst (λ (d : ℕ). Holds m g d) e l.0) holds)) in
          let same = other_word 0 q other in ((let pos = w.0 in omega arith), ap frame_in same ∙ w.1);
      all = λ e. absurd (fewer e);
    }

  -- ---- the page comes into a frame that no page has
  module _ (f : ℕ) (absent : get_or s.entries p 0 ≡ 0) (below : f < z.frames) (free : (q : ℕ) → q < z.pages → 0 < get_or s.entries q 0 → frame_in (get_or s.entries q 0) ≢ f) where
    not_in : (g : ℕ) → Holds m g p → ⊥
    not_in g h = let pos = (k.shown p g h).0 in absurd (omega arith)

    frame_inside : f < length m.frames
    frame_inside = let e = k.frames in omega arith

    came_in : (g q : ℕ) → Holds (map_with m f (Some p)) g q → ((g ≡ f) × (q ≡ p)) ⊎ ((g ≢ f) × Holds m g q)
    came_in g q h = (set_has m.frames f p g q frame_inside).0 h

    new_word : get_or (set s.entries p (entry_with f 0)) p 0 ≡ entry_with f 0
    new_word = get_or-set_same s.entries p (entry_with f 0) 0 sized

    pub map_shown : IsMapped z (record s { entries = set s.entries p (entry_with f 0) }) (map_with m f (Some p))
    map_shown = record {
      pages = k.pages;
      frames = length-set m.frames f (Some p) ∙ k.frames;
      one_to_one = record {
        once = λ g h q a b. ⊎_elim
            (λ x. ⊎_elim (λ y. x.0 ∙ sym y.0) (λ y. absurd (not_in h (subst (λ (d : ℕ). Holds m h d) x.1 y.1))) (came_in h q b))
            (λ x. ⊎_elim (λ y. absurd (not_in g (subst (λ (d : ℕ). Holds m g d) y.1 x.1))) (λ y. k.one_to_one.once g h q x.1 y.1) (came_in h q b))
            (came_in g q a);
        inside = λ g q a. ⊎_elim (λ x. let e = x.1 in let w = k.pages in omega arith) (λ x. k.one_to_one.inside g q x.1) (came_in g q a);
        hand = (let a = k.one_to_one.hand in let b = length-set m.frames f (Some p) in omega arith);
      };
      shows = λ q lt pos. dite (ℕ_discrete q p)
          (λ e. let w : get_or (set s.entries p (entry_with f 0)) q 0 ≡ entry_with f 0 = ap (λ (d : ℕ). get_or (set s.entries p (entry_with f 0)) d 0) e ∙ new_word in
          let at : frame_in (get_or (set s.entries p (entry_with f 0)) q 0) ≡ f = ap frame_in w ∙ frame_of_entry f 0 (omega arith) in
          subst (λ (d : ℕ). Holds (map_with m f (Some p)) d q) (sym at) (subst (λ (d : ℕ). Holds (map_with m f (Some p)) f d) (sym e) (set_same m.frames f (Some p) frame_inside)))
          (λ other. let w = other_word (entry_with f 0) q other in let old = k.shows q lt (omega arith) in
          subst (λ (n : ℕ). Holds (map_with m f (Some p)) (frame_in n) q) (sym w) (set_other m.frames f (frame_in (get_or s.entries q 0)) (Some p) (free q lt (omega arith)) ∙ old));
      shown = λ q g h. ⊎_elim
          (λ x. let w : get_or (set s.entries p (entry_with f 0)) q 0 ≡ entry_with f 0 = ap (λ (d : ℕ). get_or (set s.entries p (entry_with f 0)) d 0) x.1 ∙ new_word in
          ((let pos = entry_positive f 0 in omega arith), ap frame_in w ∙ (frame_of_entry f 0 (omega arith) ∙ sym x.0)))
          (λ x. let other : q ≢ p = (λ e. not_in g (subst (λ (d : ℕ). Holds m g d) e x.1)) in let same = other_word (entry_with f 0) q other in let w = k.shown q g x.1 in ((let pos = w.0 in omega arith), ap frame_in same ∙ w.1))
          (came_in g q h);
      all = λ e q lt. dite (ℕ_discrete q p)
          (λ is. let w : get_or (set s.entries p (entry_with f 0)) q 0 ≡ entry_with f 0 = ap (λ (d : ℕ). get_or (set s.entries p (entry_with f 0)) d 0) is ∙ new_word in let pos = entry_positive f 0 in omega arith)
          (λ other. let w = other_word (entry_with f 0) q other in let old = k.all e q lt in omega arith);
    }

module _ {M : Type 0} {ghosts : Ghosts M} (sight : M → Sight) (o : Opening M ghosts) where
  abbrev z : Setup
  z = setup_of sight o

  -- the holder of the turn changes the map with the entries
  pub remapped : (s : Stage) (xs : List Beside) (homes : List (Maybe (Slot M ghosts))) (hands : Hands) → SlotsKeptBy sight o s xs homes hands → (id : ℕ) (x : Beside) → get_elem? xs id ≡ some x
      → ((j : ℕ) (p : Owner) → get_elem? s.owners j ≡ some p → p.has_turn ≡ true → j ≡ id) → 0 < s.turn → (entries : List ℕ) (m : PageMap) → IsMapped z (record s { entries = entries }) m
      → SlotsKeptBy sight o (record s { entries = entries }) (set xs id (record x { turn = Some (record hands { map = m }) })) homes (record hands { map = m })
  remapped s xs homes hands k id x at_x alone turn entries m mapped = reworded_by sight o s xs homes hands k (record s { entries = entries }) (record hands { map = m }) k.lists.durable k.lists.reproduced k.shown mapped id x at_x alone turn
