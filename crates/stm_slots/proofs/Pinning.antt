-- A pin and an unpin leave each page in its frame, so the rule of the slots outlasts them.
use Rattle.std.proofs.Common.{◌≡◌, ℕ, ◌<◌, List, map, refl, sym, ap, ◌∙◌, subst, arith}
use Rattle.std.specs.Prelude.{Option, Some, None, slice_index}
use mathlib.Core.Option.{Option as Maybe, some}
use lib.ListN.{get_elem?}
use Rattle.pmem_trait.specs.Sights.{Sight}
use Rattle.pmem_trait.specs.declared.medium.Medium.{Ghosts}
use Rattle.core_events.specs.Setups.{Setup, frame_in, ENTRY}
use Rattle.core_events.specs.Keyed.{total}
use Rattle.core_events.specs.Views.{View}
use Rattle.core_events.specs.Words.{State, found}
use Rattle.core_events.specs.Events.{Event, pin, unpin, name, view_after}
use Rattle.core_events.specs.Conditions.{after}
use Rattle.core_events.specs.Ghosts.{Ghost, ghost_after}
use Rattle.core_events.specs.Layers.{ThreadsIn}
use Rattle.core_events.specs.KeptPages.{PagesKept, entry_word, pins_at, pins_of}
use Rattle.core_events.proofs.Lists.{unmoved}
use Rattle.core_events.proofs.Filled.{entry_positive, frame_of_entry}
use Rattle.core_events.proofs.Pages.{few_pins}
use Rattle.core_events.proofs.PagesKept.{pages_keep}
use Rattle.core_events.proofs.ThreadsKept.{threads_keep}
use Rattle.core_table.specs.Rules.{Outlasts}
use Rattle.shadow_pages.specs.PageMap.{PageMap}
use Rattle.stm_slots.specs.Beside.{Beside}
use Rattle.stm_slots.specs.Stage.{Stage, owner_of, stage_of}
use Rattle.stm_slots.specs.Opening.{setup_of}
use Rattle.stm_slots.specs.Pages.{IsMapped}
use Rattle.stm_slots.specs.Rule.{SlotsKept}
use Rattle.stm_slots.specs.declared.slot.Slot.{Slot}
use Rattle.stm_slots.specs.declared.opening.Opening.{Opening}
use Rattle.stm_slots.proofs.Wording.{reworded}

-- two entries are both 0, or name the same frame
pub record NamesSame (a b : ℕ) : Type 0 where
  pub there : 0 < a → 0 < b
  pub back : 0 < b → 0 < a
  pub frame : 0 < a → frame_in b ≡ frame_in a

names_same : (o : Option ℕ) (a b m n : ℕ) → m < ENTRY → n < ENTRY → a ≡ entry_word o m → b ≡ entry_word o n → NamesSame a b
names_same None a b m n lm ln ea eb = record { there = λ pos. absurd (omega arith); back = λ pos. absurd (omega arith); frame = λ pos. absurd (omega arith) }
names_same (Some f) a b m n lm ln ea eb = record {
  there = λ pos. let q = entry_positive f n in omega arith;
  back = λ pos. let q = entry_positive f m in omega arith;
  frame = λ pos. ap frame_in eb ∙ (frame_of_entry f n ln ∙ (sym (frame_of_entry f m lm) ∙ ap frame_in (sym ea)));
}

-- each entry names the same frame as before
abbrev pub NameSame : Setup → List ℕ → List ℕ → Type 0
NameSame z old new = (p : ℕ) → p < z.pages → NamesSame (slice_index old p) (slice_index new p)

pub entries_same : (z : Setup) (g h : Ghost) (c d : State) → ThreadsIn z g c → PagesKept z g c → ThreadsIn z h d → PagesKept z h d → h.frame ≡ g.frame → NameSame z c.entries d.entries
entries_same z g h c d tc pc td pd frame p lt = names_same (g.frame p) (slice_index c.entries p) (slice_index d.entries p) (total (pins_at p) (map pins_of c.views)) (total (pins_at p) (map pins_of d.views))
    (few_pins z g c tc pc p) (few_pins z h d td pd p) (pc.pins.counted p lt) (pd.pins.counted p lt ∙ ap (λ (f : ℕ → Option ℕ). entry_word (f p) (total (pins_at p) (map pins_of d.views))) frame)

pub mapped_same : (z : Setup) (s : Stage) (entries : List ℕ) (m : PageMap) → NameSame z s.entries entries → IsMapped z s m → IsMapped z (record s { entries = entries }) m
mapped_same z s entries m same k = record {
  pages = k.pages;
  frames = k.frames;
  one_to_one = k.one_to_one;
  shows = λ p lt pos. let q = same p lt in rw (q.frame (q.back pos)) (k.shows p lt (q.back pos));
  shown = λ p f holds. let lt : p < z.pages = (let e = k.pages in let i = k.one_to_one.inside f p holds in omega arith) in let q = same p lt in let w = k.shown p f holds in (q.there w.0, q.frame w.0 ∙ w.1);
  all = λ e p lt. (same p lt).there (k.all e p lt);
}

module _ {M : Type 0} {ghosts : Ghosts M} (sight : M → Sight) (o : Opening M ghosts) where
  abbrev z : Setup
  z = setup_of sight o

  abbrev fact : State → List Beside → List (Maybe (Slot M ghosts)) → Type 0
  fact c xs homes = SlotsKept sight o (stage_of c) xs homes

  kept_same : (s : Stage) (entries : List ℕ) (xs : List Beside) (homes : List (Maybe (Slot M ghosts))) → NameSame z s.entries entries → SlotsKept sight o s xs homes → SlotsKept sight o (record s { entries = entries }) xs homes
  kept_same s entries xs homes same f = let k = f.kept in record {
    hands = f.hands;
    kept = reworded sight o s xs homes f.hands k (record s { entries = entries }) xs f.hands k.lists.durable k.lists.reproduced k.shown (mapped_same z s entries f.hands.map same k.pages) refl k.home k.held;
  }

  -- an event that leaves each page in its frame, and what is read of the view
  leaves_frames : (e : Event) → ((c : State) (id : ℕ) (v : View) (g : Ghost) → get_elem? c.views id ≡ some v → (ghost_after z g c id v e).frame ≡ g.frame)
      → ((c : State) (id : ℕ) (v : View) → get_elem? c.views id ≡ some v → stage_of (after z c id v e) ≡ record (stage_of c) { entries = (after z c id v e).entries }) → Outlasts fact z e
  leaves_frames e frame stage c id v xs homes k allowed f =
      let g = k.ghost_is in let l = k.layers in let d = after z c id v e in
      let same : NameSame z c.entries d.entries = entries_same z g (ghost_after z g c id v e) c d l.threads l.pages (threads_keep z e c id v g l.threads allowed) (pages_keep z e c id v g l.threads l.locks l.turn l.pages allowed) (frame c id v g allowed.is_there) in
      subst (λ s. SlotsKept sight o s xs homes) (sym (stage c id v allowed.is_there)) (kept_same (stage_of c) d.entries xs homes same f)

  pub pin_outlasts : (p : ℕ) → Outlasts fact z (pin p)
  pin_outlasts p = leaves_frames (pin p) (λ c id v g at. refl) (λ c id v at. let e = pin p in let n : ℕ = found c (name z e v) in
      ap (λ os. record (stage_of c) { entries = (after z c id v e).entries; owners = os }) (unmoved owner_of c.views id v (view_after z e v n) at refl))

  pub unpin_outlasts : (p : ℕ) → Outlasts fact z (unpin p)
  unpin_outlasts p = leaves_frames (unpin p) (λ c id v g at. refl) (λ c id v at. let e = unpin p in let n : ℕ = found c (name z e v) in
      ap (λ os. record (stage_of c) { entries = (after z c id v e).entries; owners = os }) (unmoved owner_of c.views id v (view_after z e v n) at refl))
