-- At the start each of the first pages is in the frame of its own number, and the map that says so agrees with the page entries.
use Rattle.std.proofs.Common.{◌≡◌, ℕ, zero, suc, ◌+◌, ◌<◌, ◌≤◌, length, get_or, refl, sym, ap, ◌∙◌, subst, arith, lt-ltb, le-ltb}
use Rattle.std.specs.Prelude.{Some, if◌then◌else◌, ltb}
use Rattle.std.proofs.lemmas.Option.{slice_get_within}
use mathlib.Core.Logic.{dite}
use native.Mathlib.Decide.{dec_lt}
use Rattle.core_events.specs.Setups.{Setup, entry_with, frame_in}
use Rattle.core_events.specs.Partings.{first_entries, start}
use Rattle.core_events.proofs.Filled.{entry_positive, frame_of_entry}
use Rattle.shadow_pages.specs.PageMap.{PageMap, Holds, IsOneToOne}
use Rattle.shadow_pages.proofs.Pagers.{same_value}
use Rattle.stm_slots.specs.Stage.{stage_of}
use Rattle.stm_slots.specs.Pages.{IsMapped}

entry_at : (frames p more i : ℕ) → i < more → get_or (first_entries frames p more) i 0 ≡ (if ltb (p + i) frames then entry_with (p + i) 0 else 0)
entry_at frames p zero i lt = absurd (omega arith)
entry_at frames p (suc more) zero lt = let e : p + 0 ≡ p = omega arith in rw e refl
entry_at frames p (suc more) (suc i) lt = let e : p + suc i ≡ p + 1 + i = omega arith in rw e (entry_at frames (p + 1) more i (omega arith))

module _ (z : Setup) where
  in_frame : (p : ℕ) → p < z.pages → p < z.frames → get_or (first_entries z.frames 0 z.pages) p 0 ≡ entry_with p 0
  in_frame p lt below = entry_at z.frames 0 z.pages p lt ∙ (let e : 0 + p ≡ p = omega arith in rw (e, lt-ltb p z.frames below) refl)

  absent : (p : ℕ) → p < z.pages → z.frames ≤ p → get_or (first_entries z.frames 0 z.pages) p 0 ≡ 0
  absent p lt over = entry_at z.frames 0 z.pages p lt ∙ (let e : 0 + p ≡ p = omega arith in rw (e, le-ltb p z.frames over) refl)

  pub mapped_first : (m : PageMap) → m.pages ≡ z.pages → length m.frames ≡ z.frames → IsOneToOne m → z.frames ≤ z.pages → ((f : ℕ) → f < z.frames → Holds m f f) → IsMapped z (stage_of (start z)) m
  mapped_first m pages frames lawful few each = record {
    pages = pages;
    frames = frames;
    one_to_one = lawful;
    shows = λ p lt pos. dite (dec_lt p z.frames)
        (λ below. let at : frame_in (get_or (first_entries z.frames 0 z.pages) p 0) ≡ p = ap frame_in (in_frame p lt below) ∙ frame_of_entry p 0 (omega arith) in subst (λ (f : ℕ). Holds m f p) (sym at) (each p below))
        (λ over. absurd (let e = absent p lt (omega arith) in omega arith));
    shown = λ p f holds.
        let within = slice_get_within m.frames f (Some p) holds in let below : f < z.frames = omega arith in
        let same : p ≡ f = same_value m.frames f p f holds (each f below) in
        let e : get_or (first_entries z.frames 0 z.pages) p 0 ≡ entry_with p 0 = in_frame p (omega arith) (omega arith) in
        ((let pos = entry_positive p 0 in omega arith), ap frame_in e ∙ (frame_of_entry p 0 (omega arith) ∙ same));
    all = λ e p lt. let w = in_frame p lt (omega arith) in let pos = entry_positive p 0 in omega arith;
  }
