-- Maps of pages: which frames are occupied, and where the hand goes.
use Rattle.std.proofs.Common.{◌≡◌, ◌≢◌, ℕ, zero, suc, ◌+◌, ◌%◌, ◌<◌, List, [], ◌∷◌, length, refl, sym, ap, ◌∙◌, subst, arith, length-set, eq-eqb, ne_eqb}
use Rattle.std.specs.Prelude.{Option, Some, None, slice_get}
use Rattle.std.proofs.Math.Nat.{mod-eq_of_lt}
use Rattle.std.proofs.lemmas.Option.{slice_get_within}
use mathlib.Core.Logic.{dite}
use native.Mathlib.Decide.{ℕ_discrete}
use Rattle.core_events.specs.Setups.{Setup, frame_in, without_pins}
use Rattle.core_events.specs.Keyed.{find}
use Rattle.core_events.specs.Events.{kept_entry}
use Rattle.core_events.specs.Views.{View}
use Rattle.shadow_pages.specs.PageMap.{PageMap, Holds, HasFree, IsFree, IsIn, IsOccupied, IsOneToOne, IsVictim, frame_at, map_with}
use Rattle.shadow_pages.proofs.Elements.{set_same}
use Rattle.shadow_pages.proofs.Pagers.{unset_has}
use Rattle.stm_slots.specs.Turns.{map_evicted}
use Rattle.tiny_stm.specs.Paging.{HasPins, IsMapOf}

-- a list has something at each place
something : {X : Type 0} (xs : List X) (i : ℕ) → i < length xs → (x : X) × (slice_get xs i ≡ Some x)
something [] i lt = absurd (omega arith)
something (x ∷ xs) zero lt = (x, refl)
something (x ∷ xs) (suc i) lt = something xs i (omega arith)

full_frame : (map : PageMap) (f : ℕ) (x : Option ℕ) → slice_get map.frames f ≡ Some x → ¬ HasFree map → (p : ℕ) × Holds map f p
full_frame map f None is full = absurd (full (record { frame = f; free = is }))
full_frame map f (Some p) is full = (p, is)

-- where no frame is free, each has a page
pub occupied_at : (map : PageMap) (f : ℕ) → f < length map.frames → ¬ HasFree map → (p : ℕ) × Holds map f p
occupied_at map f lt full = let x = something map.frames f lt in full_frame map f x.0 x.1 full

pub some_occupied : (map : PageMap) → IsOneToOne map → ¬ HasFree map → IsOccupied map
some_occupied map one full = let p = occupied_at map map.hand one.hand full in record { frame = map.hand; page = p.0; holds = p.1 }

-- the hand stands at its own frame
hand_frame : (map : PageMap) → IsOneToOne map → frame_at map 0 ≡ map.hand
hand_frame map one = ap (λ n. n % length map.frames) (let e : map.hand + 0 ≡ map.hand = omega arith in e) ∙ mod-eq_of_lt one.hand

-- where no frame is free the victim is the page at the hand
pub victim_here : (old new : PageMap) (page : ℕ) → IsVictim old new page → ¬ HasFree old → IsOneToOne old → Holds old old.hand page × (new ≡ record old { hand = frame_at old 1 })
victim_here old new page v full one =
    let near : v.distance ≡ 0 = dite (ℕ_discrete v.distance 0) (λ e. e) (λ far. absurd (full (record { frame = frame_at old 0; free = v.next.earlier 0 (omega arith) }))) in
    (subst (λ (f : ℕ). Holds old f page) (ap (frame_at old) near ∙ hand_frame old one) v.holds, v.after ∙ ap (λ (d : ℕ). record old { hand = frame_at old (d + 1) }) near)

-- ---- a page leaves its frame
pub still_out : (map : PageMap) (f page : ℕ) → f < length map.frames → ¬ IsIn map page → ¬ IsIn (map_with map f None) page
still_out map f page lt out is = out (record { frame = is.frame; holds = ((unset_has map.frames f is.frame page lt).0 is.holds).1 })

pub now_free : (map : PageMap) (f p : ℕ) → Holds map f p → IsFree (map_with map f None) f
now_free map f p holds = set_same map.frames f None (slice_get_within map.frames f (Some p) holds)

-- the frame is one of the setup
pub free_inside : (z : Setup) (map : PageMap) (f : ℕ) → IsMapOf z map → IsFree map f → f < z.frames
free_inside z map f m free = let lt = slice_get_within map.frames f None free in let e = m.frames in omega arith

-- the map is that of an eviction that found the entry kept, or another one
pub evicted_map : (p n : ℕ) (v : View) (map : PageMap) → n ≡ without_pins (kept_entry v p) → map_evicted p v map n ≡ map_with map (frame_in n) None
evicted_map p n v map e = rw (eq-eqb n (without_pins (kept_entry v p)) e) refl

pub missed_map : (p n : ℕ) (v : View) (map : PageMap) → n ≢ without_pins (kept_entry v p) → map_evicted p v map n ≡ map
missed_map p n v map e = rw (ne_eqb n (without_pins (kept_entry v p)) e) refl

-- the entry kept is the one found last
pub kept_is : (v : View) (p n : ℕ) → find v.paging.entries p ≡ Some n → kept_entry v p ≡ n
kept_is v p n e = rw e refl

-- the map where a page was dropped whose entry was the kept one
pub dropped_map : (v : View) (p n kept : ℕ) (map new : PageMap) → find v.paging.entries p ≡ Some kept → kept ≡ without_pins kept → n ≡ kept → new ≡ map_with map (frame_in kept) None → map_evicted p v map n ≡ new
dropped_map v p n kept map new e bare same is =
    let found : n ≡ without_pins (kept_entry v p) = same ∙ (bare ∙ ap without_pins (sym (kept_is v p kept e))) in
    evicted_map p n v map found ∙ (ap (λ (m : ℕ). map_with map (frame_in m) None) same ∙ sym is)

-- another entry was found than the one kept
pub found_other : (v : View) (p n kept : ℕ) → find v.paging.entries p ≡ Some kept → kept ≡ without_pins kept → n ≢ kept → n ≢ without_pins (kept_entry v p)
found_other v p n kept e bare other f = other (f ∙ (ap without_pins (kept_is v p kept e) ∙ sym bare))

pub other_map : (v : View) (p n kept : ℕ) (map : PageMap) → find v.paging.entries p ≡ Some kept → kept ≡ without_pins kept → n ≢ kept → map_evicted p v map n ≡ map
other_map v p n kept map e bare other = missed_map p n v map (found_other v p n kept e bare other)

-- the frame of a page that was evicted is free
pub evicted_free : (v : View) (p n kept : ℕ) (map new : PageMap) → find v.paging.entries p ≡ Some kept → kept ≡ without_pins kept → n ≡ kept → Holds map (frame_in kept) p → new ≡ map_evicted p v map n → IsFree new (frame_in kept)
evicted_free v p n kept map new e bare same holds is =
    subst (λ (m : PageMap). IsFree m (frame_in kept)) (sym (is ∙ dropped_map v p n kept map (map_with map (frame_in kept) None) e bare same refl)) (now_free map (frame_in kept) p holds)

-- the map without a page is one of the setup
pub map_less : (z : Setup) (map new : PageMap) (f : ℕ) → IsMapOf z map → new ≡ map_with map f None → IsOneToOne new → IsMapOf z new
map_less z map new f m is one = record {
  pages = ap (λ (w : PageMap). w.pages) is ∙ m.pages;
  frames = ap (λ (w : PageMap). length w.frames) is ∙ (length-set map.frames f None ∙ m.frames);
  one_to_one = one;
}

-- ---- entries
-- an entry without pins is the only one of its frame
pub pins_by_other : (n k : ℕ) → 0 < n → 0 < k → frame_in n ≡ frame_in k → k ≡ without_pins k → n ≢ k → HasPins n
pins_by_other n k some_n some_k frame bare other e = other (omega arith)

pub pins_by_rest : (n : ℕ) → n % 65_536 ≢ 0 → HasPins n
pins_by_rest n rest e = rest (omega arith)

pub bare_by_rest : (n : ℕ) → n % 65_536 ≡ 0 → n ≡ without_pins n
bare_by_rest n rest = omega arith
