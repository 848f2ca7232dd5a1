-- The map of pages agrees with the page entries.
use Rattle.std.specs.Prelude.{◌≡◌, ℕ, ◌<◌, length, slice_index}
use Rattle.core_events.specs.Setups.{Setup, frame_in}
use Rattle.shadow_pages.specs.PageMap.{PageMap, Holds, IsOneToOne}
use Rattle.stm_slots.specs.Stage.{Stage}

-- A page is in a frame of the map where its entry names that frame; where there are as many frames as pages, no page is absent.
pub record IsMapped (z : Setup) (s : Stage) (map : PageMap) : Type 0 where
  pub pages : map.pages ≡ z.pages
  pub frames : length map.frames ≡ z.frames
  pub one_to_one : IsOneToOne map
  pub shows : (p : ℕ) → p < z.pages → 0 < slice_index s.entries p → Holds map (frame_in (slice_index s.entries p)) p
  pub shown : (p f : ℕ) → Holds map f p → (0 < slice_index s.entries p) × (frame_in (slice_index s.entries p) ≡ f)
  pub all : z.frames ≡ z.pages → (p : ℕ) → p < z.pages → 0 < slice_index s.entries p
