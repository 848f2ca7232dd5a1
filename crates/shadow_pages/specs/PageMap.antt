-- Which page is in which frame, and a hand that goes round the frames.
use Rattle.std.specs.Prelude.{◌≡◌, ℕ, ◌+◌, ◌%◌, ◌<◌, List, length, replicate, Option, Some, None, slice_get, slice_set}

-- the number of pages; by frame, the page that is in it, if there is one; the hand, a frame
pub record PageMap : Type 0 where
  pub pages : ℕ
  pub frames : List (Option ℕ)
  pub hand : ℕ

-- so many empty frames, and the hand at frame 0
abbrev pub empty_map : ℕ → ℕ → PageMap
empty_map pages frames = record { pages = pages; frames = replicate frames None; hand = 0 }

-- the map with this page, or none, in the frame
abbrev pub map_with : PageMap → ℕ → Option ℕ → PageMap
map_with map frame page = record map { frames = slice_set map.frames frame page }

-- the page is in this frame
abbrev pub Holds : PageMap → ℕ → ℕ → Type 0
Holds map frame page = slice_get map.frames frame ≡ Some (Some page)

-- no page is in this frame, and there is such a frame
abbrev pub IsFree : PageMap → ℕ → Type 0
IsFree map frame = slice_get map.frames frame ≡ Some None

-- the page is in some frame
pub record IsIn (map : PageMap) (page : ℕ) : Type 0 where
  pub frame : ℕ
  pub holds : Holds map frame page

-- some frame has a page
pub record IsOccupied (map : PageMap) : Type 0 where
  pub frame : ℕ
  pub page : ℕ
  pub holds : Holds map frame page

-- some frame has no page
pub record HasFree (map : PageMap) : Type 0 where
  pub frame : ℕ
  pub free : IsFree map frame

-- The map is one to one: no page is in two frames. Its pages are below their number, and its hand is a frame.
pub record IsOneToOne (map : PageMap) : Type 0 where
  pub once : (frame other page : ℕ) → Holds map frame page → Holds map other page → frame ≡ other
  pub inside : (frame page : ℕ) → Holds map frame page → page < map.pages
  pub hand : map.hand < length map.frames

-- the least frame that has no page
pub record IsLeastFree (map : PageMap) (frame : ℕ) : Type 0 where
  pub free : IsFree map frame
  pub least : (other : ℕ) → other < frame → ¬ IsFree map other

-- the frame at this distance from the hand, going round
abbrev pub frame_at : PageMap → ℕ → ℕ
frame_at map distance = (map.hand + distance) % length map.frames

-- the frame at this distance is occupied, and none at a lesser one is
pub record IsNextOccupied (map : PageMap) (distance : ℕ) : Type 0 where
  pub below : distance < length map.frames
  pub page : ℕ
  pub holds : Holds map (frame_at map distance) page
  pub earlier : (lesser : ℕ) → lesser < distance → IsFree map (frame_at map lesser)

-- The page is that of the first occupied frame from the hand on, and the hand is set behind that frame.
pub record IsVictim (old new : PageMap) (page : ℕ) : Type 0 where
  pub distance : ℕ
  pub next : IsNextOccupied old distance
  pub holds : Holds old (frame_at old distance) page
  pub after : new ≡ record old { hand = frame_at old (distance + 1) }
