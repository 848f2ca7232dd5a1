-- What memory is taken for before a table is made.
use Rattle.std.specs.Prelude.{◌≡◌, ℕ, ◌+◌, ◌<◌, ◌≤◌, length, replicate}
use Rattle.std.specs.Vec.{vec_capacity, vec_len}
use Rattle.pmem_trait.specs.declared.medium.Medium.{Ghosts}
use Rattle.shadow_pages.specs.PageMap.{PageMap, Holds, IsFree, IsOneToOne}
use Rattle.stm_slots.specs.declared.slot.Slot.TheVariants.{Empty}
use Rattle.tiny_stm.specs.declared.room.Room.{Room}

-- each of the first so many pages is in the frame of its own number, and the other frames are free
pub record HasFirst (pages frames : ℕ) (placed : ℕ) (map : PageMap) : Type 0 where
  pub pages_are : map.pages ≡ pages
  pub frames_are : length map.frames ≡ frames
  pub one_to_one : IsOneToOne map
  pub each : (frame : ℕ) → frame < placed → Holds map frame frame
  pub free : (frame : ℕ) → placed ≤ frame → frame < frames → IsFree map frame

-- All frames have their first pages; there is an empty slot for each box, and room for one more and for a record of each
pub record IsRoom {M : Type 0} {ghosts : Ghosts M} (pages frames boxes : ℕ) (room : Room M ghosts) : Type 0 where
  pub map : HasFirst pages frames frames room.pager
  pub slots : room.slots.items ≡ replicate boxes Empty
  pub one_more : boxes + 1 ≤ vec_capacity room.slots
  pub none : vec_len room.rest ≡ 0
  pub rest : boxes ≤ vec_capacity room.rest
