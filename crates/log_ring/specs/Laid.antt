-- How the records of a ring lie in its cells, and what a `Ring` keeps of its fields.
use Rattle.std.specs.Prelude.{◌≡◌, ℕ, ◌<◌, ◌≤◌, List, [], ◌∷◌, All, AllPairs, vec_capacity}
use Rattle.dude_base.specs.declared.sizes.Sizes.{Sizes}
use Rattle.dude_base.specs.Sizes.{IsAccepted}
use Rattle.redo_record.specs.Fits.{Logged, first_logged, FollowFrom, cells_used}
use Rattle.redo_record.specs.RingLaws.{slot_after}
use Rattle.log_ring.specs.declared.ring.Ring.TheInside.{Inside}

-- the slot of the oldest record's head; that of the next one's where there is none
abbrev pub oldest_slot : ℕ → List Logged → ℕ
oldest_slot next [] = next
oldest_slot next (l ∷ ls) = l.slot

-- Each record has cells, and its number is below those of the later ones. From the oldest one's head on they follow one
-- another up to the next slot, and take no more cells than there are.
pub record AreLaid (s : Sizes) (next : ℕ) (logged : List Logged) : Type 0 where
  pub some : All (λ l. 1 ≤ l.cells) logged
  pub rising : AllPairs (λ l m. l.last < first_logged m) logged
  pub oldest : oldest_slot next logged < s.cells
  pub follow : FollowFrom s (oldest_slot next logged) logged
  pub ends : slot_after s (oldest_slot next logged) (cells_used logged) ≡ next
  pub few : cells_used logged ≤ s.cells

-- What a `Ring` keeps of its fields: a ring and a next slot of the image, and records that are laid out before that slot.
pub record IsKeptRing (a : Inside) : Type 0 where
  pub accepted : IsAccepted a.place
  pub ring : a.ring < a.place.rings
  pub next : a.next < a.place.cells
  pub room : a.place.cells ≤ vec_capacity a.records
  pub laid : AreLaid a.place a.next a.records.items
