-- What a crash may leave of each word of the medium: of the mark, of home words, and of heads over the mark.
use Rattle.std.specs.Prelude.{◌≡◌, ℕ, ◌*◌, ◌<◌, ◌⊎◌, List, ◌++◌, length}
use Rattle.std.specs.List.{Contains}
use Rattle.dude_base.specs.declared.limits.TheConstants.{MARK, PAGE}
use Rattle.dude_base.specs.declared.write.Write.{Write}
use Rattle.dude_base.specs.Image.{Cell, cell_at, cell_start, home_word}
use Rattle.dude_base.specs.Records.{RedoBundle, Covers}
use Rattle.dude_base.specs.Writes.{overwritten}
use Rattle.pmem_trait.specs.declared.call.Call.{Call}
use Rattle.pmem_trait.specs.Words.{MayHold}
use Rattle.redo_record.specs.Tags.{number_of, head_tag, IsHeadOver}
use Rattle.redo_record.specs.BackCalls.{reproduce_calls}
use Rattle.redo_record.specs.AppendLaw.{IsBodySettled}
use Rattle.redo_record.specs.SettledRecords.{HoldSettled}
use Rattle.redo_record.specs.BackLaws.{HasSettledHome}
use Rattle.redo_record.specs.Waiting.{Waiting}
use Rattle.core_events.specs.Setups.{Setup}
use Rattle.core_events.specs.Entries.{value_at, all_entries}
use Rattle.core_events.specs.KeptNumbers.{numbers_of}
use Rattle.core_medium.specs.KeptLog.{IsPosted}
use Rattle.core_medium.specs.BoxBundles.{bundle_in}
use Rattle.core_medium.specs.Stores.{medium_of}
use Rattle.core_medium.specs.BackCalls.{MayReproduce, waiting_as}
use Rattle.core_medium.specs.Machines.{Machine}
use Rattle.core_medium.specs.Crash.{IsPersisting}

-- bundles up to a number are being reproduced, by these writes: the calls made are the first ones of their list
pub record IsReproducing (m : Machine) (ws : List Write) (n : ℕ) : Type 0 where
  pub made : 0 < length m.store.calls
  pub bundles : List RedoBundle
  pub may : MayReproduce m.store.log m.store.rest.told bundles ws n
  pub later : List Call
  pub whole : reproduce_calls m.store.log.sizes ws n ≡ m.store.calls ++ later

-- the head in this cell is that of a waiting bundle, all of which is settled
pub record IsSettledHead (m : Machine) (cell : Cell) (tag : ℕ) (b : RedoBundle) : Type 0 where
  pub waits : Contains m.store.log.waiting (waiting_as cell.ring b)
  pub number_is : number_of tag ≡ b.last
  pub held : HoldSettled m.store.log.sizes cell b (medium_of m.store)

-- the head in this cell is that of the bundle which is being persisted, and all of it is settled but perhaps the head's tag
pub record IsOpenHead (z : Setup) (m : Machine) (cell : Cell) (tag : ℕ) (b : RedoBundle) : Type 0 where
  pub place : ℕ
  pub more : List (ℕ × ℕ)
  pub persisting : IsPersisting z m cell.ring place more
  pub bundle_is : b ≡ bundle_in z m.core.records cell.ring place more
  pub slot_is : cell.slot ≡ m.store.next cell.ring
  pub tag_is : tag ≡ head_tag b.last
  pub body : IsBodySettled m.store.log.sizes cell b (medium_of m.store)

-- A crash may leave this tag in this cell, and it is a head over the settled mark.
pub record MayBeHead (m : Machine) (ring slot tag : ℕ) : Type 0 where
  pub ring_is : ring < m.store.log.sizes.rings
  pub slot_is : slot < m.store.log.sizes.cells
  pub may : MayHold ((medium_of m.store).word (cell_start m.store.log.sizes (cell_at ring slot))) tag
  pub over : IsHeadOver m.store.log.reproduced tag

-- The bundle of a head covers posted numbers alone, and waits, or is the one that is being persisted.
pub record HeadBundle (z : Setup) (m : Machine) (ring slot tag : ℕ) : Type 0 where
  pub bundle : RedoBundle
  pub posted : (n : ℕ) → Covers bundle n → IsPosted m.core.boxes (numbers_of m.core.persisted) n
  pub which : IsSettledHead m (cell_at ring slot) tag bundle ⊎ IsOpenHead z m (cell_at ring slot) tag bundle

-- a home word's value is that at a number
abbrev pub IsValueAt : Setup → Machine → ℕ → ℕ → ℕ → Type 0
IsValueAt z m n i x = x ≡ value_at z.opening (all_entries m.core.views) n i

-- The mark is the settled one, or the end of the group that is reproduced, the latter only where the group's home words are settled. A home
-- word is the value at the settled mark, or at that end. A head over the settled mark has its bundle, and no two such heads cover one number.
-- Each waiting bundle is settled in its cells, its tag too
pub record ImagesHave (z : Setup) (m : Machine) : Type 0 where
  pub mark : (x : ℕ) → MayHold ((medium_of m.store).word MARK) x
      → (x ≡ m.store.log.reproduced)
      ⊎ ((ws : List Write) × IsReproducing m ws x × HasSettledHome m.store.log.sizes (overwritten ws m.store.log.home) (medium_of m.store))
  pub homes : (i x : ℕ) → i < z.pages * PAGE → MayHold ((medium_of m.store).word (home_word m.store.log.sizes i)) x
      → IsValueAt z m m.store.log.reproduced i x ⊎ ((ws : List Write) × (n : ℕ) × IsReproducing m ws n × IsValueAt z m n i x)
  pub heads : (ring slot tag : ℕ) → MayBeHead m ring slot tag → HeadBundle z m ring slot tag
  pub apart : (ring slot tag ring2 slot2 tag2 n : ℕ) (one : MayBeHead m ring slot tag) (other : MayBeHead m ring2 slot2 tag2)
      → Covers (heads ring slot tag one).bundle n → Covers (heads ring2 slot2 tag2 other).bundle n → cell_at ring slot ≡ cell_at ring2 slot2
  pub settled : (w : Waiting) → Contains m.store.log.waiting w
      → (slot : ℕ) × (slot < m.store.log.sizes.cells) × HoldSettled m.store.log.sizes (cell_at w.ring slot) w.redo (medium_of m.store)
