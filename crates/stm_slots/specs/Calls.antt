-- What a call of a back makes of the lists by which it is known.
use Rattle.std.specs.Prelude.{◌≡◌, ◌≤◌, false, IsTrue, List, [], ◌++◌, Result, Ok, Err}
use Rattle.std.specs.List.{Contains}
use Rattle.dude_base.specs.Image.{image_words}
use Rattle.dude_base.specs.Records.{RedoBundle, RedoRecord}
use Rattle.pmem_trait.specs.declared.medium.Medium.{Ghosts}
use Rattle.pmem_trait.specs.Sights.{state_now}
use Rattle.redo_record.specs.Waiting.{Waiting}
use Rattle.back_store.specs.declared.back.Back.{Back}
use Rattle.back_store.specs.declared.back_fault.BackFault.{BackFault}
use Rattle.back_store.specs.declared.back_fault.BackFault.TheVariants.{Device, Dead, RingFull}
use Rattle.back_store.specs.Back.{home_now, waiting_now}
use Rattle.back_store.specs.BackView.{sight_of, state_of}
use Rattle.back_store.specs.Images.{HoldsStore}
use Rattle.stm_slots.specs.Known.{Known, Since, told_before}
use Rattle.stm_slots.specs.KnownLists.{lists}
use Rattle.stm_slots.specs.Records.{AreNew, JoinsJust}

-- the records handed over, with those of a bundle that was persisted, or may be there
abbrev pub handed : Result (Unit {0}) BackFault → List RedoRecord → List RedoRecord → List RedoRecord
handed (Ok done) more rs = more ++ rs
handed (Err Device) more rs = more ++ rs
handed (Err Dead) more rs = rs
handed (Err (RingFull used need)) more rs = rs

-- the back is known by these records since then
abbrev pub IsKnownBy : {M : Type 0} {ghosts : Ghosts M} → Since → List RedoRecord → Back M ghosts → Type 0
IsKnownBy b rs back = Known b (lists (state_of back) rs) (sight_of back)

-- where the back was known, it is known by the same records
abbrev pub StaysKnown : {M : Type 0} {ghosts : Ghosts M} → Back M ghosts → Back M ghosts → Type 0
StaysKnown old new = (b : Since) (rs : List RedoRecord) → IsKnownBy b rs old → IsKnownBy b rs new

-- where the back was known, and the records that the bundle joins are new, it is known with them
abbrev pub TakesRecords : {M : Type 0} {ghosts : Ghosts M} → RedoBundle → Result (Unit {0}) BackFault → Back M ghosts → Back M ghosts → Type 0
TakesRecords bundle result old new = (b : Since) (rs more : List RedoRecord) → JoinsJust more bundle → AreNew b.first rs more
    → IsKnownBy b rs old → IsKnownBy b (handed result more rs) new

-- no number is told, where the medium is visible
abbrev pub TellsNone : {M : Type 0} {ghosts : Ghosts M} → Back M ghosts → Back M ghosts → Type 0
TellsNone old new = IsTrue (sight_of old).is_visible → (state_now (sight_of new)).told ≡ (state_now (sight_of old)).told

-- The back isn't dead, and nothing waits in it; its medium is as such a back left it, with room for the image, and the home is the opening one.
pub record IsIdle {M : Type 0} {ghosts : Ghosts M} (b : Since) (back : Back M ghosts) : Type 0 where
  pub alive : (state_of back).dead ≡ false
  pub none : (w : Waiting) → Contains (waiting_now (state_of back)) w → ⊥
  pub durable : (state_of back).log.durable ≡ b.first
  pub reproduced : (state_of back).log.reproduced ≡ b.first
  pub start : sight_of back ≡ b.start
  pub state : state_of back ≡ b.state
  pub room : image_words (state_of back).log.sizes ≤ (sight_of back).len
  pub keeps : HoldsStore (told_before b) (state_of back) (sight_of back)
  pub home : IsTrue (sight_of back).is_visible → home_now (state_of back).log.sizes (sight_of back) ≡ b.opening

-- a back on which nothing waits is known without records
abbrev pub StartsKnown : {M : Type 0} {ghosts : Ghosts M} → Back M ghosts → Type 0
StartsKnown back = (b : Since) → IsIdle b back → IsKnownBy b [] back
