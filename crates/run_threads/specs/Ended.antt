-- What it is for a run to have ended.
use Rattle.std.specs.Prelude.{◌≡◌, ℕ, ◌≤◌, true, false, IsTrue, List, [], ◌∷◌, ◌++◌, length}
use Rattle.std.specs.List.{Contains}
use Rattle.pmem_trait.specs.Sights.{Risen, Sight, state_now}
use Rattle.pmem_trait.specs.declared.medium.Medium.{Ghosts}
use Rattle.redo_record.specs.Waiting.{Waiting}
use Rattle.back_store.specs.declared.back.Back.{Back}
use Rattle.back_store.specs.Back.{home_now, waiting_now}
use Rattle.back_store.specs.BackView.{medium_of, state_of}
use Rattle.core_events.specs.Entries.{IsLegal}
use Rattle.core_events.specs.Views.{View}
use Rattle.stm_slots.specs.Opening.{setup_of, start_sight}
use Rattle.stm_slots.specs.declared.opening.Opening.{Opening}
use Rattle.tiny_stm.specs.Ended.{HasClosed, HasValuesAt, IsKeptEnd}
use Rattle.tiny_stm.specs.declared.closed.Closed.{Closed}

module _ {M : Type 0} {ghosts : Ghosts M} (sight : M → Sight) where
  -- Transactions were closed.
  pub record WasClosed (c : Closed M ghosts) : Type 0 where
    pub opening : Opening M ghosts
    pub view : View
    pub closed : HasClosed sight opening view c

  -- All up to the last number is announced and in the home, nothing waits, and the back is kept since the start.
  pub record IsEnded (o : Opening M ghosts) (v : View) (last : ℕ) (b : Back M ghosts) : Type 0 where
    pub kept : IsKeptEnd sight o v last b
    pub first : o.terms.first ≤ last
    -- where it is known what the medium gives, each entry read what it says
    pub legal : (setup_of sight o).is_told ≡ true → IsLegal o.terms.first o.terms.opening v.entries
    pub alive : (state_of b).dead ≡ false
    pub none : (w : Waiting) → Contains (waiting_now (state_of b)) w → ⊥
    pub durable : (state_of b).log.durable ≡ last
    pub reproduced : (state_of b).log.reproduced ≡ last
    pub home : IsTrue (sight (medium_of b)).is_visible → HasValuesAt (setup_of sight o) v.entries last (home_now (state_of b).log.sizes (sight (medium_of b)))

  -- The back is dead, and kept since the start.
  pub record IsCutOff (o : Opening M ghosts) (v : View) (last : ℕ) (b : Back M ghosts) : Type 0 where
    pub kept : IsKeptEnd sight o v last b
    pub dead : (state_of b).dead ≡ true
    -- the medium's count of faults rose
    pub cause : Risen (start_sight sight o).faults (sight (medium_of b)).faults

  -- whatever was closed is ended by this back
  abbrev pub Ends : Closed M ghosts → Back M ghosts → Type 0
  Ends c b = (o : Opening M ghosts) (v : View) → HasClosed sight o v c → IsEnded o v c.number b

  -- and then the last number was told last, behind all that was told before the start
  abbrev pub TellsLast : Closed M ghosts → Back M ghosts → Type 0
  TellsLast c b = (o : Opening M ghosts) (v : View) → HasClosed sight o v c → IsTrue (start_sight sight o).is_visible
      → (earlier : List ℕ) × ((state_now (sight (medium_of b))).told ≡ earlier ++ c.number ∷ []) × (length (state_now (start_sight sight o)).told ≤ length earlier)

  -- or cut off
  abbrev pub CutsOff : Closed M ghosts → Back M ghosts → Type 0
  CutsOff c b = (o : Opening M ghosts) (v : View) → HasClosed sight o v c → IsCutOff o v c.number b

-- The rest, the words and the number are as they were, and the image is of the same sizes.
pub record KeepsClosed {M : Type 0} {ghosts : Ghosts M} (old new : Closed M ghosts) : Type 0 where
  pub rest : new.rest ≡ old.rest
  pub words : new.words ≡ old.words
  pub number : new.number ≡ old.number
  pub sizes : (state_of new.back).log.sizes ≡ (state_of old.back).log.sizes
