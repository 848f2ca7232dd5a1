-- What it leaves of a back to announce and reproduce all.
use Rattle.std.specs.Prelude.{◌≡◌, ℕ, ◌<◌, ◌≤◌, false, IsTrue, List, [], ◌∷◌, ◌++◌}
use Rattle.std.specs.List.{Contains}
use Rattle.dude_base.specs.Records.{RedoBundle, RedoRecord}
use Rattle.pmem_trait.specs.declared.medium.Medium.{Ghosts}
use Rattle.pmem_trait.specs.Sights.{state_now}
use Rattle.back_store.specs.declared.back.Back.{Back}
use Rattle.back_store.specs.Back.{BackState, IsEnd, waiting_of_ring}
use Rattle.back_store.specs.BackView.{sight_of, state_of}
use Rattle.stm_slots.specs.Calls.{IsKnownBy}
use Rattle.stm_slots.specs.Known.{Since}

-- The back is known by some records.
pub record IsKnownSomehow {M : Type 0} {ghosts : Ghosts M} (back : Back M ghosts) : Type 0 where
  pub since : Since
  pub records : List RedoRecord
  pub known : IsKnownBy since records back

-- The sizes stay, the durable number doesn't fall, and nothing begins to wait.
pub record GoesOn (v w : BackState) : Type 0 where
  pub sizes : w.log.sizes ≡ v.log.sizes
  pub durable : v.log.durable ≤ w.log.durable
  pub alive : w.dead ≡ false → v.dead ≡ false
  pub waits : w.dead ≡ false → (ring : ℕ) (b : RedoBundle) → ring < v.log.sizes.rings → Contains (waiting_of_ring w ring) b → Contains (waiting_of_ring v ring) b

-- All up to the end to which what waits leads is announced and in the home.
pub record HasCaughtUp (v w : BackState) : Type 0 where
  pub end : ℕ
  pub is_end : IsEnd v end
  pub was_alive : v.dead ≡ false
  pub alive : w.dead ≡ false
  pub durable : w.log.durable ≡ end
  pub reproduced : w.log.reproduced ≡ end

-- the durable number alone is told, where the medium is visible
abbrev pub TellsDurable : {M : Type 0} {ghosts : Ghosts M} → Back M ghosts → Back M ghosts → Type 0
TellsDurable old new = IsTrue (sight_of old).is_visible → (state_now (sight_of new)).told ≡ (state_now (sight_of old)).told ++ (state_of new).log.durable ∷ []
