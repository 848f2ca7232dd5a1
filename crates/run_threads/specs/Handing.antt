-- What the back is handed of a rest.
use Rattle.std.specs.Prelude.{ℕ, ◌+◌, ◌<◌, Bool, true, false, List}
use Rattle.dude_base.specs.Records.{first_of}
use Rattle.pmem_trait.specs.declared.medium.Medium.{Ghosts}
use Rattle.back_store.specs.declared.back.Back.{Back}
use Rattle.back_store.specs.BackView.{sight_of, state_of}
use Rattle.run_threads.specs.Bundled.{IsBundled}
use Rattle.run_threads.specs.Ending.{Ending, HasDied, IsUnderWay}
use Rattle.run_threads.specs.declared.open_bundle.OpenBundle.{OpenBundle}
use Rattle.tiny_stm.specs.declared.posted.Posted.{Posted}

module _ {M : Type 0} {ghosts : Ghosts M} where
  -- An ending is under way, and what is to be handed over begins at this place.
  pub record MayGoOn (rest : List Posted) (from : ℕ) (back : Back M ghosts) : Type 0 where
    pub ending : Ending
    pub under : IsUnderWay ending rest from (state_of back) (sight_of back)

  -- The bundle is that of the next records of the rest.
  pub record MayHand (o : OpenBundle) (back : Back M ghosts) : Type 0 where
    pub rest : List Posted
    pub from : ℕ
    pub may : MayGoOn rest from back
    pub bundled : IsBundled (state_of back).log.sizes.cells rest from o

  -- each ending that was under way is so from that place on
  abbrev pub HandsUpTo : List Posted → ℕ → ℕ → Back M ghosts → Back M ghosts → Type 0
  HandsUpTo rest from upto old new = (e : Ending) → IsUnderWay e rest from (state_of old) (sight_of old) → IsUnderWay e rest upto (state_of new) (sight_of new)

  -- in each ending that was under way the back died
  abbrev pub DiesFrom : List Posted → ℕ → Back M ghosts → Back M ghosts → Type 0
  DiesFrom rest from old new = (e : Ending) → IsUnderWay e rest from (state_of old) (sight_of old) → HasDied e (state_of new) (sight_of new)

  -- whichever rest the bundle is of, its records were handed over
  abbrev pub Hands : OpenBundle → Back M ghosts → Back M ghosts → Type 0
  Hands o old new = (rest : List Posted) (from : ℕ) → IsBundled (state_of old).log.sizes.cells rest from o → HandsUpTo rest from o.end old new

  -- or the back died
  abbrev pub Dies : OpenBundle → Back M ghosts → Back M ghosts → Type 0
  Dies o old new = (rest : List Posted) (from : ℕ) → IsBundled (state_of old).log.sizes.cells rest from o → DiesFrom rest from old new

  -- none was handed over, and a number before that of the first one isn't reproduced yet
  pub record WasFull (o : OpenBundle) (old new : Back M ghosts) : Type 0 where
    pub stays : (rest : List Posted) (from : ℕ) → IsBundled (state_of old).log.sizes.cells rest from o → HandsUpTo rest from from old new
    pub late : (state_of old).log.reproduced + 1 < first_of o.bundle

  -- where the ring had room they were handed over
  abbrev pub HandsIf : Bool → OpenBundle → Back M ghosts → Back M ghosts → Type 0
  HandsIf true o old new = Hands o old new
  HandsIf false o old new = WasFull o old new
