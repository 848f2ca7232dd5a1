-- The image that a command works on: made anew or opened, with its opening number told.
use Rattle.std.specs.Prelude.{◌≡◌, ◌⊎◌, ℕ, Bool, true, false, IsTrue, IfErr, Result, List, [], ◌∷◌, ◌++◌, drop, length}
use Rattle.pmem_trait.specs.declared.medium.Medium.{Ghosts}
use Rattle.pmem_trait.specs.Words.{AtLeast}
use Rattle.dude_base.specs.declared.sizes.Sizes.{Sizes}
use Rattle.pmem_trait.specs.declared.call.Call.TheVariants.{Tell}
use Rattle.pmem_trait.specs.Sights.{Sight, state_now, AtEveryMoment, CallsMade, SomeCalls}
use Rattle.pmem_trait.specs.Reads.{ContentHas, OnlyReads}
use Rattle.back_store.specs.BackView.{medium_of}
use Rattle.image_recovery.specs.Recovered.{RecoversArray, RecoversTo}
use Rattle.dude_recover.specs.Causes.{FormatsSome}
use Rattle.dude_recover.specs.Answers as answers
use Rattle.dude_recover.specs.Opened.{HoldsOpened}
use Rattle.dude_recover.specs.declared.opened.Opened.{Opened}
use Rattle.command_edges.specs.declared.fault.Fault.{Fault}
use Rattle.dude_engine.specs.Opening.{Opening, IsOpening}
use Rattle.dude_engine.specs.Plain.{IsOpeningOf}
use Rattle.command_openings.specs.Openings.{IsOpeningOn}

-- The image is being made and nothing is told yet; or it recovers to the opening, and no greater number was told behind the
-- first `before` ones.
abbrev pub ShowsOpening : Bool → ℕ → Opening → List ℕ → List ℕ → Type 0
ShowsOpening makes before opening told image =
    (IsTrue makes × (drop before told ≡ []))
    ⊎ (AtLeast before told opening.number × RecoversTo image opening.number opening.sizes opening.database)

-- nothing was told, or this number alone
abbrev pub TellsAtMost : ℕ → Sight → Sight → Type 0
TellsAtMost number s t =
    ((state_now t).told ≡ (state_now s).told) ⊎ ((state_now t).told ≡ (state_now s).told ++ number ∷ [])

-- An image is opened at this opening, or a prefix of that is done. Where the image is made anew, `makes` is true.
pub record OpensPartly (makes : Bool) (opening : Opening) (s t : Sight) : Type 0 where
  pub moments : AtEveryMoment (ShowsOpening makes (length (state_now s).told) opening) s t
  pub told : IsTrue s.is_visible → TellsAtMost opening.number s t

-- The image is opened by its calls, and then its number is told; or, where ok is false, the tell failed.
pub record OpensAndTells (ok : Bool) (sizes : Sizes) (number : ℕ) (words : List ℕ) (s t : Sight) : Type 0 where
  pub opened : Sight
  pub opens : answers.Opens true sizes number words s opened
  pub tells : CallsMade (Tell number ∷ []) ok opened t

-- A call of the opening failed, and exactly the calls up to it were made: reads; or reads, and then those that open the image
-- that was recovered; or all these, and then the tell.
abbrev pub FailsOpening : Sight → Sight → Type 0
FailsOpening s t = answers.OpensSome false s t ⊎ answers.BehindRecovery (OpensAndTells false) s t

-- Exactly these calls were made, up to the tell of the opening number: those that make the image, of which the last one tells;
-- or reads, then those that open it, then the tell.
abbrev pub OpensByCalls : Bool → Opening → List ℕ → Sight → Sight → Type 0
OpensByCalls true opening words s t = FormatsSome opening.sizes true s t
OpensByCalls false opening words s t = OpensAndTells true opening.sizes opening.number words s t

-- The image is opened at this opening: its number is told, and the medium holds the image with these words in its home.
pub record Opens (makes : Bool) (opening : Opening) (words : List ℕ) (s t : Sight) : Type 0 where
  pub lawful : IsOpening opening
  pub moments : AtEveryMoment (ShowsOpening makes (length (state_now s).told) opening) s t
  pub told : IsTrue s.is_visible → (state_now t).told ≡ (state_now s).told ++ opening.number ∷ []
  pub holds : HoldsOpened (length (state_now s).told) opening.sizes opening.number words t
  -- exactly the calls of one opening were made, and none failed
  pub calls : OpensByCalls makes opening words s t
  pub ran : SomeCalls true s t

-- the image on a medium, seen so, is opened so
abbrev pub OpensImage : {M : Type 0} {ghosts : Ghosts M} → (M → Sight) → Bool → Opening → M → Opened M ghosts → Type 0
OpensImage sight makes opening medium o = Opens makes opening o.words.items (sight medium) (sight (medium_of o.back))

-- the medium is given back with a prefix of that done
abbrev pub OpensImagePartly : {M : Type 0} → (M → Sight) → Bool → Opening → M → Fault × M → Type 0
OpensImagePartly sight makes opening medium refused = OpensPartly makes opening (sight medium) (sight refused.1)

-- the medium's content recovers to each opening that the opened image has, and the image is opened at it
abbrev pub OpensOwn : {M : Type 0} {ghosts : Ghosts M} → (M → Sight) → M → Opened M ghosts → Type 0
OpensOwn sight medium o =
    (opening : Opening) → IsOpeningOf o opening → IsOpeningOn (sight medium) opening × OpensImage sight false opening medium o

-- the medium's content recovers to the number and the home words of the opened image
abbrev pub RecoversOwn : {M : Type 0} {ghosts : Ghosts M} → (M → Sight) → M → Opened M ghosts → Type 0
RecoversOwn sight medium o = ContentHas (RecoversArray o.sizes o.number o.words.items) (sight medium)

-- the medium is given back, with a prefix of that done for each opening that its content recovers to
abbrev pub OpensOwnPartly : {M : Type 0} → (M → Sight) → M → Fault × M → Type 0
OpensOwnPartly sight medium refused =
    (opening : Opening) → IsOpeningOn (sight medium) opening → OpensImagePartly sight false opening medium refused

-- where the content recovers to nothing, the medium is only read
abbrev pub OnlyReadsUnopened : {X M : Type 0} → (M → Sight) → M → Result X (Fault × M) → Type 0
OnlyReadsUnopened sight medium result = ((opening : Opening) → IsOpeningOn (sight medium) opening → ⊥)
    → IfErr result (λ refused. (ok : Bool) × OnlyReads ok (sight medium) (sight refused.1))
