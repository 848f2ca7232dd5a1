-- What the opening of an image makes and leaves of the medium, by its answer.
use Rattle.std.specs.Prelude.{◌≡◌, ◌⊎◌, ℕ, true, false, IsTrue, List, Bool}
use Rattle.dude_base.specs.declared.sizes.Sizes.{Sizes}
use Rattle.pmem_trait.specs.declared.medium.Medium.{Ghosts}
use Rattle.pmem_trait.specs.Sights.{Sight, AtEveryMoment, CallsMade, Risen, SomeCalls, state_now}
use Rattle.pmem_trait.specs.Reads.{OnlyReads, ContentHas}
use Rattle.redo_record.specs.Images.{version_of}
use Rattle.tatp_model.specs.Database.{Database}
use Rattle.image_recovery.specs.declared.open_fault.OpenFault.{OpenFault}
use Rattle.image_recovery.specs.declared.open_fault.OpenFault.TheVariants.{Device, NoMemory}
use Rattle.back_store.specs.BackView.{sight_of}
use Rattle.back_store.specs.Images.{IsIdleMedium}
use Rattle.image_recovery.specs.declared.recovered.Recovered.{Recovered}
use Rattle.image_recovery.specs.Faults.{IsFaultOn}
use Rattle.image_recovery.specs.Recovered.{IsRecovered, RecoversArray, RecoversTo}
use Rattle.dude_recover.specs.declared.opened.Opened.{Opened}
use Rattle.dude_recover.specs.Opened.{HasToldNoMore, HoldsOpened}
use Rattle.dude_recover.specs.OpeningCalls.{stale_lines, opening_calls}

-- Reads, none of which failed, and then exactly the calls that open an image with this number and these home words; or,
-- where ok is false, a prefix of those calls, whose last one failed.
pub record Opens (ok : Bool) (sizes : Sizes) (number : ℕ) (words : List ℕ) (s t : Sight) : Type 0 where
  pub read : Sight
  pub reads : OnlyReads true s read
  pub stale : List ℕ
  pub heads : ContentHas (λ content. stale ≡ stale_lines sizes number content) s
  pub version : ℕ
  pub named : ContentHas (λ content. version ≡ version_of content) s
  pub made : CallsMade (opening_calls version sizes number words stale) ok read t

-- The image was recovered to these sizes, this number and these home words, and by then these calls were made.
pub record BehindRecovery (Calls : Sizes → ℕ → List ℕ → Sight → Sight → Type 0) (s t : Sight) : Type 0 where
  pub sizes : Sizes
  pub number : ℕ
  pub words : List ℕ
  pub is : IsRecovered s.len sizes number words
  pub recovered : ContentHas (RecoversArray sizes number words) s
  pub calls : Calls sizes number words s t

-- Reads alone; or reads, and then exactly the calls that open the image that was recovered. Where ok is false, these up to one
-- that failed.
abbrev pub OpensSome : Bool → Sight → Sight → Type 0
OpensSome ok s t = OnlyReads ok s t ⊎ BehindRecovery (Opens ok) s t

-- Before the back is made: the medium was only read; or a call failed, a read or one of those that open the image.
abbrev pub StopsBy : OpenFault → Sight → Sight → Type 0
StopsBy Device s t = OpensSome false s t
StopsBy _ s t = OnlyReads true s t

-- Where an image can't be opened, the medium was only read. Where a call failed, exactly the calls up to it were made. There
-- may be no memory before the first put or behind the last.
abbrev pub LeftBy : OpenFault → Sight → Sight → Type 0
LeftBy NoMemory s t = OpensSome true s t
LeftBy fault s t = StopsBy fault s t

-- Nothing more is told, and the image recovers to this number and this database.
abbrev pub StillRecovers : List ℕ → ℕ → Sizes → Database → List ℕ → List ℕ → Type 0
StillRecovers before number sizes db told image = (told ≡ before) × RecoversTo image number sizes db

-- at every moment every image recovers to the number and the database that the content at entry recovers to
abbrev pub StillRecoversAll : Sight → Sight → Type 0
StillRecoversAll s t = (number : ℕ) (sizes : Sizes) (db : Database) → ContentHas (λ content. RecoversTo content number sizes db) s
    → AtEveryMoment (StillRecovers (state_now s).told number sizes db) s t

-- the content recovers to no database
abbrev pub RecoversToNone : Sight → Type 0
RecoversToNone s = (number : ℕ) (sizes : Sizes) (db : Database) → ContentHas (λ content. RecoversTo content number sizes db) s → ⊥

-- the image that was recovered was opened by these calls
abbrev pub OpensFound : Sight → Sight → Sizes × Recovered → Type 0
OpensFound s t found = Opens true found.0 found.1.number found.1.words.items s t

-- What an opening at this number makes of its medium and leaves of it.
pub record OpensAt (sizes : Sizes) (number : ℕ) (words : List ℕ) (s t : Sight) : Type 0 where
  -- they are ones to which an image of this length may recover
  pub found : IsRecovered s.len sizes number words
  -- the content recovers to the number and these home words, where the medium is visible
  pub recovered : ContentHas (RecoversArray sizes number words) s
  -- the length stays
  pub len : t.len ≡ s.len
  -- no call failed
  pub calls : SomeCalls true s t
  -- Reads, then every home word and a fence, the mark and a fence, 0 for each head over the number and a fence, and the newest
  -- version in the place of the first one and a fence.
  pub made : Opens true sizes number words s t
  -- a visible medium is then settled at the image, with the mark at the number, and no head over it
  pub rests : (before : ℕ) → HasToldNoMore before number s → IsTrue s.is_visible → IsIdleMedium before sizes number words (state_now t)
  -- it is as an idle back left it
  pub holds : (before : ℕ) → HasToldNoMore before number s → HoldsOpened before sizes number words t
  -- at each moment every image recovers to what the content at entry recovers to, and nothing more is told
  pub moments : StillRecoversAll s t

-- from this medium the image was opened
abbrev pub IsOpenedFrom : {M : Type 0} {ghosts : Ghosts M} → Sight → Opened M ghosts → Type 0
IsOpenedFrom s o = OpensAt o.sizes o.number o.words.items s (sight_of o.back)

-- Why an image wasn't opened, and what is left of its medium.
pub record IsNotOpened (fault : OpenFault) (s t : Sight) : Type 0 where
  -- what the fault says holds of the content, where the medium is visible
  pub content : IsFaultOn s fault
  -- at Device the count of faults rose
  pub cause : fault ≡ Device → Risen s.faults t.faults
  -- the length stays
  pub len : t.len ≡ s.len
  -- where the image can't be opened, the medium was only read; where a call failed, exactly the calls up to it were made
  pub calls : LeftBy fault s t
  -- at each moment every image recovers to what the content at entry recovers to, and nothing more is told
  pub moments : StillRecoversAll s t
  -- where the content recovers to nothing, the medium is only read
  pub only_read : RecoversToNone s → (ok : Bool) × OnlyReads ok s t
