-- What a back's medium is, where it is as its lists say: what every image recovers to at each moment since the start.
use Rattle.std.specs.Prelude.{◌≡◌, ℕ, ◌≤◌, not, false, IsTrue, List, length}
use Rattle.dude_base.specs.declared.sizes.Sizes.{Sizes}
use Rattle.dude_base.specs.Image.{image_words}
use Rattle.dude_base.specs.Records.{RedoRecord}
use Rattle.pmem_trait.specs.Words.{AtLeast}
use Rattle.pmem_trait.specs.Sights.{Sight, state_now, SomeCalls, AtEveryMoment}
use Rattle.redo_record.specs.Images.{sizes_of}
use Rattle.redo_record.specs.Recovery.{Recovers}
use Rattle.back_store.specs.Back.{BackState, home_now}
use Rattle.back_store.specs.Images.{HoldsStore}
use Rattle.back_store.specs.Operations.{Operates}
use Rattle.back_store.specs.Told.{WereTold}
use Rattle.stm_slots.specs.KnownLists.{BackLists, LawfulLists}
use Rattle.stm_slots.specs.Records.{HasValues, IsReached, writes_in}

-- What a back was when its records began to be listed: its medium, what it was beside that, the home, and the number.
pub record Since : Type 0 where
  pub start : Sight
  pub state : BackState
  pub opening : List ℕ
  pub first : ℕ

-- how many numbers were told before
abbrev pub told_before : Since → ℕ
told_before b = length (state_now b.start).told

-- The image recovers to a number up to which all records were handed over, and to the values there. No greater one was told since.
pub record RecoversIn (b : Since) (records : List RedoRecord) (sizes : Sizes) (told image : List ℕ) : Type 0 where
  pub number : ℕ
  pub array : List ℕ
  pub recovered : Recovers image number array
  pub same_sizes : sizes_of image ≡ sizes
  pub values : HasValues b.opening (writes_in records) number array
  pub from : b.first ≤ number
  pub reached : IsReached b.first records number
  pub floor : AtLeast (told_before b) told number

-- The medium is as the lists say.
pub record IsKnown (b : Since) (l : BackLists) (s : Sight) : Type 0 where
  pub room : image_words l.state.log.sizes ≤ s.len
  -- at each moment since the start every image recovers so
  pub moments : AtEveryMoment (RecoversIn b l.records l.state.log.sizes) b.start s
  -- calls were made since, of which none failed but the last one of a dead back
  pub ran : SomeCalls (not l.state.dead) b.start s
  -- those of a back that isn't dead are operations of its log
  pub operates : l.state.dead ≡ false → Operates b.state l.state b.start s
  -- it is as a back that isn't dead left it
  pub keeps : HoldsStore (told_before b) l.state s
  -- the home has the values at the reproduced number
  pub home : l.state.dead ≡ false → IsTrue s.is_visible
      → HasValues b.opening (writes_in l.records) l.state.log.reproduced (home_now l.state.log.sizes s)
  -- what was told since
  pub tells : IsTrue s.is_visible
      → WereTold (not l.state.dead) b.first l.state.log.durable (state_now b.start).told (state_now s).told

-- The lists are lawful, and the medium is as they say.
pub record Known (b : Since) (l : BackLists) (s : Sight) : Type 0 where
  pub lawful : LawfulLists b.first l
  pub is : IsKnown b l s
