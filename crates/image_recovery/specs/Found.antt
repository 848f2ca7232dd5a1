-- What a recovery finds: sizes, a number, and home words.
use Rattle.std.specs.Prelude.{ℕ, List}
use Rattle.dude_base.specs.declared.sizes.Sizes.{Sizes}
use Rattle.pmem_trait.specs.Sights.{Sight}
use Rattle.pmem_trait.specs.Reads.{ContentHas}
use Rattle.redo_record.specs.Images.{sizes_of}
use Rattle.image_recovery.specs.declared.recovered.Recovered.{Recovered}
use Rattle.image_recovery.specs.Recovered.{IsRecovered, RecoversArray}

-- on any medium of this length they are ones to which an image may recover
abbrev pub IsFoundOn : Sight → Sizes × Recovered → Type 0
IsFoundOn m found = IsRecovered m.len found.0 found.1.number found.1.words.items

-- the content recovers to them, where the medium is visible
abbrev pub IsFoundIn : Sight → Sizes × Recovered → Type 0
IsFoundIn m found = ContentHas (RecoversArray found.0 found.1.number found.1.words.items) m

-- the image recovers to this number and these home words, by its own header
abbrev pub IsRecoveryOf : List ℕ → Recovered → Type 0
IsRecoveryOf image found = RecoversArray (sizes_of image) found.number found.words.items image
