-- What a command starts from that runs files over the image at hand, and how it ends where they or the image refuse it.
use Rattle.std.specs.Prelude.{◌≡◌, ℕ, ◌≤◌, Option, None, List, length}
use Rattle.pmem_trait.specs.declared.medium.Medium.{Ghosts}
use Rattle.pmem_trait.specs.Sights.{Sight}
use Rattle.tatp_model.specs.Files.{requests_in}
use Rattle.dude_io.specs.Files.{FilesSight}
use Rattle.dude_io.specs.Sink.{SinkSight}
use Rattle.dude_recover.specs.Opened.{IsOpened}
use Rattle.command_edges.specs.Command.{Meaning, Meaning.RunFiles, Meaning.StreamFiles, Meaning.ShipFiles}
use Rattle.command_edges.specs.CommandFile.{request_files}
use Rattle.command_edges.specs.Files.{AreOfFiles}
use Rattle.command_edges.specs.Reads.{ReadsInOrder}
use Rattle.command_openings.specs.Opens.{OpensOwn, RecoversOwn}
use Rattle.dude_engine.specs.Requests.{AreInRange, HasNumbersFor}
use Rattle.run_threads.specs.Ends.{IsAsOpened}
use Rattle.dude_program.specs.declared.ended.Ended.{Ended}
use Rattle.dude_program.specs.declared.prepared.Prepared.{Prepared}
use Rattle.dude_program.specs.Ended.{Ends}
use Rattle.dude_program.specs.Work.{AllowsFrames}
use Rattle.dude_program.specs.World.{world_of}

-- the command carries out the requests of these files over the image at hand, with these frames, where it says any
abbrev pub CarriesOut : Meaning → Option ℕ → List (List ℕ) → Type 0
CarriesOut (RunFiles said locks files) frames names = (frames ≡ said) × (names ≡ files)
CarriesOut (StreamFiles said locks files) frames names = (frames ≡ said) × (names ≡ files)
CarriesOut (ShipFiles files) frames names = (frames ≡ None) × (names ≡ files)
CarriesOut _ frames names = ⊥

-- The files of these names were read, and the image on a medium, seen so, was opened and allows a run of them with these
-- frames.
pub record IsPrepared {M : Type 0} {ghosts : Ghosts M} (sight : M → Sight) (frames : Option ℕ) (names : List (List ℕ)) (medium : M) (f g : FilesSight) (prepared : Prepared M ghosts) : Type 0 where
  -- the files were read in order, and these are their requests
  pub reads : ReadsInOrder (request_files names) None f g
  pub read : AreOfFiles f names prepared.lists
  pub in_range : AreInRange (requests_in prepared.lists.items)
  -- the image is opened at what the content recovers to, and is as its opening left it
  pub opened : IsOpened prepared.opened
  pub is_open : OpensOwn sight medium prepared.opened
  pub recovered : RecoversOwn sight medium prepared.opened
  pub held : IsAsOpened prepared.opened
  -- it has rings for the files, allows the frames, and has numbers for the requests
  pub rings : length prepared.lists.items ≤ prepared.opened.sizes.rings
  pub allows : AllowsFrames frames prepared.opened.sizes.pages
  pub numbers : HasNumbersFor prepared.opened.number (requests_in prepared.lists.items)

-- Each command that carries out these files has ended so, and called no sink; its medium, seen so, is given back.
abbrev pub EndsUnprepared : {M : Type 0} → (M → Sight) → Option ℕ → List (List ℕ) → M → FilesSight → FilesSight → Ended M → Type 0
EndsUnprepared sight frames names medium f g ended = (own : Meaning) (sink : SinkSight) → CarriesOut own frames names
    → Ends own (world_of (sight medium) f sink) (world_of (sight ended.medium) g sink) ended.done.items ended.fault
