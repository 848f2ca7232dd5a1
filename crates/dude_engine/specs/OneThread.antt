-- What a run of the requests of files on one thread leaves, whether its bundles are kept or not.
use Rattle.std.specs.Prelude.{◌≡◌, Bool, IsTrue, List}
use Rattle.dude_base.specs.Records.{RedoBundle}
use Rattle.pmem_trait.specs.declared.medium.Medium.{Ghosts}
use Rattle.redo_record.specs.Recovery.{AreConsecutive}
use Rattle.tatp_model.specs.declared.request.Request.{Request}
use Rattle.back_store.specs.BackView.{sight_of}
use Rattle.dude_recover.specs.declared.opened.Opened.{Opened}
use Rattle.dude_engine.specs.declared.ran.Ran.{Ran}
use Rattle.dude_engine.specs.declared.ran.RanEnd.TheVariants.{Whole}
use Rattle.dude_engine.specs.Opening.{Opening}
use Rattle.dude_engine.specs.Plain.{AnswersFiles, EndsAs, IsOpeningOf, RecoversOnTheRun, TellsSyncs}
use Rattle.dude_engine.specs.Shipping.{KeepsUp, Ships}

-- The requests of these files were run on one thread over the opened image, and this is the run.
pub record RunsOnOneThread {M : Type 0} {ghosts : Ghosts M} (opened : Opened M ghosts) (files : List (List Request)) (ran : Ran M) : Type 0 where
  -- the first requests of its rounds are done, and the replies are those of one thread along the numbers
  pub replies : (opening : Opening) → IsOpeningOf opened opening → AnswersFiles opening files ran.done.items
  -- the number of each `SYNC` was told
  pub syncs : TellsSyncs opened.number ran.done.items (sight_of opened.back) (ghosts.sight ran.medium)
  -- at each moment every image recovers to the database after a prefix of the printed order
  pub moments : (opening : Opening) → IsOpeningOf opened opening → RecoversOnTheRun opening opened.words.items ran.done.items (sight_of opened.back) (ghosts.sight ran.medium)
  -- the run ends as its end says
  pub end : EndsAs opened files ran.done.items ran.end ran.last (ghosts.sight ran.medium)

-- So the requests were run; and where the bundles were kept they are packets, durable, and of a whole run lead to its last number.
pub record RunsFiles {M : Type 0} {ghosts : Ghosts M} (opened : Opened M ghosts) (files : List (List Request)) (kept : Bool) (ran : Ran M) (bundles : List RedoBundle) : Type 0 where
  pub runs : RunsOnOneThread opened files ran
  pub packets : IsTrue kept → (opening : Opening) → IsOpeningOf opened opening → Ships opening opened.words.items ran.done.items bundles
  pub persisted : IsTrue kept → (opening : Opening) → IsOpeningOf opened opening → KeepsUp opening opened.words.items ran.done.items bundles (sight_of opened.back) (ghosts.sight ran.medium)
  pub whole : IsTrue kept → ran.end ≡ Whole → AreConsecutive opened.number bundles ran.last
