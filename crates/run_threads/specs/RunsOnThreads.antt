-- What a run on threads over an opened image leaves.
use Rattle.std.specs.Prelude.{List}
use Rattle.dude_base.specs.declared.run.Run.{Run}
use Rattle.pmem_trait.specs.declared.medium.Medium.{Ghosts}
use Rattle.tatp_model.specs.declared.request.Request.{Request}
use Rattle.back_store.specs.BackView.{sight_of}
use Rattle.dude_recover.specs.declared.opened.Opened.{Opened}
use Rattle.dude_engine.specs.declared.ran.Ran.{Ran}
use Rattle.dude_engine.specs.Opening.{Opening as RunOpening}
use Rattle.dude_engine.specs.Plain.{IsOpeningOf}
use Rattle.run_threads.specs.Answers.{AnswersOnThreads, TellsSyncsOnThreads}
use Rattle.run_threads.specs.Ends.{EndsOnThreads, RecoversOnThreads}

-- The requests of these files were run on threads over the opened image, and this is the run.
pub record RunsOnThreads {M : Type 0} {ghosts : Ghosts M} (o : Opened M ghosts) (run : Run) (files : List (List Request)) (ran : Ran M) : Type 0 where
  -- the replies are those of one thread along the numbers
  pub replies : (opening : RunOpening) → IsOpeningOf o opening → AnswersOnThreads run opening files ran.done.items (sight_of o.back)
  -- the number of each `SYNC` is durable
  pub syncs : TellsSyncsOnThreads o.number ran.done.items (sight_of o.back) (ghosts.sight ran.medium)
  -- at each moment every image recovers to the database after a prefix of the printed order
  pub moments : (opening : RunOpening) → IsOpeningOf o opening → RecoversOnThreads opening o.words.items ran.done.items (sight_of o.back) (ghosts.sight ran.medium)
  -- the run ends as its end says
  pub end : EndsOnThreads o files ran.done.items ran.end ran.last (ghosts.sight ran.medium)
