-- How a command ended that was carried out over a medium, files and a sink: one that means something, and one that is given by its
-- words.
use Rattle.std.specs.Prelude.{◌≡◌, Option, List, ℕ, ⊤, IsTrue, Some, None}
use Rattle.pmem_trait.specs.Sights.{Sight}
use Rattle.tatp_model.specs.declared.done.Done.{Done}
use Rattle.dude_io.specs.Files.{FilesSight}
use Rattle.dude_io.specs.Sink.{SinkSight}
use Rattle.command_edges.specs.declared.fault.Fault.{Fault}
use Rattle.dude_program.specs.declared.ended.Ended.{Ended}
use Rattle.dude_program.specs.declared.worked.Worked.{Worked}
use Rattle.dude_program.specs.World.{World, world_of}
use Rattle.command_edges.specs.Command.{Meaning, Meaning.FollowFiles, meaning_of}
use Rattle.dude_program.specs.Follow.{FollowsFiles}
use Rattle.dude_program.specs.Headline.{Headline}
use Rattle.dude_program.specs.Opening.{has_headline}
use Rattle.dude_program.specs.Causes.{Causes, RefusesWords}

-- This is said of a command that ended so: of the medium, the files and the sink, seen so, before and after it, of what was done,
-- and of its fault.
abbrev pub EndedAs : {M F K : Type 0} → (World → World → List Done → Option Fault → Type 0) → (M → Sight) → (F → FilesSight) → (K → SinkSight)
    → M → F → F → K → K → Ended M → Type 0
EndedAs says medium_sight files_sight sink_sight medium files_old files_new out_old out_new ended =
    says (world_of (medium_sight medium) (files_sight files_old) (sink_sight out_old))
    (world_of (medium_sight ended.medium) (files_sight files_new) (sink_sight out_new)) ended.done.items ended.fault

-- The same of a command that gets no files, whatever files there are.
abbrev pub EndedWithoutFiles : {M K : Type 0} → (World → World → List Done → Option Fault → Type 0) → (M → Sight) → (K → SinkSight) → M → K → K → Ended M → Type 0
EndedWithoutFiles says medium_sight sink_sight medium out_old out_new ended = (files : FilesSight)
    → says (world_of (medium_sight medium) files (sink_sight out_old)) (world_of (medium_sight ended.medium) files (sink_sight out_new)) ended.done.items ended.fault

-- the command ended with the medium that its requests left, and these are done
pub record EndsWork {M : Type 0} (worked : Worked M) (ended : Ended M) : Type 0 where
  pub medium : ended.medium ≡ worked.medium
  pub done : ended.done ≡ worked.done

-- What the command did is as the headline says, where it is said of the command; and why it ended so is as the causes say.
pub record Ends (own : Meaning) (old new : World) (done : List Done) (fault : Option Fault) : Type 0 where
  pub headline : IsTrue (has_headline own) → Headline own old new done fault
  pub causes : Causes own old new done fault

-- What a command promises in place of the headline, where it has a theorem of its own.
abbrev pub HasOwnTheorem : Meaning → World → World → Option Fault → Type 0
HasOwnTheorem (FollowFiles names) old new fault = FollowsFiles names old new fault
HasOwnTheorem _ old new fault = ⊤

-- Words that mean nothing are refused.
abbrev pub RefusesNoCommand : List (List ℕ) → World → World → List Done → Option Fault → Type 0
RefusesNoCommand words old new done fault = meaning_of words ≡ None → RefusesWords old new done fault

-- Where the words mean a command of which the headline is said, what it did is as the headline says.
abbrev pub HeadlineByWords : List (List ℕ) → World → World → List Done → Option Fault → Type 0
HeadlineByWords words old new done fault =
    (own : Meaning) → meaning_of words ≡ Some own → IsTrue (has_headline own) → Headline own old new done fault

-- Where the words mean a command, each fault comes when the causes say, and what stays then is as they say.
abbrev pub CausesByWords : List (List ℕ) → World → World → List Done → Option Fault → Type 0
CausesByWords words old new done fault = (own : Meaning) → meaning_of words ≡ Some own → Causes own old new done fault

-- Where the words mean `follow`, it does what it promises in place of the headline.
abbrev pub FollowsByWords : List (List ℕ) → World → World → Option Fault → Type 0
FollowsByWords words old new fault =
    (names : List (List ℕ)) → meaning_of words ≡ Some (FollowFiles names) → FollowsFiles names old new fault

-- What holds of a command that is given by its words.
pub record EndsByWords (words : List (List ℕ)) (old new : World) (done : List Done) (fault : Option Fault) : Type 0 where
  pub refused : RefusesNoCommand words old new done fault
  pub headline : HeadlineByWords words old new done fault
  pub causes : CausesByWords words old new done fault
  pub follows : FollowsByWords words old new fault
