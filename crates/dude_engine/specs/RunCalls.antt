-- Which calls on the medium a run makes, from entry to end. The requests are served one after another, and each makes these
-- calls alone. One that wrote joins a record of its number, with the writes of its body, to the open bundle. Where none is
-- open that takes it, the open one is persisted in its ring, which is that of the file of its first record, and a new one
-- begun; where that ring has no room, and there alone, all that waits is announced and reproduced before. A `SYNC` persists the
-- open bundle and announces its number. Every other request makes no call. At the end the open bundle is persisted, and all
-- that waits is announced and reproduced.
use Rattle.std.specs.Prelude.{◌≡◌, ℕ, List, [], ◌∷◌, ◌++◌, IsTrue, IsFalse, None, AllPairs, IsPermutation}
use Rattle.dude_base.specs.declared.sizes.Sizes.{Sizes}
use Rattle.dude_base.specs.declared.write.Write.{Write}
use Rattle.dude_base.specs.Records.{RedoRecord}
use Rattle.dude_base.specs.Writes.{overwritten}
use Rattle.pmem_trait.specs.declared.call.Call.{Call}
use Rattle.pmem_trait.specs.Sights.{Sight}
use Rattle.tatp_model.specs.declared.done.Done.{Done}
use Rattle.tatp_model.specs.declared.reply.Reply.{Reply}
use Rattle.tatp_model.specs.declared.request.Request.{Request}
use Rattle.tatp_model.specs.OneThread.{is_sync}
use Rattle.tatp_core.specs.Serves.{Answers}
use Rattle.word_space.specs.Sights.{Agrees}
use Rattle.run_order.specs.Runs.{PrecedesInRounds}
use Rattle.back_store.specs.Back.{BackState}
use Rattle.back_store.specs.Operations.{Makes}
use Rattle.log_numbered.specs.LogCalls.{AnnouncedBy, AppendedBy, CheckpointedBy, LogParts}

-- The writes that the body of a request makes over these words of a home, where it answers so: by reads that agree with the
-- words, the request is answered with these writes.
pub record AreBodyWrites (sizes : Sizes) (words : List ℕ) (request : Request) (reply : Reply) (writes : List Write) : Type 0 where
  pub reads : List (ℕ × ℕ)
  pub agree : Agrees reads words
  pub answered : Answers sizes request reply reads writes

-- The record of a request that wrote over these words: it has the request's number, and the writes of its body.
pub record IsRecordOf (sizes : Sizes) (words : List ℕ) (d : Done) (r : RedoRecord) : Type 0 where
  pub number : r.number ≡ d.number
  pub writes : AreBodyWrites sizes words d.request d.reply r.writes

-- A run as its calls depend on it: the words of the home as its requests see them, and its log.
pub record RunParts : Type 0 where
  pub words : List ℕ
  pub log : LogParts

-- A request is served by these calls, which leave this of the run.
pub data ServedBy : Sizes → Done → RunParts → RunParts → List Call → Type 0 where
  logged : {sizes : Sizes} {d : Done} {k l : RunParts} {calls : List Call} (r : RedoRecord) → IsTrue d.wrote → IsRecordOf sizes k.words d r
      → l.words ≡ overwritten r.writes k.words → AppendedBy d.file r k.log l.log calls → ServedBy sizes d k l calls
  told : {sizes : Sizes} {d : Done} {k l : RunParts} {calls : List Call} → IsFalse d.wrote → IsTrue (is_sync d.request) → l.words ≡ k.words
      → AnnouncedBy k.log d.number l.log calls → ServedBy sizes d k l calls
  silent : {sizes : Sizes} {d : Done} {k l : RunParts} {calls : List Call} → IsFalse d.wrote → IsFalse (is_sync d.request) → l ≡ k → calls ≡ []
      → ServedBy sizes d k l calls

-- Requests are served one after another by these calls.
pub data ServedInTurn : Sizes → List Done → RunParts → RunParts → List Call → Type 0 where
  none : {sizes : Sizes} {k : RunParts} → ServedInTurn sizes [] k k []
  next : {sizes : Sizes} {d : Done} {performed : List Done} {k l m : RunParts} {calls more : List Call} → ServedBy sizes d k l calls
      → ServedInTurn sizes performed l m more → ServedInTurn sizes (d ∷ performed) k m (calls ++ more)

-- These calls serve the requests one after another, and then persist, announce and reproduce all up to this number.
pub record RunBy (sizes : Sizes) (k : RunParts) (performed : List Done) (last : ℕ) (calls : List Call) : Type 0 where
  pub served_to : RunParts
  pub serving : List Call
  pub served : ServedInTurn sizes performed k served_to serving
  pub end : LogParts
  pub settling : List Call
  pub settled_by : CheckpointedBy served_to.log last end settling
  pub calls_are : calls ≡ serving ++ settling

-- a run at its start: these words are in the home, this is the back, and no bundle is open
abbrev pub run_at_start : List ℕ → BackState → RunParts
run_at_start words v = record { words = words; log = record { back = v; current = None } }

-- The requests done were performed in rounds from these words and this back on, with no bundle open, and exactly the calls of
-- that run were made.
pub record MakesItsCalls (sizes : Sizes) (words : List ℕ) (v : BackState) (done : List Done) (last : ℕ) (s t : Sight) : Type 0 where
  pub performed : List Done
  pub same : IsPermutation performed done
  pub rounds : AllPairs PrecedesInRounds performed
  pub makes : Makes (RunBy sizes (run_at_start words v) performed last) s t
