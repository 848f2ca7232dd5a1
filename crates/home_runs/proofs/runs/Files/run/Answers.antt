use Rattle.std.proofs.Common.{List, Vec, Global, map, subst, sym}
use Rattle.tatp_model.specs.declared.request.Request.{Request}
use Rattle.dude_engine.specs.Requests.{AreInRange}
use Rattle.home_runs.proofs.runs.Files.run.Goals as goal

-- the files are in range, also as a slice
pub plain-requires-clause-in_range : goal.plain-requires-clause-in_range
plain-requires-clause-in_range c =
    subst (λ (files : List (Vec Request Global)). AreInRange (map (λ f. f.items) files)) (sym c.deref-in-Ok-open.ensures.value) c.files_for-files.ensures.in_range
