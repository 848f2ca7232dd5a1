use Rattle.std.proofs.Common.{sym, subst}
use Rattle.redo_record.specs.Waiting.{AreDisjoint}
use Rattle.dude_core.proofs.store.Store.ends_at.Goals as goal

pub leads_to-requires-clause-distinct : goal.leads_to-requires-clause-distinct
leads_to-requires-clause-distinct c = subst AreDisjoint (sym c.waiting-waiting.ensures.waiting) c.requires
