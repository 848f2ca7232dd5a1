use Rattle.std.proofs.Common.{ℕ, ◌<◌}
use Rattle.redo_record.specs.BackCalls.{read_page_calls}
use Rattle.dude_core.specs.CallFits.{IsApart}
use Rattle.dude_core.proofs.store.Store.next_page.Given as goal

abbrev pub invariant-loop-page : goal.invariant-loop-page
invariant-loop-page l = (p : ℕ) → p < l.page → IsApart (read_page_calls l.self.sizes p) l.self.calls l.call
