use Rattle.core_runs.proofs.HistorySteps.{can_store, can_touch}
use Rattle.core_runs.proofs.history.publish.Goals as goal

pub store-requires-clause-may : goal.store-requires-clause-may
store-requires-clause-may c = record { seat = c.requires.seat; may = rw (c.requires.setup, c.requires.view) can_store; slots = λ d who v xs homes k a fact. tt }

pub touch-requires-clause-may : goal.touch-requires-clause-may
touch-requires-clause-may c = record { seat = c.store.ensures.made.belongs; may = rw (c.store.ensures.view, c.requires.setup, c.requires.view) can_touch; slots = λ d who v xs homes k a fact. tt }
