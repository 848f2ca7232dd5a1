-- The calls of a run on one thread are operations of its log.
use Rattle.std.proofs.Common.{◌≡◌, ℕ, List, Option, Some, None, inl, inr, sym, subst}
use Rattle.dude_base.specs.declared.sizes.Sizes.{Sizes}
use Rattle.dude_base.specs.Records.{RedoBundle, RedoRecord}
use Rattle.pmem_trait.specs.declared.call.Call.{Call}
use Rattle.pmem_trait.specs.Sights.{Sight}
use Rattle.tatp_model.specs.declared.done.Done.{Done}
use Rattle.back_store.specs.Back.{BackState, idle}
use Rattle.back_store.specs.Answers.{announced}
use Rattle.back_store.specs.Operations.{MakesOperations, OperatesLog, OperatesLog.announces, OperatesLog.rests}
use Rattle.back_store.proofs.Operations.{one_announces, one_persists, one_reproduces, operates_then}
use Rattle.log_numbered.specs.LogCalls.{AnnouncedBy, AppendedBy, BundlePersistedBy, CheckpointedBy, ClosedBy, LogParts, SettledBy, settled}
use Rattle.log_numbered.specs.declared.open_bundle.OpenBundle.{OpenBundle}
use Rattle.dude_engine.specs.RunCalls.{MakesItsCalls, RunBy, RunParts, ServedBy, ServedBy.logged, ServedBy.told, ServedBy.silent, ServedInTurn, ServedInTurn.none, ServedInTurn.next}

settles : {v : BackState} {number : ℕ} {calls : List Call} → SettledBy v number calls → OperatesLog v (settled v number) calls
settles {v} {number} {calls} by =
    subst (λ (l : List Call). OperatesLog v (settled v number) l) (sym by.calls_are) (announces number (one_reproduces (announced v number) number by.home))

bundle_persists : {ring : ℕ} {b : RedoBundle} {v w : BackState} {calls : List Call} → BundlePersistedBy ring b v w calls → OperatesLog v w calls
bundle_persists (inl by) = one_persists by
bundle_persists {v = v} {w = w} (inr by) =
    subst (λ (l : List Call). OperatesLog v w l) (sym by.calls_are) (operates_then (settles by.settled_by) (one_persists by.persisted_by))

closes : (o : Option OpenBundle) {v w : BackState} {calls : List Call} → ClosedBy o v w calls → OperatesLog v w calls
closes None {v} {w} {calls} by = subst (λ (u : BackState). OperatesLog v u calls) (sym by.0) (subst (λ (l : List Call). OperatesLog v v l) (sym by.1) rests)
closes (Some o) by = bundle_persists by

appends : {ring : ℕ} {r : RedoRecord} {k l : LogParts} {calls : List Call} → AppendedBy ring r k l calls → OperatesLog k.back l.back calls
appends {k = k} {calls = calls} (inl joined) =
    subst (λ (u : BackState). OperatesLog k.back u calls) (sym joined.back) (subst (λ (l : List Call). OperatesLog k.back k.back l) (sym joined.calls_are) rests)
appends {k = k} (inr begun) = closes k.current begun.closed_by

tells : {k l : LogParts} {number : ℕ} {calls : List Call} → AnnouncedBy k number l calls → OperatesLog k.back l.back calls
tells {k} {l} {number} {calls} by =
    subst (λ (p : LogParts). OperatesLog k.back p.back calls) (sym by.now)
    (subst (λ (c : List Call). OperatesLog k.back (announced by.back number) c) (sym by.calls_are) (operates_then (closes k.current by.closed_by) (one_announces by.back number)))

checkpoints : {k l : LogParts} {number : ℕ} {calls : List Call} → CheckpointedBy k number l calls → OperatesLog k.back l.back calls
checkpoints {k} {l} {number} {calls} by =
    subst (λ (p : LogParts). OperatesLog k.back p.back calls) (sym by.now)
    (subst (λ (c : List Call). OperatesLog k.back (settled by.back number) c) (sym by.calls_are) (operates_then (closes k.current by.closed_by) (settles by.settled_by)))

serves : {sizes : Sizes} {d : Done} {k l : RunParts} {calls : List Call} → ServedBy sizes d k l calls → OperatesLog k.log.back l.log.back calls
serves (logged r wrote is words by) = appends by
serves (told wrote sync words by) = tells by
serves {k = k} {calls = calls} (silent wrote sync same none_made) =
    subst (λ (p : RunParts). OperatesLog k.log.back p.log.back calls) (sym same) (subst (λ (l : List Call). OperatesLog k.log.back k.log.back l) (sym none_made) rests)

serves_in_turn : {sizes : Sizes} {performed : List Done} {k l : RunParts} {calls : List Call} → ServedInTurn sizes performed k l calls → OperatesLog k.log.back l.log.back calls
serves_in_turn none = rests
serves_in_turn (next by rest) = operates_then (serves by) (serves_in_turn rest)

run_operates : {sizes : Sizes} {k : RunParts} {performed : List Done} {last : ℕ} {calls : List Call} (by : RunBy sizes k performed last calls) → OperatesLog k.log.back by.end.back calls
run_operates {k = k} by =
    subst (λ (l : List Call). OperatesLog k.log.back by.end.back l) (sym by.calls_are) (operates_then (serves_in_turn by.served) (checkpoints by.settled_by))

-- so are the calls of a whole run
pub run_makes : {sizes z : Sizes} {words : List ℕ} {number n : ℕ} {v : BackState} {done : List Done} {last : ℕ} {s t : Sight} → MakesItsCalls sizes words v done last s t
    → v ≡ idle sizes number → z ≡ sizes → n ≡ number → MakesOperations (idle z n) s t
run_makes {sizes} {z} {words} {number} {n} {v} {done} {last} {s} {t} its start same is =
    subst (λ (z : Sizes). MakesOperations (idle z n) s t) (sym same)
    (subst (λ (n : ℕ). MakesOperations (idle sizes n) s t) (sym is)
    (subst (λ (v : BackState). MakesOperations v s t) start (its.makes.1.end.back, (its.makes.0, run_operates its.makes.1, its.makes.2))))
