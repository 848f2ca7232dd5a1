-- Operations of a back, one after another.
use Rattle.std.proofs.Common.{ℕ, ◌<◌, List, ◌++◌, sym, subst, append-nil, append_assoc}
use Rattle.dude_base.specs.Records.{RedoBundle}
use Rattle.pmem_trait.specs.declared.call.Call.{Call}
use Rattle.pmem_trait.specs.Sights.{Sight}
use Rattle.pmem_trait.proofs.Runs.{made_then}
use Rattle.redo_record.specs.BackCalls.{announce_calls, read_page_calls}
use Rattle.back_store.specs.Back.{BackState}
use Rattle.back_store.specs.Answers.{announced, reproduced}
use Rattle.back_store.specs.Operations.{BroughtHomeBy, Operates, OperatesLog, OperatesLog.announces, OperatesLog.persists, OperatesLog.reads, OperatesLog.renews, OperatesLog.reproduces, OperatesLog.rests, PersistedBy}

-- some operations, and then others
pub operates_then : {v w u : BackState} {a b : List Call} → OperatesLog v w a → OperatesLog w u b → OperatesLog v u (a ++ b)
operates_then rests on = on
operates_then {u = u} {b = b} (persists {v = v} {calls = calls} {more = more} ring bundle by rest) on =
    subst (λ (l : List Call). OperatesLog v u l) (sym (append_assoc calls more b)) (persists ring bundle by (operates_then rest on))
operates_then {u = u} {b = b} (announces {v = v} {more = more} number rest) on = announces number (operates_then rest on)
operates_then {u = u} {b = b} (reproduces {v = v} {calls = calls} {more = more} number by rest) on =
    subst (λ (l : List Call). OperatesLog v u l) (sym (append_assoc calls more b)) (reproduces number by (operates_then rest on))
operates_then {u = u} {b = b} (reads {v = v} {more = more} page inside rest) on =
    subst (λ (l : List Call). OperatesLog v u l) (sym (append_assoc (read_page_calls v.log.sizes page) more b)) (reads page inside (operates_then rest on))
operates_then (renews none rest) on = renews none (operates_then rest on)

-- one operation
pub one_persists : {ring : ℕ} {b : RedoBundle} {v w : BackState} {calls : List Call} → PersistedBy ring b v w calls → OperatesLog v w calls
one_persists {ring} {b} {v} {w} {calls} by = subst (λ (l : List Call). OperatesLog v w l) (append-nil calls) (persists ring b by rests)

pub one_announces : (v : BackState) (number : ℕ) → OperatesLog v (announced v number) (announce_calls number)
one_announces v number = subst (λ (l : List Call). OperatesLog v (announced v number) l) (append-nil (announce_calls number)) (announces number rests)

pub one_reproduces : (v : BackState) (number : ℕ) {calls : List Call} → BroughtHomeBy v number calls → OperatesLog v (reproduced v number) calls
one_reproduces v number {calls} by = subst (λ (l : List Call). OperatesLog v (reproduced v number) l) (append-nil calls) (reproduces number by rests)

pub one_reads : (v : BackState) (page : ℕ) → page < v.log.sizes.pages → OperatesLog v v (read_page_calls v.log.sizes page)
one_reads v page inside = subst (λ (l : List Call). OperatesLog v v l) (append-nil (read_page_calls v.log.sizes page)) (reads page inside rests)

-- the same of a medium
pub operates_on : {v w u : BackState} {s t r : Sight} → Operates v w s t → Operates w u t r → Operates v u s r
operates_on a b = (a.0 ++ b.0, operates_then a.1 b.1, made_then a.2 b.2)
