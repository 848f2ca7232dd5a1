use Rattle.std.proofs.Common.{◌≡◌, ◌∙◌, refl, sym, subst, rules, map, List, Ok, Err}
use Rattle.tatp_model.specs.declared.done.Done.{Done}
use Rattle.word_space.specs.Flats.{words_of}
use Rattle.log_numbered.specs.KeptBundles.{kept_bundles}
use Rattle.log_numbered.specs.RunLog.{log_durable, log_last, log_medium, log_parts}
use Rattle.run_order.proofs.Rounds.{Rounds, rounds_collect, rounds_first, rounds_rounds, rounds_start}
use Rattle.dude_engine.specs.declared.run_fault.RunFault.TheVariants.{Device, NoMemory}
use Rattle.dude_engine.proofs.Keeping.{keeps_as, kept_closed, kept_failed, kept_from, kept_full, kept_memory, kept_over, kept_same, kept_served}
use Rattle.dude_engine.proofs.Serving.{runs_by}
use Rattle.dude_engine.proofs.Steps.{failed_same, fault_on_ok, left_failed, left_memory, performs_failed, running_as, running_settled, settled_run}
use Rattle.dude_engine.proofs.run.Run.run_all.Goals as goal

pub returns-in_err-checkpoint-clause-left : goal.returns-in_err-checkpoint-clause-left
returns-in_err-checkpoint-clause-left g c opening words s run =
    let served = c.serve_all.new.self in
    let is : c.from_residual-in_err-checkpoint.result ≡ Err Device = search rules in
    let runs = c.in_ok-serve_all.ensures.leaves.left opening words s (running_as (sym c.reserve_exact.ensures.items) run) in
    left_failed opening words c.from_residual-in_err-checkpoint.result _ s _ is
    (failed_same opening words served.lay served.log c.checkpoint.new.self (words_of served.words) served.done.items s (g.M.Medium.sight (log_medium served.log)) (g.M.Medium.sight (log_medium c.checkpoint.new.self))
    c.in_ok-serve_all.ensures.leaves.ready.alive c.in_err-checkpoint.ensures.closes.goes_on c.checkpoint.ensures.closes.moments runs)

pub returns-clause-left : goal.returns-clause-left
returns-clause-left g c opening words s run =
    let runs = c.in_ok-serve_all.ensures.leaves.left opening words s (running_as (sym c.reserve_exact.ensures.items) run) in
    let ok = c.in_ok-checkpoint.ensures in
    running_settled opening words _ _ c.checkpoint.new.self _ _ s _ (g.M.Medium.sight (log_medium c.checkpoint.new.self)) ok.checkpoints.tells.durable ok.closes.goes_on c.checkpoint.ensures.closes.moments runs ok.checkpoints.tells.last ok.checkpoints.tells.follows

pub returns-clause-settled : goal.returns-clause-settled
returns-clause-settled g c opening words s run =
    let runs = c.in_ok-serve_all.ensures.leaves.left opening words s (running_as (sym c.reserve_exact.ensures.items) run) in
    let ok = c.in_ok-checkpoint.ensures in
    settled_run opening words _ _ c.checkpoint.new.self _ _ s _ (g.M.Medium.sight (log_medium c.checkpoint.new.self)) ok.checkpoints.tells.durable ok.closes.goes_on c.checkpoint.ensures.closes.moments runs ok.checkpoints.ends ok.checkpoints.tells.told

pub returns-clause-calls : goal.returns-clause-calls
returns-clause-calls g c =
    let served = c.serve_all.new.self in
    let ok = c.in_ok-checkpoint.ensures in
    let made = ok.checkpoints in
    runs_by (record c.args.self.now { done = c.reserve_exact.new.self }) served (log_parts c.checkpoint.new.self) (log_last served.log) (log_durable c.checkpoint.new.self) (g.M.Medium.sight (log_medium c.args.self.now.log)) (g.M.Medium.sight (log_medium served.log)) (g.M.Medium.sight (log_medium c.checkpoint.new.self))
    (c.reserve_exact.ensures.items ∙ c.requires.start.empty) c.in_ok-serve_all.ensures.leaves.calls made.tells.durable made.calls

pub returns-in_err-reserve_exact-clause-performs : goal.returns-in_err-reserve_exact-clause-performs
returns-in_err-reserve_exact-clause-performs g c =
    let files = map (λ f. f.items) c.args.files.now in
    let performed = c.reserve_exact.new.self.items in
    let is : c.from_residual.result ≡ Err NoMemory = search rules in
    let start : Rounds files 0 0 performed = subst (λ (done : List Done). Rounds files 0 0 done) (sym (c.reserve_exact.ensures.items ∙ c.requires.start.empty)) (rounds_start files) in
    record {
      rounds = rounds_rounds files 0 0 performed start;
      collects = λ done same sorted. rounds_collect files 0 0 performed done start same sorted;
      first = λ done same sorted. rounds_first files 0 0 performed done start same sorted;
      all = fault_on_ok _ c.from_residual.result NoMemory is;
    }

pub returns-in_err-checkpoint-clause-performs : goal.returns-in_err-checkpoint-clause-performs
returns-in_err-checkpoint-clause-performs g c =
    let is : c.from_residual-in_err-checkpoint.result ≡ Err Device = search rules in
    performs_failed Device is c.in_ok-serve_all.ensures.performs

-- ---- where there is no memory to keep the last bundle

pub returns-in_err-reserve-clause-left : goal.returns-in_err-reserve-clause-left
returns-in_err-reserve-clause-left g c opening words s run =
    let is : c.from_residual-in_err-reserve.result ≡ Err NoMemory = search rules in
    left_memory opening words c.from_residual-in_err-reserve.result _ s _ is (c.in_ok-serve_all.ensures.leaves.left opening words s (running_as (sym c.reserve_exact.ensures.items) run)) c.in_ok-serve_all.ensures.leaves.ready.alive

pub returns-in_err-reserve-clause-performs : goal.returns-in_err-reserve-clause-performs
returns-in_err-reserve-clause-performs g c =
    let is : c.from_residual-in_err-reserve.result ≡ Err NoMemory = search rules in
    performs_failed NoMemory is c.in_ok-serve_all.ensures.performs

-- ---- the bundles kept

pub returns-in_err-reserve_exact-clause-kept : goal.returns-in_err-reserve_exact-clause-kept
returns-in_err-reserve_exact-clause-kept g c =
    let self = c.args.self.now in
    let is : c.from_residual.result ≡ Err NoMemory = search rules in
    record {
      kept = refl;
      all = λ kept opening words s run keeps. kept_memory opening words c.from_residual.result _ s _ is
          (keeps_as opening words _ self.log (words_of self.words) self.done.items (kept_bundles self.packets) keeps.arrays refl refl c.reserve_exact.ensures.items refl keeps.has keeps.opening_is keeps.keeps);
    }

pub returns-in_err-serve_all-clause-kept : goal.returns-in_err-serve_all-clause-kept
returns-in_err-serve_all-clause-kept g c =
    let self = c.args.self.now in
    let fault = c.in_err-serve_all.field-0.0 in
    let is : c.from_residual-in_err-serve_all.result ≡ Err fault = search rules in
    kept_same c.from_residual-in_err-serve_all.result (Err fault) self c.serve_all.new.self is
    (kept_from self (record c.args.self.now { done = c.reserve_exact.new.self }) c.serve_all.new.self (Err fault) refl refl refl c.reserve_exact.ensures.items refl refl c.in_err-serve_all.ensures.kept)

pub returns-in_err-reserve-clause-kept : goal.returns-in_err-reserve-clause-kept
returns-in_err-reserve-clause-kept g c =
    let is : c.from_residual-in_err-reserve.result ≡ Err NoMemory = search rules in
    kept_served c.args.self.now (record c.args.self.now { done = c.reserve_exact.new.self }) c.serve_all.new.self _ c.from_residual-in_err-reserve.result refl refl refl c.reserve_exact.ensures.items refl refl c.in_ok-serve_all.ensures.leaves.left c.in_ok-serve_all.ensures.kept
    (kept_full c.serve_all.new.self c.reserve.new.self c.reserve.ensures.kept c.reserve.ensures.bundles c.from_residual-in_err-reserve.result is)

pub returns-in_err-checkpoint-clause-kept : goal.returns-in_err-checkpoint-clause-kept
returns-in_err-checkpoint-clause-kept g c =
    let is : c.from_residual-in_err-checkpoint.result ≡ Err Device = search rules in
    kept_served c.args.self.now (record c.args.self.now { done = c.reserve_exact.new.self }) c.serve_all.new.self _ c.from_residual-in_err-checkpoint.result refl refl refl c.reserve_exact.ensures.items refl refl c.in_ok-serve_all.ensures.leaves.left c.in_ok-serve_all.ensures.kept
    (kept_over c.serve_all.new.self c.reserve.new.self c.reserve.ensures.kept c.reserve.ensures.bundles c.from_residual-in_err-checkpoint.result _ (kept_failed _ (record c.serve_all.new.self { packets = c.reserve.new.self }) c.checkpoint.new.self c.checkpoint.new.kept is c.in_err-checkpoint.ensures.closes))

pub returns-clause-kept : goal.returns-clause-kept
returns-clause-kept g c =
    kept_served c.args.self.now (record c.args.self.now { done = c.reserve_exact.new.self }) c.serve_all.new.self _ (Ok tt) refl refl refl c.reserve_exact.ensures.items refl refl c.in_ok-serve_all.ensures.leaves.left c.in_ok-serve_all.ensures.kept
    (kept_over c.serve_all.new.self c.reserve.new.self c.reserve.ensures.kept c.reserve.ensures.bundles (Ok tt) _ (kept_closed (record c.serve_all.new.self { packets = c.reserve.new.self }) c.checkpoint.new.self c.checkpoint.new.kept c.in_ok-checkpoint.ensures.closes))

pub returns-clause-end : goal.returns-clause-end
returns-clause-end g c = c.in_ok-checkpoint.ensures.checkpoints.tells.end ∙ sym c.in_ok-checkpoint.ensures.checkpoints.tells.durable
