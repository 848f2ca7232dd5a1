use Rattle.std.proofs.Common.{◌≡◌, Err, refl, rules}
use Rattle.dude_engine.specs.declared.run_fault.RunFault.TheVariants.{NoMemory}
use Rattle.dude_engine.proofs.Keeping.{kept_from, kept_full, leaves_reserved}
use Rattle.dude_engine.proofs.Steps.{leaves_failed, left_memory}
use Rattle.dude_engine.proofs.run.Run.serve.Goals as goal

pub returns-in_err-reserve-clause-leaves : goal.returns-in_err-reserve-clause-leaves
returns-in_err-reserve-clause-leaves g c =
    let is : c.from_residual.result ≡ Err NoMemory = search rules in
    leaves_failed c.from_residual.result c.args.self.now _ NoMemory is refl refl (λ opening words s run. left_memory opening words c.from_residual.result _ s _ is run c.requires.may.ready.alive)

pub returns-in_err-reserve-clause-kept : goal.returns-in_err-reserve-clause-kept
returns-in_err-reserve-clause-kept g c =
    let is : c.from_residual.result ≡ Err NoMemory = search rules in
    kept_full c.args.self.now c.reserve.new.self c.reserve.ensures.kept c.reserve.ensures.bundles c.from_residual.result is

pub returns-in-Sync-clause-leaves : goal.returns-in-Sync-clause-leaves
returns-in-Sync-clause-leaves g c = leaves_reserved c.args.self.now c.reserve.new.self c.reserve.ensures.kept c.reserve.ensures.bundles c.serve_sync.result c.serve_sync.new.self c.serve_sync.ensures.leaves

pub returns-in-Sync-clause-kept : goal.returns-in-Sync-clause-kept
returns-in-Sync-clause-kept g c =
    kept_from c.args.self.now (record c.args.self.now { packets = c.reserve.new.self }) c.serve_sync.new.self c.serve_sync.result refl refl refl refl c.reserve.ensures.kept c.reserve.ensures.bundles c.serve_sync.ensures.kept

pub returns-in_default-clause-leaves : goal.returns-in_default-clause-leaves
returns-in_default-clause-leaves g c = leaves_reserved c.args.self.now c.reserve.new.self c.reserve.ensures.kept c.reserve.ensures.bundles c.perform.result c.perform.new.self c.perform.ensures.leaves

pub returns-in_default-clause-kept : goal.returns-in_default-clause-kept
returns-in_default-clause-kept g c =
    kept_from c.args.self.now (record c.args.self.now { packets = c.reserve.new.self }) c.perform.new.self c.perform.result refl refl refl refl c.reserve.ensures.kept c.reserve.ensures.bundles c.perform.ensures.kept
