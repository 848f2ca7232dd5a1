use Rattle.std.proofs.Common.{refl}
use Rattle.log_numbered.specs.RunLog.{log_medium}
use Rattle.dude_engine.proofs.Keeping.{kept_here}
use Rattle.dude_engine.proofs.Serving.{serves_none}
use Rattle.dude_engine.proofs.run.Run.serve_turn.Goals as goal

pub returns-in-None-clause-leaves : goal.returns-in-None-clause-leaves
returns-in-None-clause-leaves g c = record {
  ready = c.requires.ready;
  lay = refl;
  room = refl;
  left = λ opening words s run. run;
  calls = serves_none c.args.self.now (g.M.Medium.sight (log_medium c.args.self.now.log));
}

pub returns-in-None-clause-kept : goal.returns-in-None-clause-kept
returns-in-None-clause-kept g c = kept_here c.args.self.now
