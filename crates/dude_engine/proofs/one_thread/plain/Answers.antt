use Rattle.dude_engine.proofs.one_thread.plain.Goals as goal

pub returns : goal.returns
returns g c = c.run_files-shipped.ensures.runs
