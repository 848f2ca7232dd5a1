use Rattle.dude_engine.proofs.one_thread.shipped.Goals as goal

pub returns-clause-packets : goal.returns-clause-packets
returns-clause-packets g c = c.run_files.ensures.packets c.new.ensures.kept

pub returns-clause-persisted : goal.returns-clause-persisted
returns-clause-persisted g c = c.run_files.ensures.persisted c.new.ensures.kept
