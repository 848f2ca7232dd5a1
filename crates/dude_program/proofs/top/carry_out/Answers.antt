use Rattle.dude_program.proofs.top.carry_out.Goals as goal

pub returns-in-Format-clause-ends : goal.returns-in-Format-clause-ends
returns-in-Format-clause-ends g c = rw c.in-Format.is (c.format.ensures.ends (g.F.Files.sight c.args.files.now))

pub returns-in-Run-clause-ends : goal.returns-in-Run-clause-ends
returns-in-Run-clause-ends g c = rw c.in-Run.is c.run.ensures.ends

pub returns-in-Stream-clause-ends : goal.returns-in-Stream-clause-ends
returns-in-Stream-clause-ends g c = rw c.in-Stream.is c.run-in-Stream.ensures.ends

pub returns-in-Recover-clause-ends : goal.returns-in-Recover-clause-ends
returns-in-Recover-clause-ends g c = rw c.in-Recover.is (c.show.ensures.ends (g.F.Files.sight c.args.files.now))

pub returns-in-Dump-clause-ends : goal.returns-in-Dump-clause-ends
returns-in-Dump-clause-ends g c = rw c.in-Dump.is (c.show-in-Dump.ensures.ends (g.F.Files.sight c.args.files.now))

pub returns-in-Locate-clause-ends : goal.returns-in-Locate-clause-ends
returns-in-Locate-clause-ends g c = rw c.in-Locate.is (c.locate.ensures.ends (g.F.Files.sight c.args.files.now))

pub returns-in-Drive-clause-ends : goal.returns-in-Drive-clause-ends
returns-in-Drive-clause-ends g c = rw c.in-Drive.is (c.drive.ensures.ends (g.F.Files.sight c.args.files.now))

pub returns-in-Audit-clause-ends : goal.returns-in-Audit-clause-ends
returns-in-Audit-clause-ends g c = rw c.in-Audit.is c.audit.ensures.ends

pub returns-in-Ship-clause-ends : goal.returns-in-Ship-clause-ends
returns-in-Ship-clause-ends g c = rw c.in-Ship.is c.ship.ensures.ends

pub returns-in-Ship-clause-own : goal.returns-in-Ship-clause-own
returns-in-Ship-clause-own g c = rw c.in-Ship.is tt

pub returns-in-Follow-clause-ends : goal.returns-in-Follow-clause-ends
returns-in-Follow-clause-ends g c = rw c.in-Follow.is c.follow.ensures.ends

pub returns-in-Follow-clause-own : goal.returns-in-Follow-clause-own
returns-in-Follow-clause-own g c = rw c.in-Follow.is c.follow.ensures.follows
