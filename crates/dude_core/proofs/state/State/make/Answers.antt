use Rattle.std.proofs.Common.{refl}
use Rattle.dude_core.specs.Named.{event_of}
use Rattle.dude_core.proofs.MadeEvents.{words_kept, make_allowed, make_leads, make_off, make_none}
use Rattle.dude_core.specs.Stands.{machine_over}
use Rattle.dude_core.proofs.state.State.make.Goals as goal

pub drops-dropped-requires : goal.drops-dropped-requires
drops-dropped-requires c = let t = c.if-not-may_make.ensures in (t.0, t.1.is_there)

pub enact-requires-clause-kept : goal.enact-requires-clause-kept
enact-requires-clause-kept c = words_kept c.args.z.now (machine_over c.args.z.now c.args.self.now c.args.store.now) c.requires

pub enact-requires-clause-allowed : goal.enact-requires-clause-allowed
enact-requires-clause-allowed c = make_allowed c.args.z.now c.args.self.now c.args.store.now c.args.who (event_of c.args.deed.now) c.requires c.if-not-may_make.ensures

pub returns-then-not-may_make-clause-off : goal.returns-then-not-may_make-clause-off
returns-then-not-may_make-clause-off c = make_none c.args.z.now c.args.self.now c.args.store.now c.args.who (event_of c.args.deed.now) refl c.if-not-may_make.ensures

pub returns-in-Ok-clause-ok : goal.returns-in-Ok-clause-ok
returns-in-Ok-clause-ok c = make_leads c.args.z.now c.args.self.now c.args.store.now c.args.who (event_of c.args.deed.now) c.enact.new.self c.drop_reads.new.self c.drops-dropped.result
    c.if-not-may_make.ensures c.drops-dropped.ensures c.in-Ok.ensures.ok c.drop_reads.ensures

pub returns-in-Ok-clause-off : goal.returns-in-Ok-clause-off
returns-in-Ok-clause-off c = make_off c.args.z.now c.args.self.now c.args.store.now c.args.who (event_of c.args.deed.now) c.if-not-may_make.ensures (λ e. absurd cc)

pub returns-in-Err-clause-off : goal.returns-in-Err-clause-off
returns-in-Err-clause-off c = make_off c.args.z.now c.args.self.now c.args.store.now c.args.who (event_of c.args.deed.now) c.if-not-may_make.ensures (λ e. absurd cc)

pub returns-in-Err-clause-memory : goal.returns-in-Err-clause-memory
returns-in-Err-clause-memory c = λ lacks. c.in-Err.ensures.memory
