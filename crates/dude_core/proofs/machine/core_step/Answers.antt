use Rattle.std.proofs.Common.{◌↔◌, OnOk, IsErrOf, subst}
use Rattle.dude_core.specs.declared.core_refusal.CoreRefusal.TheVariants.{Off}
use Rattle.dude_core.specs.StateSteps.{IsOffIn}
use Rattle.dude_core.specs.CoreState.{CoreState, machine_of, LeadsTo}
use Rattle.dude_core.specs.Steps.{step_of}
use Rattle.dude_core.proofs.Made.{core_kept, core_same}
use Rattle.dude_core.proofs.machine.core_step.Goals as goal

pub invariant_of-core : goal.invariant_of-core
invariant_of-core c = record {
  setup_is = c.core.invariant.setup_is;
  kept = core_kept c.core.inside.setup c.core.inside.state c.step.new.state c.core.inside.store c.step.new.store (step_of c.core.inside.store.read c.args.who c.args.event.now) c.step.result c.core.invariant.kept c.step.ensures.ok c.step.ensures.err c.step.ensures.same;
  room = c.step.ensures.room;
}

pub returns-clause-ok : goal.returns-clause-ok
returns-clause-ok c = subst (λ (a : CoreState). OnOk c.step.result (LeadsTo a (step_of a.store.read c.args.who c.args.event.now) (record { setup = c.core.inside.setup; state = c.step.new.state; store = c.step.new.store }))) c.core.view_is c.step.ensures.ok

pub returns-clause-kept : goal.returns-clause-kept
returns-clause-kept c = core_kept c.core.inside.setup c.core.inside.state c.step.new.state c.core.inside.store c.step.new.store (step_of c.core.inside.store.read c.args.who c.args.event.now) c.step.result c.core.invariant.kept c.step.ensures.ok c.step.ensures.err c.step.ensures.same

pub returns-clause-err : goal.returns-clause-err
returns-clause-err c = core_same c.core.inside.setup c.core.inside.state c.step.new.state c.core.inside.store c.step.new.store c.args.core.now c.step.result c.core.view_is c.step.ensures.err c.step.ensures.same

pub returns-clause-off : goal.returns-clause-off
returns-clause-off c = subst (λ (a : CoreState). IsErrOf c.step.result Off ↔ IsOffIn a.setup (machine_of a) (step_of a.store.read c.args.who c.args.event.now)) c.core.view_is c.step.ensures.off
