use Rattle.std.proofs.Common.{◌↔◌, OnOk, IsErrOf, ◌≡◌, List, ap, sym, subst, arith}
use Rattle.core_medium.specs.Machines.{MachineStep, MachineLeads}
use Rattle.redo_record.specs.Waiting.{Waiting}
use Rattle.dude_core.specs.declared.core_refusal.CoreRefusal.TheVariants.{Off}
use Rattle.dude_core.specs.Chains.{writes_in}
use Rattle.dude_core.specs.Memory.{TakesNoMemory}
use Rattle.dude_core.specs.Named.{event_of}
use Rattle.dude_core.specs.Stands.{machine_over}
use Rattle.dude_core.specs.StateSteps.{IsOffIn}
use Rattle.dude_core.proofs.MadeEvents.{words_kept, split_ok, split_off, join_ok, join_off, asked_ok, asked_off}
use Rattle.dude_core.proofs.Memory.{made_takes_none}
use Rattle.dude_core.proofs.steps.step.Goals as goal

pub join-requires : goal.join-requires
join-requires c = words_kept c.args.z.now (machine_over c.args.z.now c.args.state.now c.args.store.now) c.requires.kept

pub returns-in-Split-clause-ok : goal.returns-in-Split-clause-ok
returns-in-Split-clause-ok c = asked_ok c.args.z.now c.args.state.now c.args.store.now c.args.who c.split.result (machine_over c.args.z.now c.split.new.self c.args.store.now) c.in-Split.is
    (split_ok c.args.z.now c.args.state.now c.args.store.now c.args.who c.in-Split.draws c.split.result c.split.new.self c.split.ensures.ok)

pub returns-in-Join-clause-ok : goal.returns-in-Join-clause-ok
returns-in-Join-clause-ok c = asked_ok c.args.z.now c.args.state.now c.args.store.now c.args.who c.join.result (machine_over c.args.z.now c.join.new.self c.args.store.now) c.in-Join.is
    (join_ok c.args.z.now c.args.state.now c.args.store.now c.args.who c.in-Join.other c.join.result c.join.new.self c.join.ensures.ok)

pub returns-in-Device-clause-ok : goal.returns-in-Device-clause-ok
returns-in-Device-clause-ok c = asked_ok c.args.z.now c.args.state.now c.args.store.now c.args.who c.make_device.result (machine_over c.args.z.now c.args.state.now c.make_device.new.store) c.in-Device.is c.make_device.ensures.ok

pub returns-in-Split-clause-off : goal.returns-in-Split-clause-off
returns-in-Split-clause-off c = asked_off c.args.z.now c.args.state.now c.args.store.now c.args.who c.in-Split.is (split_off c.args.z.now c.args.state.now c.args.store.now c.args.who c.in-Split.draws c.split.ensures.off)

pub returns-in-Join-clause-off : goal.returns-in-Join-clause-off
returns-in-Join-clause-off c = asked_off c.args.z.now c.args.state.now c.args.store.now c.args.who c.in-Join.is (join_off c.args.z.now c.args.state.now c.args.store.now c.args.who c.in-Join.other c.join.ensures.off)

pub returns-in-Device-clause-off : goal.returns-in-Device-clause-off
returns-in-Device-clause-off c = asked_off c.args.z.now c.args.state.now c.args.store.now c.args.who c.in-Device.is c.make_device.ensures.off

pub returns-in-Split-clause-no_memory : goal.returns-in-Split-clause-no_memory
returns-in-Split-clause-no_memory c = λ none. absurd (subst TakesNoMemory c.in-Split.is none)

pub returns-in-Join-clause-no_memory : goal.returns-in-Join-clause-no_memory
returns-in-Join-clause-no_memory c = λ none. absurd (subst TakesNoMemory c.in-Join.is none)

pub returns-in-Device-clause-no_memory : goal.returns-in-Device-clause-no_memory
returns-in-Device-clause-no_memory c = λ none. absurd (subst TakesNoMemory c.in-Device.is none)

pub returns-in_default : goal.returns-in_default
returns-in_default c = let same = sym (c.deed_of-deed.ensures c.args.who) in record {
  room = (let waiting : writes_in c.make.new.store.waiting ≡ writes_in c.args.store.now.waiting = ap (λ (ws : List Waiting). writes_in ws) c.make.ensures.waiting in let room = c.requires.room in omega arith);
  ok = subst (λ (s : MachineStep). OnOk c.make.result (MachineLeads c.args.z.now (machine_over c.args.z.now c.args.state.now c.args.store.now) s (machine_over c.args.z.now c.make.new.self c.make.new.store))) same c.make.ensures.ok;
  err = c.make.ensures.err;
  same = c.make.ensures.same;
  off = subst (λ (s : MachineStep). IsErrOf c.make.result Off ↔ IsOffIn c.args.z.now (machine_over c.args.z.now c.args.state.now c.args.store.now) s) same c.make.ensures.off;
  no_memory = λ none lacks. made_takes_none c.args.store.now.read c.args.event.now (event_of c.deed_of-deed.result) c.deed_of-deed.ensures none (c.make.ensures.memory lacks);
}
