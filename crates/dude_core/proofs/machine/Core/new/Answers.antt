use Rattle.std.proofs.Common.{◌≡◌, ◌∙◌, ap}
use Rattle.dude_base.specs.declared.sizes.Sizes.{Sizes}
use Rattle.dude_core.specs.StoreData.{start_data}
use Rattle.dude_core.proofs.Made.{core_at_start, none_waits}
use Rattle.dude_core.proofs.machine.Core.new.Goals as goal

pub invariant_of-result : goal.invariant_of-result
invariant_of-result c =
    let store_is : c.in_ok-store-in-Some.store ≡ start_data c.in-Some.setup c.args.sizes.now = c.in_ok-store-in-Some.ensures ∙ ap (λ (s : Sizes). start_data c.in-Some.setup s) c.of.ensures in
    record {
      setup_is = c.in-Some.ensures.within;
      kept = core_at_start c.args.words.items c.args.sizes.now c.args.run.now c.args.threads c.args.number c.in-Some.setup c.in_ok-state-in-Some.state c.in_ok-store-in-Some.store
          c.in-Some.ensures.some c.in-Some.ensures.within c.requires.sizes c.if-sizes-threads.false c.in_ok-state-in-Some.ensures store_is;
      room = none_waits c.in-Some.setup c.args.sizes.now c.in_ok-store-in-Some.store c.in_ok-room-in-Some.room.room store_is;
    }

pub returns-in_ok-room-in-Some-clause-kept : goal.returns-in_ok-room-in-Some-clause-kept
returns-in_ok-room-in-Some-clause-kept c =
    core_at_start c.args.words.items c.args.sizes.now c.args.run.now c.args.threads c.args.number c.in-Some.setup c.in_ok-state-in-Some.state c.in_ok-store-in-Some.store
    c.in-Some.ensures.some c.in-Some.ensures.within c.requires.sizes c.if-sizes-threads.false c.in_ok-state-in-Some.ensures
    (c.in_ok-store-in-Some.ensures ∙ ap (λ (s : Sizes). start_data c.in-Some.setup s) c.of.ensures)
