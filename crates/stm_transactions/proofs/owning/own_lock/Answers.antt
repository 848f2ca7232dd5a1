use Rattle.std.proofs.Common.{◌≡◌, List, None, refl, subst, sym, ◌∙◌, rules}
use Rattle.dude_base.specs.declared.write.Write.{Write}
use Rattle.core_events.specs.Events.{take}
use Rattle.stm_transactions.specs.Pairs.{pairs_of}
use Rattle.dude_base.specs.Writes.{written}
use Rattle.stm_transactions.specs.Owns.{AfterOwn}
use Rattle.stm_transactions.proofs.Pairs.{put_new, noted_new}
use Rattle.stm_transactions.proofs.Pins.{known_found}
use Rattle.stm_transactions.proofs.Owns.{take_may, take_won, take_failed}
use Rattle.stm_transactions.proofs.owning.own_lock.Goals as goal

pub take-found-requires-clause-may : goal.take-found-requires-clause-may
take-found-requires-clause-may g c =
    record {
      seat = c.look_at.ensures.stays.belongs;
      may = take_may c.args.stm.now.events.setup c.args.thread c.args.snapshot.now c.args.lock c.args.reads.now c.args.held.now c.args.seat.now.me.0.view c.requires.reading c.requires.owned (search rules) (search rules)
          c.in_ok-look.look.seen c.in_ok-look.look.snapshot c.look_at.new.seat.me.0.view c.in_ok-look.ensures.ok (search rules);
      slots = c.requires.slots.take c.args.lock;
    }

pub returns-then-found-seen-clause-why : goal.returns-then-found-seen-clause-why
returns-then-found-seen-clause-why g c =
    take_failed c.args.stm.now.events.setup c.args.thread c.args.snapshot.now c.args.lock c.args.reads.now c.args.held.now c.args.seat.now.me.0.view c.requires.reading c.requires.owned (search rules) (search rules)
    c.in_ok-look.look.seen c.in_ok-look.look.snapshot c.look_at.new.seat.me.0.view c.in_ok-look.ensures.ok
    c.take-found.result c.take-found.new.seat.me.0.view c.take-found.ensures.view c.look_at.new.seat.me.0 c.take-found.new.seat.me.0 refl refl
    (known_found c.args.stm.now.events (take c.args.lock) c.take-found.result c.look_at.new.seat c.take-found.new.seat c.take-found.ensures.view c.take-found.ensures.found)
    c.take-found.ensures.found.told.word c.take-found.ensures.found.told.before (λ same. absurd (c.if-found-seen.true same))

pub returns-clause-ok : goal.returns-clause-ok
returns-clause-ok g c =
    let none : written c.args.held.now c.args.lock ≡ None = search rules in
    let same : c.take-found.result ≡ c.in_ok-look.look.seen = search rules in
    let end = put_new c.args.held.now c.args.lock c.in_ok-look.look.seen none in
    let after = take_won c.args.stm.now.events.setup c.args.thread c.args.snapshot.now c.args.lock c.args.reads.now c.args.held.now c.args.seat.now.me.0.view c.requires.reading c.requires.owned (search rules) none
    c.in_ok-look.look.seen c.in_ok-look.look.snapshot c.look_at.new.seat.me.0.view c.in_ok-look.ensures.ok
    c.take-found.result c.take-found.new.seat.me.0.view c.take-found.ensures.view same in (
      subst (λ (ws : List Write). AfterOwn (pairs_of ws) c.in_ok-look.look.snapshot c.args.seat.now.me.0.view c.take-found.new.seat.me.0.view) (sym (c.in-Ok.ensures.ok ∙ end)) after,
      noted_new c.args.held.now c.put.new.self c.args.lock c.in_ok-look.look.seen none c.in-Ok.ensures.ok,
    )
