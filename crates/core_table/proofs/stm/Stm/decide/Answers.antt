use Rattle.std.proofs.Common.{refl}
use Rattle.core_events.specs.Events.{decide}
use Rattle.core_events.proofs.Telling.{word_inside}
use Rattle.core_table.proofs.stm.Stm.decide.Goals as goal

pub lock_place-requires : goal.lock_place-requires
lock_place-requires g c =
    let r = c.requires in let s = r.may.seat in
    rw r.lock (word_inside c.args.self.now.events.setup decide c.args.seat.now.me.0.view s.small.some_lock s.seated r.may.may)

pub load_as-requires-clause-word : goal.load_as-requires-clause-word
load_as-requires-clause-word g c = λ n told. refl
