use Rattle.std.proofs.Common.{◌≡◌, ◌-◌, arith, rules, subst}
use Rattle.stm_transactions.proofs.Pins.{stays_on, stays_once}
use Rattle.stm_transactions.proofs.Extending.{Extending, check_may, extending_on, extending_bad, extending_end}
use Rattle.stm_transactions.proofs.looking.extend_all.Goals as goal

pub check-seen-requires : goal.check-seen-requires
check-seen-requires g c =
    let last = c.up_to_last_lock-count.ensures.last (c.up_to_last_lock-count.result - 1) (let lt = c.loop-k-test.true in omega arith) in
    record {
      may = record {
        seat = c.loop-k.invariant.0.belongs;
        may = rw c.locks-locks.ensures (check_may c.args.stm.now.events.setup c.args.thread c.args.snapshot c.args.reads.now c.args.seat.now.me.0.view c.requires.reading c.extend-n.result c.loop-k.k (c.up_to_last_lock-count.result - 1) c.loop-k.seat.me.0.view c.loop-k.invariant.1 (let lt = c.loop-k-test.true in omega arith) last.0 (rw c.locks-locks.ensures at last.1) (search rules));
        slots = c.requires.slots.check _;
      };
    }

pub returns-clause-ok : goal.returns-clause-ok
returns-clause-ok g c =
    let over = c.loop-k-test.false in
    let within = c.loop-k.auto.k-end in
    let all : c.loop-k.k ≡ c.up_to_last_lock-count.result = omega arith in (
      extending_end c.args.stm.now.events.setup c.args.thread c.args.snapshot c.args.reads.now c.args.seat.now.me.0.view c.requires.reading c.extend-n.result c.up_to_last_lock-count.result c.loop-k.seat.me.0.view
          (subst (λ k. Extending c.args.stm.now.events.setup c.extend-n.result k c.args.reads.now c.args.seat.now.me.0.view c.loop-k.seat.me.0.view) all c.loop-k.invariant.1) (rw c.locks-locks.ensures at c.up_to_last_lock-count.ensures.behind),
      c.extend-n.ensures.found.told,
    )

pub returns-then-not-is_good_word-clause-err : goal.returns-then-not-is_good_word-clause-err
returns-then-not-is_good_word-clause-err g c =
    let last = c.up_to_last_lock-count.ensures.last (c.up_to_last_lock-count.result - 1) (let lt = c.loop-k-test.true in omega arith) in
    rw c.locks-locks.ensures (extending_bad c.args.stm.now.events.setup c.args.thread c.args.snapshot c.args.reads.now c.args.seat.now.me.0.view c.requires.reading c.extend-n.result c.loop-k.k (c.up_to_last_lock-count.result - 1) c.loop-k.seat.me.0.view c.loop-k.invariant.1 (let lt = c.loop-k-test.true in omega arith) last.0 (rw c.locks-locks.ensures at last.1) c.check-seen.result c.check-seen.new.seat.me.0.view (rw c.locks-locks.ensures at c.check-seen.ensures.view) (search rules))

pub loop-k-preserved : goal.loop-k-preserved
loop-k-preserved g c =
    let last = c.up_to_last_lock-count.ensures.last (c.up_to_last_lock-count.result - 1) (let lt = c.loop-k-test.true in omega arith) in (
      stays_on c.args.stm.now.events c.args.seat.now c.loop-k.seat c.check-seen.new.seat c.loop-k.invariant.0 (stays_once c.args.stm.now.events _ c.check-seen.result c.loop-k.seat c.check-seen.new.seat c.check-seen.ensures.found),
      extending_on c.args.stm.now.events.setup c.args.thread c.args.snapshot c.args.reads.now c.args.seat.now.me.0.view c.requires.reading c.extend-n.result c.loop-k.k (c.up_to_last_lock-count.result - 1) c.loop-k.seat.me.0.view c.loop-k.invariant.1 (let lt = c.loop-k-test.true in omega arith) last.0 (rw c.locks-locks.ensures at last.1) c.check-seen.result c.check-seen.new.seat.me.0.view (rw c.locks-locks.ensures at c.check-seen.ensures.view) (search rules),
    )
