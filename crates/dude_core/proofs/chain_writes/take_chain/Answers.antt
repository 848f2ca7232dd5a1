use Rattle.std.proofs.Common.{◌+◌, ◌≤◌, ℕ, ◌∙◌, length, subst, sym, arith}
use Rattle.dude_core.proofs.Chains.{no_end}
use Rattle.dude_core.proofs.ChainWrites.{Taking, taking_room, taking_more, taking_stuck, taking_tells}
use Rattle.dude_core.proofs.chain_writes.take_chain.Goals as goal

pub bundle_behind-requires : goal.bundle_behind-requires
bundle_behind-requires c = c.requires.numbers

pub take_bundle-requires : goal.take_bundle-requires
take_bundle-requires c =
    let w = c.in-Some.ensures.some in
    let all = taking_room c.args.waiting.now c.requires.distinct c.args.from c.args.number c.loop-end.end c.loop-end.out.taken w.0 c.in-Some.bundle.now c.loop-end.invariant.taking w.1 w.2 w.3 in
    let room = c.loop-end.invariant.room in let most = c.requires.room in
    let fits : length c.loop-end.out.taken + length c.in-Some.bundle.now.writes ≤ c.loop-end.out.room = omega arith in
    fits

pub loop-end-preserved : goal.loop-end-preserved
loop-end-preserved c =
    let w = c.in-Some.ensures.some in
    record {
      room = c.take_bundle.ensures.room ∙ c.loop-end.invariant.room;
      taking = subst (λ (n : ℕ). Taking c.args.waiting.now c.args.from n c.args.number c.take_bundle.new.out.taken) (sym c.last-end.ensures)
          (taking_more c.args.waiting.now c.requires.distinct c.args.from c.args.number c.loop-end.end c.loop-end.out.taken c.take_bundle.new.out.taken w.0 c.in-Some.bundle.now c.loop-end.invariant.taking w.1 w.2 w.3
          (omega arith) c.take_bundle.ensures.distinct c.take_bundle.ensures.taken);
    }

pub returns-in-None-clause-taken : goal.returns-in-None-clause-taken
returns-in-None-clause-taken c =
    taking_stuck c.args.waiting.now c.requires.distinct c.args.from c.args.number c.loop-end.end c.loop-end.out.taken c.loop-end.invariant.taking
    (no_end c.args.waiting.now c.requires.distinct c.loop-end.end c.args.number (omega arith) c.in-None.ensures.none)

pub returns-clause-taken : goal.returns-clause-taken
returns-clause-taken c = taking_tells c.args.waiting.now c.requires.distinct c.args.from c.args.number c.loop-end.end c.loop-end.out.taken c.loop-end.invariant.taking (omega arith)
