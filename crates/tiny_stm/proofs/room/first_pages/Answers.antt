use Rattle.std.proofs.Common.{arith}
use Rattle.tiny_stm.proofs.FirstPages.{none_placed, not_in, one_placed}
use Rattle.tiny_stm.proofs.room.first_pages.Goals as goal

pub loop-frame-init : goal.loop-frame-init
loop-frame-init c = none_placed c.args.pages c.args.frames c.in_ok-pager.pager c.in_ok-pager.ensures.empty c.in_ok-pager.ensures.lawful

pub place-requires-clause-inside : goal.place-requires-clause-inside
place-requires-clause-inside c = let e = c.loop-frame.invariant.pages_are in omega arith

pub place-requires-clause-not_in : goal.place-requires-clause-not_in
place-requires-clause-not_in c = not_in c.args.pages c.args.frames c.loop-frame.frame c.loop-frame.pager c.loop-frame.invariant c.loop-frame-test.true

pub place-requires-clause-free : goal.place-requires-clause-free
place-requires-clause-free c = c.loop-frame.invariant.free c.loop-frame.frame (omega arith) c.loop-frame-test.true

pub loop-frame-preserved : goal.loop-frame-preserved
loop-frame-preserved c = one_placed c.args.pages c.args.frames c.loop-frame.frame c.loop-frame.pager c.loop-frame.invariant c.loop-frame-test.true c.place.new.self c.place.ensures.placed c.place.ensures.lawful
