use Rattle.std.proofs.Common.{arith}
use Rattle.dude_core.proofs.Records.{put_next, fits}
use Rattle.dude_core.proofs.deeds.writes_of.Goals as goal

pub unwrap-requires : goal.unwrap-requires
unwrap-requires c = let n = c.len-k-end.ensures.len in let h = c.loop-k-test.true in
    fits c.args.record.now.writes c.loop-k.k c.len-k-end.ensures.writes (omega arith) c.put.result c.loop-k.writes c.write_at.result.at c.loop-k.invariant c.put.ensures.wide

pub loop-k-preserved : goal.loop-k-preserved
loop-k-preserved c = let n = c.len-k-end.ensures.len in let h = c.loop-k-test.true in
    put_next c.args.record.now.writes c.loop-k.k c.len-k-end.ensures.writes (omega arith) c.put.result c.unwrap.result c.write_at.result c.loop-k.writes c.put.new.self c.loop-k.invariant c.write_at.ensures c.unwrap.ensures c.put.ensures.ok
