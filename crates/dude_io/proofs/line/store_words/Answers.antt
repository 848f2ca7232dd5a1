use Rattle.std.proofs.Common.{◌≡◌, ◌+◌, ◌*◌, ◌∙◌, length, refl, ap, arith}
use Rattle.std.specs.Int.{w64, to_le_bytes}
use Rattle.dude_io.proofs.Pieces.{stored_all, stored_more}
use Rattle.dude_io.proofs.line.store_words.Goals as goal

pub loop-k-preserved : goal.loop-k-preserved
loop-k-preserved c =
    let k = c.loop-k.k in
    let piece = c.copy_from_slice.ensures.after ∙ c.to_le_bytes.ensures in
    let eight : length c.copy_from_slice.new.self ≡ 8 = ap length piece in
    stored_more (to_le_bytes w64) c.args.words.now k 0 (8 * k) _ (8 * (k + 1)) c.loop-k.into c.copy_from_slice.new.self c.loop-k-test.true (omega arith) (omega (arith, eight)) c.loop-k.invariant piece

pub loop-k-init : goal.loop-k-init
loop-k-init c = refl

pub returns : goal.returns
returns c =
    stored_all (to_le_bytes w64) c.args.words.now c.loop-k.k (8 * c.loop-k.k) c.loop-k.into c.loop-k-test.false (omega arith) c.loop-k.invariant
