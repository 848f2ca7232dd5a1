use Rattle.std.proofs.Common.{arith, sym}
use Rattle.tree_index.proofs.Numbers.{far_bit}
use Rattle.tree_index.proofs.key_bits.side.Goals as goal

pub returns-else-bit-lt64 : goal.returns-else-bit-lt64
returns-else-bit-lt64 c = sym (far_bit c.args.key c.args.bit c.ranges.key.fits (omega (arith, c.if-bit-lt64.false)))
