use Rattle.std.proofs.Common.{◌≡◌, length, arith}
use Rattle.tatp_layout.specs.DigitLists.{digits_below}
use Rattle.tatp_rows.proofs.words.subscriber_entry.Goals as goal

pub overflow_mul-result : goal.overflow_mul-result
overflow_mul-result c =
    let long : length c.args.row.now.hexes ≡ 10 = omega arith in
    omega (arith, c.packed-2.ensures, digits_below {base = 16} c.args.row.now.hexes 10 long c.requires.hexes)

pub overflow_add-result : goal.overflow_add-result
overflow_add-result c =
    let long : length c.args.row.now.hexes ≡ 10 = omega arith in
    let short : length c.args.row.now.bits ≡ 10 = omega arith in
    omega (arith, c.packed-2.ensures, c.packed.ensures, digits_below {base = 16} c.args.row.now.hexes 10 long c.requires.hexes, digits_below {base = 2} c.args.row.now.bits 10 short (λ i d below. omega (arith, c.requires.bits i d below)))
