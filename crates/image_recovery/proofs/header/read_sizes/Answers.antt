use Rattle.std.proofs.Common.{◌≡◌, arith}
use Rattle.image_recovery.proofs.Headers.{has_sizes}
use Rattle.image_recovery.proofs.header.read_sizes.Goals as goal

pub returns-clause-sizes : goal.returns-clause-sizes
returns-clause-sizes g c = λ told content is.
    let len : c.len-len.result ≡ (g.M.Medium.sight c.args.m.now).len = c.len-len.ensures in
    has_sizes c.len-len.result c.read_words.new.header content c.read_words.array_long (omega (arith, is.size)) (omega arith) (c.in_ok-read_words.ensures.words told content is) c.sizes_in.result c.sizes_in.ensures
