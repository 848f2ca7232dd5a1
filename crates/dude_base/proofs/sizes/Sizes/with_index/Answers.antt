use Rattle.std.proofs.Common.{ℕ, ap}
use Rattle.dude_base.specs.Sizes.{sizes_with}
use Rattle.dude_base.proofs.SizesWithin.{accepted}
use Rattle.dude_base.proofs.sizes.Sizes.with_index.Goals as goal

pub pages_needed-requires : goal.pages_needed-requires
pages_needed-requires c = c.in_ok-check_counts.ensures.ok

pub returns-clause-ok : goal.returns-clause-ok
returns-clause-ok c =
    let within = c.in_ok-check_counts.ensures.ok in
    let asked = sizes_with c.args.index c.args.subscribers c.args.calls c.args.rings c.args.cells in
    (ap (λ (p : ℕ). record asked { pages = p }) c.pages_needed.ensures, accepted (record asked { pages = 0 }) c.pages_needed.result within c.pages_needed.ensures)
