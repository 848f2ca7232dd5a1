use Rattle.std.proofs.Common.{◌↔◌, sym, subst}
use Rattle.std.specs.Bool.{IsTrue}
use Rattle.tatp_check.specs.IndexFaults.{HasLeaf}
use Rattle.tatp_check.specs.Taken.{Finds}
use Rattle.tatp_check.proofs.Found.{found_some}
use Rattle.tatp_check.proofs.index_check.has_leaf.Goals as goal

pub returns : goal.returns
returns c = λ leaves taken.
    let array = c.args.a.now in
    subst (λ b. IsTrue b ↔ HasLeaf array leaves c.args.at) (sym c.is_some.ensures)
    (found_some array leaves _ c.find.result (subst (λ key. Finds array leaves key c.find.result) c.key_at.ensures (c.find.ensures array leaves taken)))
