-- Why an open bundle takes no record.
use Rattle.std.proofs.Common.{ℕ, ◌+◌, sym, ap, ◌∙◌, arith}
use Rattle.dude_base.specs.Joins.{CanJoin, Refuses}
use Rattle.dude_base.specs.Records.{RedoBundle, RedoRecord}
use Rattle.dude_base.specs.declared.no_join.NoJoin.{NoJoin}
use Rattle.dude_base.specs.declared.no_join.NoJoin.TheVariants.{Gap, Long, Broad}

-- a refused record can't join
pub refused_by : (fault : NoJoin) (b : RedoBundle) (r : RedoRecord) → Refuses fault b r → CanJoin b r → ⊥
refused_by (Gap last number) b r why can = why.2 (why.1 ∙ can.next ∙ ap (λ (n : ℕ). n + 1) (sym why.0))
refused_by (Long span) b r why can = let short = can.short in let one = why.1 in let two = why.2 in omega arith
refused_by (Broad places) b r why can = let narrow = can.narrow in let one = why.2 in let two = why.3 in omega arith
