use Rattle.std.proofs.Common.{inl, refl, take, arith}
use Rattle.dude_core.specs.StoreData.{tells}
use Rattle.dude_core.proofs.StoreLists.{from_or}
use Rattle.dude_core.proofs.store.Store.was_told_from.Goals as goal

pub returns-then-number-first : goal.returns-then-number-first
returns-then-number-first c = (c.args.first, inl refl, c.if-number-first.true)

pub returns : goal.returns
returns c =
    rw (← c.self.view_is) (from_or c.args.number c.args.first (tells (take c.self.inside.since c.self.inside.made.items)) c.has_told_from.result
    (λ le. absurd (let upto = le in let over = c.if-number-first.false in omega arith)) (rw c.deref.ensures.value at c.has_told_from.ensures))
