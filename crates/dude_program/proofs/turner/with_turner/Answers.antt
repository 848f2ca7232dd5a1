use Rattle.std.proofs.Common.{◌≡◌, ◌<◌, Bool, true, false, [], ◌∷◌, ◌++◌, length, if◌then◌else◌, inl, inr, arith}
use Rattle.std.specs.Prelude.{is_ok}
use Rattle.dude_program.specs.Turner.{HasTurner}
use Rattle.dude_program.proofs.turner.with_turner.Goals as goal

pub returns-then-is_worth : goal.returns-then-is_worth
returns-then-is_worth g c = pick (is_ok c.push-added.result) c.push-added.ensures.items
  where
    fewer : length c.args.lists.items < c.args.sizes.now.rings
    fewer = omega (arith, c.if-len-rings.true, c.len.ensures, c.args.lists.ok.0)

    pick : (b : Bool) → c.push-added.new.self.items ≡ (if b then c.args.lists.items ++ c.new.result ∷ [] else c.args.lists.items) → HasTurner c.args.sizes.now.rings c.args.lists.items c.push-added.new.self.items
    pick true e = inr (fewer, c.new.result, c.new.ensures.items, e)
    pick false e = inl e
