use Rattle.std.proofs.Common.{arith, ne_eqb}
use Rattle.pmem_trait.specs.Sights.{CallsMade.none}
use Rattle.dude_recover.proofs.opening.raise_version.Goals as goal

-- an image of the newest version isn't raised
pub returns-clause-made : goal.returns-clause-made
returns-clause-made g c = rw (ne_eqb c.args.version 1 (λ same. omega (arith, same))) none
