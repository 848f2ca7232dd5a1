use Rattle.std.proofs.Common.{nat_lt, rules, refl}
use Rattle.std.proofs.lemmas.Fn.{filter_same}
use Rattle.redo_record.specs.Fits.{Logged}
use Rattle.dude_core.proofs.ring.Ring.release.Goals as goal

pub returns : goal.returns
returns c = rw (filter_same _ (λ (l : Logged). nat_lt c.args.number l.last) _ (λ x b f q. search rules) _ _ c.retain.ensures.filtered, ← c.self.view_is) refl
