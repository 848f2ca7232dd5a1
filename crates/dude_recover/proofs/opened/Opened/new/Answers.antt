use Rattle.dude_base.specs.declared.limits.TheConstants.{VERSION}
use Rattle.pmem_trait.specs.Sights.{state_now}
use Rattle.back_store.proofs.RestingHome.{home_is, idle_keeps}
use Rattle.dude_recover.proofs.opened.Opened.new.Goals as goal

pub returns-in-Ok-clause-holds : goal.returns-in-Ok-clause-holds
returns-in-Ok-clause-holds g c before idle_medium = record {
  keeps = idle_keeps before c.args.lay c.args.number c.args.words.items (g.M.Medium.sight c.args.medium) c.requires.accepted c.requires.small idle_medium;
  home = λ visible. home_is VERSION c.args.lay c.args.number c.args.words.items (state_now (g.M.Medium.sight c.args.medium)) (idle_medium visible).rest;
}
