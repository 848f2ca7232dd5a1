use Rattle.std.proofs.Common.{refl, sym, subst, arith}
use Rattle.pmem_trait.specs.Sights.{Sight}
use Rattle.back_store.specs.BackView.{medium_of, state_of}
use Rattle.back_store.specs.Images.{HoldsStore}
use Rattle.log_numbered.specs.Backs.{HoldsArrays, LeadsUpTo}
use Rattle.log_numbered.proofs.LedLogs.{leads_idle}
use Rattle.log_numbered.proofs.OpenedLogs.{first_array, first_last, holds_first}
use Rattle.log_numbered.proofs.run_log.RunLog.new.Goals as goal

pub returns-clause-alive : goal.returns-clause-alive
returns-clause-alive g c = record {
  leads = subst (λ v. LeadsUpTo v c.args.number) (sym c.requires.idle) (leads_idle (state_of c.args.back).log.sizes c.args.number c.requires.accepted c.requires.small);
  opens = refl;
  small = c.requires.small;
}

pub returns-clause-follows : goal.returns-clause-follows
returns-clause-follows g c before words opened =
    let t : Sight = g.M.Medium.sight (medium_of c.args.back) in
    record {
      last = first_last c.args.number words;
      carried = record {
        from = omega arith;
        upto = omega arith;
        keeps = subst (λ v. HoldsStore before v t) (sym c.requires.idle) opened.keeps;
        holds = λ visible. subst (λ v. HoldsArrays (first_array c.args.number words) v t) (sym c.requires.idle) (holds_first (state_of c.args.back).log.sizes c.args.number words t (opened.home visible));
      };
      leads_on = first_last c.args.number words;
    }
