use Rattle.std.proofs.Common.{ℕ, List, sym, ◌∙◌, subst, rules}
use Rattle.dude_base.specs.declared.sizes.Sizes.{Sizes}
use Rattle.tatp_check.specs.Faults.{IsCause}
use Rattle.tatp_check.specs.Order.{IsNotDb}
use Rattle.image_recovery.proofs.Reading.{refused_by_replay, refused_by_check}
use Rattle.image_recovery.proofs.recovery.recover.Goals as goal

pub returns-in_err-replayed-clause-refused : goal.returns-in_err-replayed-clause-refused
returns-in_err-replayed-clause-refused g c =
    refused_by_replay c.from_residual.result c.replay.result c.in_err-replayed.field-0.0 (g.M.Medium.sight c.args.m.now) (search rules) c.in_err-replayed.was c.replay.ensures.refused

pub returns-in_err-check-clause-refused : goal.returns-in_err-check-clause-refused
returns-in_err-check-clause-refused g c = refused_by_check c.from_residual-in_err-check.result c.in_err-check.field-0.0 (g.M.Medium.sight c.args.m.now) (search rules) (λ word fault told content holds.
    let wrong = subst (λ fault. IsCause (IsNotDb c.layout_of-lay.result c.deref.result.now) fault) fault c.in_err-check.ensures.fault in
    let replayed = c.in_ok-replayed.ensures.replayed told content holds in
    record {
      number = c.in_ok-replayed.replayed.number;
      array = c.in_ok-replayed.replayed.words.items;
      recovered = replayed.recovered;
      wrong = subst (λ (s : Sizes). IsNotDb s c.in_ok-replayed.replayed.words.items word) (c.layout_of-lay.ensures ∙ sym replayed.same_sizes)
          (subst (λ (l : List ℕ). IsNotDb c.layout_of-lay.result l word) c.deref.ensures.value wrong);
    })
