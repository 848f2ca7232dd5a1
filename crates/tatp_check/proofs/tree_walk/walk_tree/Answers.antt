use Rattle.std.proofs.Common.{◌≡◌, Err, IfErr, rules, sym, ◌∙◌, subst}
use Rattle.std.proofs.lemmas.Bool.{false≢true}
use Rattle.tatp_check.specs.Faults.{IsCause}
use Rattle.tatp_check.specs.TreeFaults.{IsWrongInTree}
use Rattle.tatp_check.proofs.Ends.{cause_of}
use Rattle.tatp_check.proofs.TreeWalks.{knows_bare, knows_root}
use Rattle.tatp_check.proofs.tree_walk.walk_tree.Goals as goal

pub returns-then-is_bare-clause-knows : goal.returns-then-is_bare-clause-knows
returns-then-is_bare-clause-knows c = knows_bare c.args.tree.now c.args.a.now c.args.keys.now _ c.requires.none (c.is_bare.ensures.0 c.if-is_bare.true)

pub loop-next-init : goal.loop-next-init
loop-next-init c = knows_root c.args.tree.now c.args.a.now c.args.keys.now _ c.requires.none

pub returns-in_err-next-clause-fault : goal.returns-in_err-next-clause-fault
returns-in_err-next-clause-fault c =
    let was : c.from_residual.result ≡ Err c.in_err-next.field-0.0 = search rules in
    subst (λ r. IfErr r (IsCause (IsWrongInTree c.args.tree.now c.args.a.now c.args.keys.now))) (sym was)
    (cause_of _ _ (λ word wrong. ((λ bare. false≢true (sym c.if-is_bare.false ∙ c.is_bare.ensures.1 bare)), wrong)) c.in_err-next.field-0.0 c.in_err-next.ensures.fault)
