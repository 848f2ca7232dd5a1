use Rattle.std.proofs.Common.{All, sym, subst}
use Rattle.std.proofs.lemmas.Result.{IfErr-weaker, IfOk-weaker}
use Rattle.tree_index.specs.Tree.{FitsTree}
use Rattle.tatp_check.specs.declared.table_kind.TableKind.TheVariants.{Subscribers}
use Rattle.tatp_check.specs.Faults.{IsCause}
use Rattle.tatp_check.specs.IndexFaults.{HasSmallKey, IsWholeIndex, IsWrongIndex, IsWrongWhere, StandsWhere}
use Rattle.tatp_check.specs.Walked.{records_of_kind}
use Rattle.tatp_check.proofs.Ends.{cause_of}
use Rattle.tatp_check.proofs.IndexSteps.{stands_bare, stands_indexed, wrong_indexed}
use Rattle.tatp_check.proofs.StandsFor.{small_keys}
use Rattle.tatp_check.proofs.index_check.check_index.Goals as goal

pub check_keys-requires-clause-fits : goal.check_keys-requires-clause-fits
check_keys-requires-clause-fits c = subst (FitsTree c.in-Some.tree) (sym c.requires.size) c.in-Some.ensures.fits

pub check_keys-requires-clause-small : goal.check_keys-requires-clause-small
check_keys-requires-clause-small c =
    subst (All (HasSmallKey c.args.a.now)) (sym c.records.ensures) (small_keys c.args.lay.now c.args.a.now c.args.walked.now c.requires.walked)

pub returns-in-Some-clause-ok : goal.returns-in-Some-clause-ok
returns-in-Some-clause-ok c =
    let s = c.args.lay.now in
    let array = c.args.a.now in
    let subscribers = records_of_kind c.args.walked.now Subscribers in
    IfOk-weaker c.check_keys.result (λ _. IsWholeIndex c.in-Some.tree array c.records.result.now) (λ _. StandsWhere s array subscribers)
    (λ _ whole. stands_indexed s array subscribers (sym c.in-Some.ensures.tree) (subst (IsWholeIndex c.in-Some.tree array) c.records.ensures whole)) c.check_keys.ensures.ok

pub returns-in-Some-clause-fault : goal.returns-in-Some-clause-fault
returns-in-Some-clause-fault c =
    let s = c.args.lay.now in
    let array = c.args.a.now in
    let subscribers = records_of_kind c.args.walked.now Subscribers in
    IfErr-weaker c.check_keys.result (IsCause (IsWrongIndex c.in-Some.tree array c.records.result.now)) (IsCause (IsWrongWhere s array subscribers))
    (λ fault cause. cause_of _ _ (λ word wrong. wrong_indexed s array subscribers (sym c.in-Some.ensures.tree) word (subst (λ l. IsWrongIndex c.in-Some.tree array l word) c.records.ensures wrong)) fault cause) c.check_keys.ensures.fault

pub returns-in-None-clause-ok : goal.returns-in-None-clause-ok
returns-in-None-clause-ok c = stands_bare c.args.lay.now c.args.a.now (records_of_kind c.args.walked.now Subscribers) (sym c.in-None.ensures.tree)
