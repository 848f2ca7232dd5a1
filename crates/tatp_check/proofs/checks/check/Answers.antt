use Rattle.std.proofs.Common.{◌≡◌, Err, IfErr, inl, inr, rules, sym, subst}
use Rattle.std.proofs.lemmas.Result.{IfErr-weaker, IfOk-weaker}
use Rattle.tatp_layout.specs.StandsFor.{IsLawful}
use Rattle.tatp_check.specs.declared.table_kind.TableKind.TheVariants.{Subscribers}
use Rattle.tatp_check.specs.Faults.{IsCause}
use Rattle.tatp_check.specs.IndexFaults.{IsWrongWhere, StandsWhere}
use Rattle.tatp_check.proofs.Ends.{cause_of}
use Rattle.tatp_check.specs.Order.{IsNotDb}
use Rattle.tatp_check.specs.Walked.{database_in, records_of_kind}
use Rattle.tatp_check.proofs.OneWord.{not_db}
use Rattle.tatp_check.proofs.StandsFor.{stands}
use Rattle.tatp_check.proofs.checks.check.Goals as goal

pub returns-in_err-walked-clause-fault : goal.returns-in_err-walked-clause-fault
returns-in_err-walked-clause-fault c =
    let was : c.from_residual.result ≡ Err c.in_err-walked.field-0.0 = search rules in
    subst (λ r. IfErr r (IsCause (IsNotDb c.args.lay.now c.args.a.now))) (sym was)
    (cause_of _ _ (λ word first. not_db c.args.lay.now c.args.a.now word (inl first)) c.in_err-walked.field-0.0 c.in_err-walked.ensures.fault)

pub returns-in-Some-clause-ok : goal.returns-in-Some-clause-ok
returns-in-Some-clause-ok c = tt

pub returns-in-Some-clause-fault : goal.returns-in-Some-clause-fault
returns-in-Some-clause-fault c =
    let walked = c.in_ok-walked.ensures.walked in
    not_db c.args.lay.now c.args.a.now c.in-Some.word (inr (inl (record { records = records_of_kind c.in_ok-walked.walked; whole = λ kind. (walked.each kind).whole; wrong = c.in-Some.ensures })))

pub returns-clause-ok : goal.returns-clause-ok
returns-clause-ok c =
    let s = c.args.lay.now in
    let array = c.args.a.now in
    let walked = c.in_ok-walked.walked in
    IfOk-weaker c.check_index.result (λ _. StandsWhere s array (records_of_kind walked Subscribers)) (λ _. IsLawful s array)
    (λ _ whole. (database_in array walked, stands s array walked c.in_ok-walked.ensures.walked c.in-None.ensures c.requires.size whole)) c.check_index.ensures.ok

pub returns-clause-fault : goal.returns-clause-fault
returns-clause-fault c =
    let s = c.args.lay.now in
    let array = c.args.a.now in
    let walked = c.in_ok-walked.ensures.walked in
    IfErr-weaker c.check_index.result (IsCause (IsWrongWhere s array (records_of_kind c.in_ok-walked.walked Subscribers))) (IsCause (IsNotDb s array))
    (λ fault cause. cause_of _ _ (λ word wrong. not_db s array word (inr (inr (record { records = records_of_kind c.in_ok-walked.walked; whole = λ kind. (walked.each kind).whole; bound = c.in-None.ensures; wrong = wrong })))) fault cause) c.check_index.ensures.fault
