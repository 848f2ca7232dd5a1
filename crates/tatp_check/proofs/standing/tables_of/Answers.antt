use Rattle.std.proofs.Common.{◌≡◌, inl, sym, subst}
use Rattle.std.proofs.lemmas.Result.{IfOk-weaker}
use Rattle.tatp_model.specs.Database.{database_of}
use Rattle.tatp_layout.specs.Index.{IndexStands}
use Rattle.tatp_layout.specs.StandsFor.{StandsFor}
use Rattle.tatp_check.specs.Faults.{IsCause}
use Rattle.tatp_check.specs.Order.{IsInTables}
use Rattle.tatp_check.specs.Walked.{database_in, records_of_kind}
use Rattle.tatp_check.proofs.OneWord.{lawful_references, lawful_right}
use Rattle.tatp_check.proofs.StandsFor.{stands_with}
use Rattle.tatp_check.proofs.WalkedRows.{subscribers_walked}
use Rattle.tatp_check.proofs.standing.tables_of.Goals as goal

pub unreachable-requires : goal.unreachable-requires
unreachable-requires c =
    let first = subst (IsCause (IsInTables c.args.lay.now c.args.a.now)) c.in-Err-NotDb.field-0-is c.in-Err-NotDb.ensures.fault in
    lawful_right c.args.lay.now c.args.a.now c.requires.lawful.0 c.requires.lawful.1 c.in-Err-NotDb.field-0-0 (inl first)

pub returns-in-Ok : goal.returns-in-Ok
returns-in-Ok c =
    let s = c.args.lay.now in
    let array = c.args.a.now in
    let walked = c.in-Ok.ensures.walked in
    let bound = lawful_references s array c.requires.lawful.0 c.requires.lawful.1 (records_of_kind c.in-Ok.walked) (λ kind. (walked.each kind).whole) in
    IfOk-weaker c.rows_of.result (λ tables. database_of tables ≡ database_in array c.in-Ok.walked) (λ tables. StandsFor s array (database_of tables))
    (λ tables same. subst (StandsFor s array) (sym same) (stands_with s array c.in-Ok.walked walked bound c.requires.size
    (subst (IndexStands s array) (subscribers_walked s array c.requires.lawful.0 c.requires.lawful.1 c.in-Ok.walked walked bound) c.requires.lawful.1.index))) c.rows_of.ensures
