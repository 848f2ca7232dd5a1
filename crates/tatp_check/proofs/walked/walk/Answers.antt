use Rattle.std.proofs.Common.{◌≡◌, Err, IfErr, length, rules, sym, subst}
use Rattle.hash_table.specs.Table.{FitsTable}
use Rattle.tatp_check.specs.Faults.{IsCause}
use Rattle.tatp_check.specs.declared.table_kind.TableKind.{TableKind}
use Rattle.tatp_check.specs.declared.table_kind.TableKind.TheVariants.{Subscribers, Numbers, Access, Facilities, Calls}
use Rattle.tatp_check.specs.Whole.{KeepsWhole}
use Rattle.tatp_check.specs.Content.{content_of, table_of}
use Rattle.tatp_check.specs.declared.walked.Walked.{Walked}
use Rattle.tatp_check.specs.Order.{IsInTables}
use Rattle.tatp_check.specs.Walked.{taken_of}
use Rattle.tatp_check.proofs.Firsts.{first_in, before_numbers, before_access, before_facilities, before_calls}
use Rattle.tatp_check.proofs.walked.walk.Goals as goal

pub returns-in_err-numbers-clause-fault : goal.returns-in_err-numbers-clause-fault
returns-in_err-numbers-clause-fault c =
    let was : c.from_residual-in_err-numbers.result ≡ Err c.in_err-numbers.field-0.0 = search rules in
    subst (λ r. IfErr r (IsCause (IsInTables c.args.lay.now c.args.a.now))) (sym was)
    (first_in _ _ Numbers (before_numbers _ _ _ c.in_ok-subscribers.ensures.whole) c.in_err-numbers.field-0.0 c.in_err-numbers.ensures.fault)

pub returns-in_err-access-clause-fault : goal.returns-in_err-access-clause-fault
returns-in_err-access-clause-fault c =
    let was : c.from_residual-in_err-access.result ≡ Err c.in_err-access.field-0.0 = search rules in
    subst (λ r. IfErr r (IsCause (IsInTables c.args.lay.now c.args.a.now))) (sym was)
    (first_in _ _ Access (before_access _ _ _ c.in_ok-subscribers.ensures.whole _ c.in_ok-numbers.ensures.whole) c.in_err-access.field-0.0 c.in_err-access.ensures.fault)

pub returns-in_err-facilities-clause-fault : goal.returns-in_err-facilities-clause-fault
returns-in_err-facilities-clause-fault c =
    let was : c.from_residual-in_err-facilities.result ≡ Err c.in_err-facilities.field-0.0 = search rules in
    subst (λ r. IfErr r (IsCause (IsInTables c.args.lay.now c.args.a.now))) (sym was)
    (first_in _ _ Facilities (before_facilities _ _ _ c.in_ok-subscribers.ensures.whole _ c.in_ok-numbers.ensures.whole _ c.in_ok-access.ensures.whole) c.in_err-facilities.field-0.0 c.in_err-facilities.ensures.fault)

pub returns-in_err-calls-clause-fault : goal.returns-in_err-calls-clause-fault
returns-in_err-calls-clause-fault c =
    let was : c.from_residual-in_err-calls.result ≡ Err c.in_err-calls.field-0.0 = search rules in
    subst (λ r. IfErr r (IsCause (IsInTables c.args.lay.now c.args.a.now))) (sym was)
    (first_in _ _ Calls (before_calls _ _ _ c.in_ok-subscribers.ensures.whole _ c.in_ok-numbers.ensures.whole _ c.in_ok-access.ensures.whole _ c.in_ok-facilities.ensures.whole) c.in_err-calls.field-0.0 c.in_err-calls.ensures.fault)

-- what holds of each kind of table
of_each : (P : TableKind → Type 0) → P Subscribers → P Numbers → P Access → P Facilities → P Calls → (kind : TableKind) → P kind
of_each P subscribers numbers access facilities calls Subscribers = subscribers
of_each P subscribers numbers access facilities calls Numbers = numbers
of_each P subscribers numbers access facilities calls Access = access
of_each P subscribers numbers access facilities calls Facilities = facilities
of_each P subscribers numbers access facilities calls Calls = calls

pub returns-clause-walked : goal.returns-clause-walked
returns-clause-walked c =
    let walked : Walked = record {
      subscribers = c.in_ok-subscribers.subscribers;
      numbers = c.in_ok-numbers.numbers;
      access = c.in_ok-access.access;
      facilities = c.in_ok-facilities.facilities;
      calls = c.in_ok-calls.calls;
    } in
    record {
      fits = of_each (λ kind. FitsTable (table_of kind c.args.lay.now) (length c.args.a.now)) c.in_ok-subscribers.ensures.fits c.in_ok-numbers.ensures.fits c.in_ok-access.ensures.fits c.in_ok-facilities.ensures.fits c.in_ok-calls.ensures.fits;
      each = of_each (λ kind. KeepsWhole (content_of kind) (table_of kind c.args.lay.now) c.args.a.now (taken_of walked kind)) c.in_ok-subscribers.ensures.whole c.in_ok-numbers.ensures.whole c.in_ok-access.ensures.whole c.in_ok-facilities.ensures.whole c.in_ok-calls.ensures.whole;
    }
