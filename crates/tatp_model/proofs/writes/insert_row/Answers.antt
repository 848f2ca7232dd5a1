use Rattle.std.proofs.Common.{◌≡◌, ◌∙◌, true, false, List, ap, sym, length, arith}
use Rattle.std.specs.Prelude.{nat_le}
use Rattle.std.specs.List.{list_any}
use Rattle.std.proofs.lemmas.Bool.{lt-leb}
use Rattle.tatp_model.specs.declared.call_row.CallRow.{CallRow}
use Rattle.tatp_model.specs.Database.{database_of}
use Rattle.tatp_model.specs.Transaction.{is_call, is_facility}
use Rattle.tatp_model.proofs.Calls.{with_call-at}
use Rattle.tatp_model.proofs.writes.insert_row.Goals as goal

pub returns-clause-after : goal.returns-clause-after
returns-clause-after c =
    let row = c.args.row in
    let rows = c.args.t.now.calls.items in
    let there : list_any (is_facility row.s_id row.sf_type) c.args.t.now.facilities.items ≡ true = sym (rw c.deref.ensures.value at c.if-not-has_facility.ensures) in
    let absent : list_any (is_call row.s_id row.sf_type row.start_time) rows ≡ false = sym (rw c.deref-2.ensures.value at c.if-has_call.ensures) in
    let room : nat_le c.args.limit (length rows) ≡ false = lt-leb c.args.limit (length rows) (omega (arith, c.if-limit-len.false, c.len.ensures, c.deref-3.ensures.len, ap length c.deref-3.ensures.value)) in
    let before = rw c.deref-3.ensures.value at c.index_of_key-at.ensures.before in
    let here = rw c.deref-3.ensures.value at c.index_of_key-at.ensures.at in
    rw (there, absent, room) (ap (λ (after : List CallRow). record (database_of c.args.t.now) { calls = after })
    (c.in_ok-insert.ensures.items ∙ sym (with_call-at row rows c.index_of_key-at.result c.requires.in_range c.requires.in_order.calls_in_range c.requires.in_order.calls_rise absent before here)))
