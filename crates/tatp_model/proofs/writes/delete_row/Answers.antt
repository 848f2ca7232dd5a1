use Rattle.std.proofs.Common.{◌≡◌, List, sym, Some, None, refl, ap, ◌∙◌}
use Rattle.std.specs.List.{position}
use Rattle.tatp_model.specs.declared.call_row.CallRow.{CallRow}
use Rattle.tatp_model.specs.Database.{database_of}
use Rattle.tatp_model.specs.Transaction.{is_call}
use Rattle.tatp_model.proofs.Rows.{list_any-position_None, position_Some-any, filter_not-position}
use Rattle.tatp_model.proofs.CallHalves.{one_call}
use Rattle.tatp_model.proofs.writes.delete_row.Goals as goal

pub returns-in-Some-clause-reply : goal.returns-in-Some-clause-reply
returns-in-Some-clause-reply c =
    let found : position (is_call c.args.s_id c.args.sf_type c.args.start_time) c.args.t.now.calls.items ≡ Some c.in-Some.at = sym (rw c.deref.ensures.value at c.in-Some.ensures) in
    rw (position_Some-any (is_call c.args.s_id c.args.sf_type c.args.start_time) c.args.t.now.calls.items c.in-Some.at found) refl

pub returns-in-Some-clause-after : goal.returns-in-Some-clause-after
returns-in-Some-clause-after c =
    let rows = c.args.t.now.calls.items in
    let names = is_call c.args.s_id c.args.sf_type c.args.start_time in
    let found : position names rows ≡ Some c.in-Some.at = sym (rw c.deref.ensures.value at c.in-Some.ensures) in
    let one = one_call c.args.s_id c.args.sf_type c.args.start_time rows c.requires.calls_in_range c.requires.calls_rise in
    rw (position_Some-any names rows c.in-Some.at found)
    (ap (λ (after : List CallRow). record (database_of c.args.t.now) { calls = after }) (c.remove.ensures.items ∙ sym (filter_not-position names rows c.in-Some.at c.remove.result one found)))

pub returns-in-None-clause-reply : goal.returns-in-None-clause-reply
returns-in-None-clause-reply c =
    let missing : position (is_call c.args.s_id c.args.sf_type c.args.start_time) c.args.t.now.calls.items ≡ None = sym (rw c.deref.ensures.value at c.in-None.ensures) in
    rw (list_any-position_None (is_call c.args.s_id c.args.sf_type c.args.start_time) c.args.t.now.calls.items missing) refl

pub returns-in-None-clause-after : goal.returns-in-None-clause-after
returns-in-None-clause-after c =
    let missing : position (is_call c.args.s_id c.args.sf_type c.args.start_time) c.args.t.now.calls.items ≡ None = sym (rw c.deref.ensures.value at c.in-None.ensures) in
    rw (list_any-position_None (is_call c.args.s_id c.args.sf_type c.args.start_time) c.args.t.now.calls.items missing) refl
