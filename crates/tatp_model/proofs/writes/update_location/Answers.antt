use Rattle.std.proofs.Common.{◌≡◌, sym, Some, None, refl, ap}
use Rattle.std.proofs.lemmas.Bool.{eqb-true}
use Rattle.std.specs.List.{position}
use Rattle.tatp_model.specs.Database.{database_of}
use Rattle.tatp_model.specs.Transaction.{has_phone}
use Rattle.tatp_model.specs.declared.sub_row.SubRow.{SubRow}
use Rattle.tatp_model.proofs.Rows.{list_any-position_None, position_Some-any, set-position, AtMostOne-from_keys}
use Rattle.tatp_model.proofs.writes.update_location.Goals as goal

pub returns-in-Some-clause-reply : goal.returns-in-Some-clause-reply
returns-in-Some-clause-reply c limit =
    let found : position (has_phone c.args.sub_nbr) c.args.t.now.subscribers.items ≡ Some c.in-Some.at = sym (rw c.deref.ensures.value at c.in-Some.ensures) in
    rw (position_Some-any (has_phone c.args.sub_nbr) c.args.t.now.subscribers.items c.in-Some.at found) refl

pub returns-in-Some-clause-after : goal.returns-in-Some-clause-after
returns-in-Some-clause-after c limit =
    let rows = c.args.t.now.subscribers.items in
    let names = has_phone c.args.sub_nbr in
    let found : position names rows ≡ Some c.in-Some.at = sym (rw c.deref.ensures.value at c.in-Some.ensures) in
    let one = AtMostOne-from_keys names (λ r. r.sub_nbr) c.args.sub_nbr rows (λ r e. eqb-true _ _ e) c.requires.phones_differ in
    rw (position_Some-any names rows c.in-Some.at found)
    (let written : _ = set-position names (λ (r : SubRow). record r { vlr = c.args.vlr }) rows c.in-Some.at c.index_mut.result.now one found c.index_mut.ensures.value in
    ap (λ after. record (database_of c.args.t.now) { subscribers = after }) written)

pub returns-in-None-clause-reply : goal.returns-in-None-clause-reply
returns-in-None-clause-reply c limit =
    let missing : position (has_phone c.args.sub_nbr) c.args.t.now.subscribers.items ≡ None = sym (rw c.deref.ensures.value at c.in-None.ensures) in
    rw (list_any-position_None (has_phone c.args.sub_nbr) c.args.t.now.subscribers.items missing) refl

pub returns-in-None-clause-after : goal.returns-in-None-clause-after
returns-in-None-clause-after c limit =
    let missing : position (has_phone c.args.sub_nbr) c.args.t.now.subscribers.items ≡ None = sym (rw c.deref.ensures.value at c.in-None.ensures) in
    rw (list_any-position_None (has_phone c.args.sub_nbr) c.args.t.now.subscribers.items missing) refl
