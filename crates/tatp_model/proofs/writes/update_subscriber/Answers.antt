use Rattle.std.proofs.Common.{◌≡◌, sym, Some, None, List, refl, ap₂, set, ◌+◌, ◌-◌, ◌*◌}
use Rattle.std.specs.List.{position}
use Rattle.std.proofs.lemmas.Bool.{eqb-true}
use Rattle.tatp_model.specs.Database.{database_of, facility_key}
use Rattle.tatp_model.specs.Transaction.{is_subscriber, is_facility}
use Rattle.tatp_model.specs.declared.sub_row.SubRow.{SubRow}
use Rattle.tatp_model.specs.declared.fac_row.FacRow.{FacRow}
use Rattle.tatp_model.proofs.Rows.{list_any-position_None, position_Some-any, set-position, AtMostOne-from_keys}
use Rattle.tatp_model.proofs.Rising.{keys_differ}
use Rattle.tatp_model.proofs.Facilities.{facility_key-is_facility}
use Rattle.tatp_model.proofs.writes.update_subscriber.Goals as goal

pub returns-in_default-clause-reply : goal.returns-in_default-clause-reply
returns-in_default-clause-reply c limit =
    let missing : position (is_subscriber c.args.s_id) c.args.t.now.subscribers.items ≡ None = sym (rw c.deref.ensures.value at c.in_default.ensures) in
    rw (list_any-position_None (is_subscriber c.args.s_id) c.args.t.now.subscribers.items missing) refl

pub returns-in_default-clause-after : goal.returns-in_default-clause-after
returns-in_default-clause-after c limit =
    let missing : position (is_subscriber c.args.s_id) c.args.t.now.subscribers.items ≡ None = sym (rw c.deref.ensures.value at c.in_default.ensures) in
    rw (list_any-position_None (is_subscriber c.args.s_id) c.args.t.now.subscribers.items missing) refl

pub returns-in_default-index_of_facility-clause-reply : goal.returns-in_default-index_of_facility-clause-reply
returns-in_default-index_of_facility-clause-reply c limit =
    let there : position (is_subscriber c.args.s_id) c.args.t.now.subscribers.items ≡ Some c.in-Some.subscriber = sym (rw c.deref.ensures.value at c.in-Some.ensures) in
    let missing : position (is_facility c.args.s_id c.args.sf_type) c.args.t.now.facilities.items ≡ None = sym (rw c.deref-2.ensures.value at c.in_default-index_of_facility.ensures) in
    rw (position_Some-any (is_subscriber c.args.s_id) c.args.t.now.subscribers.items c.in-Some.subscriber there, list_any-position_None (is_facility c.args.s_id c.args.sf_type) c.args.t.now.facilities.items missing) refl

pub returns-in_default-index_of_facility-clause-after : goal.returns-in_default-index_of_facility-clause-after
returns-in_default-index_of_facility-clause-after c limit =
    let there : position (is_subscriber c.args.s_id) c.args.t.now.subscribers.items ≡ Some c.in-Some.subscriber = sym (rw c.deref.ensures.value at c.in-Some.ensures) in
    let missing : position (is_facility c.args.s_id c.args.sf_type) c.args.t.now.facilities.items ≡ None = sym (rw c.deref-2.ensures.value at c.in_default-index_of_facility.ensures) in
    rw (position_Some-any (is_subscriber c.args.s_id) c.args.t.now.subscribers.items c.in-Some.subscriber there, list_any-position_None (is_facility c.args.s_id c.args.sf_type) c.args.t.now.facilities.items missing) refl

pub returns-clause-reply : goal.returns-clause-reply
returns-clause-reply c limit =
    let there : position (is_subscriber c.args.s_id) c.args.t.now.subscribers.items ≡ Some c.in-Some.subscriber = sym (rw c.deref.ensures.value at c.in-Some.ensures) in
    let found : position (is_facility c.args.s_id c.args.sf_type) c.args.t.now.facilities.items ≡ Some c.in-Some-index_of_facility.facility = sym (rw c.deref-2.ensures.value at c.in-Some-index_of_facility.ensures) in
    rw (position_Some-any (is_subscriber c.args.s_id) c.args.t.now.subscribers.items c.in-Some.subscriber there, position_Some-any (is_facility c.args.s_id c.args.sf_type) c.args.t.now.facilities.items c.in-Some-index_of_facility.facility found) refl

pub returns-clause-after : goal.returns-clause-after
returns-clause-after c limit =
    let rows = c.args.t.now.subscribers.items in
    let facilities = c.args.t.now.facilities.items in
    let names = is_subscriber c.args.s_id in
    let names_facility = is_facility c.args.s_id c.args.sf_type in
    let there : position names rows ≡ Some c.in-Some.subscriber = sym (rw c.deref.ensures.value at c.in-Some.ensures) in
    let found : position names_facility facilities ≡ Some c.in-Some-index_of_facility.facility = sym (rw c.deref-2.ensures.value at c.in-Some-index_of_facility.ensures) in
    let one = AtMostOne-from_keys names (λ r. r.s_id) c.args.s_id rows (λ r e. eqb-true _ _ e) (keys_differ (λ r. r.s_id) rows c.requires.in_order.subscribers_rise) in
    let one_facility = AtMostOne-from_keys names_facility facility_key (4 * c.args.s_id + c.args.sf_type - 1) facilities (facility_key-is_facility c.args.s_id c.args.sf_type) (keys_differ facility_key facilities c.requires.in_order.facilities_rise) in
    let written : _ = set-position names (λ (r : SubRow). record r { bits = set r.bits 0 c.args.bit_1 }) rows c.in-Some.subscriber c.index_mut.result.now one there c.index_mut.ensures.value in
    let facility_written : _ = set-position names_facility (λ (r : FacRow). record r { data_a = c.args.data_a }) facilities c.in-Some-index_of_facility.facility c.index_mut-2.result.now one_facility found c.index_mut-2.ensures.value in
    rw (position_Some-any names rows c.in-Some.subscriber there, position_Some-any names_facility facilities c.in-Some-index_of_facility.facility found)
    (ap₂ (λ (after : List SubRow) (facilities_after : List FacRow). record (database_of c.args.t.now) { subscribers = after; facilities = facilities_after }) written facility_written)
