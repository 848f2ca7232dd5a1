use Rattle.std.proofs.Common.{arith}
use Rattle.tatp_check.specs.declared.table_kind.TableKind.TheVariants.{Subscribers, Numbers, Facilities}
use Rattle.tatp_check.proofs.Found.{found_inside}
use Rattle.tatp_check.proofs.Referring.{refers_number, refers_subscriber, refers_owner, refers_facility, subscriber_inside, number_inside, front_inside}
use Rattle.tatp_check.proofs.references.refers.Goals as goal

pub offset_bounds-a-at : goal.offset_bounds-a-at
offset_bounds-a-at c = omega (arith, front_inside _ _ _ c.requires.walked _ _ c.requires.at)

pub bounds-a-at : goal.bounds-a-at
bounds-a-at c = front_inside _ _ _ c.requires.walked _ _ c.requires.at

pub overflow_add-at : goal.overflow_add-at
overflow_add-at c = omega (arith, subscriber_inside _ _ _ c.requires.walked _ _ c.requires.at c.in-Subscribers.is)

pub offset_bounds-a-at-in-Subscribers : goal.offset_bounds-a-at-in-Subscribers
offset_bounds-a-at-in-Subscribers c = omega (arith, subscriber_inside _ _ _ c.requires.walked _ _ c.requires.at c.in-Subscribers.is)

pub bounds-a-at-in-Subscribers : goal.bounds-a-at-in-Subscribers
bounds-a-at-in-Subscribers c = subscriber_inside _ _ _ c.requires.walked _ _ c.requires.at c.in-Subscribers.is

pub has_at-requires : goal.has_at-requires
has_at-requires c = found_inside _ _ _ c.requires.walked Numbers _ 2 _ (c.find.ensures _ _ (c.requires.walked.each Numbers).keeps) (omega arith)

pub overflow_add-at-in-Numbers : goal.overflow_add-at-in-Numbers
overflow_add-at-in-Numbers c = omega (arith, number_inside _ _ _ c.requires.walked _ _ c.requires.at c.in-Numbers.is)

pub offset_bounds-a-at-in-Numbers : goal.offset_bounds-a-at-in-Numbers
offset_bounds-a-at-in-Numbers c = omega (arith, number_inside _ _ _ c.requires.walked _ _ c.requires.at c.in-Numbers.is)

pub bounds-a-at-in-Numbers : goal.bounds-a-at-in-Numbers
bounds-a-at-in-Numbers c = number_inside _ _ _ c.requires.walked _ _ c.requires.at c.in-Numbers.is

pub has_at-requires-in-Numbers : goal.has_at-requires-in-Numbers
has_at-requires-in-Numbers c = found_inside _ _ _ c.requires.walked Subscribers _ 7 _ (c.find-in-Numbers.ensures _ _ (c.requires.walked.each Subscribers).keeps) (omega arith)

pub returns-in-Subscribers : goal.returns-in-Subscribers
returns-in-Subscribers c = refers_number _ _ _ c.requires.walked _ _ _ _ c.in-Subscribers.is (c.find.ensures _ _ (c.requires.walked.each Numbers).keeps) c.has_at.ensures

pub returns-in-Numbers : goal.returns-in-Numbers
returns-in-Numbers c = refers_subscriber _ _ _ c.requires.walked _ _ _ _ c.in-Numbers.is (c.find-in-Numbers.ensures _ _ (c.requires.walked.each Subscribers).keeps) c.has_at-in-Numbers.ensures

pub returns-in-Access : goal.returns-in-Access
returns-in-Access c = refers_owner _ _ _ c.requires.walked _ _ _ _ c.in-Access.is (c.find-in-Access.ensures _ _ (c.requires.walked.each Subscribers).keeps) c.is_some.ensures

pub returns-in-Calls : goal.returns-in-Calls
returns-in-Calls c = refers_facility _ _ _ c.requires.walked _ _ _ _ c.in-Calls.is (c.find-in-Calls.ensures _ _ (c.requires.walked.each Facilities).keeps) c.is_some-in-Calls.ensures
