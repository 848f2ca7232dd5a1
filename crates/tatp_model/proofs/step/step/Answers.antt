use Rattle.std.proofs.Common.{refl}
use Rattle.std.proofs.lemmas.Result.{on_err_weaker}
use Rattle.tatp_model.specs.Database.{database_of}
use Rattle.tatp_model.proofs.InOrder.{KeepsOrder-either, served}
use Rattle.tatp_model.proofs.step.step.Goals as goal

pub returns-in-GetSubscriber-clause-reply : goal.returns-in-GetSubscriber-clause-reply
returns-in-GetSubscriber-clause-reply c = rw c.in-GetSubscriber.is (c.get_subscriber.ensures c.args.limit)

pub returns-in-GetDestination-clause-reply : goal.returns-in-GetDestination-clause-reply
returns-in-GetDestination-clause-reply c = rw c.in-GetDestination.is (c.get_destination.ensures c.args.limit)

pub returns-in-GetAccess-clause-reply : goal.returns-in-GetAccess-clause-reply
returns-in-GetAccess-clause-reply c = rw c.in-GetAccess.is (c.get_access.ensures c.args.limit)

-- the tables that an update leaves are in order, with at most limit call rows

pub returns-in-UpdateSubscriber : goal.returns-in-UpdateSubscriber
returns-in-UpdateSubscriber c =
    let step = served c.args.limit c.requires.in_range c.requires.in_order c.requires.room c.in-UpdateSubscriber.is c.update_subscriber.ensures.reply c.update_subscriber.ensures.after in
    record { reply = step.reply; after = step.after; in_order = step.order; room = step.room; err = tt }

pub returns-in-UpdateLocation : goal.returns-in-UpdateLocation
returns-in-UpdateLocation c =
    let step = served c.args.limit c.requires.in_range c.requires.in_order c.requires.room c.in-UpdateLocation.is c.update_location.ensures.reply c.update_location.ensures.after in
    record { reply = step.reply; after = step.after; in_order = step.order; room = step.room; err = tt }

pub returns-in-DeleteCall : goal.returns-in-DeleteCall
returns-in-DeleteCall c =
    let step = served c.args.limit c.requires.in_range c.requires.in_order c.requires.room c.in-DeleteCall.is c.delete_call.ensures.reply c.delete_call.ensures.after in
    record { reply = step.reply; after = step.after; in_order = step.order; room = step.room; err = tt }

pub returns-in-InsertCall-clause-in_order : goal.returns-in-InsertCall-clause-in_order
returns-in-InsertCall-clause-in_order c =
    (KeepsOrder-either c.insert_call.result c.args.limit (database_of c.args.t.now) (database_of c.insert_call.new.t) c.args.q.now c.requires.in_range c.requires.in_order c.requires.room (rw c.in-InsertCall.is c.insert_call.ensures.after) c.insert_call.ensures.unchanged).order

pub returns-in-InsertCall-clause-room : goal.returns-in-InsertCall-clause-room
returns-in-InsertCall-clause-room c =
    (KeepsOrder-either c.insert_call.result c.args.limit (database_of c.args.t.now) (database_of c.insert_call.new.t) c.args.q.now c.requires.in_range c.requires.in_order c.requires.room (rw c.in-InsertCall.is c.insert_call.ensures.after) c.insert_call.ensures.unchanged).room

pub returns-in-InsertCall-clause-err : goal.returns-in-InsertCall-clause-err
returns-in-InsertCall-clause-err c =
    on_err_weaker c.insert_call.result (λ same. record { is_insert = rw c.in-InsertCall.is refl; unchanged = same }) c.insert_call.ensures.unchanged
