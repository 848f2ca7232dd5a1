use Rattle.std.proofs.Common.{Some, None, refl, arith}
use Rattle.tatp_layout.proofs.Found.{finds_as}
use Rattle.tatp_read.proofs.Lookups.{subscriber_found}
use Rattle.tatp_model.specs.declared.reply.Reply.TheVariants.{Subscriber, Missing}
use Rattle.tatp_read.proofs.Replies.{subscriber_reply, answers_as, answers_stopped}
use Rattle.tatp_read.proofs.subscriber.read_subscriber.Goals as goal

pub returns-in_err-row : goal.returns-in_err-row
returns-in_err-row g c = answers_stopped c.args.lay.now c.in-GetSubscriber.is c.from_residual.result c.from_residual.ensures.1 c.in_err-row.ensures.uses (omega arith)

pub returns-in-Some : goal.returns-in-Some
returns-in-Some g c = answers_as c.args.lay.now c.in-GetSubscriber.is (Subscriber c.in-Some.row) c.requires.can.no_writes c.in_ok-row.ensures.uses (omega arith) (λ same. cc) (λ array below db stands.
    subscriber_reply c.args.lay.now.calls db (Some c.in-Some.row) c.in-GetSubscriber.is (subscriber_found stands (Some c.in-Some.row) (finds_as refl c.in-Some.is (c.in_ok-row.ensures.row array below))))

pub returns-in-None : goal.returns-in-None
returns-in-None g c = answers_as c.args.lay.now c.in-GetSubscriber.is Missing c.requires.can.no_writes c.in_ok-row.ensures.uses (omega arith) (λ same. cc) (λ array below db stands.
    subscriber_reply c.args.lay.now.calls db None c.in-GetSubscriber.is (subscriber_found stands (None) (finds_as refl c.in-None.is (c.in_ok-row.ensures.row array below))))
