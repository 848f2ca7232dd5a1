use Rattle.std.proofs.Common.{sym, ◌∙◌, arith}
use Rattle.word_space.proofs.Runs.{below_before, used_then, used_until}
use Rattle.tatp_model.specs.declared.reply.Reply.TheVariants.{Destinations, Missing}
use Rattle.tatp_layout.proofs.Seen.{stands_still}
use Rattle.tatp_read.proofs.Replies.{answers_as, answers_stopped, inactive_reply, no_destination_reply, destinations_reply}
use Rattle.tatp_read.proofs.destination.read_destination.Goals as goal

pub destinations-requires-clause-size : goal.destinations-requires-clause-size
destinations-requires-clause-size g c = c.in_ok-has_active_facility.ensures.uses.count ∙ c.requires.can.size

pub returns-in_err-has_active_facility : goal.returns-in_err-has_active_facility
returns-in_err-has_active_facility g c = answers_stopped c.args.lay.now c.in-GetDestination.is c.from_residual.result c.from_residual.ensures.1 c.in_err-has_active_facility.ensures.uses (omega arith)

pub returns-then-not-branch : goal.returns-then-not-branch
returns-then-not-branch g c = answers_as c.args.lay.now c.in-GetDestination.is Missing c.requires.can.no_writes c.in_ok-has_active_facility.ensures.uses (omega arith) (λ same. cc) (λ array below db stands.
    inactive_reply c.args.lay.now.calls db c.in-GetDestination.is (sym c.if-not-branch.true ∙ c.in_ok-has_active_facility.ensures.active array below db stands))

pub returns-in_err-phones : goal.returns-in_err-phones
returns-in_err-phones g c = answers_stopped c.args.lay.now c.in-GetDestination.is c.from_residual-in_err-phones.result c.from_residual-in_err-phones.ensures.1 (used_until c.in_ok-has_active_facility.ensures.uses c.in_err-phones.ensures.uses) (omega arith)

pub returns-then-is_empty : goal.returns-then-is_empty
returns-then-is_empty g c = answers_as c.args.lay.now c.in-GetDestination.is Missing c.requires.can.no_writes (used_then c.in_ok-has_active_facility.ensures.uses c.in_ok-phones.ensures.uses) (omega arith) (λ same. cc) (λ array below db stands.
    no_destination_reply c.args.lay.now.calls db c.in-GetDestination.is (sym c.if-not-branch.false ∙ c.in_ok-has_active_facility.ensures.active array (below_before c.in_ok-phones.ensures.uses below) db stands)
    (c.in_ok-phones.ensures.numbers array below db (stands_still array c.in_ok-has_active_facility.ensures.uses stands)) (sym c.is_empty.ensures ∙ c.if-is_empty.true))

pub returns : goal.returns
returns g c = answers_as c.args.lay.now c.in-GetDestination.is (Destinations c.in_ok-phones.phones) c.requires.can.no_writes (used_then c.in_ok-has_active_facility.ensures.uses c.in_ok-phones.ensures.uses) (omega arith) (λ same. cc) (λ array below db stands.
    destinations_reply c.args.lay.now.calls db c.in-GetDestination.is (sym c.if-not-branch.false ∙ c.in_ok-has_active_facility.ensures.active array (below_before c.in_ok-phones.ensures.uses below) db stands)
    (c.in_ok-phones.ensures.numbers array below db (stands_still array c.in_ok-has_active_facility.ensures.uses stands)) (sym c.is_empty.ensures ∙ c.if-is_empty.false))
