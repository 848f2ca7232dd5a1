use Rattle.std.proofs.Common.{Some, None, subst, arith}
use Rattle.tatp_model.specs.Request.{IsInRange}
use Rattle.tatp_layout.proofs.Found.{finds_as}
use Rattle.tatp_read.proofs.Lookups.{access_found}
use Rattle.tatp_model.specs.declared.reply.Reply.TheVariants.{Access, Missing}
use Rattle.tatp_read.proofs.Replies.{access_reply, answers_as, answers_stopped}
use Rattle.tatp_read.proofs.access.read_access.Goals as goal

pub returns-in_err-row : goal.returns-in_err-row
returns-in_err-row g c = answers_stopped c.args.lay.now c.in-GetAccess.is c.from_residual.result c.from_residual.ensures.1 c.in_err-row.ensures.uses (omega arith)

pub returns-in-Some : goal.returns-in-Some
returns-in-Some g c = answers_as c.args.lay.now c.in-GetAccess.is (Access c.in-Some.row.info) c.requires.can.no_writes c.in_ok-row.ensures.uses (omega arith) (λ same. cc) (λ array below db stands.
    let q = c.in-GetAccess in
    let range = subst IsInRange q.is c.requires.can.in_range in
    access_reply c.args.lay.now.calls db (Some c.in-Some.row) q.is (access_found stands q.s_id q.ai_type range.0 range.1 (Some c.in-Some.row) (finds_as c.kind_key.ensures c.in-Some.is (c.in_ok-row.ensures.row array below))))

pub returns-in-None : goal.returns-in-None
returns-in-None g c = answers_as c.args.lay.now c.in-GetAccess.is Missing c.requires.can.no_writes c.in_ok-row.ensures.uses (omega arith) (λ same. cc) (λ array below db stands.
    let q = c.in-GetAccess in
    let range = subst IsInRange q.is c.requires.can.in_range in
    access_reply c.args.lay.now.calls db None q.is (access_found stands q.s_id q.ai_type range.0 range.1 None (finds_as c.kind_key.ensures c.in-None.is (c.in_ok-row.ensures.row array below))))
