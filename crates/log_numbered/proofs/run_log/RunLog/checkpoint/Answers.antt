use Rattle.std.proofs.Common.{refl, rules}
use Rattle.log_numbered.proofs.Closing.{checkpoints_behind}
use Rattle.log_numbered.proofs.GoingOn.{on_ok}
use Rattle.log_numbered.proofs.Keeping.{closes_behind, closes_failed}
use Rattle.log_numbered.proofs.run_log.RunLog.checkpoint.Goals as goal

pub returns-clause-closes : goal.returns-clause-closes
returns-clause-closes g c =
    closes_behind c.checkpoint.result c.args.self.now c.close.new.self c.checkpoint.new.self c.args.kept.now c.close.new.kept c.requires.alive c.close.ensures.last c.in_ok-close.ensures.closes c.in_ok-close.ensures.goes_on c.close.ensures.moments c.in_ok-close.ensures.keeps
    c.checkpoint.ensures.end c.checkpoint.ensures.goes_on c.checkpoint.ensures.moments c.checkpoint.ensures.alive c.checkpoint.ensures.answer

pub returns-in_err-close-clause-closes : goal.returns-in_err-close-clause-closes
returns-in_err-close-clause-closes g c = closes_failed c.from_residual.result c.args.self.now c.close.new.self c.args.kept.now c.close.new.kept (search rules) c.in_err-close.ensures.goes_on (c.in_err-close.ensures.end refl) c.close.ensures.moments c.in_err-close.ensures.keeps

pub returns-clause-checkpoints : goal.returns-clause-checkpoints
returns-clause-checkpoints g c = on_ok c.checkpoint.result (checkpoints_behind c.args.self.now c.close.new.self c.checkpoint.new.self c.close.ensures.last c.in_ok-close.ensures.closes c.in_ok-close.ensures.goes_on c.checkpoint.ensures.end c.checkpoint.ensures.moments c.checkpoint.ensures.goes_on.len) c.checkpoint.ensures.checkpoints
