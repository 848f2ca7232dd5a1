use Rattle.std.proofs.Common.{refl, rules}
use Rattle.log_numbered.proofs.Closing.{announces_behind}
use Rattle.log_numbered.proofs.GoingOn.{on_ok}
use Rattle.log_numbered.proofs.Keeping.{closes_behind, closes_failed}
use Rattle.log_numbered.proofs.run_log.RunLog.announce.Goals as goal

pub returns-in_err-close-clause-closes : goal.returns-in_err-close-clause-closes
returns-in_err-close-clause-closes g c = closes_failed c.from_residual.result c.args.self.now c.close.new.self c.args.kept.now c.close.new.kept (search rules) c.in_err-close.ensures.goes_on (c.in_err-close.ensures.end refl) c.close.ensures.moments c.in_err-close.ensures.keeps

pub returns-clause-closes : goal.returns-clause-closes
returns-clause-closes g c =
    closes_behind c.announce.result c.args.self.now c.close.new.self c.announce.new.self c.args.kept.now c.close.new.kept c.requires.alive c.close.ensures.last c.in_ok-close.ensures.closes c.in_ok-close.ensures.goes_on c.close.ensures.moments c.in_ok-close.ensures.keeps
    c.announce.ensures.end c.announce.ensures.goes_on c.announce.ensures.moments c.announce.ensures.alive c.announce.ensures.answer

pub returns-clause-announces : goal.returns-clause-announces
returns-clause-announces g c = on_ok c.announce.result (announces_behind c.args.self.now c.close.new.self c.announce.new.self c.close.ensures.last c.in_ok-close.ensures.closes c.in_ok-close.ensures.goes_on c.announce.ensures.end) c.announce.ensures.announces
