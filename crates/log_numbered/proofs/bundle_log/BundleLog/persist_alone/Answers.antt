use Rattle.log_numbered.specs.BundleLog.{kept_back}
use Rattle.log_numbered.proofs.LedLogs.{has_room}
use Rattle.log_numbered.proofs.bundle_log.BundleLog.persist_alone.Goals as goal

pub unreachable-requires : goal.unreachable-requires
unreachable-requires g c = has_room (kept_back c.args.self.now) c.args.self.now.end c.requires.alive c.args.ring c.args.b.now c.requires.next.ring_is c.requires.alone c.requires.short (c.in_ok-persist.ensures.full c.if-branch.false).full

pub returns-clause-persists : goal.returns-clause-persists
returns-clause-persists g c = c.in_ok-persist.ensures.persists c.if-branch.true
