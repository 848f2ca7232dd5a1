use Rattle.std.proofs.Common.{◌≤◌, nat_lt}
use Rattle.std.proofs.lemmas.List.Elements.{All-filter}
use Rattle.redo_record.specs.Fits.{Logged}
use Rattle.log_runs.proofs.log.Log.release.Goals as goal

pub invariant_of-self-clause-newest : goal.invariant_of-self-clause-newest
invariant_of-self-clause-newest c =
    rw c.release.ensures.ring (All-filter (λ (l : Logged). nat_lt c.args.number l.last) (λ (l : Logged). l.last ≤ c.args.self.now.last) c.args.self.now.ring.logged c.args.self.now.newest)
