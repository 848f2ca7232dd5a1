use Rattle.std.proofs.Common.{◌≡◌, map, take}
use Rattle.std.specs.List.{filter}
use Rattle.tatp_model.specs.Numbers.{numbers_of}
use Rattle.tatp_model.specs.Transaction.{forwards}
use Rattle.tatp_model.proofs.lookups.forwarded.Given as goal

abbrev pub invariant-loop-row : goal.invariant-loop-row
invariant-loop-row l = l.phones ≡ numbers_of (map (λ r. r.numberx) (filter (forwards l.s_id l.sf_type l.start_time l.end_time) (take l.row-index l.rows)))
