use Rattle.std.proofs.Common.{◌≡◌, ◌≤◌, length, take}
use Rattle.tatp_model.specs.Database.{database_of, IsInOrder}
use Rattle.dude_audit.specs.Walk.{TextsAlong, after_claims}
use Rattle.dude_audit.proofs.walk.first_wrong.Given as goal

-- the texts so far are those of one thread, and the tables are what it leaves
abbrev pub invariant-loop-k : goal.invariant-loop-k
invariant-loop-k l = record {
  along : TextsAlong l.printed l.limit (database_of l.fn.t) (take l.k l.order);
  after : database_of l.t ≡ after_claims l.limit (database_of l.fn.t) (take l.k l.order);
  in_order : IsInOrder (database_of l.t);
  room : length (database_of l.t).calls ≤ l.limit;
}
