use Rattle.std.proofs.Common.{◌≡◌, All, flat_map, take}
use Rattle.dude_base.specs.Records.{RedoBundle}
use Rattle.dude_base.specs.Writes.{HasDistinctPlaces}
use Rattle.group_combine.proofs.group.combine.Given as goal

-- the writes of the records gone over so far were taken
abbrev pub invariant-loop-r : goal.invariant-loop-r
invariant-loop-r l = record {
  taken : l.out.taken ≡ flat_map (λ (r : RedoBundle). r.writes) (take l.r-index l.list);
  room : l.out.room ≡ l.fn.out.room;
  distinct : All (λ (r : RedoBundle). HasDistinctPlaces r.writes) (take l.r-index l.list);
}
