-- What a `Group` keeps of its fields.
use Rattle.std.specs.Prelude.{◌≡◌, map}
use Rattle.std.specs.Vec.{vec_capacity}
use Rattle.group_combine.specs.Numbered.{numbered_from, write_of}
use Rattle.group_combine.specs.declared.group.Group.TheInside.{Inside}

-- Both lists have the same room, and the writes taken are numbered in order.
pub record IsKeptGroup (a : Inside) : Type 0 where
  pub room : vec_capacity a.row ≡ vec_capacity a.writes
  pub numbered : a.row.items ≡ numbered_from 0 (map write_of a.row.items)
