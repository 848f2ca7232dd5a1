-- What a `Backlog` keeps of its fields.
use Rattle.std.specs.Prelude.{◌≡◌}
use Rattle.back_store.specs.declared.backlog.Backlog.TheInside.{Inside}
use Rattle.back_store.specs.Backlog.{BacklogState, IsLawful}

-- what contracts see of a `Backlog`, by its fields
abbrev pub backlog_state : Inside → BacklogState
backlog_state a = record { sizes = a.place; lanes = a.lanes.items; durable = a.durable; reproduced = a.reproduced }

-- a backlog is lawful, and its group is one of the same image
pub record IsKeptBacklog (a : Inside) : Type 0 where
  pub lawful : IsLawful (backlog_state a)
  pub group : a.group.sizes ≡ a.place
