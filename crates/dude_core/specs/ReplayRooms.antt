-- The writes of bundles that are reproduced together, and the room for them.
use Rattle.std.specs.Prelude.{◌≡◌, ℕ, ◌^◌, ◌<◌, ◌≤◌, List, All, AllPairs, length}
use Rattle.std.specs.Vec.{vec_capacity}
use Rattle.dude_base.specs.declared.write.Write.{Write}
use Rattle.dude_base.specs.Records.{RedoBundle}
use Rattle.redo_record.specs.Waiting.{Waiting}
use Rattle.group_combine.specs.Group.{ActAs, IsWrittenBy}
use Rattle.dude_core.specs.Chains.{LeadAlone}
use Rattle.dude_core.specs.declared.replay_room.ReplayRoom.TheInside.{Inside}

-- the last writes of bundles, and for how many writes of bundles there is room
pub record RoomData : Type 0 where
  pub writes : List Write
  pub room : ℕ

-- There is room in both parts, and it is small enough for a list of calls.
pub record IsKeptRoom (a : Inside) : Type 0 where
  pub group : a.group.room ≡ a.room
  pub capacity : a.room ≤ vec_capacity a.writes
  pub few : a.room < 2 ^ 62
  pub within : length a.writes.items ≤ a.room

-- these are the last writes of each word of the bundles that alone lead from one number to another, in rising order of word
pub record BringsOn (waiting : List Waiting) (from to : ℕ) (ws : List Write) : Type 0 where
  pub bundles : List RedoBundle
  pub alone : LeadAlone waiting from to bundles
  pub rising : AllPairs (λ v w. v.at < w.at) ws
  pub each : All (IsWrittenBy bundles) ws
  pub effect : ActAs ws bundles
