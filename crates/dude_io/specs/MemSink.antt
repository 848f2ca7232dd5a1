-- What clauses see of a sink in memory.
use Rattle.std.specs.Prelude.{◌≡◌, ℕ, ◌-◌, ◌==◌, min, ◌||◌, Bool, true, List, [], length}
use Rattle.dude_io.specs.declared.mem_sink.MemSink.{MemSink}
use Rattle.dude_io.specs.declared.fail_plan.FailPlan.{FailPlan}
use Rattle.dude_io.specs.Sink.{SinkSight}
use Rattle.dude_io.specs.FailPlan.{IsNewPlan, is_next_to_fail}

-- what is seen of a sink in memory: the count of its faults, and the bytes that it took
abbrev pub sink_sight : MemSink → SinkSight
sink_sight m = record { faults = m.plan.faults.count; is_visible = true; taken = m.taken.items }

-- which calls on a sink in memory fail, and how much a write takes
abbrev pub sink_plan : MemSink → FailPlan
sink_plan m = m.plan

-- how many more bytes a sink in memory takes
abbrev pub room_left : MemSink → ℕ
room_left m = m.room - length m.taken.items

-- an empty sink in memory of this room, with this plan, on which no call was made yet
pub record IsNewSink (size most : ℕ) (failing : List ℕ) (m : MemSink) : Type 0 where
  pub taken : (sink_sight m).taken ≡ []
  pub room : room_left m ≡ size
  pub plan : IsNewPlan most failing (sink_plan m)

-- a write fails: it is to fail, or no room is left
abbrev pub write_fails : MemSink → Bool
write_fails m = is_next_to_fail (sink_plan m) || room_left m == 0

-- how many bytes of a piece a write takes: as many as the plan, the piece and the room allow
abbrev pub most_taken : MemSink → List ℕ → ℕ
most_taken m piece = min (sink_plan m).chunk (min (length piece) (room_left m))
