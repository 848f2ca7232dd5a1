-- What contracts see of a buffer of packets that wait for those before them.
use Rattle.std.specs.Prelude.{◌≡◌, ℕ, []}
use Rattle.dude_follow.specs.declared.reorder_buffer.ReorderBuffer.{ReorderBuffer}
use Rattle.dude_follow.specs.Taking.{FollowerState}

-- a follower that has reached this number and keeps the packets of the buffer
abbrev pub state_at : ℕ → ReorderBuffer → FollowerState
state_at number buffer = record { number = number; kept = buffer.kept.items }

-- nothing is kept
pub record IsEmptyBuffer (room : ℕ) (buffer : ReorderBuffer) : Type 0 where
  pub room_is : buffer.room ≡ room
  pub none : buffer.kept.items ≡ []
