-- Packets, and those that share a number.
use Rattle.std.specs.Prelude.{ℕ}
use Rattle.dude_base.specs.Records.{Covers, RedoBundle}
pub use Rattle.log_numbered.specs.KeptBundles.{IsPacket}

-- both cover one number
pub record Share (b c : RedoBundle) : Type 0 where
  pub number : ℕ
  pub one : Covers b number
  pub other : Covers c number
