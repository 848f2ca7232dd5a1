-- What is to be done with a packet: the first case that fits.
use Rattle.std.specs.Prelude.{◌≡◌, ◌≢◌, ℕ, ◌+◌, ◌<◌, ◌≤◌, length}
use Rattle.std.specs.List.{Contains}
use Rattle.dude_base.specs.Records.{RedoBundle, first_of}
use Rattle.dude_follow.specs.declared.verdict.Verdict.{Verdict}
use Rattle.dude_follow.specs.declared.verdict.Verdict.TheVariants.{Old, Strange, Next, Known, Fresh, Full}
use Rattle.dude_follow.specs.Taking.{FollowerState, IsNew, IsStrange}

-- this is the first case that fits the packet, where so many may be kept
abbrev pub Judges : ℕ → FollowerState → RedoBundle → Verdict → Type 0
Judges room s b Old = b.last ≤ s.number
Judges room s b Strange = (s.number < b.last) × IsStrange s b
Judges room s b Next = IsNew s b × (first_of b ≡ s.number + 1)
Judges room s b Known = IsNew s b × (first_of b ≢ s.number + 1) × Contains s.kept b
Judges room s b Fresh = IsNew s b × (first_of b ≢ s.number + 1) × (Contains s.kept b → ⊥) × (length s.kept < room)
Judges room s b Full = IsNew s b × (first_of b ≢ s.number + 1) × (Contains s.kept b → ⊥) × (room ≤ length s.kept)
