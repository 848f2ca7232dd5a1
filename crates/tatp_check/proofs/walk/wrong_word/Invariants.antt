use Rattle.std.proofs.Common.{ℕ, ◌+◌, ◌<◌, ◌≤◌, slice_index}
use Rattle.tatp_check.proofs.walk.wrong_word.Given as goal

-- the words before this one are allowed
abbrev pub invariant-loop-offset : goal.invariant-loop-offset
invariant-loop-offset g l = (offset : ℕ) → 2 ≤ offset → offset < l.offset → g.C.Content.MayHold l.content offset (slice_index l.a (l.at + offset))
