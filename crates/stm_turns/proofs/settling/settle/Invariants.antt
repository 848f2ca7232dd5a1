use Rattle.std.proofs.Common.{◌≤◌, ℕ, []}
use Rattle.back_store.specs.BackView.{state_of}
use Rattle.stm_turns.specs.Turns.{Advanced, EndsSettled, IsPast}
use Rattle.stm_turns.proofs.settling.settle.Given as goal

-- each bundle raised the greatest number that is past
abbrev pub invariant-loop-look : goal.invariant-loop-look
invariant-loop-look g l = record {
  step : Advanced g.M.Medium.sight l.events l.fn.durable l.durable l.fn.seat l.seat l.home [];
  settled : EndsSettled l.seat l.home l.number;
  past : (low : ℕ) × IsPast (state_of l.home.back) l.own low × (l._look ≤ low);
}
