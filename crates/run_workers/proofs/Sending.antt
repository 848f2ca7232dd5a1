-- Jobs that send into one lane still.
use Rattle.std.proofs.Common.{◌∙◌}
use Rattle.std.specs.Prelude.{Option, None, Some}
use Rattle.dude_stream.specs.declared.outbox.Outbox.{Outbox}
use Rattle.run_workers.specs.Sending.{IsSameLane}

-- the same lane, from one step to the next
pub lane_then : (a b c : Option Outbox) → IsSameLane a b → IsSameLane b c → IsSameLane a c
lane_then None None None p q = tt
lane_then None None (Some z) p q = absurd q
lane_then None (Some y) c p q = absurd p
lane_then (Some x) None c p q = absurd p
lane_then (Some x) (Some y) None p q = absurd q
lane_then (Some x) (Some y) (Some z) p q =
    let e = p.0.0 in let f = q.0.0 in
    (((f.0 ∙ e.0, f.1 ∙ e.1, f.2 ∙ e.2, f.3 ∙ e.3), q.0.1 ∙ p.0.1), q.1 ∙ p.1)
