use Rattle.std.proofs.Common.{◌≡◌, drop}
use Rattle.stm_transactions.specs.Pairs.{pairs_of}
use Rattle.stm_transactions.specs.Seats.{Stays}
use Rattle.stm_transactions.proofs.storing.unpin_all.Given as goal

abbrev pub invariant-loop-k : goal.invariant-loop-k
invariant-loop-k g l = Stays l.stm.events l.fn.seat l.seat × (l.seat.me.0.view ≡ record l.fn.seat.me.0.view { paging = record l.fn.seat.me.0.view.paging { pins = pairs_of (drop l.k l.frames) } })
