use Rattle.std.proofs.Common.{subst}
use Rattle.std.specs.Prelude.{Option}
use Rattle.stm_transactions.specs.declared.pinned.Pinned.{Pinned}
use Rattle.stm_transactions.specs.Pins.{IsPinning, pin_list}
use Rattle.stm_transactions.proofs.Pins.{unpin_may}
use Rattle.stm_transactions.proofs.pages.let_go.Goals as goal

pub unpin-requires : goal.unpin-requires
unpin-requires g c =
    let v = c.args.seat.now.me.0.view in
    record {
      may = record {
        seat = c.requires.seat;
        may = unpin_may c.args.stm.now.events.setup c.in-Some.p v (subst (λ (o : Option Pinned). IsPinning (pin_list o) v) c.in-Some.is c.requires.pinning) c.requires.seat.seated;
        slots = c.requires.slots.unpin _;
      };
    }
