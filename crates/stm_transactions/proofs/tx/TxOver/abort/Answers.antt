use Rattle.std.proofs.Common.{◌≡◌, refl, sym, ap, ◌∙◌, subst}
use Rattle.stm_transactions.specs.declared.pass_numbers.PassNumbers.{PassNumbers}
use Rattle.stm_transactions.specs.Numbers.{with_refusals}
use Rattle.stm_transactions.specs.Passes.{is_given}
use Rattle.stm_transactions.specs.Ends.{HasAborted}
use Rattle.stm_transactions.proofs.PassEnds.{rests_with, describes_ended}
use Rattle.stm_transactions.proofs.tx.TxOver.abort.Goals as goal

pub returns : goal.returns
returns g c =
    let t = c.args.self in
    let z = t.stm.now.events.setup in
    let v = t.seat.me.0.view in
    let s = c.give_up.new.seat in
    let e = c.give_up.ensures.ended in
    let pass : c.put_seat.new.self ≡ is_given s (with_refusals t.refused t.numbers) = c.put_seat.ensures ∙ ap (λ (f : PassNumbers). is_given s f) {y = with_refusals t.refused t.numbers} c.refuse.ensures in
    subst (λ p. HasAborted t p) (sym pass) (record {
      rests = rests_with t.stm.now.events s t.refused t.numbers v c.give_up.ensures.stays.belongs e.idle e.turn t.running.no_turn (describes_ended z t.numbers v t.describes s.me.0.view e);
      ended = e;
      numbers = refl;
    })
