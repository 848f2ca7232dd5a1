use Rattle.std.proofs.Common.{◌≡◌, ◌∙◌, ℕ, get_or, length-set, refl, subst, arith, rules}
use Rattle.core_events.specs.Events.{see_full, view_after}
use Rattle.stm_turns.specs.InFront.{AreFound}
use Rattle.stm_turns.proofs.Fronts.{in_order_set}
use Rattle.stm_turns.proofs.Seats.{same_turn, then_turn}
use Rattle.stm_turns.proofs.gathers.look_at_all.Goals as goal

pub loop-thread-init : goal.loop-thread-init
loop-thread-init g c = record { step = λ hand i. same_turn g.M.Medium.sight c.args.events.now c.args.seat.now c.args.home.now hand i; wide = search rules; found = refl }

pub look-requires-clause-turn : goal.look-requires-clause-turn
look-requires-clause-turn g c = let q = c.requires.turn in (q.0, (c.loop-thread.invariant.step q.0 q.1).turn)

pub loop-thread-preserved : goal.loop-thread-preserved
loop-thread-preserved g c =
    let t = c.args.events.now in let l = c.loop-thread in let h = c.args.home.now in let x = c.look in
    record {
      step = λ hand i. let a = l.invariant.step hand i in then_turn g.M.Medium.sight t c.args.seat.now l.seat x.new.seat h h hand hand a (x.ensures.step hand a.turn);
      wide = length-set l.fronts l.thread x.result ∙ l.invariant.wide;
      found = in_order_set (λ u v w n. w ≡ view_after t.setup (see_full u (get_or c.args.places.now u 0)) v n) l.thread x.result l.fronts c.args.seat.now.me.0.view l.seat.me.0.view x.new.seat.me.0.view (omega arith) l.invariant.found x.ensures.found;
    }

pub returns : goal.returns
returns g c =
    let l = c.loop-thread in let t = c.args.events.now in
    record { step = l.invariant.step; found = subst (λ (k : ℕ). AreFound t.setup c.args.places.now l.fronts k c.args.seat.now.me.0.view l.seat.me.0.view) (omega arith) l.invariant.found }
