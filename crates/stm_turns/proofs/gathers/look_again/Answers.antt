use Rattle.std.proofs.Common.{◌∙◌, ℕ, get_or, refl, subst, arith}
use Rattle.std.proofs.lemmas.List.{get_or-set_other}
use Rattle.stm_turns.specs.InFront.{AreFoundAgain, FindsWhereNone}
use Rattle.stm_turns.proofs.Fronts.{in_order_set}
use Rattle.stm_turns.proofs.Seats.{same_turn, then_turn}
use Rattle.stm_turns.proofs.gathers.look_again.Goals as goal

pub loop-thread-init : goal.loop-thread-init
loop-thread-init g c = record { step = λ hand i. same_turn g.M.Medium.sight c.args.events.now c.args.seat.now c.args.home.now hand i; found = refl; rest = λ u le. refl }

pub look_where_empty-requires-clause-turn : goal.look_where_empty-requires-clause-turn
look_where_empty-requires-clause-turn g c = let q = c.requires.turn in (q.0, (c.loop-thread.invariant.step q.0 q.1).turn)

pub loop-thread-preserved : goal.loop-thread-preserved
loop-thread-preserved g c =
    let t = c.args.events.now in let l = c.loop-thread in let h = c.args.home.now in let x = c.look_where_empty in let above = c.args.above in
    record {
      step = λ hand i. let a = l.invariant.step hand i in then_turn g.M.Medium.sight t c.args.seat.now l.seat x.new.seat h h hand hand a (x.ensures.step hand a.turn);
      found = in_order_set (λ u v w n. FindsWhereNone t.setup u (get_or c.args.places.now u 0) above (get_or c.args.fronts.now u 0) v w n) l.thread x.result l.fronts c.args.seat.now.me.0.view l.seat.me.0.view x.new.seat.me.0.view (omega arith) l.invariant.found
          (subst (λ (n : ℕ). FindsWhereNone t.setup l.thread (get_or c.args.places.now l.thread 0) above n l.seat.me.0.view x.new.seat.me.0.view x.result) (l.invariant.rest l.thread (omega arith)) x.ensures.found);
      rest = λ u le. get_or-set_other l.fronts l.thread u x.result 0 (omega arith) ∙ l.invariant.rest u (omega arith);
    }

pub returns : goal.returns
returns g c =
    let l = c.loop-thread in let t = c.args.events.now in
    record { step = l.invariant.step; found = subst (λ (k : ℕ). AreFoundAgain t.setup c.args.places.now c.args.above c.args.fronts.now l.fronts k c.args.seat.now.me.0.view l.seat.me.0.view) (omega arith) l.invariant.found }
