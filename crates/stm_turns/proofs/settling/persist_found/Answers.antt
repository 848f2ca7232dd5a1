use Rattle.std.proofs.Common.{◌≡◌, ℕ, ◌∙◌, [], ◌∷◌, refl, ap, subst, get_or, arith}
use Rattle.std.specs.Prelude.{Some}
use Rattle.core_events.specs.Setups.{Setup}
use Rattle.back_store.specs.BackView.{state_of}
use Rattle.stm_turns.proofs.Bundling.{then_bare, with_of}
use Rattle.stm_turns.proofs.Calling.{may_put_all}
use Rattle.stm_turns.proofs.Faults.{err_still}
use Rattle.stm_turns.proofs.NextRecords.{ahead_inside, looked_with}
use Rattle.stm_turns.proofs.Seats.{advanced, same_turn}
use Rattle.stm_turns.proofs.Settled.{begun, begun_steps, front_settled, front_steps, not_drawn_on, not_drawn_some, rises_on, still_settled}
use Rattle.dude_base.specs.Records.{bundle_of, first_of}
use Rattle.stm_turns.specs.Holding.{Held}
use Rattle.stm_turns.specs.Turns.{RisesTo, found_in}
use Rattle.stm_turns.proofs.settling.persist_found.Goals as goal

pub put_all_back-requires-clause-may : goal.put_all_back-requires-clause-may
put_all_back-requires-clause-may g c =
    let t = c.args.events.now in let sight = g.M.Medium.sight in let i = c.requires.turn in let h = c.args.home.now in let q = c.begin-gathering.result in
    let w = begun sight t c.args.seat.now h c.args.own c.boxes.result c.args.redo.now q i (c.boxes.ensures ∙ ap (λ (y : Setup). y.boxes) i.setup) c.begin-gathering.ensures in
    may_put_all sight t c.args.seat.now h q w

pub look_at_all-fronts-requires-clause-turn : goal.look_at_all-fronts-requires-clause-turn
look_at_all-fronts-requires-clause-turn g c =
    let t = c.args.events.now in let sight = g.M.Medium.sight in let i = c.requires.turn in let h = c.args.home.now in let q = c.begin-gathering.result in
    let w = begun sight t c.args.seat.now h c.args.own c.boxes.result c.args.redo.now q i (c.boxes.ensures ∙ ap (λ (y : Setup). y.boxes) i.setup) c.begin-gathering.ensures in
    (w.hand, w.turn)

pub look_at_all-fronts-requires-clause-places : goal.look_at_all-fronts-requires-clause-places
look_at_all-fronts-requires-clause-places g c =
    let t = c.args.events.now in let sight = g.M.Medium.sight in let i = c.requires.turn in let h = c.args.home.now in let q = c.begin-gathering.result in
    let w = begun sight t c.args.seat.now h c.args.own c.boxes.result c.args.redo.now q i (c.boxes.ensures ∙ ap (λ (y : Setup). y.boxes) i.setup) c.begin-gathering.ensures in
    rw i.setup (ahead_inside sight t c.args.seat.now h q w)

pub gather-requires : goal.gather-requires
gather-requires g c =
    let t = c.args.events.now in let sight = g.M.Medium.sight in let i = c.requires.turn in let h = c.args.home.now in let q = c.begin-gathering.result in let b = c.look_at_all-fronts in
    let w = begun sight t c.args.seat.now h c.args.own c.boxes.result c.args.redo.now q i (c.boxes.ensures ∙ ap (λ (y : Setup). y.boxes) i.setup) c.begin-gathering.ensures in
    record { with = with_of sight t c.args.seat.now b.new.seat h q (looked_with sight t c.args.seat.now h q w b.new.seat b.ensures.step) }

pub persist_bundle-requires-clause-with : goal.persist_bundle-requires-clause-with
persist_bundle-requires-clause-with g c =
    let x = c.gather in with_of g.M.Medium.sight c.args.events.now c.look_at_all-fronts.new.seat x.new.seat c.args.home.now x.new.gathering x.ensures.step

pub returns-then-number-clause-step : goal.returns-then-number-clause-step
returns-then-number-clause-step g c =
    let t = c.args.events.now in let sight = g.M.Medium.sight in let h = c.args.home.now in let s = same_turn sight t c.args.seat.now h (found_in c.args.own h.next (Some c.args.redo.now)) c.requires.turn in let q = c.begin-gathering.result in let y = c.put_all_back in
    advanced sight t c.args.durable.now c.args.seat.now y.new.seat h [] (then_bare sight t c.args.seat.now c.args.seat.now y.new.seat h h q
    (begun_steps sight t c.args.seat.now c.args.seat.now h c.args.own c.boxes.result c.args.redo.now q s (c.boxes.ensures ∙ ap (λ (v : Setup). v.boxes) s.turn.setup) c.begin-gathering.ensures) y.ensures.step)

pub returns-then-number-clause-next : goal.returns-then-number-clause-next
returns-then-number-clause-next g c =
    let t = c.args.events.now in let sight = g.M.Medium.sight in let h = c.args.home.now in let y = c.put_all_back in let e = c.requires.settled in let r = c.args.redo.now in
    let p : Held = record { thread = c.args.own; place = get_or h.next c.args.own 0; redo = r } in (
      still_settled sight t c.args.seat.now y.new.seat h c.args.number e y.ensures.step.view,
      not_drawn_on c.args.seat.now y.new.seat c.args.number y.ensures.step.view
          (not_drawn_some sight t c.args.seat.now h (p ∷ []) c.requires.turn c.args.number e.is e.reproduced r p refl refl c.requires.drawn (λ same. c.if-number.true (c.number.ensures ∙ same))),
    )

pub returns-in_err-persist_bundle-clause-step : goal.returns-in_err-persist_bundle-clause-step
returns-in_err-persist_bundle-clause-step g c =
    let h = c.args.home.now in let b = c.look_at_all-fronts in let x = c.gather in let y = c.persist_bundle in
    front_steps g.M.Medium.sight c.args.events.now c.args.durable.now y.new.durable c.args.seat.now c.args.seat.now b.new.seat x.new.seat y.new.seat h y.new.home c.args.own c.boxes.result c.args.redo.now c.begin-gathering.result x.new.gathering
    (same_turn g.M.Medium.sight c.args.events.now c.args.seat.now h (found_in c.args.own h.next (Some c.args.redo.now)) c.requires.turn) c.boxes.ensures c.begin-gathering.ensures b.ensures.step x.ensures.step y.ensures.step

pub unreachable-requires : goal.unreachable-requires
unreachable-requires g c =
    let late = c.in_ok-persist_bundle.ensures.late c.if-not-branch.true in let first = c.gather.ensures.alike.first in
    let begins : first_of c.begin-gathering.result.bundle ≡ first_of (bundle_of c.args.redo.now) = ap first_of c.begin-gathering.ensures.bundle in
    let is = c.if-number.false in let n = c.number.ensures in let e = c.requires.settled.reproduced in absurd (omega arith)

pub returns-in_err-catch_up-clause-step : goal.returns-in_err-catch_up-clause-step
returns-in_err-catch_up-clause-step g c =
    let h = c.args.home.now in let b = c.look_at_all-fronts in let x = c.gather in let y = c.persist_bundle in let d = c.catch_up in
    front_settled g.M.Medium.sight c.args.events.now c.args.durable.now y.new.durable d.new.durable c.args.seat.now c.args.seat.now b.new.seat x.new.seat y.new.seat d.new.seat h y.new.home d.new.home c.args.own c.boxes.result c.args.redo.now c.begin-gathering.result x.new.gathering
    (same_turn g.M.Medium.sight c.args.events.now c.args.seat.now h (found_in c.args.own h.next (Some c.args.redo.now)) c.requires.turn) c.boxes.ensures c.begin-gathering.ensures b.ensures.step x.ensures.step y.ensures.step d.ensures.step

pub returns-clause-step : goal.returns-clause-step
returns-clause-step g c =
    let h = c.args.home.now in let b = c.look_at_all-fronts in let x = c.gather in let y = c.persist_bundle in let d = c.catch_up in
    front_settled g.M.Medium.sight c.args.events.now c.args.durable.now y.new.durable d.new.durable c.args.seat.now c.args.seat.now b.new.seat x.new.seat y.new.seat d.new.seat h y.new.home d.new.home c.args.own c.boxes.result c.args.redo.now c.begin-gathering.result x.new.gathering
    (same_turn g.M.Medium.sight c.args.events.now c.args.seat.now h (found_in c.args.own h.next (Some c.args.redo.now)) c.requires.turn) c.boxes.ensures c.begin-gathering.ensures b.ensures.step x.ensures.step y.ensures.step d.ensures.step

pub returns-clause-next : goal.returns-clause-next
returns-clause-next g c =
    let y = c.persist_bundle in let d = c.catch_up in let q = c.gather.new.gathering in let u = state_of c.args.home.now.back in let v = state_of y.new.home.back in let w = state_of d.new.home.back in (
      c.in_ok-catch_up.ensures.ok,
      (
        first_of q.bundle,
        rises_on (first_of q.bundle) c.args.own u v w
            (subst (λ (r : ℕ). RisesTo (first_of q.bundle) r u v) (c.gather.ensures.alike.ring ∙ c.begin-gathering.ensures.ring) (c.in_ok-persist_bundle.ensures.rises c.if-not-branch.false))
            c.in_ok-catch_up.ensures.past,
      ),
    )

pub returns-in_err-catch_up-clause-cause : goal.returns-in_err-catch_up-clause-cause
returns-in_err-catch_up-clause-cause g c =
    let y = c.persist_bundle in let d = c.catch_up in
    let r = c.from_residual-in_err-catch_up in err_still d.result r.result c.in_err-catch_up.field-0.0 (state_of y.new.home.back) (state_of c.args.home.now.back) (state_of d.new.home.back) c.in_err-catch_up.was r.ensures.1 c.in_ok-persist_bundle.ensures.life.1 c.requires.settled.is.alive d.ensures.cause
