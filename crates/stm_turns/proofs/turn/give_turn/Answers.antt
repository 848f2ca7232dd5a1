use Rattle.std.proofs.Common.{◌*◌, ◌∙◌, sym, refl, ap, subst, []}
use Rattle.core_events.specs.Events.{give_turn}
use Rattle.core_events.specs.Setups.{Setup}
use Rattle.core_table.specs.Known.{Known}
use Rattle.stm_slots.specs.Beside.{Beside}
use Rattle.stm_slots.specs.Queues.{back_slot}
use Rattle.stm_slots.specs.Opening.{setup_of}
use Rattle.stm_slots.specs.Turns.{GaveTurn}
use Rattle.stm_slots.specs.declared.slot.Slot.TheVariants.{Empty, Home}
use Rattle.stm_turns.specs.Holding.{Holding}
use Rattle.stm_turns.proofs.Holdings.{give_acts_on, laid_in}
use Rattle.stm_turns.proofs.Seats.{belongs_on, laid_belongs, may_in_turn}
use Rattle.stm_turns.proofs.turn.give_turn.Goals as goal

pub store_by-requires-clause-may : goal.store_by-requires-clause-may
store_by-requires-clause-may g c =
    let t = c.args.events.now in let o = t.key in let i = c.requires.turn in let seat = c.lay.new.seat in let sight = g.M.Medium.sight in let home = c.args.home in
    let same = ap (λ m. m.0) c.lay.ensures.me in
    let holding = subst (λ (k : Known Beside). Holding sight o k home []) (sym same) i.holding in
    let slots = laid_in c.args.seat.now.me seat.me c.box_count-slot.result (back_slot (setup_of sight o)) (Home home) Empty [] c.lay.ensures.me i.slots (c.box_count-slot.ensures.count ∙ ap (λ (y : Setup). y.threads * y.boxes) i.setup) in
    may_in_turn sight t seat home [] (laid_belongs sight t c.args.seat.now seat i.belongs c.lay.ensures.same.0 same) i.setup holding (give_turn c.args.failed) (record { live = holding.live; threaded = holding.thread; named = tt; can = (holding.turn, λ e. refl) }) (λ n. GaveTurn sight o c.args.failed seat.me 0)
    (give_acts_on sight o seat.me home [] holding seat.id c.args.failed refl slots c.requires.settled c.requires.fault)

pub returns-clause-bare : goal.returns-clause-bare
returns-clause-bare g c =
    let i = c.requires.turn in let l = c.lay in let x = c.store_by in
    record {
      belongs = belongs_on g.M.Medium.sight c.args.events.now c.args.seat.now x.new.seat i.belongs i.setup (x.ensures.seat.0 ∙ l.ensures.same.0) x.ensures.then.seated;
      id = x.ensures.seat.1 ∙ l.ensures.same.1;
      slots = x.ensures.then.slots;
    }
