use Rattle.std.proofs.Common.{◌≡◌, ◌<◌, None, length, sym, ap, ◌∙◌, arith}
use Rattle.std.specs.Prelude.{is_some}
use Rattle.std.proofs.lemmas.Bool.{true≢false}
use Rattle.core_events.specs.Setups.{page_of}
use Rattle.core_events.specs.Keyed.{find}
use Rattle.stm_transactions.specs.Pairs.{pairs_of}
use Rattle.stm_transactions.proofs.Pairs.{find_pairs}
use Rattle.stm_transactions.proofs.Pins.{stays_on, stays_made}
use Rattle.stm_transactions.proofs.Stores.{has_page, store_frame, store_written, store_may, store_more}
use Rattle.stm_transactions.proofs.storing.store_all.Goals as goal

pub unreachable-requires : goal.unreachable-requires
unreachable-requires g c =
    let lt : c.loop-k.k < length c.args.writes.now = omega arith in
    let none : find (pairs_of c.args.frames.now) (page_of c.get-w.result.at) ≡ None = find_pairs c.args.frames.now c.len-pages.ensures.writes.distinct (page_of c.get-w.result.at) ∙ (sym c.find.ensures ∙ c.in_default.is) in
    true≢false (sym (has_page c.args.stm.now.events.setup c.args.writes.now c.args.frames.now c.args.seat.now.me.0.view c.requires.storing c.len-k-end.ensures.writes c.loop-k.k c.loop-k.seat.me.0.view c.loop-k.invariant.1 c.get-w.result c.get-w.ensures lt) ∙ ap is_some none)

pub store-requires-clause-frame : goal.store-requires-clause-frame
store-requires-clause-frame g c =
    let lt : c.loop-k.k < length c.args.writes.now = omega arith in
    store_frame c.args.stm.now.events.setup c.args.writes.now c.args.frames.now c.args.seat.now.me.0.view c.requires.storing c.len-k-end.ensures.writes c.loop-k.k c.loop-k.seat.me.0.view c.loop-k.invariant.1 c.get-w.result c.get-w.ensures lt c.in-Some.frame (find_pairs c.args.frames.now c.len-pages.ensures.writes.distinct (page_of c.get-w.result.at) ∙ (sym c.find.ensures ∙ c.in-Some.is))

pub store-requires-clause-value : goal.store-requires-clause-value
store-requires-clause-value g c =
    let lt : c.loop-k.k < length c.args.writes.now = omega arith in
    store_written c.args.stm.now.events.setup c.args.writes.now c.args.frames.now c.args.seat.now.me.0.view c.requires.storing c.len-k-end.ensures.writes c.loop-k.k c.loop-k.seat.me.0.view c.loop-k.invariant.1 c.get-w.result c.get-w.ensures lt

pub store-requires-clause-may : goal.store-requires-clause-may
store-requires-clause-may g c = let lt : c.loop-k.k < length c.args.writes.now = omega arith in record { seat = c.loop-k.invariant.0.belongs; may = store_may c.args.stm.now.events.setup c.args.writes.now c.args.frames.now c.args.seat.now.me.0.view c.requires.storing c.len-k-end.ensures.writes c.loop-k.k c.loop-k.seat.me.0.view c.loop-k.invariant.1 c.get-w.result c.get-w.ensures lt; slots = c.requires.slots.store _ }

pub loop-k-preserved : goal.loop-k-preserved
loop-k-preserved g c =
    let lt : c.loop-k.k < length c.args.writes.now = omega arith in (
      stays_on c.args.stm.now.events c.args.seat.now c.loop-k.seat c.store.new.seat c.loop-k.invariant.0 (stays_made c.args.stm.now.events _ c.loop-k.seat c.store.new.seat c.store.ensures.made),
      store_more c.args.stm.now.events.setup c.args.writes.now c.args.frames.now c.args.seat.now.me.0.view c.requires.storing c.len-k-end.ensures.writes c.loop-k.k c.loop-k.seat.me.0.view c.loop-k.invariant.1 c.get-w.result c.get-w.ensures lt c.store.new.seat.me.0.view c.store.ensures.view,
    )
