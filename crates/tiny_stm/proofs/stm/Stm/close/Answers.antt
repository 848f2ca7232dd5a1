use Rattle.tiny_stm.specs.Ended.{AreLastWords}
use Rattle.std.proofs.Common.{◌≡◌, ℕ, List, ◌+◌, ◌*◌, length, sym, ap, ◌∙◌, subst, arith}
use Rattle.std.specs.Mem.Slots.{IsFull, slots_counts, slots_filled, slots_items, slots_len}
use Rattle.dude_base.specs.declared.limits.TheConstants.{PAGE}
use Rattle.core_events.specs.Setups.{Setup}
use Rattle.core_events.specs.Views.{View}
use Rattle.core_table.specs.Places.{count}
use mathlib.Core.Option.{some}
use lib.ListN.{get_elem?}
use Rattle.stm_transactions.specs.Passes.{first_view, pass_view}
use Rattle.tiny_stm.specs.Collected.{AreCopied, HasPlaces}
use Rattle.std.specs.Vec.{with_items}
use Rattle.std.proofs.lemmas.List.{with_items_is}
use Rattle.tiny_stm.specs.declared.closed.Closed.{Closed}
use Rattle.tiny_stm.proofs.Closes.{all_live, all_rest, back_in, clock_is, has_closed, has_places, home_is_in, last_words, none_left, once_each, some_slot}
use Rattle.tiny_stm.proofs.stm.Stm.close.Goals as goal

pub collect-requires-clause-some : goal.collect-requires-clause-some
collect-requires-clause-some g c =
    let sight = g.M.Medium.sight in let t = c.args.self.steps.events in let o = t.key in let e = c.box_count-count.ensures.setup in
    let k = c.close_events-table.ensures.closed in let v = c.take_seat-seat.result.0.me.0.view in let table = c.close_events-table.result in
    let s = some_slot sight o v (slots_items table.words) (slots_items table.slots) k c.threads-threads.result c.boxes-boxes.result (c.threads-threads.ensures ∙ ap (λ (z : Setup). z.threads) e) (c.boxes-boxes.ensures ∙ ap (λ (z : Setup). z.boxes) e) in
    let n = (slots_counts table.slots).0 in omega arith

pub collect-requires-clause-once : goal.collect-requires-clause-once
collect-requires-clause-once g c =
    let t = c.args.self.steps.events in let e = c.box_count-count.ensures.setup in let table = c.close_events-table.result in
    once_each g.M.Medium.sight t.key c.take_seat-seat.result.0.me.0.view (slots_items table.words) (slots_items table.slots) c.close_events-table.ensures.closed c.threads-threads.result c.boxes-boxes.result (c.threads-threads.ensures ∙ ap (λ (z : Setup). z.threads) e) (c.boxes-boxes.ensures ∙ ap (λ (z : Setup). z.boxes) e)

pub take-requires : goal.take-requires
take-requires g c =
    let t = c.args.self.steps.events in let e = c.box_count-count.ensures.setup in let table = c.close_events-table.result in
    let lt = some_slot g.M.Medium.sight t.key c.take_seat-seat.result.0.me.0.view (slots_items table.words) (slots_items table.slots) c.close_events-table.ensures.closed c.threads-threads.result c.boxes-boxes.result (c.threads-threads.ensures ∙ ap (λ (z : Setup). z.threads) e) (c.boxes-boxes.ensures ∙ ap (λ (z : Setup). z.boxes) e) in
    let s = c.collect.ensures.collected.slots in
    ((let n = (slots_counts c.collect.new.table.slots).0 in let same = ap length s.items in omega arith), s.left (c.threads-threads.result * c.boxes-boxes.result) (omega arith) lt)

pub home_in-home-requires : goal.home_in-home-requires
home_in-home-requires g c =
    let t = c.args.self.steps.events in let e = c.box_count-count.ensures.setup in let table = c.close_events-table.result in let k = c.close_events-table.ensures.closed in
    let at : get_elem? (slots_items table.slots) (c.threads-threads.result * c.boxes-boxes.result) ≡ some c.take.result = ap (λ l. get_elem? l (c.threads-threads.result * c.boxes-boxes.result)) (sym c.collect.ensures.collected.slots.items) ∙ c.take.ensures.value in
    (k.home, back_in g.M.Medium.sight t.key c.take_seat-seat.result.0.me.0.view (slots_items table.words) (slots_items table.slots) k c.threads-threads.result c.boxes-boxes.result (c.threads-threads.ensures ∙ ap (λ (z : Setup). z.threads) e) (c.boxes-boxes.ensures ∙ ap (λ (z : Setup). z.boxes) e) c.take.result at)

pub copy_shown-requires-clause-full : goal.copy_shown-requires-clause-full
copy_shown-requires-clause-full g c = subst IsFull (sym (c.take.ensures.others.3 ∙ c.collect.ensures.words)) c.close_events-table.ensures.full.0

pub copy_shown-requires-clause-places : goal.copy_shown-requires-clause-places
copy_shown-requires-clause-places g c =
    let t = c.args.self.steps.events in let e = c.box_count-count.ensures.setup in let table = c.close_events-table.result in let o = t.key in
    let size : length o.terms.opening ≡ o.terms.pages * PAGE = subst (λ (z : Setup). length z.opening ≡ z.pages * PAGE) c.args.self.terms c.args.self.size in
    let long : length (slots_items table.words) ≡ count t.setup = sym (slots_counts table.words).0 ∙ c.close_events-table.ensures.counts.0 in
    let places = has_places g.M.Medium.sight o c.take_seat-seat.result.0.me.0.view (slots_items table.words) (slots_items table.slots) c.close_events-table.ensures.closed size (long ∙ ap count e) (c.lock_place.result + c.locks.result) (c.lock_place.result + c.locks.result + 2 * c.pages.result)
    (let l = c.locks.ensures ∙ ap (λ (z : Setup). z.locks) e in let p = c.lock_place.ensures in omega arith) (let p = c.pages.ensures ∙ ap (λ (z : Setup). z.pages) e in omega arith) in
    let words_are : c.as_mut_slice.result.now ≡ o.terms.opening = c.as_mut_slice.ensures.value ∙ (c.words_of-words.ensures ∙ ap (λ (z : Setup). z.opening) c.args.self.terms) in
    subst (λ w. HasPlaces (slots_items w) (c.lock_place.result + c.locks.result) (c.lock_place.result + c.locks.result + 2 * c.pages.result) (length c.as_mut_slice.result.now)) (sym (c.take.ensures.others.3 ∙ c.collect.ensures.words))
    (subst (λ (l : List ℕ). HasPlaces (slots_items table.words) (c.lock_place.result + c.locks.result) (c.lock_place.result + c.locks.result + 2 * c.pages.result) (length l)) (sym words_are) places)

pub word-number-requires : goal.word-number-requires
word-number-requires g c =
    let same = c.take.ensures.others.3 ∙ c.collect.ensures.words in
    ((let n = c.close_events-table.ensures.counts.0 in let l = ap slots_len same in omega arith), subst IsFull (sym same) c.close_events-table.ensures.full.0)

pub free-requires : goal.free-requires
free-requires g c =
    let t = c.args.self.steps.events in let e = c.box_count-count.ensures.setup in let table = c.close_events-table.result in
    let long = sym (slots_counts table.slots).0 ∙ c.close_events-table.ensures.last in
    let s = c.collect.ensures.collected.slots in
    λ i lt. none_left g.M.Medium.sight t.key c.take_seat-seat.result.0.me.0.view (slots_items table.words) (slots_items table.slots) c.close_events-table.ensures.closed c.threads-threads.result c.boxes-boxes.result (c.threads-threads.ensures ∙ ap (λ (z : Setup). z.threads) e) (c.boxes-boxes.ensures ∙ ap (λ (z : Setup). z.boxes) e)
    (slots_items c.collect.new.table.slots) (slots_filled c.collect.new.table.slots) c.collect.new.rest.items c.collect.ensures.collected long (slots_filled c.take.new.self.slots) c.take.ensures.others.1 i
    (let a = c.take.ensures.others.2 in let b = (slots_counts c.collect.new.table.slots).0 in let same = ap length s.items in omega arith)

pub returns : goal.returns
returns g c =
    let sight = g.M.Medium.sight in let t = c.args.self.steps.events in let e = c.box_count-count.ensures.setup in let table = c.close_events-table.result in let o = t.key in let k = c.close_events-table.ensures.closed in
    let v : View = c.take_seat-seat.result.0.me.0.view in let ws = slots_items table.words in let ss = slots_items table.slots in
    let et = c.threads-threads.ensures ∙ ap (λ (z : Setup). z.threads) e in let eb = c.boxes-boxes.ensures ∙ ap (λ (z : Setup). z.boxes) e in
    let at : get_elem? ss (c.threads-threads.result * c.boxes-boxes.result) ≡ some c.take.result = ap (λ l. get_elem? l (c.threads-threads.result * c.boxes-boxes.result)) (sym c.collect.ensures.collected.slots.items) ∙ c.take.ensures.value in
    let home : c.home_in-home.result ≡ k.home = home_is_in c.take.result c.home_in-home.result k.home c.home_in-home.ensures (back_in sight o v ws ss k c.threads-threads.result c.boxes-boxes.result et eb c.take.result at) in
    let same = c.take.ensures.others.3 ∙ c.collect.ensures.words in
    let size : length o.terms.opening ≡ o.terms.pages * PAGE = subst (λ (z : Setup). length z.opening ≡ z.pages * PAGE) c.args.self.terms c.args.self.size in
    let long : length ws ≡ count t.setup = sym (slots_counts table.words).0 ∙ c.close_events-table.ensures.counts.0 in
    let words_are : c.as_mut_slice.result.now ≡ o.terms.opening = c.as_mut_slice.ensures.value ∙ (c.words_of-words.ensures ∙ ap (λ (z : Setup). z.opening) c.args.self.terms) in
    let entries : ℕ = c.lock_place.result + c.locks.result in let cells : ℕ = c.lock_place.result + c.locks.result + 2 * c.pages.result in
    let copied : AreCopied ws entries cells o.terms.opening (length o.terms.opening) c.copy_shown.new.words =
    subst (λ w. AreCopied (slots_items w) entries cells o.terms.opening (length o.terms.opening) c.copy_shown.new.words) same
    (subst (λ (l : List ℕ). AreCopied (slots_items c.take.new.self.words) entries cells l (length l) c.copy_shown.new.words) words_are c.copy_shown.ensures) in
    let words = last_words sight o v ws ss k size (long ∙ ap count e) entries cells
    (let l = c.locks.ensures ∙ ap (λ (z : Setup). z.locks) e in let p = c.lock_place.ensures in omega arith) (let p = c.pages.ensures ∙ ap (λ (z : Setup). z.pages) e in omega arith) c.copy_shown.new.words copied in
    let number = clock_is sight o v ws ss k c.word-number.result (ap (λ w. get_elem? (slots_items w) 1) (sym same) ∙ c.word-number.ensures) in
    let rest = all_rest sight o v ws ss k c.threads-threads.result c.boxes-boxes.result et eb (slots_items c.collect.new.table.slots) (slots_filled c.collect.new.table.slots) c.collect.new.rest.items c.collect.ensures.collected c.sort.new.rest.items c.sort.ensures.moved c.sort.ensures.sorted in
    let live = all_live sight o v ws ss k c.threads-threads.result c.boxes-boxes.result et eb (slots_items c.collect.new.table.slots) (slots_filled c.collect.new.table.slots) c.collect.new.rest.items c.collect.ensures.collected c.sort.new.rest.items c.sort.ensures.moved c.sort.ensures.sorted in
    let ended : Closed g.row.M.Denot g.M.Medium = record { back = c.home_in-home.result.back; rest = c.sort.new.rest; words = with_items c.words_of-words.result c.copy_shown.new.words; number = c.word-number.result } in
    let long_words : length c.copy_shown.new.words ≡ c.words_of-words.result.len = c.copy_shown.ensures.size ∙ (ap (λ (l : List ℕ). length l) c.as_mut_slice.ensures.value ∙ sym c.words_of-words.result.ok.0) in
    let ended_words = subst (AreLastWords sight o v.entries k.core.clock) (sym (with_items_is c.words_of-words.result c.copy_shown.new.words long_words)) words in
    has_closed sight o v ws ss k (pass_view c.args.p) (ap first_view c.take_seat-seat.ensures.known) ended (ap (λ h. h.back) home) number rest live ended_words
