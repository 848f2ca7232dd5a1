use Rattle.std.proofs.Common.{List, ℕ, length, ap, sym, ◌∙◌, arith}
use Rattle.core_events.specs.Setups.{Setup}
use Rattle.core_events.specs.Partings.{start}
use Rattle.core_table.specs.Places.{flat}
use Rattle.core_table.proofs.Opens.{opens, as_many, small, same_setup}
use Rattle.core_table.proofs.event_table.EventTable.new.Goals as goal

pub new-requires : goal.new-requires
new-requires g c =
    let r = c.requires.may in let z : Setup = g.P.SlotRule.setup c.args.key.now in
    opens (g.P.SlotRule.fact c.args.key.now) z g.P.SlotRule.beside c.as_slice.result.now c.args.slots.items r.setup (c.as_slice.ensures.value ∙ (c.in-Ok.ensures ∙ sym (ap (λ (y : Setup). flat (start y)) r.terms_are))) r.slots

pub invariant_of-table : goal.invariant_of-table
invariant_of-table g c =
    let r = c.requires.may in let z : Setup = g.P.SlotRule.setup c.args.key.now in let e = c.in_ok-table.ensures.ok in let is = r.terms_are ∙ ap (λ (u : Setup). record u { is_told = z.is_told; may_fail = z.may_fail }) (sym c.terms.view_is) in
    rw e.5 (record {
      small = small z r.setup r.pages;
      words_are = e.0 ∙ (ap (λ (l : List ℕ). length l) (c.as_slice.ensures.value ∙ (c.in-Ok.ensures ∙ sym (ap (λ (y : Setup). flat (start y)) r.terms_are))) ∙ as_many z r.setup);
      threads_are = ap (λ (u : Setup). u.threads) is;
      locks_are = ap (λ (u : Setup). u.locks) is;
      pages_are = ap (λ (u : Setup). u.pages) is;
      frames_are = ap (λ (u : Setup). u.frames) is;
      boxes_are = ap (λ (u : Setup). u.boxes) is;
    })

pub start_words-requires : goal.start_words-requires
start_words-requires g c =
    let r = c.requires.may in let z : Setup = g.P.SlotRule.setup c.args.key.now in
    record { setup = same_setup c.args.terms.now z r.terms_are r.setup; pages = (let p = r.pages in let e = ap (λ (u : Setup). u.pages) r.terms_are in omega arith) }
