use Rattle.std.proofs.Common.{◌≤◌, ◌+◌, ◌-◌, ◌%◌, sym, ap, subst, ◌∙◌, arith, add-zero}
use Rattle.std.proofs.lemmas.List.FromFn.{length-map-range_with_len}
use Rattle.hash_table.specs.declared.table.Table.{Table}
use Rattle.tatp_model.specs.Population.{call_at}
use Rattle.tatp_layout.specs.Layout.{call_table}
use Rattle.tatp_layout.specs.Records.{call_form}
use Rattle.tatp_rows.specs.Entries.{facility_call_entries}
use Rattle.tatp_rows.specs.Filling.{Inserts, entry_of, entries_up_to}
use Rattle.tatp_rows.proofs.Fillings.{inserts_none, inserts_then, entries_more, length-entries_more}
use Rattle.tatp_rows.proofs.Populations.{flat_within}
use Rattle.tatp_rows.proofs.calls.CallsPopulated.put.Goals as goal

pub loop-f-init : goal.loop-f-init
loop-f-init c = record { index = sym (add-zero c.args.index); filling = inserts_none }

pub put_calls-next-requires-clause-room : goal.put_calls-next-requires-clause-room
put_calls-next-requires-clause-room c =
    let s = c.args.s in
    let f = c.loop-f.f in
    omega (arith, c.loop-f.invariant.index, c.requires.room, length-map-range_with_len (λ k. entry_of call_form (call_at s f k)) 0 ((s + f) % 4), flat_within (facility_call_entries s) (f - 1) f (1 + (s + 1) % 4) (omega arith) (omega arith), ap (λ (t : Table). t.pool.count) c.calls-table.ensures.table)

pub loop-f-preserved : goal.loop-f-preserved
loop-f-preserved c =
    let s = c.args.s in
    let f = c.loop-f.f in
    let low : 1 ≤ f = omega arith in
    let before = c.loop-f.invariant in
    let entries = facility_call_entries s in
    let next = c.put_calls-next in
    let put = subst (λ (t : Table). Inserts t c.loop-f.next (entries f) c.loop-f.words next.new.words) c.calls-table.ensures.table next.ensures.filling in
    record {
      index = next.ensures.index ∙ omega (arith, before.index, length-map-range_with_len (λ k. entry_of call_form (call_at s f k)) 0 ((s + f) % 4), length-entries_more entries f low);
      filling = subst (λ l. Inserts (call_table c.args.lay.now) c.args.index l c.args.words.now next.new.words) (entries_more entries f low)
          (inserts_then (entries_up_to entries (f - 1)) (entries f) c.loop-f.next (sym before.index) before.filling put);
    }
