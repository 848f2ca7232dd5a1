use Rattle.std.proofs.Common.{◌≡◌, ◌+◌, ◌%◌, map, refl, ap, subst, ◌∙◌, arith}
use Rattle.std.specs.List.{range_with_len}
use Rattle.record_heap.proofs.Pools.{count_fits}
use Rattle.tatp_model.specs.Population.{call_at}
use Rattle.tatp_layout.specs.Records.{call_form}
use Rattle.tatp_rows.specs.Filling.{Inserts, entry_of}
use Rattle.tatp_rows.proofs.Fillings.{inserts_none, inserts_next}
use Rattle.tatp_rows.proofs.calls.put_calls.Goals as goal

pub loop-k-init : goal.loop-k-init
loop-k-init c = inserts_none

pub overflow_add-index : goal.overflow_add-index
overflow_add-index c = omega (arith, c.requires.room, count_fits c.requires.fits.pool)

pub loop-k-preserved : goal.loop-k-preserved
loop-k-preserved c = inserts_next (λ k. entry_of call_form (call_at c.args.s c.args.f k)) 0 c.loop-k.k c.loop-k.k (c.args.index + c.loop-k.k) (omega arith) refl (c.call_entry.ensures ∙ ap (entry_of call_form) c.call_row.ensures) c.loop-k.invariant c.put_record.ensures.filling

pub overflow_add-result : goal.overflow_add-result
overflow_add-result c = omega (arith, c.requires.room, count_fits c.requires.fits.pool)

pub returns-clause-filling : goal.returns-clause-filling
returns-clause-filling c =
    let all : c.loop-k.k ≡ (c.args.s + c.args.f) % 4 = omega arith in
    subst (λ n. Inserts c.args.table.now c.args.index (map (λ k. entry_of call_form (call_at c.args.s c.args.f k)) (range_with_len 0 n)) c.args.words.now c.loop-k.words) all c.loop-k.invariant
