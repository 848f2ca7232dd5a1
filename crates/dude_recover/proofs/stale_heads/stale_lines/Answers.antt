use Rattle.std.proofs.Common.{◌≡◌, ℕ, ◌+◌, ◌*◌, ◌≤◌, true, false, slice_index, refl, sym, ap, ◌∙◌, rules, arith}
use Rattle.std.specs.List.{filter, range_with_len}
use Rattle.pmem_trait.proofs.ReadRuns.{reads_here, reads_then, read_alone, read_content}
use Rattle.dude_recover.specs.OpeningCalls.{is_head_over, stale_lines}
use Rattle.dude_recover.proofs.OpeningRuns.{lines_next, fit_next}
use Rattle.image_recovery.proofs.ReplayReading.{made_at_device, made_without_memory}
use Rattle.dude_recover.proofs.stale_heads.stale_lines.Goals as goal

pub returns-in_err-tag-clause-reads : goal.returns-in_err-tag-clause-reads
returns-in_err-tag-clause-reads g c = made_at_device c.from_residual-in_err-tag.result (search rules) (reads_then {ok = false} c.loop-cell.invariant.reads (read_alone {ok = false} c.in_err-tag.ensures.one_call))

pub loop-cell-preserved : goal.loop-cell-preserved
loop-cell-preserved g c =
    let at : (2 + c.loop-cell.cell) * 8 ≡ 8 * (2 + c.loop-cell.cell) = omega arith in
    let inside : (2 + c.loop-cell.cell) * 8 + 8 ≤ (g.M.Medium.sight c.args.m.now).len = omega (arith, c.loop-cell-test.true, c.requires.room, c.loop-cell.invariant.count) in
    record {
      len = omega arith;
      reads = reads_then {ok = true} c.loop-cell.invariant.reads (read_alone {ok = true} c.in_ok-tag.ensures.one_call);
      count = c.loop-cell.invariant.count;
      few = omega (arith, c.add_stale.ensures.len, c.loop-cell.invariant.few);
      capacity = c.add_stale.ensures.capacity ∙ c.loop-cell.invariant.capacity;
      fit = fit_next _ (2 + c.loop-cell.cell) (is_head_over c.args.number c.in_ok-tag.tag) c.loop-cell.lines.items c.add_stale.new.lines.items c.loop-cell.invariant.fit (omega arith) c.add_stale.ensures.items;
      lines = λ told content is.
          lines_next c.args.number c.in_ok-tag.tag c.loop-cell.cell (2 + c.loop-cell.cell) content c.loop-cell.lines.items c.add_stale.new.lines.items
          (ap (slice_index content) (sym at) ∙ read_content ((2 + c.loop-cell.cell) * 8) c.loop-cell.invariant.reads (omega (arith, c.loop-cell.invariant.len)) c.in_ok-tag.ensures.value told content is)
          refl (c.loop-cell.invariant.lines told content is) c.add_stale.ensures.items;
    }

pub returns-clause-lines : goal.returns-clause-lines
unfolding stale_lines
returns-clause-lines g c = λ told content is.
    let end : c.loop-cell.cell ≡ c.args.place.now.rings * c.args.place.now.cells = omega (arith, c.loop-cell-test.false, c.loop-cell.invariant.count) in
    c.loop-cell.invariant.lines told content is ∙ ap (λ (n : ℕ). filter (λ line. is_head_over c.args.number (slice_index content (8 * line))) (range_with_len 2 n)) end

pub returns-in_err-lines-clause-reads : goal.returns-in_err-lines-clause-reads
returns-in_err-lines-clause-reads g c = made_without_memory c.from_residual.result (search rules) (reads_here (g.M.Medium.sight c.args.m.now))

pub returns-in_err-tag-clause-len : goal.returns-in_err-tag-clause-len
returns-in_err-tag-clause-len g c = c.in_err-tag.ensures.one_call.later.len ∙ c.loop-cell.invariant.len

pub returns-clause-len : goal.returns-clause-len
returns-clause-len g c = c.loop-cell.invariant.len

pub returns-clause-reads : goal.returns-clause-reads
returns-clause-reads g c = c.loop-cell.invariant.reads

pub returns-clause-fit : goal.returns-clause-fit
returns-clause-fit g c = c.loop-cell.invariant.fit
