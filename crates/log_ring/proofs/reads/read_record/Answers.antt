use Rattle.std.proofs.Common.{◌≡◌, ℕ, ◌+◌, ◌*◌, ◌%◌, ◌<◌, ◌≤◌, true, slice_index, Option, IfNone, subst, ap, sym, ◌∙◌, arith}
use Rattle.pmem_trait.proofs.ReadRuns.{reads_here, reads_then, read_alone, read_content, content_before}
use Rattle.redo_record.specs.Images.{word_in_image}
use Rattle.dude_base.specs.Image.{cell_at}
use Rattle.log_ring.proofs.RecordReads.{word_of_head, record_is}
use Rattle.log_ring.proofs.Replayable.{home_replayable}
use Rattle.log_ring.proofs.reads.read_record.Goals as goal

pub returns-clause-reads : goal.returns-clause-reads
returns-clause-reads g c = reads_then (read_alone {ok = true} c.in_ok-word.ensures.one_call) c.in_ok-read_cells.ensures.reads

pub returns-clause-replayable : goal.returns-clause-replayable
returns-clause-replayable g c = home_replayable c.args.place.now _ c.home_record.result c.home_record.ensures

pub returns-in_default-clause-record : goal.returns-in_default-clause-record
returns-in_default-clause-record g c = λ told content is held fits.
    let word = word_of_head c.args.place.now content (cell_at c.args.ring c.args.head) c.cell.result 1 c.in_ok-word.word (record { ring_is = c.requires.ring; slot_is = c.requires.head }) c.cell.ensures.place
    (read_content (c.cell.result + 1) (reads_here (g.M.Medium.sight c.args.m.now)) (omega arith) c.in_ok-word.ensures.value told content is) in
    let few = held.whole.count in
    let none : c.in_ok-word.word % 256 ≤ 96 → (c.args.version ≡ 1 → c.in_ok-word.word ≤ 24) → ⊥ = subst (λ (o : Option ℕ). IfNone o (c.in_ok-word.word % 256 ≤ 96 → (c.args.version ≡ 1 → c.in_ok-word.word ≤ 24) → ⊥)) c.in_default.is c.count_in.ensures.none in
    none (omega arith) (λ one. let most = fits one in omega arith)

pub returns-then-cells-sizes-clause-record : goal.returns-then-cells-sizes-clause-record
returns-then-cells-sizes-clause-record g c = λ told content is held fits.
    let word = word_of_head c.args.place.now content (cell_at c.args.ring c.args.head) c.cell.result 1 c.in_ok-word.word (record { ring_is = c.requires.ring; slot_is = c.requires.head }) c.cell.ensures.place
    (read_content (c.cell.result + 1) (reads_here (g.M.Medium.sight c.args.m.now)) (omega arith) c.in_ok-word.ensures.value told content is) in
    let room = held.room in
    let counted = c.in-Some.ensures.some.0 in
    let cells : c.sizes.result.cells ≡ c.args.place.now.cells = ap (λ s. s.cells) c.sizes.ensures.sizes in
    let past = c.if-cells-sizes.true in
    omega arith

pub returns-clause-record : goal.returns-clause-record
returns-clause-record g c = λ told content is.
    let word = word_of_head c.args.place.now content (cell_at c.args.ring c.args.head) c.cell.result 1 c.in_ok-word.word (record { ring_is = c.requires.ring; slot_is = c.requires.head }) c.cell.ensures.place
    (read_content (c.cell.result + 1) (reads_here (g.M.Medium.sight c.args.m.now)) (omega arith) c.in_ok-word.ensures.value told content is) in
    let words = content_before {P = λ l. (k j : ℕ) → k < c.cells_for-cells.result → j < 8 → slice_index c.read_cells.new.words (8 * k + j) ≡ word_in_image c.args.place.now l (cell_at c.args.ring c.args.head) k j} {ok = true} (read_alone {ok = true} c.in_ok-word.ensures.one_call) c.in_ok-read_cells.ensures.words told content is in
    let counted = c.in-Some.ensures.some.0 in
    let cells : c.sizes.result.cells ≡ c.args.place.now.cells = ap (λ s. s.cells) c.sizes.ensures.sizes in
    let few = c.in-Some.ensures.some.1 in
    record_is c.args.place.now content c.read_cells.new.words (cell_at c.args.ring c.args.head) c.in-Some.count c.cells_for-cells.result (omega arith) (omega arith) (omega arith) c.read_cells.array_long
    c.args.version (λ one. let most = c.in-Some.ensures.some.2 one in omega arith) (ap (λ (x : ℕ). x % 256) word ∙ sym counted) words c.home_record.result c.home_record.ensures
