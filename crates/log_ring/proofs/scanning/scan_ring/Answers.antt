use Rattle.std.proofs.Common.{◌≡◌, ◌+◌, ◌≤◌, ◌/◌, true, Err, Option, IfSome, ◌*◌, suc-mul, refl, sym, ap, ◌∙◌, subst, arith, rules}
use Rattle.pmem_trait.proofs.ReadRuns.{reads_here, reads_then, content_before}
use Rattle.dude_base.specs.Image.{Cell, cell_at}
use Rattle.redo_record.specs.Cells.{IsCell, line_of}
use Rattle.redo_record.specs.Images.{version_of}
use Rattle.redo_record.specs.Damage.{IsTorn, IsLeastLine}
use Rattle.log_ring.specs.declared.head.Head.{Head}
use Rattle.log_ring.specs.declared.scan_fault.ScanFault.TheVariants.{Damaged}
use Rattle.log_ring.specs.Scanning.{IsSeen, TakesHead, KnowsBelow}
use Rattle.log_ring.proofs.ScanReads.{made_well, made_again}
use Rattle.log_ring.specs.Heads.{cell_of}
use Rattle.log_ring.specs.Scan.{HoldsCells}
use Rattle.log_ring.proofs.Replayable.{held_skip, held_more}
use Rattle.log_ring.proofs.ScanSteps.{knows_skip, knows_more, torn_first}
use Rattle.log_ring.proofs.scanning.scan_ring.Goals.{in-Some+in_ok-take, in_default}
use Rattle.log_ring.proofs.scanning.scan_ring.Goals as goal

pub loop-cell-init : goal.loop-cell-init
loop-cell-init g c = record {
  len = refl;
  reads = reads_here _;
  few = omega arith;
  holds = λ before. held_skip c.args.place.now _ _ c.args.found.now (omega arith) before;
  knows = λ told content is version before. subst (λ n. KnowsBelow c.args.place.now c.args.above content n c.args.found.now) (omega arith) before;
}

pub returns-in_err-head-clause-torn : goal.returns-in_err-head-clause-torn
returns-in_err-head-clause-torn g c line is = λ told content holds version before.
    let cell : Cell = cell_at c.args.ring c.loop-cell.cell in
    let was : c.scan_cell.result ≡ Err (Damaged line) = search (rules, is) in
    let torn = c.scan_cell.ensures.torn line was in
    let found = content_before {P = λ l. version_of l ≡ c.args.version → IsTorn c.args.place.now c.args.above l cell} {ok = true} c.loop-cell.invariant.reads torn.1 told content holds version in
    subst (IsLeastLine c.args.place.now (IsTorn c.args.place.now c.args.above content)) (sym torn.0)
    (torn_first c.args.place.now c.args.above content cell c.loop-cell.found found (c.loop-cell.invariant.knows told content holds version before))

pub loop-cell-preserved : goal.loop-cell-preserved
loop-cell-preserved g c = record {
  len = c.in_ok-head.ensures.len ∙ c.loop-cell.invariant.len;
  reads = reads_then {ok = true} c.loop-cell.invariant.reads c.in_ok-head.ensures.reads;
  few = omega arith;
  holds = λ before.
      let cells : c.sizes-cell-end.result.cells ≡ c.args.place.now.cells = ap (λ s. s.cells) c.sizes-cell-end.ensures.sizes in
      let known : HoldsCells c.args.place.now (c.args.ring * c.args.place.now.cells + c.loop-cell.cell) c.loop-cell.found = c.loop-cell.invariant.holds before in
      let most = c.args.ring * c.args.place.now.cells + c.loop-cell.cell in
      let up : most + 1 ≤ c.args.ring * c.args.place.now.cells + (c.loop-cell.cell + 1) = omega arith in
      held_skip c.args.place.now (most + 1) (c.args.ring * c.args.place.now.cells + (c.loop-cell.cell + 1)) c.match-branch-2.found up (elim c.match-branch-2.branch [
        | in-Some+in_ok-take w ↦
            let here : cell_of w.in-Some.head ≡ cell_at c.args.ring c.loop-cell.cell = subst (λ (o : Option Head). IfSome o (λ h. cell_of h ≡ cell_at c.args.ring c.loop-cell.cell)) w.in-Some.is c.in_ok-head.ensures.here in
            let own : IsCell c.args.place.now (cell_of w.in-Some.head) = subst (IsCell c.args.place.now) (sym here) (record { ring_is = c.requires.ring; slot_is = omega arith }) in
            subst (HoldsCells c.args.place.now (most + 1)) (sym w.found-is)
            (held_more c.args.place.now most _ w.in-Some.head c.loop-cell.found w.take.new.self own w.in_ok-take.ensures.takes w.in_ok-take.ensures.few known)
        | in_default w ↦ subst (HoldsCells c.args.place.now (most + 1)) (sym w.found-is) (held_skip c.args.place.now most (most + 1) c.loop-cell.found (omega arith) known)
      ]);
  knows = λ told content holds version before.
      let cell : Cell = cell_at c.args.ring c.loop-cell.cell in
      let cells : c.sizes-cell-end.result.cells ≡ c.args.place.now.cells = ap (λ s. s.cells) c.sizes-cell-end.ensures.sizes in
      let is_cell : IsCell c.args.place.now cell = record { ring_is = c.requires.ring; slot_is = omega arith } in
      let known : KnowsBelow c.args.place.now c.args.above content (line_of c.args.place.now cell) c.loop-cell.found = c.loop-cell.invariant.knows told content holds version before in
      let seen = content_before {P = λ l. version_of l ≡ c.args.version → IsSeen c.args.place.now c.args.above l cell c.in_ok-head.field-0} {ok = true} c.loop-cell.invariant.reads c.in_ok-head.ensures.seen told content holds version in
      subst (λ n. KnowsBelow c.args.place.now c.args.above content n c.match-branch-2.found) (omega arith)
      (elim c.match-branch-2.branch [
        | in-Some+in_ok-take w ↦
            let head = subst (IsSeen c.args.place.now c.args.above content cell) w.in-Some.is seen in
            let line : w.cell.result / 8 ≡ line_of c.args.place.now cell = omega (arith, w.cell.ensures.place) in
            let takes : TakesHead (line_of c.args.place.now cell) w.in-Some.head c.loop-cell.found w.take.new.self = subst (λ l. TakesHead l w.in-Some.head c.loop-cell.found w.take.new.self) line w.in_ok-take.ensures.takes in
            subst (KnowsBelow c.args.place.now c.args.above content (line_of c.args.place.now cell + 1)) (sym w.found-is)
            (knows_more c.args.place.now c.args.above content cell is_cell w.in-Some.head c.loop-cell.found w.take.new.self head.0 head.1 head.2 known takes)
        | in_default w ↦
            subst (KnowsBelow c.args.place.now c.args.above content (line_of c.args.place.now cell + 1)) (sym w.found-is)
            (knows_skip c.args.place.now c.args.above content cell is_cell c.loop-cell.found (subst (IsSeen c.args.place.now c.args.above content cell) w.in_default.is seen) known)
      ]);
}

pub returns-clause-knows : goal.returns-clause-knows
returns-clause-knows g c = λ told content holds version before.
    let cells : c.sizes-cell-end.result.cells ≡ c.args.place.now.cells = ap (λ s. s.cells) c.sizes-cell-end.ensures.sizes in
    subst (λ n. KnowsBelow c.args.place.now c.args.above content n c.loop-cell.found) (omega arith) (c.loop-cell.invariant.knows told content holds version before)

pub returns-clause-holds : goal.returns-clause-holds
returns-clause-holds g c = λ before.
    let cells : c.sizes-cell-end.result.cells ≡ c.args.place.now.cells = ap (λ s. s.cells) c.sizes-cell-end.ensures.sizes in
    let last : c.loop-cell.cell ≡ c.args.place.now.cells = omega arith in
    held_skip c.args.place.now _ _ c.loop-cell.found (omega (arith, suc-mul c.args.ring c.args.place.now.cells)) (c.loop-cell.invariant.holds before)

pub returns-in_err-head-clause-reads : goal.returns-in_err-head-clause-reads
returns-in_err-head-clause-reads g c =
    made_again c.from_residual.result c.scan_cell.result c.in_err-head.field-0.0 _ (g.M.Medium.sight c.loop-cell.m) _ (search rules) c.in_err-head.was c.loop-cell.invariant.reads c.scan_cell.ensures.reads

pub returns-in_err-take-clause-reads : goal.returns-in_err-take-clause-reads
returns-in_err-take-clause-reads g c = made_well c.from_residual-in_err-take.result (search rules) (reads_then {ok = true} c.loop-cell.invariant.reads c.in_ok-head.ensures.reads)
