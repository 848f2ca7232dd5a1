use Rattle.std.proofs.Common.{◌≡◌, inl, ◌+◌, ◌*◌, ◌≤◌, length, List, true, Err, None, All, refl, sym, ap, ◌∙◌, subst, arith, rules}
use Rattle.std.proofs.lemmas.Result.{IfOk-weaker}
use Rattle.std.specs.BTreeMap.{values}
use Rattle.pmem_trait.specs.Reads.{ContentHas}
use Rattle.pmem_trait.proofs.ReadRuns.{reads_here, reads_then, content_before}
use Rattle.redo_record.specs.Cells.{IsCell}
use Rattle.redo_record.specs.Images.{version_of}
use Rattle.redo_record.specs.Damage.{IsTorn, IsLeastLine}
use Rattle.log_ring.specs.declared.scan_fault.ScanFault.TheVariants.{Damaged}
use Rattle.log_ring.specs.declared.head.Head.{Head}
use Rattle.log_ring.specs.Heads.{cell_of}
use Rattle.log_ring.specs.Scan.{AreHeads, HoldsCells}
use Rattle.log_ring.specs.Scanning.{KnowsBelow}
use Rattle.log_ring.proofs.ScanReads.{made_again}
use Rattle.log_ring.proofs.Replayable.{none_held, held_skip, all_inside, count_inside}
use Rattle.log_ring.proofs.ScanSteps.{knows_nothing}
use Rattle.log_ring.proofs.ScanEnd.{damaged_duplicate, are_heads}
use Rattle.log_ring.proofs.scanning.scan_rings.Goals as goal

pub loop-ring-init : goal.loop-ring-init
loop-ring-init g c = record {
  len = refl;
  reads = reads_here _;
  few = omega arith;
  holds = held_skip c.args.place.now 0 _ c.new-found.result (omega arith) (none_held c.args.place.now c.new-found.result c.new-found.ensures.heads);
  knows = λ told content holds version. knows_nothing c.args.place.now c.args.above content _ c.new-found.result (omega arith) c.new-found.ensures.heads c.new-found.ensures.duplicate;
}

pub returns-in_err-scan_ring-clause-damaged : goal.returns-in_err-scan_ring-clause-damaged
returns-in_err-scan_ring-clause-damaged g c line is = λ told content holds version.
    let was : c.scan_ring.result ≡ Err (Damaged line) = search (rules, is) in
    inl (content_before {P = λ l. version_of l ≡ c.args.version → KnowsBelow c.args.place.now c.args.above l (2 + c.loop-ring.ring * c.args.place.now.cells) c.loop-ring.found → IsLeastLine c.args.place.now (IsTorn c.args.place.now c.args.above l) line} {ok = true}
    c.loop-ring.invariant.reads (c.scan_ring.ensures.torn line was) told content holds version (c.loop-ring.invariant.knows told content holds version))

pub loop-ring-preserved : goal.loop-ring-preserved
loop-ring-preserved g c = record {
  len = c.in_ok-scan_ring.ensures.len ∙ c.loop-ring.invariant.len;
  reads = reads_then c.loop-ring.invariant.reads c.in_ok-scan_ring.ensures.reads;
  few = omega arith;
  holds = c.in_ok-scan_ring.ensures.holds c.loop-ring.invariant.holds;
  knows = λ told content holds version.
      content_before {P = λ l. version_of l ≡ c.args.version → KnowsBelow c.args.place.now c.args.above l (2 + c.loop-ring.ring * c.args.place.now.cells) c.loop-ring.found → KnowsBelow c.args.place.now c.args.above l (2 + (c.loop-ring.ring + 1) * c.args.place.now.cells) c.scan_ring.new.found} {ok = true}
      c.loop-ring.invariant.reads c.in_ok-scan_ring.ensures.knows told content holds version (c.loop-ring.invariant.knows told content holds version);
}

pub returns-clause-inside : goal.returns-clause-inside
returns-clause-inside g c =
    IfOk-weaker c.into_heads.result (λ found. (found.items ≡ values c.loop-ring.found.heads) × (c.loop-ring.found.duplicate ≡ None))
    (λ found. All (λ h. IsCell c.args.place.now (cell_of h)) found.items)
    (λ found both. subst (All (λ h. IsCell c.args.place.now (cell_of h))) (sym both.0) (all_inside c.args.place.now _ c.loop-ring.found c.loop-ring.found.ordered c.loop-ring.invariant.holds))
    c.into_heads.ensures.single

pub returns-clause-count : goal.returns-clause-count
returns-clause-count g c =
    let rings : c.sizes-ring-end.result.rings ≡ c.args.place.now.rings = ap (λ s. s.rings) c.sizes-ring-end.ensures.sizes in
    let last : c.loop-ring.ring ≡ c.args.place.now.rings = omega arith in
    let all : HoldsCells c.args.place.now (c.args.place.now.rings * c.args.place.now.cells) c.loop-ring.found = subst (λ n. HoldsCells c.args.place.now (n * c.args.place.now.cells) c.loop-ring.found) last c.loop-ring.invariant.holds in
    IfOk-weaker c.into_heads.result (λ found. (found.items ≡ values c.loop-ring.found.heads) × (c.loop-ring.found.duplicate ≡ None))
    (λ found. length found.items ≤ c.args.place.now.rings * c.args.place.now.cells)
    (λ found both. subst (λ (hs : List Head). length hs ≤ c.args.place.now.rings * c.args.place.now.cells) (sym both.0) (count_inside c.args.place.now _ c.loop-ring.found all))
    c.into_heads.ensures.single

pub returns-clause-heads : goal.returns-clause-heads
returns-clause-heads g c =
    let rings : c.sizes-ring-end.result.rings ≡ c.args.place.now.rings = ap (λ s. s.rings) c.sizes-ring-end.ensures.sizes in
    IfOk-weaker c.into_heads.result (λ found. (found.items ≡ values c.loop-ring.found.heads) × (c.loop-ring.found.duplicate ≡ None))
    (λ found. ContentHas (λ content. version_of content ≡ c.args.version → AreHeads c.args.place.now c.args.above content found.items) (g.M.Medium.sight c.args.m.now))
    (λ found both told content holds version.
    let known = subst (λ n. KnowsBelow c.args.place.now c.args.above content (2 + n * c.args.place.now.cells) c.loop-ring.found) (omega arith) (c.loop-ring.invariant.knows told content holds version) in
    subst (AreHeads c.args.place.now c.args.above content) (sym both.0) (are_heads c.args.place.now c.args.above content c.loop-ring.found known c.loop-ring.found.ordered both.1))
    c.into_heads.ensures.single

pub returns-clause-damaged : goal.returns-clause-damaged
returns-clause-damaged g c line is = λ told content holds version.
    let rings : c.sizes-ring-end.result.rings ≡ c.args.place.now.rings = ap (λ s. s.rings) c.sizes-ring-end.ensures.sizes in
    let known = subst (λ n. KnowsBelow c.args.place.now c.args.above content (2 + n * c.args.place.now.cells) c.loop-ring.found) (omega arith) (c.loop-ring.invariant.knows told content holds version) in
    damaged_duplicate c.args.place.now c.args.above content c.loop-ring.found known line (c.into_heads.ensures.damaged line is)

pub returns-in_err-scan_ring-clause-reads : goal.returns-in_err-scan_ring-clause-reads
returns-in_err-scan_ring-clause-reads g c =
    made_again c.from_residual.result c.scan_ring.result c.in_err-scan_ring.field-0.0 _ (g.M.Medium.sight c.loop-ring.m) _ (search rules) c.in_err-scan_ring.was c.loop-ring.invariant.reads c.scan_ring.ensures.reads
