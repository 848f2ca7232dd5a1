use Rattle.std.proofs.Common.{◌≡◌, Err, List, All, map, sym, subst, rules}
use Rattle.std.proofs.lemmas.Result.{IfOk-weaker}
use Rattle.dude_base.specs.Records.{RedoBundle}
use Rattle.pmem_trait.specs.Reads.{ContentHas}
use Rattle.pmem_trait.proofs.ReadRuns.{content_before}
use Rattle.redo_record.specs.Images.{IsComplete}
use Rattle.log_ring.specs.declared.head.Head.{Head}
use Rattle.log_ring.specs.declared.scan_fault.ScanFault.TheVariants.{Damaged}
use Rattle.log_ring.specs.Heads.{bundle_of_head, cell_of}
use Rattle.log_ring.specs.Scan.{AreHeads, AreScanned}
use Rattle.log_ring.proofs.ScanReads.{made_same, made_behind, read_cause}
use Rattle.log_ring.proofs.ScanEnd.{heads_complete}
use Rattle.log_ring.proofs.bundles.scan.Goals as goal

pub returns-in_err-found-clause-reads : goal.returns-in_err-found-clause-reads
returns-in_err-found-clause-reads g c = made_same c.from_residual.result c.heads.result c.in_err-found.field-0.0 _ _ (search rules) c.in_err-found.was c.heads.ensures.reads

pub returns-in_err-found-clause-cause : goal.returns-in_err-found-clause-cause
returns-in_err-found-clause-cause g c =
    read_cause c.from_residual.result _ _ (made_same c.from_residual.result c.heads.result c.in_err-found.field-0.0 (g.M.Medium.sight c.args.m.now) (g.M.Medium.sight c.heads.new.m) (search rules) c.in_err-found.was c.heads.ensures.reads)

pub returns-in_err-found-clause-damaged : goal.returns-in_err-found-clause-damaged
returns-in_err-found-clause-damaged g c line is =
    let was : c.heads.result ≡ Err (Damaged line) = search (rules, is) in
    c.heads.ensures.damaged line was

pub returns-clause-reads : goal.returns-clause-reads
returns-clause-reads g c = made_behind c.read_bundles.result (g.M.Medium.sight c.args.m.now) (g.M.Medium.sight c.heads.new.m) (g.M.Medium.sight c.read_bundles.new.m) c.in_ok-found.ensures.reads c.read_bundles.ensures.reads

pub returns-clause-cause : goal.returns-clause-cause
returns-clause-cause g c = read_cause c.read_bundles.result (g.M.Medium.sight c.args.m.now) _
    (made_behind c.read_bundles.result (g.M.Medium.sight c.args.m.now) (g.M.Medium.sight c.heads.new.m) (g.M.Medium.sight c.read_bundles.new.m) c.in_ok-found.ensures.reads c.read_bundles.ensures.reads)

pub returns-clause-records : goal.returns-clause-records
returns-clause-records g c =
    IfOk-weaker c.read_bundles.result
    (λ bundles. ContentHas (λ content. bundles.items ≡ map (bundle_of_head c.args.place.now content) c.deref.result.now) (g.M.Medium.sight c.heads.new.m))
    (λ bundles. ContentHas (λ content. AreScanned c.args.place.now c.args.above content bundles.items) (g.M.Medium.sight c.args.m.now))
    (λ bundles has told content holds.
    let are : AreHeads c.args.place.now c.args.above content c.deref.result.now = subst (λ (hs : List Head). AreHeads c.args.place.now c.args.above content hs) (sym c.deref.ensures.value) (c.in_ok-found.ensures.heads told content holds) in
    let same = content_before {P = λ l. bundles.items ≡ map (bundle_of_head c.args.place.now l) c.deref.result.now} c.in_ok-found.ensures.reads has told content holds in
    subst (λ (rs : List RedoBundle). AreScanned c.args.place.now c.args.above content rs) (sym same) are.scanned)
    c.read_bundles.ensures.bundles

pub returns-clause-damaged : goal.returns-clause-damaged
returns-clause-damaged g c line is = λ told content holds.
    let are : AreHeads c.args.place.now c.args.above content c.deref.result.now = subst (λ (hs : List Head). AreHeads c.args.place.now c.args.above content hs) (sym c.deref.ensures.value) (c.in_ok-found.ensures.heads told content holds) in
    absurd (content_before {P = λ l. All (λ (h : Head). IsComplete c.args.place.now l (cell_of h)) c.deref.result.now → ⊥} c.in_ok-found.ensures.reads (c.read_bundles.ensures.damaged line is) told content holds
    (heads_complete c.args.place.now c.args.above content c.deref.result.now are))
