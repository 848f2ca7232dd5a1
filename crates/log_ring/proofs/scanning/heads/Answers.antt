use Rattle.std.proofs.Common.{◌≡◌, ◌∙◌, true, false, arith, rules}
use Rattle.std.proofs.lemmas.Result.{IfOk-weaker}
use Rattle.pmem_trait.specs.Reads.{ContentHas}
use Rattle.pmem_trait.proofs.ReadRuns.{reads_here, read_alone, read_content, content_before}
use Rattle.redo_record.specs.Images.{version_of}
use Rattle.redo_record.specs.Damage.{IsDamagedAt}
use Rattle.log_ring.specs.Scan.{AreHeads}
use Rattle.log_ring.proofs.ScanReads.{made_at_device, made_behind}
use Rattle.log_ring.proofs.Replayable.{one_moment}
use Rattle.log_ring.proofs.scanning.heads.Goals as goal

pub returns-clause-reads : goal.returns-clause-reads
returns-clause-reads g c = made_behind c.scan_rings.result (g.M.Medium.sight c.args.m.now) (g.M.Medium.sight c.read.new.self) (g.M.Medium.sight c.scan_rings.new.m) (read_alone c.in_ok-version.ensures.one_call) c.scan_rings.ensures.reads

pub returns-clause-few : goal.returns-clause-few
returns-clause-few g c = let one = one_moment c.in_ok-version.ensures.one_call in omega arith

pub returns-clause-heads : goal.returns-clause-heads
returns-clause-heads g c =
    IfOk-weaker c.scan_rings.result
    (λ found. ContentHas (λ content. version_of content ≡ c.in_ok-version.version → AreHeads c.args.place.now c.args.above content found.items) (g.M.Medium.sight c.read.new.self))
    (λ found. ContentHas (λ content. AreHeads c.args.place.now c.args.above content found.items) (g.M.Medium.sight c.args.m.now))
    (λ found has told content holds.
    content_before {P = λ l. version_of l ≡ c.in_ok-version.version → AreHeads c.args.place.now c.args.above l found.items} {ok = true} (read_alone {ok = true} c.in_ok-version.ensures.one_call) has told content holds
    (read_content 1 (reads_here (g.M.Medium.sight c.args.m.now)) (omega arith) c.in_ok-version.ensures.value told content holds))
    c.scan_rings.ensures.heads

pub returns-clause-damaged : goal.returns-clause-damaged
returns-clause-damaged g c line is = λ told content holds.
    content_before {P = λ l. version_of l ≡ c.in_ok-version.version → IsDamagedAt c.args.place.now c.args.above l line} {ok = true} (read_alone {ok = true} c.in_ok-version.ensures.one_call) (c.scan_rings.ensures.damaged line is) told content holds
    (read_content 1 (reads_here (g.M.Medium.sight c.args.m.now)) (omega arith) c.in_ok-version.ensures.value told content holds)

pub returns-in_err-version-clause-len : goal.returns-in_err-version-clause-len
returns-in_err-version-clause-len g c = c.in_err-version.ensures.one_call.later.len

pub returns-in_err-version-clause-reads : goal.returns-in_err-version-clause-reads
returns-in_err-version-clause-reads g c = made_at_device c.from_residual.result (search rules) (read_alone {ok = false} c.in_err-version.ensures.one_call)

pub returns-in_err-version-clause-few : goal.returns-in_err-version-clause-few
returns-in_err-version-clause-few g c = let one = one_moment c.in_err-version.ensures.one_call in omega arith

pub returns-clause-len : goal.returns-clause-len
returns-clause-len g c = c.scan_rings.ensures.len ∙ c.in_ok-version.ensures.one_call.later.len
