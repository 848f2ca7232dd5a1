use Rattle.std.proofs.Common.{rules, arith, ◌≡◌, ◌<◌, ◌≤◌, ◌-◌, ◌++◌, take, length, ◌∙◌, length-append}
use Rattle.std.specs.Prelude.{true, false}
use Rattle.std.proofs.lemmas.List.{length-take}
use Rattle.dude_io.proofs.ReadLaws.{files_stay-then, read_none, read_more, read_end, read_last, read_whole, read_over, read_past, failed_reads, failed_cause, dropped_reads}
use Rattle.dude_io.proofs.reading.read_file.Goals as goal

pub pieces-init : goal.pieces-init
pieces-init g c = record { bounded = search rules; read = rw c.new-bytes.ensures.items read_none }

pub returns-in_err-given-clause-reads : goal.returns-in_err-given-clause-reads
returns-in_err-given-clause-reads g c =
    let here : c.len.result ≡ length c.pieces.bytes.items = c.len.ensures ∙ c.pieces.bytes.ok.0 in
    let within : length c.pieces.bytes.items ≤ c.args.limit = omega (arith, c.pieces.invariant.bounded, c.pieces.bytes.ok.0) in
    let last = read_last (g.F.Files.sight c.read.new.self) true here within c.pieces.invariant.read c.in_err-given.ensures.listed in
    failed_reads c.args.limit (g.F.Files.sight c.args.files.now) (g.F.Files.sight c.read.new.self) c.args.name.now c.from_residual.result c.from_residual.ensures.1 (last.0, last.1.0, last.2)

pub returns-then-is_end-clause-reads : goal.returns-then-is_end-clause-reads
returns-then-is_end-clause-reads g c =
    let here : c.len.result ≡ length c.pieces.bytes.items = c.len.ensures ∙ c.pieces.bytes.ok.0 in
    let within : length c.pieces.bytes.items ≤ c.args.limit = omega (arith, c.pieces.invariant.bounded, c.pieces.bytes.ok.0) in
    read_whole c.args.limit here within c.pieces.invariant.read c.in_ok-given.ensures c.if-is_end.true

pub returns-then-is_end-clause-text : goal.returns-then-is_end-clause-text
returns-then-is_end-clause-text g c =
    let here : c.len.result ≡ length c.pieces.bytes.items = c.len.ensures ∙ c.pieces.bytes.ok.0 in
    read_end here c.pieces.invariant.read c.in_ok-given.ensures c.if-is_end.true

pub returns-then-limit-len : goal.returns-then-limit-len
returns-then-limit-len g c =
    let here : c.len.result ≡ length c.pieces.bytes.items = c.len.ensures ∙ c.pieces.bytes.ok.0 in
    let within : length c.pieces.bytes.items ≤ c.args.limit = omega (arith, c.pieces.invariant.bounded, c.pieces.bytes.ok.0) in
    let over : c.args.limit - length c.pieces.bytes.items < c.in_ok-given.given = omega (arith, c.if-limit-len.true, c.len-in-pieces.ensures, c.pieces.bytes.ok.0) in
    record {
      stays = files_stay-then c.pieces.invariant.read.stays c.in_ok-given.ensures.stays;
      bounded = tt;
      reads = read_over c.args.limit here within c.pieces.invariant.read c.in_ok-given.ensures over;
      text = read_past c.args.limit here within c.pieces.invariant.read c.in_ok-given.ensures over;
      calm = c.in_ok-given.ensures.calm ∙ c.pieces.invariant.read.calm;
      cause = tt;
    }

pub returns-in_err-extend_from_slice-clause-reads : goal.returns-in_err-extend_from_slice-clause-reads
returns-in_err-extend_from_slice-clause-reads g c =
    let here : c.len.result ≡ length c.pieces.bytes.items = c.len.ensures ∙ c.pieces.bytes.ok.0 in
    let within : length c.pieces.bytes.items ≤ c.args.limit = omega (arith, c.pieces.invariant.bounded, c.pieces.bytes.ok.0) in
    let last = read_last (g.F.Files.sight c.read.new.self) false here within c.pieces.invariant.read c.in_ok-given.ensures.listed in
    dropped_reads c.args.limit (g.F.Files.sight c.args.files.now) (g.F.Files.sight c.read.new.self) c.args.name.now c.from_residual-in_err-extend_from_slice.result c.from_residual-in_err-extend_from_slice.ensures.1 (last.0, last.1.0, last.2)

pub pieces-preserved : goal.pieces-preserved
pieces-preserved g c =
    let here : c.len.result ≡ length c.pieces.bytes.items = c.len.ensures ∙ c.pieces.bytes.ok.0 in
    let given = length-take c.in_ok-given.given c.read.new.into in
    let longer : length c.pieces.bytes.items < length (c.pieces.bytes.items ++ take c.in_ok-given.given c.read.new.into) =
    let both = length-append c.pieces.bytes.items (take c.in_ok-given.given c.read.new.into) in
    let most = c.in_ok-given.ensures.most in
    omega (arith, both, given, most, c.read.auto.into, c.if-is_end.false) in
    record {
      bounded = omega (arith, c.in_ok-extend_from_slice.ensures.len, given);
      read = rw c.in_ok-extend_from_slice.ensures.items (read_more here longer c.pieces.invariant.read c.in_ok-given.ensures);
    }

pub returns-in_err-given-clause-stays : goal.returns-in_err-given-clause-stays
returns-in_err-given-clause-stays g c = files_stay-then c.pieces.invariant.read.stays c.in_err-given.ensures.stays

pub returns-then-is_end-clause-stays : goal.returns-then-is_end-clause-stays
returns-then-is_end-clause-stays g c = files_stay-then c.pieces.invariant.read.stays c.in_ok-given.ensures.stays

pub returns-in_err-extend_from_slice-clause-stays : goal.returns-in_err-extend_from_slice-clause-stays
returns-in_err-extend_from_slice-clause-stays g c =
    files_stay-then c.pieces.invariant.read.stays c.in_ok-given.ensures.stays

pub returns-then-is_end-clause-calm : goal.returns-then-is_end-clause-calm
returns-then-is_end-clause-calm g c = c.in_ok-given.ensures.calm ∙ c.pieces.invariant.read.calm

pub returns-in_err-given-clause-cause : goal.returns-in_err-given-clause-cause
returns-in_err-given-clause-cause g c =
    failed_cause (g.F.Files.sight c.args.files.now) (g.F.Files.sight c.read.new.self) c.from_residual.result c.from_residual.ensures.1 (rw c.pieces.invariant.read.calm at c.in_err-given.ensures.cause)
