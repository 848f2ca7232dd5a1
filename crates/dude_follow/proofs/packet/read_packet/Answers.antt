use Rattle.std.proofs.Common.{◌≡◌, false, true}
use Rattle.redo_record.specs.Encoding.{IsRecordSlice}
use Rattle.dude_follow.proofs.PacketCells.{begins_with, err_holds, if_none, no_home, no_record, slice}
use Rattle.dude_follow.proofs.packet.read_packet.Goals as goal

pub returns-in_err-bundle-clause-none : goal.returns-in_err-bundle-clause-none
returns-in_err-bundle-clause-none c =
    let words = c.words_in-words.ensures in
    let counts = c.in_ok-cells.ensures.some in
    let bad : ¬ IsRecordSlice (slice c.args.sizes.now c.args.bytes.now c.words_in-words.result c.in_ok-cells.cells counts words.long words.words) = err_holds c.decode.result c.ok.result c.ok.ensures.value c.in_err-bundle.was c.decode.ensures.bad in
    if_none c.from_residual-in_err-bundle.result (no_record c.args.sizes.now c.args.bytes.now c.words_in-words.result c.in_ok-cells.cells counts words.long words.words bad)

pub returns-then-is_home-clause-some : goal.returns-then-is_home-clause-some
returns-then-is_home-clause-some c =
    let words = c.words_in-words.ensures in
    let counts = c.in_ok-cells.ensures.some in
    begins_with c.args.sizes.now c.args.bytes.now c.words_in-words.result c.in_ok-cells.cells counts words.long words.words c.in_ok-bundle.bundle c.decode.result c.ok.result c.ok.ensures.value c.in_ok-bundle.was c.decode.ensures.ok (c.is_home.ensures.0 c.if-is_home.true)

pub returns-else-is_home-clause-none : goal.returns-else-is_home-clause-none
returns-else-is_home-clause-none c =
    let words = c.words_in-words.ensures in
    let counts = c.in_ok-cells.ensures.some in
    no_home c.args.sizes.now c.args.bytes.now c.words_in-words.result c.in_ok-cells.cells counts words.long words.words c.in_ok-bundle.bundle c.decode.result c.ok.result c.ok.ensures.value c.in_ok-bundle.was c.decode.ensures.ok
    (λ home. let yes : c.is_home.result ≡ true = c.is_home.ensures.1 home in let no : c.is_home.result ≡ false = c.if-is_home.false in cc)
