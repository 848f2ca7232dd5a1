use Rattle.std.proofs.Common.{◌≡◌, ap, arith, length, get_or, Vec, Global}
use Rattle.tatp_model.specs.declared.request.Request.{Request}
use Rattle.dude_program.proofs.Works.{counted_more, few_at}
use Rattle.dude_program.proofs.checks.count_requests.Goals as goal

pub loop-file-preserved : goal.loop-file-preserved
loop-file-preserved c =
    let files = c.args.files.now in
    let i = c.loop-file.file-index in
    let more = counted_more files i c.file-item.result c.loop-file-test.true in
    let few = few_at files i c.file-item.result c.loop-file-test.true c.requires.few in
    let items : length c.file-item.result.items ≡ length (get_or files i c.file-item.result).items = ap (λ (v : Vec Request Global). length v.items) c.file-item.is in
    let long : c.len.result ≡ length (get_or files i c.file-item.result).items = omega (arith, c.len.ensures, c.file-item.result.ok, items) in
    record {
      counted = omega (arith, c.loop-file.invariant.counted, more, long);
      few = omega (arith, c.loop-file.invariant.few, few, long);
    }
