use Rattle.std.proofs.Common.{◌+◌, ◌≤◌, arith, map}
use Rattle.run_order.proofs.Rounds.{found_mapped}
use Rattle.dude_engine.specs.Requests.{request_count}
use Rattle.dude_engine.proofs.Turns.{count_first, count_more}
use Rattle.dude_engine.proofs.run.count_requests.Goals as goal

pub overflow_add-count : goal.overflow_add-count
overflow_add-count c =
    let files = map (λ f. f.items) c.args.files.now in
    let i = c.loop-requests.requests-index in
    let more = count_more files i c.requests-item.result.items (found_mapped (λ f. f.items) c.args.files.now i c.requests-item.result c.loop-requests-test.true c.requests-item.is) in
    let few : c.loop-requests.count + c.len-count.result ≤ request_count files = omega (arith, more, count_first 0 (i + 1) files, c.loop-requests.invariant, c.len-count.ensures) in
    omega (arith, few, c.requires.few)

pub loop-requests-preserved : goal.loop-requests-preserved
loop-requests-preserved c =
    let files = map (λ f. f.items) c.args.files.now in
    let i = c.loop-requests.requests-index in
    let more = count_more files i c.requests-item.result.items (found_mapped (λ f. f.items) c.args.files.now i c.requests-item.result c.loop-requests-test.true c.requests-item.is) in
    omega (arith, more, c.loop-requests.invariant, c.len-count.ensures)
