use Rattle.std.proofs.Common.{◌+◌, ◌≤◌, map, arith}
use Rattle.run_workers.specs.Jobs.{request_count}
use Rattle.run_workers.proofs.PassesJoined.{count_more, count_upto}
use Rattle.run_workers.proofs.making.count_requests.Goals as goal

pub overflow_add-count : goal.overflow_add-count
overflow_add-count c =
    let files = c.args.files.now in
    let i = c.loop-requests.requests-index in
    let more = count_more (λ f. f.items) files i c.requests-item.result c.loop-requests-test.true c.requests-item.is in
    let few : c.loop-requests.count + c.len-count.result ≤ request_count (map (λ f. f.items) files) = omega (arith, more, count_upto (λ f. f.items) files (i + 1), c.loop-requests.invariant, c.len-count.ensures) in
    omega (arith, few, c.requires)

pub loop-requests-preserved : goal.loop-requests-preserved
loop-requests-preserved c =
    let more = count_more (λ f. f.items) c.args.files.now c.loop-requests.requests-index c.requests-item.result c.loop-requests-test.true c.requests-item.is in
    omega (arith, more, c.loop-requests.invariant, c.len-count.ensures)
