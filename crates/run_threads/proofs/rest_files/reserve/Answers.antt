use Rattle.std.proofs.Common.{◌≡◌, ◌+◌, map, ap, ◌∙◌, arith}
use Rattle.std.proofs.lemmas.List.{take_all}
use Rattle.std.proofs.lemmas.Result.{on_ok_weaker}
use Rattle.dude_engine.specs.Requests.{request_count}
use Rattle.run_threads.proofs.Parting.{count_less, count_more}
use Rattle.run_threads.proofs.rest_files.reserve.Goals as goal

pub overflow_add-count : goal.overflow_add-count
overflow_add-count c =
    let rests = c.args.rests.now in let i = c.loop-requests.requests-index in
    let more = count_more (λ f. f.items) rests i c.requests-item.result c.loop-requests-test.true c.requests-item.is in
    let few = count_less (λ f. f.items) rests (i + 1) in
    let long : c.len-count.result ≡ _ = c.len-count.ensures ∙ c.requests-item.result.ok.0 in
    let so_far = c.loop-requests.invariant in
    omega (arith, c.requires)

pub loop-requests-preserved : goal.loop-requests-preserved
loop-requests-preserved c =
    let more = count_more (λ f. f.items) c.args.rests.now c.loop-requests.requests-index c.requests-item.result c.loop-requests-test.true c.requests-item.is in
    let long : c.len-count.result ≡ _ = c.len-count.ensures ∙ c.requests-item.result.ok.0 in
    let so_far = c.loop-requests.invariant in
    omega arith

pub returns-clause-room : goal.returns-clause-room
returns-clause-room c =
    let all = ap (λ l. request_count (map (λ f. f.items) l)) (take_all c.loop-requests.requests-index c.args.rests.now c.loop-requests-test.false) in
    let so_far = c.loop-requests.invariant in
    on_ok_weaker c.reserve_exact.result (λ room. omega arith) c.reserve_exact.ensures.ok
