use Rattle.std.proofs.Common.{◌≤◌, subst, arith, length, map, List}
use Rattle.std.proofs.lemmas.List.{length-map, take_all}
use Rattle.tatp_model.specs.declared.request.Request.{Request}
use Rattle.run_order.proofs.Rounds.{found_mapped}
use Rattle.dude_engine.proofs.Turns.{IsLongest, longest_more, longest_none}
use Rattle.dude_engine.proofs.run.longest_file.Goals as goal

pub loop-requests-init : goal.loop-requests-init
loop-requests-init c = longest_none

pub loop-requests-preserved : goal.loop-requests-preserved
loop-requests-preserved c =
    let files = map (λ f. f.items) c.args.files.now in
    let i = c.loop-requests.requests-index in
    longest_more c.loop-requests.longest c.len.result c.greater-longest.result files i c.requests-item.result.items (found_mapped (λ f. f.items) c.args.files.now i c.requests-item.result c.loop-requests-test.true c.requests-item.is)
    (omega (arith, c.len.ensures)) c.greater-longest.ensures.first c.greater-longest.ensures.second c.greater-longest.ensures.either c.loop-requests.invariant

pub returns : goal.returns
returns c =
    let files = map (λ f. f.items) c.args.files.now in
    let upto : length files ≤ c.loop-requests.requests-index = omega (arith, length-map c.args.files.now (λ f. f.items), c.loop-requests-test.false) in
    let longest = subst (λ (l : List (List Request)). IsLongest c.loop-requests.longest l) (take_all c.loop-requests.requests-index files upto) c.loop-requests.invariant in
    record { none_longer = longest.none_longer; one_as_long = longest.one_as_long }
