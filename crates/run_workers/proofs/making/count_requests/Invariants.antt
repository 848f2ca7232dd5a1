use Rattle.std.proofs.Common.{◌≡◌, map, take}
use Rattle.run_workers.specs.Jobs.{request_count}
use Rattle.run_workers.proofs.making.count_requests.Given as goal

-- the requests of the files before this one are counted
abbrev pub invariant-loop-requests : goal.invariant-loop-requests
invariant-loop-requests l = l.count ≡ request_count (map (λ f. f.items) (take l.requests-index l.files))
