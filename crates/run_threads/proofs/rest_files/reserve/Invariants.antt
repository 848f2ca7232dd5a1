use Rattle.std.proofs.Common.{◌≡◌, map, take}
use Rattle.dude_engine.specs.Requests.{request_count}
use Rattle.run_threads.proofs.rest_files.reserve.Given as goal

-- the requests of the rests before this one are counted
abbrev pub invariant-loop-requests : goal.invariant-loop-requests
invariant-loop-requests l = l.count ≡ request_count (map (λ f. f.items) (take l.requests-index l.rests))
