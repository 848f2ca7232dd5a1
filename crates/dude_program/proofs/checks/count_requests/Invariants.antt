use Rattle.std.proofs.Common.{◌≡◌, ◌*◌, ◌≤◌, take}
use Rattle.tatp_model.specs.Files.{requests_in}
use Rattle.dude_engine.specs.Requests.{request_count}
use Rattle.dude_program.proofs.checks.count_requests.Given as goal

-- the requests of the first files are counted
abbrev pub invariant-loop-file : goal.invariant-loop-file
invariant-loop-file l = record {
  counted : l.count ≡ request_count (requests_in (take l.file-index l.files));
  few : l.count ≤ 100000 * l.file-index;
}
