use Rattle.std.proofs.Common.{◌≡◌, ◌≤◌, ◌-◌, ◌++◌, length, All}
use Rattle.tatp_model.specs.Request.{IsInRange}
use Rattle.tatp_text.specs.Load.{generator, requests_from}
use Rattle.tatp_text.proofs.load.mix.Given as goal

-- the requests so far, and those that the generator still gives
abbrev pub invariant-loop-request : goal.invariant-loop-request
invariant-loop-request l = record {
  load : requests_from l.file l.files l.each l.count (generator l.seed l.file) ≡ l.requests.items ++ requests_from l.file l.files l.each (l.count - l._request) l.generator;
  count : length l.requests.items ≡ l._request;
  ranges : l.subscribers ≤ 4294967295 → All IsInRange l.requests.items;
}
