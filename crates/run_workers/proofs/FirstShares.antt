-- The first pass of a table may be shared among files.
use Rattle.std.proofs.Common.{◌+◌, ◌*◌, ◌<◌, ◌≤◌, List, length, ap, arith}
use Rattle.dude_base.specs.declared.limits.TheConstants.{MAX_NUMBER}
use Rattle.tatp_model.specs.declared.request.Request.{Request}
use Rattle.core_events.specs.Views.{View}
use Rattle.core_table.specs.Layout.{TableSight}
use Rattle.stm_transactions.specs.declared.pass_numbers.PassNumbers.{PassNumbers}
use Rattle.stm_transactions.specs.Opening.{IsFirstPass}
use Rattle.stm_transactions.specs.Passes.{PassSight}
use Rattle.run_workers.specs.Job.{thread_count}
use Rattle.run_workers.specs.Jobs.{MayShare, request_count}

-- where there are at most as many files as threads, and 65 numbers for each request
pub first_shares : {X K : Type 0} (t : TableSight K) (files : List (List Request)) (p : PassSight X) → IsFirstPass t p → 0 < length files → length files ≤ t.setup.threads → t.setup.first + 65 * request_count files ≤ MAX_NUMBER → MayShare t files p
first_shares t files p h some threads numbers =
    let of_numbers = h.numbers in
    record {
      rests = h.rests;
      all = (let c = ap thread_count h.view in omega arith);
      no_entry = ap (λ (v : View). v.entries) h.view;
      no_fault = ap (λ (f : PassNumbers). f.met_fault) of_numbers;
      from = (let d = ap (λ (f : PassNumbers). f.durable) of_numbers in omega arith);
      some = some;
      splits = (let s = ap (λ (f : PassNumbers). f.splits) of_numbers in omega arith);
      draws = (let l = ap (λ (f : PassNumbers). f.left) of_numbers in omega arith);
    }
