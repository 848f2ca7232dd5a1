-- What a worker did of the requests of its file.
use Rattle.std.specs.Prelude.{◌≡◌, ◌↔◌, ℕ, ◌+◌, ◌<◌, ◌≤◌, true, false, not, IsTrue, List, length, map, take, filter, All}
use Rattle.std.specs.List.{enumerate_from}
use Rattle.dude_base.specs.declared.sizes.Sizes.{Sizes}
use Rattle.tatp_model.specs.declared.request.Request.{Request}
use Rattle.tatp_model.specs.declared.reply.Reply.TheVariants.{Durable}
use Rattle.tatp_model.specs.declared.done.Done.{Done}
use Rattle.tatp_model.specs.Request.{IsInRange}
use Rattle.tatp_model.specs.OneThread.{is_sync, indexed_request_of}
use Rattle.run_order.specs.Runs.{SyncsFollow}
use Rattle.run_order.specs.Numbers.{FilesFollow}
use Rattle.legal_entries.specs.Served.{IsServed, done_of}
use Rattle.core_table.specs.Layout.{TableSight}
use Rattle.stm_transactions.specs.Passes.{PassSight, IsResting, pass_view}
use Rattle.run_workers.specs.declared.work_end.WorkEnd.{WorkEnd}
use Rattle.run_workers.specs.declared.work_end.WorkEnd.TheVariants.{Whole, SetAside, NoMemory, Device}

-- the home is the table's, and each request is in range
pub record MayWork {K : Type 0} (t : TableSight K) (s : Sizes) (requests : List Request) : Type 0 where
  pub home : s.pages ≡ t.setup.pages
  pub in_range : All IsInRange requests

-- what is done are these requests of a file, one after another from its start
abbrev pub AreOfFile : ℕ → List Request → List Done → Type 0
AreOfFile file requests done = map indexed_request_of done ≡ map (λ r. record { file = file; index = r.0; request = r.1 }) (enumerate_from 0 requests)

-- a `SYNC` was answered with a number from the first one to the durable one
pub record IsSynced (first durable : ℕ) (d : Done) : Type 0 where
  pub reply : d.reply ≡ Durable
  pub silent : d.wrote ≡ false
  pub from : first ≤ d.number
  pub upto : d.number ≤ durable

-- What a pass did of a file: its first requests, in order
pub record HasDone {X K : Type 0} (t : TableSight K) (s : Sizes) (file : ℕ) (requests : List Request) (done : List Done) (p : PassSight X) : Type 0 where
  pub rests : IsResting t p
  pub from : t.setup.first ≤ p.numbers.durable
  pub few : length done ≤ length requests
  pub first : AreOfFile file (take (length done) requests) done
  -- each entry of the pass is that of one of them, and each but a `SYNC` has its entry
  pub entries : map done_of (pass_view p).entries ≡ filter (λ d. not (is_sync d.request)) done
  pub served : All (IsServed s) (pass_view p).entries
  -- numbers follow one another, and those of a `SYNC` all earlier ones
  pub syncs : All (λ d. IsTrue (is_sync d.request) → IsSynced t.setup.first p.numbers.durable d) done
  pub follow : FilesFollow done
  pub syncs_follow : SyncsFollow done

-- the request behind what is done is left, and the pass may draw a number for each that is left
pub record IsSetAside {X : Type 0} (requests : List Request) (done : List Done) (p : PassSight X) : Type 0 where
  pub left : length done < length requests
  pub draws : length requests ≤ length done + p.numbers.left
  -- it was refused so often
  pub refused : 64 ≤ p.numbers.refused

-- What a worker did, by how its work ended
pub record EndsWith {X K : Type 0} (t : TableSight K) (s : Sizes) (file : ℕ) (requests : List Request) (end : WorkEnd) (done : List Done) (p : PassSight X) : Type 0 where
  pub has_done : HasDone t s file requests done p
  pub whole : end ≡ Whole → length done ≡ length requests
  pub set_aside : end ≡ SetAside → IsSetAside requests done p
  pub no_memory : end ≡ NoMemory → length done < length requests
  -- exactly where its pass met a fault
  pub device : end ≡ Device ↔ p.numbers.met_fault ≡ true
