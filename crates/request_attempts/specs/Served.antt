-- A request that was served, seen at its pass.
use Rattle.std.specs.Prelude.{◌≡◌, ℕ, ◌<◌, ◌≤◌, true, [], ◌∷◌, ◌++◌}
use Rattle.dude_base.specs.declared.sizes.Sizes.{Sizes}
use Rattle.tatp_model.specs.declared.request.Request.{Request}
use Rattle.tatp_model.specs.declared.done.Done.{Done}
use Rattle.core_events.specs.Views.{Entry}
use Rattle.core_table.specs.Layout.{TableSight}
use Rattle.stm_transactions.specs.Passes.{PassSight, IsResting, pass_view}
use Rattle.legal_entries.specs.Served.{IsServed, done_of}

-- The pass is whose it was and has one entry more, of what is done; its reply and writes are those of one thread on every array that agrees with its reads
pub record HasServed {X K : Type 0} (t : TableSight K) (s : Sizes) (file index : ℕ) (q : Request) (p r : PassSight X) (d : Done) : Type 0 where
  pub rests : IsResting t r
  -- it is of this request, at its place
  pub at : (d.file ≡ file) × (d.index ≡ index) × (d.request ≡ q)
  pub entry : Entry
  pub part : (pass_view r).part ≡ (pass_view p).part
  pub entries : (pass_view r).entries ≡ (pass_view p).entries ++ entry ∷ []
  pub done : done_of entry ≡ d
  pub served : IsServed s entry
  -- its number is at least each one of the pass before, and over them where it wrote
  pub last : p.numbers.last ≤ d.number
  pub over : d.wrote ≡ true → p.numbers.last < d.number
