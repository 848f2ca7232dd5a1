-- A pass is split off, and one is taken in.
use Rattle.std.specs.Prelude.{◌≡◌, ℕ, ◌<◌, ◌↔◌, Result, Err}
use Rattle.core_events.specs.Events.{number, view_after}
use Rattle.core_events.specs.Partings.{both_of, left_of, newcomer}
use Rattle.core_table.specs.Layout.{TableSight}
use Rattle.stm_transactions.specs.declared.split_fault.SplitFault.{SplitFault}
use Rattle.stm_transactions.specs.declared.split_fault.SplitFault.TheVariants.{All}
use Rattle.stm_transactions.specs.Numbers.{both_numbers, left_numbers, newcomer_numbers}
use Rattle.stm_transactions.specs.Passes.{IsResting, PassSight, pass_view}

-- p is q now, and r was split off, with so many draws and a thread's number of its own
pub record IsSplitOff {X K : Type 0} (t : TableSight K) (draws : ℕ) (p q r : PassSight X) : Type 0 where
  pub some : 0 < p.numbers.splits
  pub rests : IsResting t q
  pub view : pass_view q ≡ left_of draws (pass_view p)
  pub numbers : q.numbers ≡ left_numbers draws p.numbers
  pub other : IsResting t r
  pub new_view : pass_view r ≡ view_after t.setup number (newcomer t.setup 0 draws) r.numbers.thread
  pub new_numbers : r.numbers ≡ newcomer_numbers r.numbers.thread draws p.numbers.opening

-- `All` comes exactly where the pass has no split left, with the count of threads
abbrev pub AnswersAll : {X K : Type 0} → TableSight K → PassSight X → Result (PassSight X) SplitFault → Type 0
AnswersAll t p result = (result ≡ Err (All t.setup.threads)) ↔ (p.numbers.splits ≡ 0)

-- p is q now, and took in r
pub record IsJoined {X K : Type 0} (t : TableSight K) (p r q : PassSight X) : Type 0 where
  pub rests : IsResting t q
  pub view : pass_view q ≡ both_of (pass_view p) (pass_view r)
  pub numbers : q.numbers ≡ both_numbers p.numbers r.numbers
