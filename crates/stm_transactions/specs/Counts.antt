-- What a commit answers, and what it makes of the numbers of its pass.
use Rattle.std.specs.Prelude.{◌≡◌, ℕ, Bool, true, false, Result, Ok, Err}
use Rattle.tatp_model.specs.declared.done.Done.{Done}
use Rattle.core_table.specs.declared.served.Served.{Served}
use Rattle.stm_transactions.specs.declared.lost.Lost.{Lost}
use Rattle.stm_transactions.specs.declared.lost.Lost.TheVariants.{Out, Busy, Conflict}
use Rattle.stm_transactions.specs.declared.pass_numbers.PassNumbers.{PassNumbers}
use Rattle.stm_transactions.specs.Numbers.{after_draw, with_entry, with_refusals}

-- the numbers after a commit that was answered so, with writes or without: a loss counts as a refusal
abbrev pub after_commit : Bool → Result ℕ Lost → ℕ → PassNumbers → PassNumbers
after_commit true (Ok n) boxes f = with_entry n (after_draw n boxes f)
after_commit false (Ok n) boxes f = with_entry n f
after_commit wrote (Err (Conflict lock seen n)) boxes f = with_refusals 1 (after_draw n boxes f)
after_commit wrote (Err (Out page)) boxes f = with_refusals 1 f
after_commit wrote (Err (Busy page seen)) boxes f = with_refusals 1 f

-- the answer is a number, and d is what was served, with it
abbrev pub IsDoneWith : Served → Bool → Result ℕ Lost → Done → Type 0
IsDoneWith s wrote answer d = (answer ≡ Ok d.number) × (d ≡ record { file = s.file; index = s.index; number = d.number; wrote = wrote; request = s.request.now; reply = s.reply.now })

-- the answer is this loss
abbrev pub IsErrWith : Result ℕ Lost → Lost → Type 0
IsErrWith answer lost = answer ≡ Err lost
