-- What calls make of the numbers of a pass.
use Rattle.std.specs.Prelude.{ℕ, ◌+◌, ◌-◌, ◌%◌, ◌||◌, Bool, true, false, ltb, max}
use Rattle.dude_base.specs.declared.limits.TheConstants.{MAX_NUMBER}
use Rattle.pmem_trait.specs.Faults.{up_to_last}
use Rattle.stm_transactions.specs.declared.pass_numbers.PassNumbers.{PassNumbers}

-- 1 where it is so
abbrev pub bit : Bool → ℕ
bit true = 1
bit false = 0

-- so many refusals more; the count stays at its last value
abbrev pub with_refusals : ℕ → PassNumbers → PassNumbers
with_refusals more f = record f { refused = up_to_last (f.refused + more) }

-- this number was drawn: the next box is the one behind, and one draw less is left
abbrev pub after_draw : ℕ → ℕ → PassNumbers → PassNumbers
after_draw number boxes f = record f { next = (f.next + 1) % boxes; drawn = number; left = f.left - 1; had_turn = false }

-- an entry was made with this number, which is none under the last one
abbrev pub with_entry : ℕ → PassNumbers → PassNumbers
with_entry number f = record f { last = number }

-- a turn was had, behind which this is the durable number
abbrev pub with_turn : ℕ → PassNumbers → PassNumbers
with_turn n f = record f { durable = n; had_turn = true }

-- A turn made all up to this number durable. It counts as a refusal where that is under the last number, or under one that was drawn
abbrev pub after_turn : ℕ → PassNumbers → PassNumbers
after_turn n f = with_refusals (bit (ltb n f.last || ltb n f.drawn)) (with_turn n f)

-- a turn met a fault, behind which this is the durable number
abbrev pub after_fault : ℕ → PassNumbers → PassNumbers
after_fault n f = record f { durable = n; met_fault = true; had_turn = true }

-- so many draws and one split went to another pass
abbrev pub left_numbers : ℕ → PassNumbers → PassNumbers
left_numbers draws f = record f { left = f.left - draws; splits = f.splits - 1 }

-- a pass of this thread that did nothing yet, with so many draws and no splits
abbrev pub newcomer_numbers : ℕ → ℕ → ℕ → PassNumbers
newcomer_numbers thread draws opening = record { thread = thread; next = 0; last = opening; drawn = 0; left = draws; splits = 0; durable = opening; met_fault = false; refused = 0; had_turn = false; opening = opening }

-- those of the first pass: all numbers over the opening one may be drawn, and a pass split off for each further thread
abbrev pub first_numbers : ℕ → ℕ → ℕ → PassNumbers
first_numbers thread threads opening = record (newcomer_numbers thread (MAX_NUMBER - opening) opening) { splits = threads - 1 }

-- another pass was taken in: the greater last and durable number, the draws and splits of both, and a fault where one met one
abbrev pub both_numbers : PassNumbers → PassNumbers → PassNumbers
both_numbers f g = record f { last = max f.last g.last; left = f.left + g.left; splits = f.splits + g.splits; durable = max f.durable g.durable; met_fault = f.met_fault || g.met_fault }
