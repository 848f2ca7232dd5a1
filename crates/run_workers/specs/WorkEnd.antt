-- How the work on files ends.
use Rattle.std.specs.Prelude.{◌≡◌, ℕ, ◌≤◌, ◌⊎◌, List, All, Contains}
use Rattle.request_attempts.specs.declared.unserved.Unserved.{Unserved}
use Rattle.request_attempts.specs.declared.unserved.Unserved.TheVariants as unserved
use Rattle.run_workers.specs.declared.work_end.WorkEnd.{WorkEnd}
use Rattle.run_workers.specs.declared.work_end.WorkEnd.TheVariants.{Whole, SetAside, NoMemory, Device}

-- how it ends where a request wasn't served
abbrev pub end_by : Unserved → WorkEnd
end_by unserved.Refused = SetAside
end_by unserved.NoMemory = NoMemory
end_by unserved.Device = Device

-- how much of a run an end stops
abbrev pub rank : WorkEnd → ℕ
rank Whole = 0
rank SetAside = 1
rank NoMemory = 2
rank Device = 3

-- it is one of these ends, and none of them stops more; without any it is `Whole`
pub record IsWorst (ends : List WorkEnd) (end : WorkEnd) : Type 0 where
  pub among : (end ≡ Whole) ⊎ Contains ends end
  pub others : All (λ e. rank e ≤ rank end) ends
