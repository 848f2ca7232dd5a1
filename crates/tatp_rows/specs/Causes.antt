-- Why there is no new home.
use Rattle.std.specs.Prelude.{◌≡◌, ◌<◌, ◌≤◌}
use Rattle.dude_base.specs.declared.sizes.Sizes.{Sizes}
use Rattle.tatp_model.specs.Population.{population_calls}
use Rattle.tatp_rows.specs.declared.fault.PopFault.{PopFault}
use Rattle.tatp_rows.specs.declared.fault.PopFault.TheVariants.{TooFew, NoMemory}

-- too few exactly where the population has more call rows than there may be; memory is asked for only where there is room
abbrev pub CauseOf : Sizes → PopFault → Type 0
CauseOf s (TooFew rows calls) = (rows ≡ population_calls s.subscribers) × (calls ≡ s.calls) × (calls < rows)
CauseOf s NoMemory = population_calls s.subscribers ≤ s.calls
