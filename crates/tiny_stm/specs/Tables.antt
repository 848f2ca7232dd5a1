-- What contracts see of running transactions.
use Rattle.pmem_trait.specs.declared.medium.Medium.{Ghosts}
use Rattle.core_table.specs.Layout.{TableSight}
use Rattle.stm_slots.specs.declared.opening.Opening.{Opening}
use Rattle.tiny_stm.specs.declared.stm.Stm.{Stm}

-- the table of its words: which one it is, what it was made with, and what this sets the machine up with
abbrev pub table_of : {M : Type 0} {ghosts : Ghosts M} → Stm M ghosts → TableSight (Opening M ghosts)
table_of stm = stm.steps.events
