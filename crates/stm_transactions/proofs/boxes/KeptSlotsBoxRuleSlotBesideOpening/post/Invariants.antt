use Rattle.atomic_table.specs.Table.{rest}
use Rattle.core_events.specs.Events.{post}
use Rattle.stm_transactions.proofs.boxes.KeptSlotsBoxRuleSlotBesideOpening.post.Given as goal
use Rattle.stm_slots.specs.Turns.{Moved}

abbrev pub ghosts-store_by : goal.ghosts-store_by
ghosts-store_by g a = record { setup = a.self.now.setup; event = post; then = Moved g.M.Medium.sight a.self.now.key post (rest a.seat.now.me.1) a.seat.now.me }
