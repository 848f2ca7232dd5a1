-- What became of lines that were written for want of room, with no sync of their own.
use Rattle.std.specs.Prelude.{Bool, true, false}
use Rattle.dude_io.specs.declared.spill.Spill.{Spill}
use Rattle.dude_io.specs.declared.spill.Spill.TheVariants.{Synced, Unsynced, Lost}

-- what became of the lines that were written for want of room, once there are more of them
abbrev pub spill_more : Spill → Spill
spill_more Synced = Unsynced
spill_more Unsynced = Unsynced
spill_more Lost = Lost

-- what became of the lines that were written for want of room, behind a fence: where it succeeded they are synced;
-- where it failed, those that were not synced before may be lost
abbrev pub spill_fenced : Bool → Spill → Spill
spill_fenced true _ = Synced
spill_fenced false Synced = Synced
spill_fenced false Unsynced = Lost
spill_fenced false Lost = Lost
