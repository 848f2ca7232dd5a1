-- What a `HomeGroup` keeps of its fields.
use Rattle.std.specs.Prelude.{◌≡◌, ◌*◌, ◌<◌, ◌≤◌, All, vec_capacity}
use Rattle.dude_base.specs.declared.limits.TheConstants.{PAGE}
use Rattle.dude_base.specs.Sizes.{IsAccepted}
use Rattle.redo_record.specs.BackCalls.{home_writes, lines_touched}
use Rattle.back_store.specs.declared.home_group.HomeGroup.TheInside.{Inside}

-- There is room for three writes of each cell. The writes are of home words, and the lines are theirs.
pub record IsKeptHomeGroup (a : Inside) : Type 0 where
  pub accepted : IsAccepted a.place
  pub writes : 3 * (a.place.rings * a.place.cells) ≤ a.group.room
  pub line_room : 3 * (a.place.rings * a.place.cells) ≤ vec_capacity a.lines
  pub inside : All (λ w. w.at < a.place.pages * PAGE) a.group.writes
  pub lines : a.lines.items ≡ lines_touched (home_writes a.place a.group.writes)
