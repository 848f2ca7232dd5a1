-- What a `Lane` keeps of its fields.
use Rattle.std.specs.Prelude.{◌≡◌, ℕ, ◌*◌, ◌<◌, ◌≤◌, List, All, AllPairs, length, map, vec_capacity}
use Rattle.dude_base.specs.Records.{RedoBundle, IsBundle, first_of}
use Rattle.redo_record.specs.Record.{cells_for}
use Rattle.redo_record.specs.Fits.{Logged}
use Rattle.back_store.specs.Entries.{bundle_in, logged_of}
use Rattle.back_store.specs.declared.lane.Lane.TheInside.{Inside}

-- the last number and the cells of a record in a ring, and of one that waits
abbrev pub extent : Logged → ℕ × ℕ
extent l = (l.last, l.cells)

-- the last number of a bundle, and the cells that it takes
abbrev pub extent_of : RedoBundle → ℕ × ℕ
extent_of r = (r.last, cells_for (length r.writes))

-- the bundles that wait
abbrev pub waiting_in_lane : Inside → List RedoBundle
waiting_in_lane a = map (bundle_in a.ring.sizes.cells a.writes.items) a.entries.items

-- There is room for a record in each cell, and for three writes. The ring has just the records that wait, which are bundles
-- of numbers from 1 on, and their numbers rise.
pub record IsKeptLane (a : Inside) : Type 0 where
  pub room : a.ring.sizes.cells ≤ vec_capacity a.entries
  pub places : length a.writes.items ≡ 3 * a.ring.sizes.cells
  pub same : a.ring.logged ≡ map logged_of a.entries.items
  pub bundles : All IsBundle (waiting_in_lane a)
  pub some : All (λ e. 1 ≤ e.last) a.entries.items
  pub inside : All (λ e. e.slot < a.ring.sizes.cells) a.entries.items
  pub rising : AllPairs (λ r t. r.last < first_of t) (waiting_in_lane a)
