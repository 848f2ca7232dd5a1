use Rattle.std.proofs.Common.{◌≡◌, map, take}
use Rattle.std.specs.List.{filter}
use Rattle.tatp_layout.specs.Index.{location_key}
use Rattle.tatp_core.specs.Located.{is_within}
use Rattle.tatp_core.proofs.among.keys_within.Given as goal

abbrev pub invariant-loop-row : goal.invariant-loop-row
invariant-loop-row l = record { keys : l.keys.items ≡ map location_key (filter (is_within l.low l.high) (take l.row-index l.rows)) }
