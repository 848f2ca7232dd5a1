-- the cells gone over so far are appended
use Rattle.std.proofs.Common.{◌≡◌, ◌+◌, ◌*◌, ◌^◌, ◌<◌, ◌++◌, All, flat_map, vec_capacity, vec_len}
use Rattle.std.specs.Int.{w64, to_le_bytes}
use Rattle.std.specs.List.{range_with_len}
use Rattle.redo_record.specs.Encoding.{encoded}
use Rattle.dude_follow.proofs.packet.write_packet.Given as goal

abbrev pub invariant-loop-cell : goal.invariant-loop-cell
invariant-loop-cell l = record {
  bytes : l.out.items ≡ l.fn.out.items ++ flat_map (to_le_bytes w64) (flat_map (encoded l.b) (range_with_len 0 l.cell));
  len : vec_len l.out ≡ vec_len l.fn.out + 64 * l.cell;
  capacity : vec_capacity l.out ≡ vec_capacity l.initial.out;
  small : All (λ word. word < 2 ^ 64) (flat_map (encoded l.b) (range_with_len 0 l.cell));
}
