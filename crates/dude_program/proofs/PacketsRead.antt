-- Packets that were read may stand in a log of the image's sizes.
use Rattle.std.proofs.Common.{ℕ, ◌≤◌, List, sym, subst, arith}
use Rattle.std.specs.Prelude.{All}
use Rattle.std.proofs.lemmas.List.Elements.{All-cons, All-nil}
use Rattle.std.proofs.lemmas.List.FromFn.{length-map-range_with_len}
use Rattle.dude_base.specs.declared.sizes.Sizes.{Sizes}
use Rattle.dude_io.specs.declared.file_text.FileText.{FileText}
use Rattle.dude_io.specs.declared.file_text.FileText.TheVariants.{Whole, TooLong}
use Rattle.dude_program.specs.Taking.{MeansPackets}
use Rattle.dude_base.specs.Records.{RedoBundle}
use Rattle.redo_record.specs.Record.{cells_for, count_of, write_of}
use Rattle.dude_follow.specs.Packet.{ArePackets, ArePackets.none, ArePackets.next, BeginsWith, cells_in}
use Rattle.dude_follow.specs.Packets.{IsPacket}

is_packet : (s : Sizes) (bytes : List ℕ) (b : RedoBundle) → BeginsWith s bytes b → IsPacket s b
is_packet s bytes b begins = subst (IsPacket s) (sym begins.bundle) (record {
  numbers = record { low = let first = begins.complete.whole.first in omega arith; high = begins.complete.whole.number.high };
  home = begins.complete.home;
  room = subst (λ (n : ℕ). cells_for n ≤ s.cells) (sym (length-map-range_with_len (write_of (cells_in bytes)) 0 (count_of (cells_in bytes)))) begins.complete.room;
})

-- each may stand in a log of these sizes
pub each_is_packet : {s : Sizes} {bytes : List ℕ} {packets : List RedoBundle} → ArePackets s bytes packets → All (IsPacket s) packets
each_is_packet {s} none = All-nil (IsPacket s)
each_is_packet {s} {bytes} (next {b = b} {packets = packets} begins rest) = All-cons (IsPacket s) b packets (is_packet s bytes b begins) (each_is_packet rest)

-- and so may those of a text
pub text_packets : (sizes : Sizes) (text : FileText) (packets : List RedoBundle) → MeansPackets sizes text packets → All (IsPacket sizes) packets
text_packets sizes (Whole bytes) packets are = each_is_packet are
text_packets sizes TooLong packets means = absurd means
