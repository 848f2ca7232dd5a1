-- Packets as bytes: the cells of bundles, each word as eight bytes, the least first.
use Rattle.std.specs.Prelude.{◌≡◌, ◌≢◌, ℕ, ◌+◌, ◌*◌, ◌^◌, ◌<◌, ◌≤◌, All, List, [], ◌∷◌, drop, flat_map, length, slice_range}
use Rattle.std.specs.Int.{w64, from_le_bytes, to_le_bytes}
use Rattle.dude_base.specs.declared.limits.TheConstants.{LINE, MAX_BUNDLE_WRITES}
use Rattle.dude_base.specs.declared.sizes.Sizes.{Sizes}
use Rattle.dude_base.specs.Records.{IsBundle, RedoBundle}
use Rattle.redo_record.specs.Record.{HoldComplete, cells_for, count_of, record_of}
use Rattle.redo_record.specs.Encoding.{encoded_cells}
use Rattle.dude_follow.specs.Packets.{IsPacket}

-- ---- a packet that is written

-- the bytes of the bundle's cells
abbrev pub packet_bytes : RedoBundle → List ℕ
packet_bytes b = flat_map (to_le_bytes w64) (encoded_cells b)

-- What each bundle of a program is: as many numbers and writes as one may have, and each word of its cells is one of 64 bits.
pub record IsInWords (b : RedoBundle) : Type 0 where
  pub bundle : IsBundle b
  pub words : All (λ word. word < 2 ^ 64) (encoded_cells b)

-- ---- packets that are read

-- how many bytes the cells of so many writes have
abbrev pub bytes_for : ℕ → ℕ
bytes_for count = 64 * cells_for count

-- the word at this index: eight bytes, the least first
abbrev pub word_in_bytes : List ℕ → ℕ → ℕ
word_in_bytes bytes i = from_le_bytes w64 (slice_range bytes (8 * i) (8 * i + 8))

-- word j of the k-th cell
abbrev pub cells_in : List ℕ → ℕ → ℕ → ℕ
cells_in bytes k j = word_in_bytes bytes (LINE * k + j)

-- The bytes begin with this packet of an image of these sizes: all its cells are there, and they hold a complete record, that
-- of the bundle.
pub record BeginsWith (s : Sizes) (bytes : List ℕ) (b : RedoBundle) : Type 0 where
  pub complete : HoldComplete s (cells_in bytes)
  pub whole : bytes_for (count_of (cells_in bytes)) ≤ length bytes
  pub bundle : b ≡ record_of (cells_in bytes)

-- the bytes begin with no packet
abbrev pub BeginsWithNone : Sizes → List ℕ → Type 0
BeginsWithNone s bytes = (b : RedoBundle) → BeginsWith s bytes b → ⊥

-- The bytes are these packets, one behind another.
pub data ArePackets : Sizes → List ℕ → List RedoBundle → Type 0 where
  none : {s : Sizes} → ArePackets s [] []
  next : {s : Sizes} {bytes : List ℕ} {b : RedoBundle} {packets : List RedoBundle} → BeginsWith s bytes b
      → ArePackets s (drop (bytes_for (length b.writes)) bytes) packets → ArePackets s bytes (b ∷ packets)

-- The packet at this place, from 1, is the first bad one: packets stand before it, and there are bytes behind them that begin
-- with none.
pub data IsBadAt : Sizes → List ℕ → ℕ → Type 0 where
  here : {s : Sizes} {bytes : List ℕ} → bytes ≢ [] → BeginsWithNone s bytes → IsBadAt s bytes 1
  later : {s : Sizes} {bytes : List ℕ} {b : RedoBundle} {place : ℕ} → BeginsWith s bytes b
      → IsBadAt s (drop (bytes_for (length b.writes)) bytes) place → IsBadAt s bytes (place + 1)

-- The cells that the head counts are there, and a ring is long enough for them.
pub record CountsCells (s : Sizes) (bytes : List ℕ) (cells : ℕ) : Type 0 where
  pub cells_are : cells ≡ cells_for (count_of (cells_in bytes))
  pub few : count_of (cells_in bytes) ≤ MAX_BUNDLE_WRITES
  pub room : cells ≤ s.cells
  pub whole : 64 * cells ≤ length bytes

-- ---- what holds of all

-- Bundles that were written are read back; and bytes are read in one way alone.
pub record LawOfPackets : Type 0 where
  -- what was written of bundles that an image of these sizes may have are these packets
  pub written : (s : Sizes) (packets : List RedoBundle) → All IsInWords packets → All (IsPacket s) packets → ArePackets s (flat_map packet_bytes packets) packets
  -- bytes are no other packets
  pub single : (s : Sizes) (bytes : List ℕ) (packets others : List RedoBundle) → ArePackets s bytes packets → ArePackets s bytes others → packets ≡ others
  -- where they are packets none is bad
  pub good : (s : Sizes) (bytes : List ℕ) (packets : List RedoBundle) (place : ℕ) → ArePackets s bytes packets → IsBadAt s bytes place → ⊥
  -- and one alone is the first bad one
  pub first : (s : Sizes) (bytes : List ℕ) (place other : ℕ) → IsBadAt s bytes place → IsBadAt s bytes other → place ≡ other
