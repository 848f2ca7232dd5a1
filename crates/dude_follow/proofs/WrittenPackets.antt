-- Packets that were written are read back, and bytes are read in one way alone.
use Rattle.std.proofs.Common.{◌≡◌, ℕ, zero, suc, ◌+◌, ◌-◌, ◌*◌, ◌^◌, ◌<◌, ◌≤◌, All, List, [], ◌∷◌, ◌++◌, drop, take, flat_map, length, length-append, slice_index, refl, sym, ap, ◌∙◌, subst, arith}
use Rattle.std.specs.Int.{w64, from_le_bytes, to_le_bytes}
use Rattle.std.proofs.lemmas.List.Elements.{All-head, All-tail}
use Rattle.std.proofs.lemmas.List.FromFn.{length-map-range_with_len}
use Rattle.std.proofs.lemmas.Nat.{from_le_bytes-to_le_bytes_8}
use Rattle.dude_base.specs.declared.sizes.Sizes.{Sizes}
use Rattle.dude_base.specs.Records.{RedoBundle}
use Rattle.redo_record.specs.Record.{cells_for, count_of, record_of, write_of}
use Rattle.redo_record.specs.Encoding.{IsEncodable, encoded_cells, word_in_slice}
use Rattle.redo_record.proofs.EncodedCells.{encoding_law}
use Rattle.redo_record.proofs.HeldRecords.{AreSame, holds_same, record_same}
use Rattle.dude_follow.specs.Packets.{IsPacket}
use Rattle.dude_follow.specs.Packet.{ArePackets, ArePackets.none, ArePackets.next, BeginsWith, IsBadAt, IsBadAt.here, IsBadAt.later, IsInWords, LawOfPackets, bytes_for, cells_in, packet_bytes, word_in_bytes}
use Rattle.dude_follow.proofs.PacketCells.{begins_long}

-- ---- the bytes of words

drop_front : (front more : List ℕ) (n : ℕ) → drop (length front + n) (front ++ more) ≡ drop n more
drop_front [] more n = ap (λ (k : ℕ). drop k more) (omega arith)
drop_front (x ∷ front) more n = ap (λ (k : ℕ). drop k (x ∷ (front ++ more))) (let one : length (x ∷ front) + n ≡ suc (length front + n) = omega arith in one) ∙ drop_front front more n

pub length_of_words : (words : List ℕ) → length (flat_map (to_le_bytes w64) words) ≡ 8 * length words
length_of_words [] = refl
length_of_words (w ∷ words) = let rest = length_of_words words in omega (arith, length-append (to_le_bytes w64 w) (flat_map (to_le_bytes w64) words))

-- behind the first word
word_behind : (front more : List ℕ) (i : ℕ) → length front ≡ 8 → word_in_bytes (front ++ more) (suc i) ≡ word_in_bytes more i
word_behind front more i eight =
    let count : 8 * suc i + 8 - 8 * suc i ≡ 8 * i + 8 - 8 * i = omega arith in
    let start : 8 * suc i ≡ length front + 8 * i = omega arith in
    ap (λ (n : ℕ). from_le_bytes w64 (take n (drop (8 * suc i) (front ++ more)))) count
    ∙ ap (λ (xs : List ℕ). from_le_bytes w64 (take (8 * i + 8 - 8 * i) xs)) (ap (λ (n : ℕ). drop n (front ++ more)) start ∙ drop_front front more (8 * i))

-- the word at an index is the one that was written there
word_of_words : (words rest : List ℕ) (i : ℕ) → All (λ word. word < 2 ^ 64) words → i < length words → word_in_bytes (flat_map (to_le_bytes w64) words ++ rest) i ≡ slice_index words i
word_of_words [] rest i fits below = absurd (omega arith)
word_of_words (w ∷ words) rest zero fits below = from_le_bytes-to_le_bytes_8 w (All-head (λ word. word < 2 ^ 64) w words fits)
word_of_words (w ∷ words) rest (suc i) fits below =
    word_behind (to_le_bytes w64 w) (flat_map (to_le_bytes w64) words ++ rest) i refl ∙ word_of_words words rest i (All-tail (λ word. word < 2 ^ 64) w words fits) (omega arith)

-- ---- a packet that was written

module _ (s : Sizes) (b : RedoBundle) (rest : List ℕ) (words : IsInWords b) (packet : IsPacket s b) where
  encodable : IsEncodable b
  encodable =
      let low = packet.numbers.low in
      record {
        number_is = record { low = omega arith; high = packet.numbers.high };
        span_is = words.bundle.span_is;
        first_is = omega arith;
        writes_are = words.bundle.writes_are;
      }

  same : AreSame (word_in_slice (encoded_cells b)) (cells_in (packet_bytes b ++ rest)) (cells_for (count_of (word_in_slice (encoded_cells b))))
  same = record {
    word = λ k j lt small. let size = (encoding_law b encodable).2.size in word_of_words (encoded_cells b) rest (8 * k + j) words.words (omega arith);
  }

  record_is : record_of (cells_in (packet_bytes b ++ rest)) ≡ b
  record_is = record_same same ∙ (encoding_law b encodable).3

  counted : count_of (cells_in (packet_bytes b ++ rest)) ≡ length b.writes
  counted =
      sym (length-map-range_with_len (write_of (cells_in (packet_bytes b ++ rest))) 0 (count_of (cells_in (packet_bytes b ++ rest))))
      ∙ ap (λ (r : RedoBundle). length r.writes) record_is

  slice_counted : count_of (word_in_slice (encoded_cells b)) ≡ length b.writes
  slice_counted =
      sym (length-map-range_with_len (write_of (word_in_slice (encoded_cells b))) 0 (count_of (word_in_slice (encoded_cells b))))
      ∙ ap (λ (r : RedoBundle). length r.writes) (encoding_law b encodable).3

  packet_length : length (packet_bytes b) ≡ bytes_for (length b.writes)
  packet_length =
      let size : length (encoded_cells b) ≡ 8 * cells_for (length b.writes) = subst (λ (n : ℕ). length (encoded_cells b) ≡ 8 * cells_for n) slice_counted (encoding_law b encodable).2.size in
      length_of_words (encoded_cells b) ∙ ap (λ (n : ℕ). 8 * n) size ∙ omega arith

  written_begins : BeginsWith s (packet_bytes b ++ rest) b
  written_begins = record {
    complete = record {
      whole = holds_same same (encoding_law b encodable).2.whole;
      room = subst (λ (n : ℕ). cells_for n ≤ s.cells) (sym counted) packet.room;
      home = subst (λ (r : RedoBundle). All (λ w. w.at < s.pages * 64) r.writes) (sym record_is) packet.home;
    };
    whole = subst (λ (n : ℕ). bytes_for n ≤ length (packet_bytes b ++ rest)) (sym counted) (let long = packet_length in omega (arith, length-append (packet_bytes b) rest));
    bundle = sym record_is;
  }

  written_rest : drop (bytes_for (length b.writes)) (packet_bytes b ++ rest) ≡ rest
  written_rest = ap (λ (n : ℕ). drop n (packet_bytes b ++ rest)) (let long = packet_length in let none : bytes_for (length b.writes) ≡ length (packet_bytes b) + 0 = omega arith in none) ∙ drop_front (packet_bytes b) rest 0

written_packets : (s : Sizes) (packets : List RedoBundle) → All IsInWords packets → All (IsPacket s) packets → ArePackets s (flat_map packet_bytes packets) packets
written_packets s [] words are = none
written_packets s (b ∷ packets) words are =
    let rest = flat_map packet_bytes packets in
    let one = All-head IsInWords b packets words in
    let packet = All-head (IsPacket s) b packets are in
    next (written_begins s b rest one packet)
    (subst (λ (bytes : List ℕ). ArePackets s bytes packets) (sym (written_rest s b rest one packet)) (written_packets s packets (All-tail IsInWords b packets words) (All-tail (IsPacket s) b packets are)))

-- ---- one way alone

-- nothing begins with no packet
begins_some : {s : Sizes} {b : RedoBundle} → BeginsWith s [] b → ⊥
begins_some {s} {b} begins = let long = begins_long s [] b begins in omega arith

-- what stands behind the packet that bytes begin with
behind_same : {s : Sizes} {bytes : List ℕ} {b c : RedoBundle} → BeginsWith s bytes b → BeginsWith s bytes c → drop (bytes_for (length c.writes)) bytes ≡ drop (bytes_for (length b.writes)) bytes
behind_same {bytes = bytes} one other = ap (λ (r : RedoBundle). drop (bytes_for (length r.writes)) bytes) (other.bundle ∙ sym one.bundle)

single_packets : {s : Sizes} {bytes : List ℕ} {packets others : List RedoBundle} → ArePackets s bytes packets → ArePackets s bytes others → packets ≡ others
single_packets none none = refl
single_packets none (next begins more) = absurd (begins_some begins)
single_packets (next begins more) none = absurd (begins_some begins)
single_packets {s} (next {b = b} {packets = packets} begins more) (next {b = c} {packets = others} other rest) =
    let same : b ≡ c = begins.bundle ∙ sym other.bundle in
    let behind : packets ≡ others = single_packets more (subst (λ (bytes : List ℕ). ArePackets s bytes others) (behind_same begins other) rest) in
    cc

good_packets : {s : Sizes} {bytes : List ℕ} {packets : List RedoBundle} {place : ℕ} → ArePackets s bytes packets → IsBadAt s bytes place → ⊥
good_packets none (here some nothing) = some refl
good_packets none (later begins bad) = begins_some begins
good_packets (next begins more) (here some nothing) = nothing _ begins
good_packets {s} (next begins more) (later {place = place} other bad) = good_packets more (subst (λ (bytes : List ℕ). IsBadAt s bytes place) (behind_same begins other) bad)

first_bad : {s : Sizes} {bytes : List ℕ} {place other : ℕ} → IsBadAt s bytes place → IsBadAt s bytes other → place ≡ other
first_bad (here some nothing) (here also none_too) = refl
first_bad (here some nothing) (later begins bad) = absurd (nothing _ begins)
first_bad (later begins bad) (here some nothing) = absurd (nothing _ begins)
first_bad {s} (later begins bad) (later {place = place} other worse) = ap (λ (n : ℕ). n + 1) (first_bad bad (subst (λ (bytes : List ℕ). IsBadAt s bytes place) (behind_same begins other) worse))

pub packets_law : LawOfPackets
packets_law = record {
  written = written_packets;
  single = λ s bytes packets others one other. single_packets one other;
  good = λ s bytes packets place are bad. good_packets are bad;
  first = λ s bytes place other one two. first_bad one two;
}
