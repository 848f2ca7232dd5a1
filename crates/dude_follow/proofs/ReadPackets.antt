-- Packets that are read one behind another.
use Rattle.std.proofs.Common.{◌≡◌, ℕ, ◌+◌, ◌-◌, ◌*◌, ◌<◌, ◌≤◌, List, [], ◌∷◌, ◌++◌, drop, take, length, length-append, length-drop, append-nil, append_assoc, refl, sym, ap, ◌∙◌, subst, arith}
use Rattle.std.proofs.lemmas.List.{drop-drop, take_all}
use Rattle.dude_base.specs.declared.sizes.Sizes.{Sizes}
use Rattle.dude_base.specs.Records.{RedoBundle}
use Rattle.dude_follow.specs.Packet.{ArePackets, ArePackets.none, ArePackets.next, BeginsWith, BeginsWithNone, IsBadAt, IsBadAt.here, IsBadAt.later, bytes_for}
use Rattle.dude_follow.proofs.PacketCells.{begins_long}

-- all bytes before this place are those of the packets: with packets behind it they are packets, and the first bad one behind
-- it is that of all
pub record AreRead (s : Sizes) (bytes : List ℕ) (start : ℕ) (packets : List RedoBundle) : Type 0 where
  pub inside : start ≤ length bytes
  pub few : 64 * length packets ≤ start
  pub packets_are : (behind : List RedoBundle) → ArePackets s (drop start bytes) behind → ArePackets s bytes (packets ++ behind)
  pub bad : (place : ℕ) → IsBadAt s (drop start bytes) place → IsBadAt s bytes (length packets + place)

-- the bytes from a place on
pub rest_of : (bytes : List ℕ) (start : ℕ) → take (length bytes - start) (drop start bytes) ≡ drop start bytes
rest_of bytes start = take_all (length bytes - start) (drop start bytes) (omega (arith, length-drop start bytes))

pub none_read : (s : Sizes) (bytes : List ℕ) → AreRead s bytes 0 []
none_read s bytes = record {
  inside = omega arith;
  few = omega arith;
  packets_are = λ behind are. are;
  bad = λ place is. subst (λ (n : ℕ). IsBadAt s bytes n) (let same : place ≡ 0 + place = omega arith in same) is;
}

-- one packet more
pub next_read : (s : Sizes) (bytes : List ℕ) (start : ℕ) (packets new : List RedoBundle) (b : RedoBundle) (next_start : ℕ) → new ≡ packets ++ b ∷ [] → next_start ≡ start + bytes_for (length b.writes) → BeginsWith s (drop start bytes) b → AreRead s bytes start packets
    → AreRead s bytes next_start new
next_read s bytes start packets new b next_start new_is start_is begins read =
    let long = begins_long s (drop start bytes) b begins in
    let inside = read.inside in
    let few = read.few in
    let behind_is : drop next_start bytes ≡ drop (bytes_for (length b.writes)) (drop start bytes) = ap (λ (n : ℕ). drop n bytes) start_is ∙ sym (drop-drop (bytes_for (length b.writes)) start bytes) in
    let count : length new ≡ length packets + 1 = ap length new_is ∙ length-append packets (b ∷ []) in
    record {
      inside = omega (arith, length-drop start bytes);
      few = omega arith;
      packets_are = λ behind are.
          subst (λ (all : List RedoBundle). ArePackets s bytes (all ++ behind)) (sym new_is)
          (subst (λ (all : List RedoBundle). ArePackets s bytes all) (sym (append_assoc packets (b ∷ []) behind))
          (read.packets_are (b ∷ behind) (next begins (subst (λ (l : List ℕ). ArePackets s l behind) behind_is are))));
      bad = λ place is.
          subst (λ (n : ℕ). IsBadAt s bytes n) (let same : length packets + (place + 1) ≡ length new + place = omega arith in same)
          (read.bad (place + 1) (later begins (subst (λ (l : List ℕ). IsBadAt s l place) behind_is is)));
    }

-- nothing is left
pub all_read : (s : Sizes) (bytes : List ℕ) (start : ℕ) (packets : List RedoBundle) → length bytes ≤ start → AreRead s bytes start packets → ArePackets s bytes packets
all_read s bytes start packets end read =
    let empty : drop start bytes ≡ [] = nothing_left (drop start bytes) (omega (arith, length-drop start bytes)) in
    subst (λ (all : List RedoBundle). ArePackets s bytes all) (append-nil packets) (read.packets_are [] (subst (λ (l : List ℕ). ArePackets s l []) (sym empty) none))
  where
    nothing_left : (l : List ℕ) → length l ≤ 0 → l ≡ []
    nothing_left [] long = refl
    nothing_left (x ∷ l) long = absurd (omega arith)

-- the next one is bad
pub bad_read : (s : Sizes) (bytes : List ℕ) (start : ℕ) (packets : List RedoBundle) → start < length bytes → BeginsWithNone s (drop start bytes) → AreRead s bytes start packets → IsBadAt s bytes (length packets + 1)
bad_read s bytes start packets more begins read =
    read.bad 1 (here (λ empty. let none_left : length (drop start bytes) ≡ 0 = ap length empty in absurd (omega (arith, length-drop start bytes))) begins)
